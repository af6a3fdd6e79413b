-- Inquiries: lines with statements, numbered from 1, and a last line with a goal and a proof of it
-- from all of them (this project's own).
use Rattle.std.specs.Prelude.{◌≡◌, ◌≤◌, ◌+◌, ℕ, List, [], ◌∷◌, ◌++◌, codes, length}
use Rattle.std.specs.List.{AllZip}
use Rattle.bl_syntax.specs.declared.limits.TheConstants.{MOST_CITED}
use Rattle.bl_syntax.specs.declared.grant.Goal.{Goal}
use Rattle.bl_syntax.specs.Statement.{StatementView}
use Rattle.proof_term.specs.Proof.{ProofView}
use Rattle.proof_verifier.specs.declared.cites.Cite.{Cite}
use Rattle.line_forms.specs.declared.asked.Line.TheVariants as asked
use Rattle.line_forms.specs.declared.fault.LineFault.{LineFault}
use Rattle.line_forms.specs.declared.fault.LineFault.TheVariants.{BadWord, BadCount}
use Rattle.line_forms.specs.declared.mode.Mode.TheVariants.{Inquiry}
use Rattle.line_words.specs.Cutting.{first_cut}
use Rattle.line_forms.specs.Lines.{IsLineIn, IsLineFaultIn}

-- the line says the statement
abbrev pub SaysStatement : List ℕ → StatementView → Type 0
SaysStatement line s = IsLineIn Inquiry line (asked.Statement s)

-- these lines say these statements, one each
abbrev pub AreSaid : List (List ℕ) → List StatementView → Type 0
AreSaid lines statements = AllZip SaysStatement lines statements

-- statements by their numbers, the first under that one
abbrev pub numbered_from : ℕ → List StatementView → List Cite
numbered_from number [] = []
numbered_from number (s ∷ others) = record { number = number; statement = s } ∷ numbered_from (number + 1) others

-- the line may not come after so many statements: it is to be a statement, and they are as many as
-- can be cited, or the goal, and there is none
pub data IsOutOfPlace (count : ℕ) (line : List ℕ) : Type 0 where
  late_statement : (first_cut line).word ≡ codes "statement" → MOST_CITED ≤ count → IsOutOfPlace count line
  early_goal : (first_cut line).word ≡ codes "goal" → count ≡ 0 → IsOutOfPlace count line

-- what is wrong with a line after so many statements: it may not come there, or it has this first
-- fault
pub data IsBadAfter (count : ℕ) (line : List ℕ) : LineFault → Type 0 where
  out_of_place : IsOutOfPlace count line → IsBadAfter count line BadCount
  faulty : (fault : LineFault) → (IsOutOfPlace count line → ⊥) → IsLineFaultIn Inquiry line fault →
      IsBadAfter count line fault

-- the lines are this inquiry: statements, as few as can be cited, and then the goal with its proof
pub record IsInquiry (lines : List (List ℕ)) (statements : List StatementView) (goal : Goal) (proof : ProofView) : Type 0 where
  pub said : List (List ℕ)
  pub last : List ℕ
  pub parts : lines ≡ said ++ last ∷ []
  pub are_said : AreSaid said statements
  pub some : 1 ≤ length statements
  pub few : length statements ≤ MOST_CITED
  pub asks : IsLineIn Inquiry last (asked.Goal goal proof)

-- the first line that is wrong in an inquiry, by its number from 1, and its fault: a line that may
-- not come there or is faulty, a line after the goal, or that the goal is missing
pub data HasFirstFault (lines : List (List ℕ)) : ℕ → LineFault → Type 0 where
  in_line : (said : List (List ℕ)) (statements : List StatementView) (line : List ℕ) (rest : List (List ℕ)) (fault : LineFault) →
      lines ≡ said ++ line ∷ rest → AreSaid said statements → length said ≤ MOST_CITED →
      IsBadAfter (length said) line fault → HasFirstFault lines (length said + 1) fault
  after_goal : (said : List (List ℕ)) (statements : List StatementView) (last next : List ℕ) (rest : List (List ℕ)) (goal : Goal) (proof : ProofView) →
      lines ≡ said ++ last ∷ next ∷ rest → AreSaid said statements →
      1 ≤ length said → length said ≤ MOST_CITED → IsLineIn Inquiry last (asked.Goal goal proof) →
      HasFirstFault lines (length said + 2) (BadWord 0)
  no_goal : (statements : List StatementView) → AreSaid lines statements → length lines ≤ MOST_CITED →
      HasFirstFault lines (length lines + 1) (BadWord 0)
