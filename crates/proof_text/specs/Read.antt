-- What a reading of a part of a text gives: the part is a text of the proof, the place after it
-- lies within the text, and the proof is within the limits, with its times in the range of moments.
use Rattle.std.specs.Prelude.{◌≡◌, ◌≤◌, ◌+◌, ℕ, List, length}
use Rattle.proof_term.specs.declared.rule.Rule.{Rule}
use Rattle.proof_term.specs.declared.rule.Rule.TheVariants.{Axiom, One, Two}
use Rattle.proof_term.specs.Proof.{ProofView}
use Rattle.proof_term.specs.Limits.{size, depth, HasTimesInRange}
use Rattle.proof_term.specs.RuleTimes.{IsOneInRange, IsTwoInRange}
use Rattle.proof_text.specs.declared.cursor.ProofCursor.{ProofCursor}
use Rattle.proof_text.specs.Proofs.{IsProof}

-- the times that a rule names lie in the range of moments
abbrev pub IsRuleInRange : Rule → Type 0
IsRuleInRange (Axiom r) = Unit {0}
IsRuleInRange (One r) = IsOneInRange r
IsRuleInRange (Two r) = IsTwoInRange r

pub record ReadsProofText (text : List ℕ) (levels : ℕ) (here there : ProofCursor) (d : ProofView) : Type 0 where
  pub is_text : IsProof text levels here there d
  pub within : there.from ≤ length text
  pub nodes : size d + there.left ≡ here.left
  pub levels_are : depth d ≤ levels
  pub times : HasTimesInRange d
