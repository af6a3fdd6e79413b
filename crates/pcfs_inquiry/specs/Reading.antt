-- What reading an inquiry gives (this project's own).
use Rattle.std.specs.Prelude.{◌≡◌, ◌≤◌, ◌++◌, ◌∷◌, ℕ, List, length}
use Rattle.line_forms.specs.declared.asked.Line.{Line}
use Rattle.line_forms.specs.declared.asked.Line.TheVariants as asked
use Rattle.line_forms.specs.declared.fault.LineFault.{LineFault}
use Rattle.line_forms.specs.declared.fault.LineFault.TheVariants.{BadWord, BadCount, BadText, NoMemory}
use Rattle.line_forms.specs.declared.mode.Mode.TheVariants.{Inquiry}
use Rattle.line_forms.specs.Lines.{IsLineIn}
use Rattle.bl_syntax.specs.declared.limits.TheConstants.{MOST_CITED}
use Rattle.bl_syntax.specs.declared.grant.Goal.{Goal}
use Rattle.bl_syntax.specs.Statement.{StatementView}
use Rattle.proof_term.specs.Proof.{ProofView}
use Rattle.proof_verifier.specs.declared.cites.Cite.{Cite}
use Rattle.pcfs_inquiry.specs.declared.reading.Inquiry.{Inquiry as Read}
use Rattle.pcfs_inquiry.specs.declared.reading.InquiryFault.{InquiryFault}
use Rattle.pcfs_inquiry.specs.declared.reading.InquiryFault.TheVariants as faults
use Rattle.pcfs_inquiry.specs.Inquiry.{AreSaid, HasFirstFault, IsBadAfter, IsInquiry, IsOutOfPlace, numbered_from}

-- the line asks for this after so many statements
pub record IsAskedAfter (count : ℕ) (line : List ℕ) (asked_for : Line) : Type 0 where
  pub in_place : IsOutOfPlace count line → ⊥
  pub asks : IsLineIn Inquiry line asked_for

-- it is wrong there, or there was no memory to read it
abbrev pub IsUnreadAfter : ℕ → List ℕ → LineFault → Type 0
IsUnreadAfter count line (BadWord place) = IsBadAfter count line (BadWord place)
IsUnreadAfter count line BadCount = IsBadAfter count line BadCount
IsUnreadAfter count line (BadText fault) = IsBadAfter count line (BadText fault)
IsUnreadAfter count line NoMemory = Unit {0}

-- the lines are the inquiry that was read
pub record IsRead (lines : List (List ℕ)) (inquiry : Read) : Type 0 where
  pub statements : List StatementView
  pub cites_are : inquiry.cites ≡ numbered_from 1 statements
  pub is_inquiry : IsInquiry lines statements inquiry.goal inquiry.proof

-- they have this first fault, or there was no memory
abbrev pub IsUnread : List (List ℕ) → InquiryFault → Type 0
IsUnread lines (faults.Bad number fault) = HasFirstFault lines number fault
IsUnread lines faults.NoMemory = Unit {0}

-- the fault of the line of that number; out of memory is no fault of a line
abbrev pub fault_at : ℕ → LineFault → InquiryFault
fault_at number (BadWord place) = faults.Bad number (BadWord place)
fault_at number BadCount = faults.Bad number BadCount
fault_at number (BadText fault) = faults.Bad number (BadText fault)
fault_at number NoMemory = faults.NoMemory

-- these lines are statements by their numbers, then one with this goal, and then those others
pub record IsEnding (lines : List (List ℕ)) (cites : List Cite) (goal : Goal) (proof : ProofView) (others : List (List ℕ)) : Type 0 where
  pub said : List (List ℕ)
  pub statements : List StatementView
  pub last : List ℕ
  pub parts : lines ≡ said ++ last ∷ others
  pub are_said : AreSaid said statements
  pub cites_are : cites ≡ numbered_from 1 statements
  pub few : length statements ≤ MOST_CITED
  pub asked_after : IsAskedAfter (length said) last (asked.Goal goal proof)
