-- Laws of inquiries: lines are one inquiry or have one first fault, and never both.
use Rattle.std.specs.Prelude.{◌≡◌, ◌⊎◌, ℕ, List}
use Rattle.bl_syntax.specs.declared.grant.Goal.{Goal}
use Rattle.bl_syntax.specs.Statement.{StatementView}
use Rattle.line_forms.specs.declared.fault.LineFault.{LineFault}
use Rattle.proof_term.specs.Proof.{ProofView}
use Rattle.pcfs_inquiry.specs.Inquiry.{HasFirstFault, IsInquiry}

-- lines are one inquiry at most
abbrev pub InquiriesAreDetermined : Type 0
InquiriesAreDetermined = (lines : List (List ℕ)) (first second : List StatementView) (goal other : Goal) (proof another : ProofView)
    → IsInquiry lines first goal proof → IsInquiry lines second other another
    → (first ≡ second) × (goal ≡ other) × (proof ≡ another)

-- lines have one first fault at most
abbrev pub FaultsAreDetermined : Type 0
FaultsAreDetermined = (lines : List (List ℕ)) (first second : ℕ) (fault other : LineFault)
    → HasFirstFault lines first fault → HasFirstFault lines second other → (first ≡ second)
    × (fault ≡ other)

-- lines that are an inquiry have no fault
abbrev pub InquiriesHaveNoFault : Type 0
InquiriesHaveNoFault = (lines : List (List ℕ)) (statements : List StatementView) (goal : Goal) (proof : ProofView) (number : ℕ) (fault : LineFault)
    → IsInquiry lines statements goal proof → HasFirstFault lines number fault → ⊥

-- lines are an inquiry or have a first fault
abbrev pub LinesAreInquiriesOrFaulty : Type 0
LinesAreInquiriesOrFaulty = (lines : List (List ℕ))
    → ((statements : List StatementView) × (goal : Goal) × (proof : ProofView) × IsInquiry lines statements goal proof)
    ⊎ ((number : ℕ) × (fault : LineFault) × HasFirstFault lines number fault)
