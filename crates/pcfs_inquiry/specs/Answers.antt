-- What is answered to an inquiry, and how a run of it ends (this project's own).
use Rattle.std.specs.Prelude.{◌≡◌, ℕ, List, drop, codes, Bool, true, Option, Result, Ok, Err}
use Rattle.bl_syntax.specs.declared.grant.Goal.{Goal}
use Rattle.bl_syntax.specs.Grant.{GrantView}
use Rattle.bl_syntax.specs.Statement.{StatementView}
use Rattle.pcfs_ports.specs.declared.streams.TheConstants.{INPUT_LIMIT}
use Rattle.pcfs_ports.specs.Faults.{raise}
use Rattle.pcfs_ports.specs.Observable.{ReadsToEnd, TakesFirst}
use Rattle.proof_term.specs.Proof.{ProofView}
use Rattle.proof_verifier.specs.Verdict.{verdict}
use Rattle.proof_verifier.specs.declared.fault.CheckFault.{CheckFault}
use Rattle.line_text.specs.Lines.{lines_of}
use Rattle.line_forms.specs.declared.fault.LineFault.{LineFault}
use Rattle.line_faults.specs.LongLines.{HasLongLine}
use Rattle.line_faults.specs.Reports.{bad_line_text}
use Rattle.line_wire.specs.CheckedText.{checked_text}
use Rattle.line_wire.specs.FaultText.{unproved_text}
use Rattle.pcfs_inquiry.specs.Inquiry.{HasFirstFault, IsInquiry}

-- the answer to an inquiry by what its proof comes to: that to a line `check`, without `ok` and the
-- space after it
abbrev pub verdict_text : Result GrantView CheckFault → List ℕ
verdict_text (Ok g) = drop 3 (checked_text g)
verdict_text (Err fault) = unproved_text fault

-- The status that the inquiry in an input ends with, and the line that it has to write. A line that
-- is too long comes before any other fault, wherever it stands. At a fault of the input one call of
-- it failed, and it was the last; at each other end none did. `left` and `faults` are what the input
-- has left and the count of its faults, and `broken` says whether its last call failed.
pub data InquiryEnds (left left_after : Option (List ℕ)) (faults faults_after : ℕ) (broken : Bool) : ℕ → List ℕ → Type 0 where
  answered : (bytes : List ℕ) (statements : List StatementView) (goal : Goal) (proof : ProofView) →
      ReadsToEnd left left_after bytes → (HasLongLine (lines_of bytes) → ⊥) →
      IsInquiry (lines_of bytes) statements goal proof → faults_after ≡ faults →
      InquiryEnds left left_after faults faults_after broken 0 (verdict_text (verdict statements goal proof))
  bad_line : (bytes : List ℕ) (number : ℕ) (fault : LineFault) → ReadsToEnd left left_after bytes →
      (HasLongLine (lines_of bytes) → ⊥) → HasFirstFault (lines_of bytes) number fault →
      faults_after ≡ faults →
      InquiryEnds left left_after faults faults_after broken 12 (bad_line_text number fault)
  long_line : (bytes : List ℕ) → ReadsToEnd left left_after bytes → HasLongLine (lines_of bytes) →
      faults_after ≡ faults → InquiryEnds left left_after faults faults_after broken 2 (codes "bad 3")
  read_fault : faults_after ≡ raise faults → broken ≡ true →
      InquiryEnds left left_after faults faults_after broken 6 (codes "readfault")
  too_long : TakesFirst INPUT_LIMIT left left_after → faults_after ≡ faults →
      InquiryEnds left left_after faults faults_after broken 13 (codes "toolong")
