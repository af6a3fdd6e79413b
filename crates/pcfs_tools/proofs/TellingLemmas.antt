-- What is told of audits, inquiries, tables of modes and statements to be signed.
use Rattle.std.proofs.Common.{◌≡◌, ◌⊎◌, inl, inr, ◌+◌, ◌-◌, ◌^◌, ◌≤◌, ℕ, List, [], ◌∷◌, length, Bool, refl, sym, subst, arith, Option}
use Rattle.std.specs.Prelude.{Result, IfOk}
use Rattle.access_history.specs.Authority.{Authority}
use Rattle.access_history.specs.Base.{BaseView}
use Rattle.access_history.specs.History.{authority_with}
use Rattle.journal_records.specs.declared.event.Event.{Event}
use Rattle.pcfs_audit.specs.Report.{IsReport}
use Rattle.pcfs_audit.specs.ReportText.{report_text}
use Rattle.pcfs_audit.specs.declared.report.Report.{Report}
use Rattle.pcfs_audit.specs.declared.report.ReportRow.{ReportRow}
use Rattle.pcfs_inquiry.specs.Answers.{InquiryEnds}
use Rattle.pcfs_modes.specs.Answers.{ModesEnds}
use Rattle.pcfs_session.specs.ScriptEnds.{with_line_end}
use Rattle.pcfs_session.specs.Streams.{Streams}
use Rattle.policy_statement.specs.Ring.{KeyView}
use Rattle.pcfs_tools.specs.Audited.{TellsAudit, reported, unreported, audit_status}
use Rattle.pcfs_tools.specs.Broken.{Broken}
use Rattle.pcfs_tools.specs.Inquired.{TellsInquiry, answered}
use Rattle.pcfs_tools.specs.LastLine.{Wrote, WroteNothing, IsWritten}
use Rattle.pcfs_tools.specs.Signed.{TellsSigning, signed}
use Rattle.pcfs_tools.specs.Stated.{TellsModes, stated}
use Rattle.root_signing.specs.Signed.{SigningEnds}

-- the bytes are a line
pub Wrote-line : (status : ℕ) (text bytes : List ℕ) (held held_after : Option (List ℕ)) (faults faults_after result : ℕ) (broken : Bool) → bytes ≡ with_line_end text → IsWritten status bytes held faults result held_after faults_after broken → Wrote status text held faults result held_after faults_after broken
Wrote-line status text bytes held held_after faults faults_after result broken is writes = subst (λ (b : List ℕ). IsWritten status b held faults result held_after faults_after broken) is writes

-- ---- audits

module _ (key key' : List ℕ) (ring : List KeyView) (base base' : BaseView) (events events' : List Event) (same_key : key ≡ key') (same_base : base ≡ base') (same_events : events ≡ events') where
  -- the report on an equal history
  pub IsReport-same : {E : Type 0} (report : Result Report E) → IfOk report (IsReport (authority_with key ring) base events) → IfOk report (IsReport (authority_with key' ring) base' events')
  IsReport-same report is =
      subst (λ (k : List ℕ). IfOk report (IsReport (authority_with k ring) base' events')) same_key
      (subst (λ (b : BaseView). IfOk report (IsReport (authority_with key ring) b events')) same_base
      (subst (λ (es : List Event). IfOk report (IsReport (authority_with key ring) base es)) same_events is))

-- an equal history has so many events
pub counted_same : (base base' : BaseView) (events events' : List Event) → base ≡ base' → events ≡ events' → base'.count + length events' ≤ 2 ^ 48 - 1 → base.count + length events ≤ 2 ^ 48 - 1
counted_same base base' events events' same_base same_events counted =
    subst (λ (b : BaseView). b.count + length events ≤ 2 ^ 48 - 1) (sym same_base) (subst (λ (es : List Event). base'.count + length es ≤ 2 ^ 48 - 1) (sym same_events) counted)

-- the status is by the rows
pub status_none : (rows : List ReportRow) → length rows ≡ 0 → audit_status rows ≡ 0
status_none [] none = refl
status_none (row ∷ rows) none = absurd (omega (arith, none))

pub status_some : (rows : List ReportRow) → 1 ≤ length rows → audit_status rows ≡ 11
status_some [] some = absurd (omega (arith, some))
status_some (row ∷ rows) some = refl

pub TellsAudit-told : (authority : Authority) (base : BaseView) (events : List Event) (report : Report) (held held_after : Option (List ℕ)) (faults faults_after result : ℕ) (broken : Bool) → IsReport authority base events report →
    Wrote (audit_status report.rows) (report_text report) held faults result held_after faults_after broken ⊎ WroteNothing held faults result held_after faults_after → TellsAudit authority base events held faults result held_after faults_after broken
TellsAudit-told authority base events report held held_after faults faults_after result broken is (inl told) = reported report is told
TellsAudit-told authority base events report held held_after faults faults_after result broken is (inr untold) = unreported untold

-- the audit of an equal history
pub TellsAudit-same : (authority : Authority) (base base' : BaseView) (events events' : List Event) (held held_after : Option (List ℕ)) (faults faults_after result : ℕ) (broken : Bool) → base ≡ base' → events ≡ events' →
    TellsAudit authority base events held faults result held_after faults_after broken → TellsAudit authority base' events' held faults result held_after faults_after broken
TellsAudit-same authority base base' events events' held held_after faults faults_after result broken same_base same_events tells =
    subst (λ (b : BaseView). TellsAudit authority b events' held faults result held_after faults_after broken) same_base
    (subst (λ (es : List Event). TellsAudit authority base es held faults result held_after faults_after broken) same_events tells)

-- ---- inquiries

pub TellsInquiry-told : (before after : Streams) (status : ℕ) (text line bytes : List ℕ) (result : ℕ) (broken : Broken) → bytes ≡ line → line ≡ with_line_end text → InquiryEnds before.left after.left before.read_faults after.read_faults broken.input status text →
    IsWritten status bytes before.held before.write_faults result after.held after.write_faults broken.output → TellsInquiry before after broken result
TellsInquiry-told before after status text line bytes result broken same is ends writes =
    answered status text ends (Wrote-line status text line before.held after.held before.write_faults after.write_faults result broken.output is
    (subst (λ (b : List ℕ). IsWritten status b before.held before.write_faults result after.held after.write_faults broken.output) same writes))

-- ---- tables of modes

pub TellsModes-told : (from to : ℕ) (before after : Streams) (status : ℕ) (written bytes : List ℕ) (result : ℕ) (broken : Broken) → bytes ≡ written → ModesEnds from to before.left after.left before.read_faults after.read_faults broken.input status written →
    IsWritten status bytes before.held before.write_faults result after.held after.write_faults broken.output → TellsModes from to before after broken result
TellsModes-told from to before after status written bytes result broken is ends writes =
    stated status written ends (subst (λ (b : List ℕ). IsWritten status b before.held before.write_faults result after.held after.write_faults broken.output) is writes)

-- ---- statements to be signed

pub TellsSigning-told : (height from : ℕ) (before after : Streams) (status : ℕ) (written bytes : List ℕ) (result : ℕ) (broken : Broken) → bytes ≡ written → SigningEnds height from before.left after.left before.read_faults after.read_faults broken.input status written →
    IsWritten status bytes before.held before.write_faults result after.held after.write_faults broken.output → TellsSigning height from before after broken result
TellsSigning-told height from before after status written bytes result broken is ends writes =
    signed status written ends (subst (λ (b : List ℕ). IsWritten status b before.held before.write_faults result after.held after.write_faults broken.output) is writes)
