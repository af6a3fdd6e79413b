-- How a run ends whose ports do not fail (this project's own).
use Rattle.std.specs.Prelude.{◌≡◌, ◌⊎◌, ◌≤◌, ℕ, List, ◌∷◌, pos, String, Option}
use Rattle.std.specs.declared.alloc.Global.{Global}
use Rattle.bl_syntax.specs.declared.terms.TimePoint.TheVariants.{At}
use Rattle.pcfs_ports.specs.declared.streams.TheConstants.{INPUT_LIMIT}
use Rattle.pcfs_ports.specs.Faults.{HasRisen}
use Rattle.pcfs_ports.specs.Observable.{ReadsToEnd, TakesFirst}
use Rattle.line_text.specs.Lines.{lines_of}
use Rattle.line_faults.specs.LongLines.{HasLongLine}
use Rattle.line_forms.specs.declared.fault.LineFault.{LineFault}
use Rattle.op_gate.specs.declared.damage.Damage.{Damage}
use Rattle.pcfs_secrets.specs.declared.secrets.Secrets.{Secrets}
use Rattle.command_words.specs.Tasks.{AskForNoRun, AsksFor}
use Rattle.command_words.specs.declared.words.Task.TheVariants.{Script, Stored, Init, Checkpoint, Audit, Export, Follow, Check, Modes, RootSign}
use Rattle.pcfs_audit.specs.Report.{IsReport}
use Rattle.pcfs_audit.specs.declared.report.Report.{Report}
use Rattle.pcfs_audit.specs.declared.report.ReportRow.{ReportRow}
use Rattle.pcfs_inquiry.specs.Inquiry.{HasFirstFault}
use Rattle.pcfs_modes.specs.Answers.{ComesTo}
use Rattle.event_messages.specs.Messages.{Message}
use Rattle.follow_run.specs.Taken.{HasBadFrame}
use Rattle.pcfs_session.specs.LineAnswer.{authority_under}
use Rattle.pcfs_session.specs.ScriptRun.{ScriptState}
use Rattle.pcfs_session.specs.Streams.{Streams}
use Rattle.pcfs_session.specs.Taken.{IsCutAtLong}
use Rattle.pcfs_top.specs.Ports.{Disks, Ports, IfTold, Rests}
use Rattle.pcfs_top.specs.Run.{AreOfStore, HasNoArea, HasNoNextArea, IsOpened, state_of_start}
use Rattle.recover.specs.Opening.{IsNewestDamaged}
use Rattle.root_signing.specs.Signed as signing
use Rattle.pcfs_run.specs.ServeWords.{IsServe, IsServe9}
use Rattle.pcfs_run.specs.Passes.{PassEntries}
use Rattle.pcfs_run.specs.Served.{ServePorts, RunEnds}

-- of no port the count of faults rose
pub record AreHealthy (before after : ServePorts) : Type 0 where
  pub first_disk : HasRisen before.ports.disks.a_faults after.ports.disks.a_faults → ⊥
  pub second_disk : HasRisen before.ports.disks.b_faults after.ports.disks.b_faults → ⊥
  pub input : HasRisen before.ports.streams.read_faults after.ports.streams.read_faults → ⊥
  pub output : HasRisen before.ports.streams.write_faults after.ports.streams.write_faults → ⊥
  pub listener : HasRisen before.net.faults after.net.faults → ⊥
  pub nonces : HasRisen before.net.nonce_faults after.net.nonce_faults → ⊥

-- Why the input of a run is given up: a line is too long, or there are too many bytes.
pub data IsUnfit (before after : Streams) : ℕ → Type 0 where
  long_line : (lines : List (List ℕ)) → IsCutAtLong before.left after.left lines →
      IsUnfit before after 2
  too_many_bytes : TakesFirst INPUT_LIMIT before.left after.left → IsUnfit before after 13

-- Why the store in the areas is not opened: there is none, or the newest one is damaged.
pub data IsUnopened (secrets : Secrets) (before : Disks) : ℕ → Type 0 where
  damaged : (number : ℕ) (damage : Damage) →
      IfTold before (IsNewestDamaged (authority_under secrets) number damage) →
      IsUnopened secrets before 3
  absent : IfTold before HasNoArea → IsUnopened secrets before 4

-- The status that a run ends with whose ports do not fail, and why: 0, of which nothing is said
-- here; 9, out of memory; or one with a cause. The words ask for
-- nothing; a script's input is given up, or that of an inquiry, of a table of modes or of
-- statements to be signed; there is no store that can be opened; there is
-- one already where one is to be made; an audit reports something; a checkpoint does not fit; the
-- event from which on messages are asked for is in the base; at a place of an input of messages none
-- stands, or it is too long; a line of an inquiry is wrong; a table of modes has a wrong line or too many statements; or of
-- statements to be signed a line is wrong, or no leaf is left for one.
pub data EndsHealthy (secrets : Secrets) (words : List (String Global)) (before after : ServePorts) : ℕ → Type 0 where
  done : EndsHealthy secrets words before after 0
  out_of_memory : EndsHealthy secrets words before after 9
  asks_nothing : AskForNoRun words → ((port count : ℕ) → IsServe words port count → ⊥) →
      ((port count : ℕ) → IsServe9 words port count → ⊥) → EndsHealthy secrets words before after 1
  script_unfit : (status : ℕ) → AsksFor words Script ⊎ AsksFor words Stored →
      IsUnfit before.ports.streams after.ports.streams status →
      EndsHealthy secrets words before after status
  unopened : (status : ℕ) → AreOfStore words ⊎
      ((port : ℕ) × (count : ℕ) × (IsServe words port count ⊎ IsServe9 words port count)) →
      IsUnopened secrets before.ports.disks status → EndsHealthy secrets words before after status
  is_there_already : AsksFor words Init → IfTold before.ports.disks (λ x y. HasNoArea x y → ⊥) →
      EndsHealthy secrets words before after 10
  reports : (pieces : Option ℕ) (generation : ℕ) (image : List ℕ) (start : ScriptState) (report : Report) (row : ReportRow) (rows : List ReportRow) →
      AsksFor words (Audit pieces) → IsOpened secrets generation image before.ports.disks start →
      IsReport (authority_under secrets) start.base start.events report → report.rows ≡ row ∷ rows →
      EndsHealthy secrets words before after 11
  has_no_room : (generation : ℕ) (image : List ℕ) (start : ScriptState) → AsksFor words Checkpoint →
      IsOpened secrets generation image before.ports.disks start →
      HasNoNextArea generation (state_of_start start) → EndsHealthy secrets words before after 14
  events_gone : (from generation : ℕ) (image : List ℕ) (start : ScriptState) →
      AsksFor words (Export from) → IsOpened secrets generation image before.ports.disks start →
      from ≤ start.base.count → EndsHealthy secrets words before after 17
  no_message : (messages : List Message) → AsksFor words Follow →
      HasBadFrame before.ports.streams.left after.ports.streams.left messages →
      EndsHealthy secrets words before after 16
  messages_too_many_bytes : AsksFor words Follow →
      TakesFirst INPUT_LIMIT before.ports.streams.left after.ports.streams.left →
      EndsHealthy secrets words before after 13
  inquiry_wrong : (bytes : List ℕ) (number : ℕ) (fault : LineFault) → AsksFor words Check →
      ReadsToEnd before.ports.streams.left after.ports.streams.left bytes →
      (HasLongLine (lines_of bytes) → ⊥) → HasFirstFault (lines_of bytes) number fault →
      EndsHealthy secrets words before after 12
  inquiry_long : (bytes : List ℕ) → AsksFor words Check →
      ReadsToEnd before.ports.streams.left after.ports.streams.left bytes →
      HasLongLine (lines_of bytes) → EndsHealthy secrets words before after 2
  inquiry_too_many_bytes : AsksFor words Check →
      TakesFirst INPUT_LIMIT before.ports.streams.left after.ports.streams.left →
      EndsHealthy secrets words before after 13
  table_wrong : (from to : ℕ) (bytes written : List ℕ) → AsksFor words (Modes from to) →
      ReadsToEnd before.ports.streams.left after.ports.streams.left bytes →
      ComesTo (At (pos from)) (At (pos to)) (lines_of bytes) 15 written →
      EndsHealthy secrets words before after 15
  table_too_many_bytes : (from to : ℕ) → AsksFor words (Modes from to) →
      TakesFirst INPUT_LIMIT before.ports.streams.left after.ports.streams.left →
      EndsHealthy secrets words before after 13
  signing_wrong : (height from : ℕ) (bytes written : List ℕ) →
      AsksFor words (RootSign height from) →
      ReadsToEnd before.ports.streams.left after.ports.streams.left bytes →
      (HasLongLine (lines_of bytes) → ⊥) →
      signing.ComesTo height from (lines_of bytes) 12 written →
      EndsHealthy secrets words before after 12
  leaves_spent : (height from : ℕ) (bytes written : List ℕ) → AsksFor words (RootSign height from) →
      ReadsToEnd before.ports.streams.left after.ports.streams.left bytes →
      (HasLongLine (lines_of bytes) → ⊥) →
      signing.ComesTo height from (lines_of bytes) 18 written →
      EndsHealthy secrets words before after 18
  signing_long : (height from : ℕ) (bytes : List ℕ) → AsksFor words (RootSign height from) →
      ReadsToEnd before.ports.streams.left after.ports.streams.left bytes →
      HasLongLine (lines_of bytes) → EndsHealthy secrets words before after 2
  signing_too_many_bytes : (height from : ℕ) → AsksFor words (RootSign height from) →
      TakesFirst INPUT_LIMIT before.ports.streams.left after.ports.streams.left →
      EndsHealthy secrets words before after 13

-- ---- the law

-- what a run has at one moment: its disks and its listener; and what all its ports tell then but
-- whether the listener is over
pub record Moment (D L : Type 0) : Type 0 where
  pub a : D
  pub b : D
  pub listener : L
  pub ports : Ports
  pub waiting : Option ℕ
  pub faults : ℕ
  pub nonce_faults : ℕ

-- all that its ports tell then; `over` says of a listener that no connection comes any more
abbrev pub ports_at : {D L : Type 0} → (L → Type 0) → Moment D L → ServePorts
ports_at over m = record { ports = m.ports; net = record { waiting = m.waiting; over = over m.listener; faults = m.faults; nonce_faults = m.nonce_faults } }

-- whether nothing was pending on the disks before and after, which `pinned` says of a disk
abbrev pub rests_between : {D L : Type 0} → (D → Type 0) → Moment D L → Moment D L → Rests
rests_between pinned before after = record { before = pinned before.a × pinned before.b; after = pinned after.a × pinned after.b }

-- so ends each run over such ports: so none ends with 5, 6, 7 or 8
abbrev pub HealthyRunsEndSo : {D L : Type 0} → PassEntries → PassEntries → (D → Type 0) → (L → Type 0) → Type 0
HealthyRunsEndSo {D} {L} of_session of_nine pinned over = (secrets : Secrets) (words : List (String Global))
    (before after : Moment D L) (status : ℕ) →
    RunEnds of_session of_nine secrets words (rests_between pinned before after)
    (ports_at over before) (ports_at over after) status →
    AreHealthy (ports_at over before) (ports_at over after) →
    EndsHealthy secrets words (ports_at over before) (ports_at over after) status
