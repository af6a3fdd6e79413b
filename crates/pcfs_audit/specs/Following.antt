-- Where an auditor stands, and what becomes of it with an event (this project's own).
use Rattle.std.specs.Prelude.{◌≡◌, ◌+◌, List, [], ◌∷◌, ◌++◌, length, Bool, true, false, Option}
use Rattle.journal_records.specs.declared.event.Event.{Event}
use Rattle.access_history.specs.Authority.{Authority}
use Rattle.access_history.specs.Base.{BaseView}
use Rattle.access_history.specs.Replay.{replay, next_state}
use Rattle.pcfs_audit.specs.declared.auditor.Auditor.{Auditor}
use Rattle.pcfs_audit.specs.declared.credentials.Credentials.{Credentials}
use Rattle.pcfs_audit.specs.declared.dossier.Dossier.{Dossier}
use Rattle.pcfs_audit.specs.declared.supports.Supports.{Supports}
use Rattle.pcfs_audit.specs.declared.report.Finding.{Finding}
use Rattle.pcfs_audit.specs.declared.report.ReportRow.{ReportRow}
use Rattle.pcfs_audit.specs.Finding.{Finds, IsSound}
use Rattle.pcfs_audit.specs.Credentials.{HasCredentials}
use Rattle.pcfs_audit.specs.Report.{AreRows, AreSound}
use Rattle.pcfs_audit.specs.Supports.{TellsGone}

-- the auditor has the world and the last moment of the state
pub record StandsAt (state : BaseView) (auditor : Auditor) : Type 0 where
  pub world_is : auditor.world.world ≡ state.world
  pub moment_is : auditor.moment ≡ state.moment

-- this is found with the event; and if nothing is wrong with it, the auditor stands at the state
-- after it
pub record Follows (authority : Authority) (state : BaseView) (event : Event) (found : Option Finding) (after : Auditor) : Type 0 where
  pub finds : Finds authority state event found
  pub stands : IsSound authority state event → StandsAt (next_state state event) after

-- nothing is wrong with these events: the auditor stands at the state to which they lead, with
-- their rows
pub record HasAudited (authority : Authority) (base : BaseView) (events : List Event) (auditor : Auditor) : Type 0 where
  pub stands : StandsAt (replay base events) auditor
  pub count_is : auditor.count ≡ base.count + length events
  pub sound : AreSound authority base events
  pub rows_are : AreRows authority base events auditor.rows

-- something is wrong with the last of these events, and these are the rows of them, whatever
-- follows
pub record HasEnded (authority : Authority) (base : BaseView) (events : List Event) (rows : List ReportRow) : Type 0 where
  pub whole : (later : List Event) → AreRows authority base (events ++ later) rows

-- where the auditor stands after one more event: whether it goes on
abbrev pub Audits : Authority → BaseView → List Event → Bool → Auditor → Type 0
Audits authority base events true auditor = HasAudited authority base events auditor
Audits authority base events false auditor = HasEnded authority base events auditor.rows

-- ---- what a call makes of the auditor, by the key of the dossier, the supports and the
-- credentials of the event

-- this is found with the event
abbrev pub FindsWith : Dossier → Supports → Credentials → Event → Option Finding → Auditor → Auditor
    → Type 0
FindsWith dossier supports credentials event found old new =
    (authority : Authority) (state : BaseView) → authority.key ≡ dossier.key → StandsAt state old
    → TellsGone dossier supports state
    → HasCredentials authority state event credentials → Follows authority state event found new

-- the auditor follows it
abbrev pub AuditsWith : Dossier → Supports → Credentials → Event → Bool → Auditor → Auditor → Type 0
AuditsWith dossier supports credentials event goes_on old new =
    (authority : Authority) (base : BaseView) (events : List Event) → authority.key ≡ dossier.key
    → HasAudited authority base events old
    → TellsGone dossier supports (replay base events)
    → HasCredentials authority (replay base events) event credentials
    → Audits authority base (events ++ event ∷ []) goes_on new
