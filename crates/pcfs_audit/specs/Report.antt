-- The report of an audit on a history: what is found with its events, up to the first with which
-- something is wrong (this project's own).
use Rattle.std.specs.Prelude.{◌≡◌, ◌<◌, ◌+◌, ◌⊎◌, ℕ, List, [], ◌∷◌, ◌++◌, length, count_by, Bool, Contains}
use Rattle.journal_records.specs.declared.event.Event.{Event}
use Rattle.access_history.specs.Authority.{Authority}
use Rattle.access_history.specs.Base.{BaseView}
use Rattle.access_history.specs.Replay.{replay}
use Rattle.pcfs_audit.specs.declared.report.Finding.{Finding}
use Rattle.pcfs_audit.specs.declared.report.ReportRow.{ReportRow}
use Rattle.pcfs_audit.specs.declared.report.Report.{Report}
use Rattle.pcfs_audit.specs.Finding.{IsSound, IsClean, IsFound, is_unissued}

-- the authority with this key that accepts these signatures
abbrev pub authority_by : List ℕ → (List ℕ → List ℕ → List ℕ → Bool) → Authority
authority_by key accepts = record { key = key; accepts = accepts }

-- nothing is wrong with any of the events, each over the state to which those before it lead
abbrev pub AreSound : Authority → BaseView → List Event → Type 0
AreSound authority base events = (earlier later : List Event) (event : Event) →
    events ≡ earlier ++ event ∷ later → IsSound authority (replay base earlier) event

-- the number of the event after these
abbrev pub number_after : BaseView → List Event → ℕ
number_after base earlier = base.count + length earlier + 1

-- the row is what is found first with its event, and nothing is wrong with any event before it
pub record IsRow (authority : Authority) (base : BaseView) (events : List Event) (row : ReportRow) : Type 0 where
  pub earlier : List Event
  pub later : List Event
  pub event : Event
  pub parts : events ≡ earlier ++ event ∷ later
  pub number_is : row.event ≡ number_after base earlier
  pub sound_before : AreSound authority base earlier
  pub found : IsFound authority (replay base earlier) event row.finding

-- some row is of the event of that number
pub record HasRowOf (rows : List ReportRow) (number : ℕ) : Type 0 where
  pub finding : Finding
  pub among : Contains rows (record { event = number; finding = finding })

-- each row is of a later event than the one before it
abbrev pub DoRowsRise : List ReportRow → Type 0
DoRowsRise [] = Unit {0}
DoRowsRise (first ∷ []) = Unit {0}
DoRowsRise (first ∷ second ∷ others) = (first.event < second.event) × DoRowsRise (second ∷ others)

-- These are the rows of the events. Each is right; and each event before which nothing is wrong has
-- its row, if anything is found with it. So the rows end with the first event with which something
-- is wrong.
pub record AreRows (authority : Authority) (base : BaseView) (events : List Event) (rows : List ReportRow) : Type 0 where
  pub rising : DoRowsRise rows
  pub right : (row : ReportRow) → Contains rows row → IsRow authority base events row
  pub none_missing : (earlier later : List Event) (event : Event) →
      events ≡ earlier ++ event ∷ later → AreSound authority base earlier →
      IsClean authority (replay base earlier) event ⊎ HasRowOf rows (number_after base earlier)

-- The report on the history of these events over this base, which is taken as it is. The rows end
-- with the first wrong event. How many events, statements and issues there are is told of the state
-- to which all events
-- lead, also those after a wrong one.
pub record IsReport (authority : Authority) (base : BaseView) (events : List Event) (report : Report) : Type 0 where
  pub events_are : report.events ≡ (replay base events).count
  pub statements_are : report.statements ≡ length (replay base events).statements
  pub issues_are : report.issues ≡ length (replay base events).issues
  pub unissued_are : report.unissued ≡ count_by (λ (row : ReportRow). is_unissued row.finding) report.rows
  pub rows_are : AreRows authority base events report.rows
