-- What is written of a history (this project's own).
use Rattle.std.specs.Prelude.{◌≡◌, ℕ, ℤ, List, [], ◌∷◌, ◌++◌, Bool, if◌then◌else◌, Option, Some, None}
use Rattle.std.specs.List.{flat_map}
use Rattle.bl_syntax.specs.declared.terms.NodeId.{NodeId}
use Rattle.bl_syntax.specs.declared.terms.Perm.{Perm}
use Rattle.pcfs_ports.specs.Observable.{HoldsSome, with_back}
use Rattle.journal_records.specs.declared.event.Event.{Event}
use Rattle.access_history.specs.Answer.{moment_of}
use Rattle.access_history.specs.Base.{BaseView}
use Rattle.access_history.specs.Replay.{next_state}
use Rattle.history_table.specs.declared.filter.Filter.{Filter}
use Rattle.history_table.specs.declared.resting.Rest.{Rest}
use Rattle.history_table.specs.declared.rows.Row.{Row}
use Rattle.history_table.specs.Filtering.{admits}
use Rattle.history_table.specs.Table.{row_of}
use Rattle.history_table.specs.WhoMay.{AreAdmitting}
use Rattle.history_text.specs.IssueBasis.{BasisView, issue_numbered}
use Rattle.history_text.specs.Lines.{admitting_lines, event_lines, resting_lines}
use Rattle.history_text.specs.Objects.{admitting_object, event_object, resting_object}

-- the text of an event with its row, for programs or for people
abbrev pub shown_text : Bool → BaseView → Event → Row → List ℕ
shown_text json state event row = if json then event_object state event row else event_lines state event row

-- what is written of an event: nothing if its row is not asked for
abbrev pub event_text : Bool → Filter → BaseView → Event → List ℕ
event_text json filter state event = if admits filter (row_of state event) then shown_text json state event (row_of state event) else []

-- the table of the events over a state as far as it is asked for: each event once, in order
abbrev pub table_text : Bool → Filter → BaseView → List Event → List ℕ
table_text json filter state [] = []
table_text json filter state (event ∷ events) = event_text json filter state event ++ table_text json filter (next_state state event) events

-- the text of an issue that would admit its principal
abbrev pub admitting_text : Bool → BaseView → Option BasisView → List ℕ
admitting_text json state None = []
admitting_text json state (Some basis) = if json then admitting_object state basis else admitting_lines state basis

-- the text of the issue of a number
abbrev pub number_text : Bool → BaseView → ℕ → List ℕ
number_text json state number = admitting_text json state (issue_numbered state.issues number)

-- the texts of the issues of these numbers
abbrev pub admitting_texts : Bool → BaseView → List ℕ → List ℕ
admitting_texts json state numbers = flat_map (number_text json state) numbers

-- of a state the issues were written that would admit their principals to a permission on a file,
-- when the clock shows that second
pub record WritesWhoMay (state : BaseView) (file : NodeId) (permission : Perm) (clock : ℤ) (json : Bool) (before after : Option (List ℕ)) : Type 0 where
  pub numbers : List ℕ
  pub admitting : AreAdmitting state file permission (moment_of state clock) numbers
  pub written : after ≡ with_back before (admitting_texts json state numbers)

-- or some first part of them was
abbrev pub WritesSomeWhoMay : BaseView → NodeId → Perm → ℤ → Bool → Option (List ℕ) →
    Option (List ℕ) → Type 0
WritesSomeWhoMay state file permission clock json before after = (numbers : List ℕ) →
    AreAdmitting state file permission (moment_of state clock) numbers →
    HoldsSome before after (admitting_texts json state numbers)

-- the text of an issue that rests on a statement
abbrev pub rest_text : Bool → BaseView → Option ℕ → Option BasisView → List ℕ
rest_text json state by None = []
rest_text json state by (Some basis) = if json then resting_object state by basis else resting_lines state by basis

abbrev pub one_rest_text : Bool → BaseView → Rest → List ℕ
one_rest_text json state rest = rest_text json state rest.gone (issue_numbered state.issues rest.issue)

-- the texts of these
abbrev pub rests_text : Bool → BaseView → List Rest → List ℕ
rests_text json state rests = flat_map (one_rest_text json state) rests
