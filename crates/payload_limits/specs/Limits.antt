-- How long the payload of an event is that may come next in a history (this project's own).
use Rattle.std.specs.Prelude.{◌≤◌, ℕ, List, length}
use Rattle.bl_syntax.specs.declared.limits.TheConstants.{LONGEST_MESSAGE}
use Rattle.policy_statement.specs.Ring.{KeyView}
use Rattle.journal_records.specs.declared.event.Event.{Event}
use Rattle.access_history.specs.Base.{BaseView}
use Rattle.access_history.specs.History.{authority_with}
use Rattle.access_history.specs.Lawful.{MayFollow}
use Rattle.journal_records.specs.EventSpelling.{event_spelling, IsSpellableEvent}

-- at most 1,048,576 bytes
abbrev pub PayloadsAreShort : Type 0
PayloadsAreShort = (key : List ℕ) (ring : List KeyView) (state : BaseView) (event : Event) →
    MayFollow (authority_with key ring) state event → IsSpellableEvent event →
    length (event_spelling event) ≤ LONGEST_MESSAGE
