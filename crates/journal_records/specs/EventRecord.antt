-- Events kept as the payloads of their records (this project's own).
use Rattle.std.specs.Prelude.{◌≡◌, ℕ, List}
use Rattle.journal_records.specs.declared.event.Event.{Event}
use Rattle.journal_records.specs.EventSpelling.{event_spelling, IsSpellableEvent}
use Rattle.journal_records.specs.Passes.{event_pass}

-- these are the pass and the payload of the event
pub record IsRecordOf (e : Event) (pass : ℕ) (payload : List ℕ) : Type 0 where
  pub spelled : IsSpellableEvent e
  pub passed : pass ≡ event_pass e
  pub written : payload ≡ event_spelling e
