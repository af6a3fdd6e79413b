-- Where the closed gate of an area stands after an event (this project's own).
use Rattle.std.specs.Prelude.{◌+◌, ℕ, length}
use Rattle.journal_records.specs.EventSpelling.{event_spelling}
use Rattle.journal_records.specs.declared.event.Event.{Event}

-- where the closed gate of an area stands after the record of the event was added: a gate, the
-- length and the payload
abbrev pub used_with : ℕ → Event → ℕ
used_with used event = used + (5 + length (event_spelling event))
