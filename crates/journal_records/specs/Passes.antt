-- In whose turn an event was kept (this project's own).
use Rattle.std.specs.Prelude.{ℕ}
use Rattle.journal_records.specs.declared.event.Event.{Event}
use Rattle.journal_records.specs.declared.event.Event.TheVariants.{Registered, Withdrawn, Issued, Acted}

-- the number of the pass in whose turn the event was kept; it is 0 if the event was read from an
-- area
abbrev pub event_pass : Event → ℕ
event_pass (Registered pass statement signature) = pass
event_pass (Withdrawn pass number signature) = pass
event_pass (Issued pass cited proof grant) = pass
event_pass (Acted pass caller op procaps moment) = pass

-- the event with pass 0
abbrev pub erase : Event → Event
erase (Registered pass statement signature) = Registered 0 statement signature
erase (Withdrawn pass number signature) = Withdrawn 0 number signature
erase (Issued pass cited proof grant) = Issued 0 cited proof grant
erase (Acted pass caller op procaps moment) = Acted 0 caller op procaps moment

-- the event with this pass
abbrev pub with_pass : ℕ → Event → Event
with_pass number (Registered pass statement signature) = Registered number statement signature
with_pass number (Withdrawn pass withdrawn signature) = Withdrawn number withdrawn signature
with_pass number (Issued pass cited proof grant) = Issued number cited proof grant
with_pass number (Acted pass caller op procaps moment) = Acted number caller op procaps moment
