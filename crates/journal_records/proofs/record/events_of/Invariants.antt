-- The events so far.
use Rattle.std.proofs.Common.{◌≡◌, take}
use Rattle.journal_records.proofs.record.events_of.Given as goal

abbrev pub invariant-loop-kept : goal.invariant-loop-kept
invariant-loop-kept l = l.events ≡ take l.kept-index l.records
