-- These are the issues so far that would admit their principals.
use Rattle.access_history.specs.History.{state_of}
use Rattle.history_table.proofs.WhoMayLemmas.{AreFirst}
use Rattle.history_table.proofs.admitting.admitting_at.Given as goal

abbrev pub invariant-loop-place : goal.invariant-loop-place
invariant-loop-place l = AreFirst (state_of l.history) l.file l.permission l.moment l.place l.numbers
