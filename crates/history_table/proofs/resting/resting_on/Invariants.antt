-- What rests on the statement, of the issues so far.
use Rattle.std.proofs.Common.{◌≡◌, take}
use Rattle.access_history.specs.History.{state_of}
use Rattle.history_table.specs.Resting.{rests_from}
use Rattle.history_table.proofs.resting.resting_on.Given as goal

abbrev pub invariant-loop-place : goal.invariant-loop-place
invariant-loop-place l = l.rests ≡ rests_from (state_of l.history) l.statement 1 (take l.place l.issues)
