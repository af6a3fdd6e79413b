use Rattle.std.proofs.Common.{◌≡◌, ◌++◌}
use Rattle.lock_tests.specs.Counting.{count_so_far}
use Rattle.lock_tests.proofs.threads.take_turns.Given as goal

abbrev pub invariant-loop-number : goal.invariant-loop-number
invariant-loop-number g l = (l.pass.lock ≡ l.initial.pass.lock) × (l.pass.number ≡ l.initial.pass.number) × (l.pass.own ≡ l.initial.pass.own ++ count_so_far l.initial.pass.number l.number)
