use Rattle.std.proofs.Common.{◌≡◌, []}
use Rattle.std.specs.Prelude.{All}
use Rattle.lock_tests.specs.Counting.{IsNewPass}
use Rattle.lock_tests.proofs.threads.new_passes.Given as goal

abbrev pub invariant-loop : goal.invariant-loop
invariant-loop l = record {
  passes : All (IsNewPass l.lock) l.all.items;
  lock : l.door.lock ≡ l.lock;
  made : l.door.made ≡ l.counter;
  retired : l.door.retired ≡ [];
}
