use Rattle.std.proofs.Common.{◌≡◌, ◌+◌, length, vec_len}
use Rattle.std.specs.Prelude.{All}
use Rattle.lock_tests.specs.Counting.{HasCounted, HaveCounted}
use Rattle.lock_tests.proofs.threads.retire_all.Given as goal

abbrev pub invariant-loop-pass : goal.invariant-loop-pass
invariant-loop-pass l = record {
  turned : All (HasCounted l.lock l.count) l.turned.items;
  lock : l.door.lock ≡ l.lock;
  made : l.door.made ≡ l.initial.door.made;
  all : length l.door.retired + vec_len l.turned ≡ vec_len l.initial.turned;
  counted : HaveCounted l.count l.door.retired;
}

abbrev pub decreases-loop-pass : goal.decreases-loop-pass
decreases-loop-pass l = vec_len l.turned
