-- What is said of the files before this one is counted.
use Rattle.std.proofs.Common.{◌≡◌, ◌≤◌, length, take}
use Rattle.mode_policy.specs.Statements.{said_of_all}
use Rattle.mode_policy.proofs.proving.said_before.Given as goal

abbrev pub invariant-loop-before : goal.invariant-loop-before
invariant-loop-before l = (l.count ≡ length (said_of_all l.table (take l.before l.table.files))) × (l.count ≤ 4096)
