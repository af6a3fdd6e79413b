-- What is said of the files before this one is stated.
use Rattle.std.proofs.Common.{◌≡◌, map, take}
use Rattle.mode_policy.specs.Statements.{said_of_all, stated}
use Rattle.mode_policy.proofs.table.ModeTable.statements.Given as goal

abbrev pub invariant-loop-place : goal.invariant-loop-place
invariant-loop-place l = l.out ≡ map (stated l.fn.from l.fn.to) (said_of_all l.self (take l.place l.self.files))
