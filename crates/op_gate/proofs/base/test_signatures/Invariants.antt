-- The statements so far.
use Rattle.std.proofs.Common.{take}
use Rattle.std.specs.List.{AllByRecursion}
use Rattle.op_gate.specs.BaseTests.{IsFormed, IsSignedIn}
use Rattle.op_gate.proofs.base.test_signatures.Given as goal

abbrev pub invariant-loop-entry : goal.invariant-loop-entry
invariant-loop-entry l = record { signed : AllByRecursion (IsSignedIn l.ring) (take l.entry-index l.entries); formed : AllByRecursion IsFormed (take l.entry-index l.entries) }
