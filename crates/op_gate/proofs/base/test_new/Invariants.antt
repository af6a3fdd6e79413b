-- The registry has the statements so far, which are new.
use Rattle.std.proofs.Common.{take}
use Rattle.op_gate.proofs.BaseDamageLemmas.{AreKept}
use Rattle.op_gate.proofs.base.test_new.Given as goal

abbrev pub invariant-loop-entry : goal.invariant-loop-entry
invariant-loop-entry l = AreKept l.registry.entries (take l.entry-index l.entries)
