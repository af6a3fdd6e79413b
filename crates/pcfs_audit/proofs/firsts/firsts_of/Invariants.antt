-- The digests so far have their places, which are below the next.
use Rattle.std.proofs.Common.{take}
use Rattle.pcfs_audit.specs.Firsts.{AreBelow, AreFirsts}
use Rattle.pcfs_audit.proofs.firsts.firsts_of.Given as goal

abbrev pub invariant-loop-place : goal.invariant-loop-place
invariant-loop-place l = record { found : AreFirsts (take l.place l.digests) l.firsts.entries; below : AreBelow l.firsts.entries l.place }
