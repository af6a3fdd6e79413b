-- The payloads so far are of the events that are kept.
use Rattle.std.proofs.Common.{take}
use Rattle.recover.specs.AreaDamage.{AreRead}
use Rattle.recover.specs.Reading.{IsSameGate}
use Rattle.recover.proofs.reading.admit_payloads.Given as goal

abbrev pub invariant-loop-place : goal.invariant-loop-place
invariant-loop-place l = record {
  same : IsSameGate l.fn.gate l.gate;
  read : AreRead (take l.place l.scan.payloads) l.gate.events;
}
