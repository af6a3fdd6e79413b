-- When so many nodes were passed, the proof at hand has one more.
use Rattle.std.proofs.Common.{arith}
use Rattle.proof_term.specs.Proof.{proof_view}
use Rattle.proof_term.proofs.MeasureLemmas.{size-pos}
use Rattle.proof_term.proofs.measure.is_too_large.Goals as goal

pub returns : goal.returns
returns c = grind (arith, size-pos (proof_view c.loop-passed.node.now))
