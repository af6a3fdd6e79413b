use Rattle.std.proofs.Common.{arith}
use Rattle.bl_constraints.proofs.PlaceLemmas.{added_all}
use Rattle.bl_constraints.proofs.places.Places.add_all.Goals as goal

pub returns : goal.returns
returns c = added_all c.args.self.now.words c.args.other.now.words c.loop-word.self.words c.loop-word.word c.loop-word.invariant (omega arith) (omega arith) (omega arith)
