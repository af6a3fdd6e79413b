use Rattle.std.proofs.Common.{refl, arith}
use Rattle.std.proofs.lemmas.Bool.{false≢true}
use Rattle.bl_constraints.proofs.PlaceLemmas.{meet_at, no_meeting}
use Rattle.bl_constraints.proofs.places.Places.meets.Goals as goal

pub returns-then-share_bit : goal.returns-then-share_bit
returns-then-share_bit c = (λ t. meet_at c.args.self.now.words c.args.other.now.words c.loop-word.word (c.share_bit.ensures.0 c.if-share_bit.true), λ m. refl)

pub returns : goal.returns
returns c = (λ t. absurd (false≢true t), λ m. absurd (no_meeting c.args.self.now.words c.args.other.now.words (omega arith) (λ w lt. c.loop-word.invariant w (omega (arith, lt))) m))
