use Rattle.std.proofs.Common.{arith}
use Rattle.std.proofs.lemmas.Bool.{false≢true}
use Rattle.bl_constraints.proofs.ReachedLemmas.{no_items_contradict, last_tells}
use Rattle.bl_constraints.proofs.tracked.contradict.Goals as goal

pub returns-then-items-eq0 : goal.returns-then-items-eq0
returns-then-items-eq0 c = (λ t. absurd (false≢true t), λ k. absurd (no_items_contradict c.args.items.now c.if-items-eq0.true k))

pub returns : goal.returns
returns c = last_tells c.args.items.now c.index-items-items.result (omega arith) c.requires
