use Rattle.checkpoint_image.proofs.WithdrawnLemmas.{marked_none}
use Rattle.checkpoint_image.proofs.withdrawn_numbers.mark.Goals as goal

pub returns-then-number-eq0 : goal.returns-then-number-eq0
returns-then-number-eq0 c = marked_none c.args.entries.now.items c.args.number c.if-number-eq0.true
