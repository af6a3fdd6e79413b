use Rattle.std.proofs.Common.{rules}
use Rattle.bl_syntax.proofs.BeginsWithLemmas.{writing}
use Rattle.checkpoint_image.proofs.LoopLemmas.{as_many_rows}
use Rattle.checkpoint_image.proofs.image_writing.add_nodes.Goals as goal

pub returns-clause-ok : goal.returns-clause-ok
returns-clause-ok c = rw (as_many_rows c.args.trees.now c.args.metas.now c.requires.same) (search (rules, writing))
