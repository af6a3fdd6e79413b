use Rattle.std.proofs.Common.{rules, sym}
use Rattle.bl_syntax.proofs.BeginsWithLemmas.{writing}
use Rattle.checkpoint_image.proofs.withdrawn_numbers.add_withdrawn_numbers.Goals as goal

pub returns-clause-ok : goal.returns-clause-ok
returns-clause-ok c = rw (sym c.count_withdrawn.ensures) (search (rules, writing))
