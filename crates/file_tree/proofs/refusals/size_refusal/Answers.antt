use Rattle.std.proofs.Common.{arith}
use Rattle.file_tree.specs.Index.{rows_of}
use Rattle.file_tree.proofs.KeptLemmas.{length_in_sum}
use Rattle.file_tree.proofs.refusals.size_refusal.Goals as goal

pub overflow_sub-total : goal.overflow_sub-total
overflow_sub-total c = omega (arith, length_in_sum (rows_of c.args.nodes.now.entries) c.args.number, c.length_at.ensures, c.requires.summed)

pub overflow_add-total : goal.overflow_add-total
overflow_add-total c = omega (arith, length_in_sum (rows_of c.args.nodes.now.entries) c.args.number, c.length_at.ensures, c.requires.summed, c.requires.within, c.requires.kept.tree.fits)
