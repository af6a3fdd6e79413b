use Rattle.std.proofs.Common.{None, sym}
use Rattle.file_tree.specs.Index.{tree_in}
use Rattle.file_tree.proofs.KeptLemmas.{child_above_zero}
use Rattle.file_tree.proofs.refusals.unlink_refusal.Goals as goal

pub has_names-requires-clause-there : goal.has_names-requires-clause-there
has_names-requires-clause-there c = child_above_zero (tree_in None c.args.nodes.now.entries c.args.next) c.args.directory c.args.name.now c.in-Some-child.number c.requires.tree (sym c.in-Some-child.ensures)
