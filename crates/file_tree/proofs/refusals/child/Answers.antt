use Rattle.std.proofs.Common.{◌∙◌}
use Rattle.file_tree.proofs.KeptLemmas.{child_found}
use Rattle.file_tree.proofs.refusals.child.Goals as goal

pub returns : goal.returns
returns c = c.number_in.ensures ∙ child_found c.args.nodes.now.entries c.args.next c.args.directory c.args.name.now c.requires
