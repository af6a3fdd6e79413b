use Rattle.std.proofs.Common.{Option, length, sym, ap, ◌∙◌}
use Rattle.file_world.specs.Tree.{Node}
use Rattle.file_world.specs.TreeEffect.{contents_of}
use Rattle.file_tree.proofs.IndexLemmas.{node_at-kept, node_at-missing}
use Rattle.file_tree.proofs.refusals.length_at.Goals as goal

pub returns-in-None : goal.returns-in-None
returns-in-None c = sym (ap (λ (n : Option Node). length (contents_of n)) (node_at-missing c.args.nodes.now.entries c.args.number (sym c.in-None.ensures.value)))

pub returns-in-Some : goal.returns-in-Some
returns-in-Some c =
    c.len.ensures ∙ sym (ap (λ (n : Option Node). length (contents_of n)) (node_at-kept c.args.nodes.now.entries c.args.number c.in-Some.node.now (sym c.in-Some.ensures.value)))
