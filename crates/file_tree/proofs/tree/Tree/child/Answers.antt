-- What the directory keeps is the child, unless the name is only held.
use Rattle.std.proofs.Common.{ap, ◌∙◌}
use Rattle.file_world.specs.TreeEffect.{child_of}
use Rattle.file_tree.specs.State.{TreeView}
use Rattle.file_tree.specs.Index.{option_number, above_zero}
use Rattle.file_tree.proofs.FreshLemmas.{child_any}
use Rattle.file_tree.proofs.tree.Tree.child.Goals as goal

pub returns : goal.returns
returns c =
    let inside = c.self.inside in
    c.node_of.ensures
    ∙ ap option_number (ap above_zero c.number_in-kept.ensures
    ∙ (child_any inside.nodes.entries inside.next inside.ready c.args.d.0 c.args.name.now c.self.invariant.0
    ∙ ap (λ (s : TreeView). child_of s.tree.rows c.args.d.0 c.args.name.now) c.self.view_is))
