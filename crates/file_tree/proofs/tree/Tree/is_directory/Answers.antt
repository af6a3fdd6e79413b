-- The kind that is kept is the tree's, unless the node is only ready to be made.
use Rattle.std.proofs.Common.{ap, ◌∙◌}
use Rattle.file_world.specs.Tree.{node_at}
use Rattle.file_world.specs.TreeEffect.{is_directory}
use Rattle.file_tree.specs.State.{TreeView}
use Rattle.file_tree.proofs.KindLemmas.{kind_below, kind_above}
use Rattle.file_tree.proofs.tree.Tree.is_directory.Goals as goal

pub returns-then-n-self : goal.returns-then-n-self
returns-then-n-self c =
    let inside = c.self.inside in
    c.is_directory.ensures
    ∙ (kind_below inside.nodes.entries inside.next inside.ready c.args.n.0 c.self.invariant.0 c.if-n-self.true
    ∙ ap (λ (s : TreeView). is_directory (node_at s.tree.rows c.args.n.0)) c.self.view_is)

pub returns-else-n-self : goal.returns-else-n-self
returns-else-n-self c =
    let inside = c.self.inside in
    kind_above inside.nodes.entries inside.next inside.ready c.args.n.0 c.self.invariant.0 c.if-n-self.false
    ∙ ap (λ (s : TreeView). is_directory (node_at s.tree.rows c.args.n.0)) c.self.view_is
