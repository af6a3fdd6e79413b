-- A child that is found hangs there.
use Rattle.std.proofs.Common.{◌∙◌, ℕ, List, ap}
use Rattle.file_tree.specs.Index.{option_number}
use Rattle.file_tree.specs.State.{TreeView}
use Rattle.file_world.specs.TreeEffect.{child_of}
use Rattle.file_world.specs.World.{tree_of}
use Rattle.history_table.proofs.PathLemmas.{spot_is}
use Rattle.history_table.proofs.places.is_there.Goals as goal

pub returns-in-Some : goal.returns-in-Some
returns-in-Some c = λ same.
    let spot = c.args.spot.now in
    spot_is (tree_of c.args.world.now.world) spot.directory spot.name c.args.number c.in-Some.child c.tree.ensures.whole.tree
    (c.in-Some.ensures ∙ ap (λ (t : TreeView). option_number (child_of t.tree.rows spot.directory c.bytes.result.now)) c.tree.ensures.same
    ∙ ap (λ (name : List ℕ). option_number (child_of (tree_of c.args.world.now.world).rows spot.directory name)) c.bytes.ensures)
    same
