-- The node after the reference stands at another place.
use Rattle.std.proofs.Common.{◌≡◌, Some, refl}
use Rattle.file_tree.specs.declared.node.KeptNode.{KeptNode as Kept}
use Rattle.file_tree.specs.Index.{kept_at, spot_place}
use Rattle.file_tree.proofs.IndexLemmas.{SetsValue-from_map, found_behind, same_names}
use Rattle.file_tree.proofs.ApplyLemmas.{Replaces-from_set}
use Rattle.file_tree.proofs.applying.set_place.Goals as goal

pub returns : goal.returns
returns c =
    let node = c.unwrap-node.result.now in
    let now : Kept = record node { parent = c.args.to.now.directory; name = c.args.to.now.name } in
    let there : kept_at c.args.nodes.now.entries c.args.number ≡ Some node = found_behind c.get_mut.result _ c.unwrap-node.result c.get_mut.ensures.value c.unwrap-node.ensures in
    let sets = SetsValue-from_map c.args.nodes.now (c.get_mut.follows.lender now) c.args.number node now there (c.get_mut.follows.holds now) in
    Replaces-from_set c.args.nodes.now.entries _ c.args.number node now (spot_place c.args.to.now) there sets (same_names node now refl) refl
