-- The directory is the node after the reference, with one name more or as before.
use Rattle.std.proofs.Common.{◌≡◌, Some, refl}
use Rattle.file_tree.specs.declared.node.KeptNode.{KeptNode as Kept}
use Rattle.file_tree.specs.Index.{kept_at, spot_place}
use Rattle.file_tree.proofs.IndexLemmas.{SetsValue-from_map, found_behind, ChangesName-entered, Puts-from_set, ChangesRoomAlone-from_set, same_names}
use Rattle.file_tree.proofs.preparing.enter.Goals as goal

pub returns-in-Ok-clause-ok : goal.returns-in-Ok-clause-ok
returns-in-Ok-clause-ok c =
    let node = c.unwrap-node.result.now in
    let now : Kept = record node { names = c.insert-put.new.self } in
    let there : kept_at c.args.nodes.now.entries c.args.spot.now.directory ≡ Some node = found_behind c.get_mut.result _ c.unwrap-node.result c.get_mut.ensures.value c.unwrap-node.ensures in
    let sets = SetsValue-from_map c.args.nodes.now (c.get_mut.follows.lender now) c.args.spot.now.directory node now there (c.get_mut.follows.holds now) in
    Puts-from_set _ _ (spot_place c.args.spot.now) (Some c.args.number) node now there sets (ChangesName-entered node now c.args.spot.now.name (Some c.args.number) c.in-Ok.ensures.updates refl)

pub returns-in-Err-clause-err : goal.returns-in-Err-clause-err
returns-in-Err-clause-err c =
    let node = c.unwrap-node.result.now in
    let now : Kept = record node { names = c.insert-put.new.self } in
    let there : kept_at c.args.nodes.now.entries c.args.spot.now.directory ≡ Some node = found_behind c.get_mut.result _ c.unwrap-node.result c.get_mut.ensures.value c.unwrap-node.ensures in
    let sets = SetsValue-from_map c.args.nodes.now (c.get_mut.follows.lender now) c.args.spot.now.directory node now there (c.get_mut.follows.holds now) in
    ChangesRoomAlone-from_set _ _ c.args.spot.now.directory node now there sets (same_names node now c.in-Err.ensures.err) refl
