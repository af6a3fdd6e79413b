-- The directory is the node after the reference without the name; if there is no node, nothing is kept.
use Rattle.std.proofs.Common.{◌≡◌, Some, None, refl, sym}
use Rattle.file_tree.specs.declared.node.KeptNode.{KeptNode as Kept}
use Rattle.file_tree.specs.Index.{kept_at, spot_place}
use Rattle.file_tree.proofs.IndexLemmas.{SetsValue-from_map, ChangesName-removed, Puts-from_set}
use Rattle.file_tree.proofs.preparing.release.Goals as goal

pub returns-in-Some : goal.returns-in-Some
returns-in-Some c =
    let node = c.in-Some.node.now in
    let now : Kept = record node { names = c.remove.new.self } in
    let there : kept_at c.args.nodes.now.entries c.args.spot.now.directory ≡ Some node = sym c.in-Some.ensures.value in
    let sets = SetsValue-from_map c.args.nodes.now (c.get_mut.follows.lender now) c.args.spot.now.directory node now there (c.get_mut.follows.holds now) in
    Puts-from_set _ _ (spot_place c.args.spot.now) None node now there sets (ChangesName-removed node now c.args.spot.now.name c.remove.ensures.updates refl)
