use Rattle.std.proofs.Common.{◌≡◌, ℕ, List, Some, refl, ap}
use Rattle.file_tree.specs.declared.node.KeptNode.{KeptNode as Kept}
use Rattle.file_tree.specs.Index.{kept_at}
use Rattle.file_tree.proofs.IndexLemmas.{SetsValue-from_map, found_behind, kept-set, ChangesRoomAlone-from_set, same_names}
use Rattle.file_tree.proofs.KeptLemmas.{Prepares-contents, Stays-from_ChangesRoomAlone}
use Rattle.file_tree.proofs.preparing.prepare_contents.Goals as goal

pub returns-in-Ok-clause-ok : goal.returns-in-Ok-clause-ok
returns-in-Ok-clause-ok c =
    let node = c.unwrap-node.result.now in
    let now : Kept = record node { contents = c.reserve.new.self } in
    let there : kept_at c.args.nodes.now.entries c.args.number ≡ Some node = found_behind c.get_mut.result _ c.unwrap-node.result c.get_mut.ensures.value c.unwrap-node.ensures in
    let sets = SetsValue-from_map c.args.nodes.now (c.get_mut.follows.lender now) c.args.number node now there (c.get_mut.follows.holds now) in
    let keeps = ChangesRoomAlone-from_set _ _ c.args.number node now there sets (same_names node now refl) (ap (λ (items : List ℕ). record { kind = node.kind; place = record { directory = node.parent; name = node.name }; contents = items }) c.reserve.ensures.bytes) in
    (refl, Prepares-contents _ _ c.args.next c.args.number c.args.len c.requires.kept keeps (record { kept = now; found = kept-set _ _ c.args.number now sets; room = c.in-Ok.ensures.room }))

pub returns-in-Err-clause-err : goal.returns-in-Err-clause-err
returns-in-Err-clause-err c =
    let node = c.unwrap-node.result.now in
    let now : Kept = record node { contents = c.reserve.new.self } in
    let there : kept_at c.args.nodes.now.entries c.args.number ≡ Some node = found_behind c.get_mut.result _ c.unwrap-node.result c.get_mut.ensures.value c.unwrap-node.ensures in
    let sets = SetsValue-from_map c.args.nodes.now (c.get_mut.follows.lender now) c.args.number node now there (c.get_mut.follows.holds now) in
    let keeps = ChangesRoomAlone-from_set _ _ c.args.number node now there sets (same_names node now refl) (ap (λ (items : List ℕ). record { kind = node.kind; place = record { directory = node.parent; name = node.name }; contents = items }) c.reserve.ensures.bytes) in
    Stays-from_ChangesRoomAlone _ _ c.args.next c.requires.kept keeps
