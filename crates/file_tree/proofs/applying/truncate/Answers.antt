-- The file is the node after the reference, with its contents cut or filled up.
use Rattle.std.proofs.Common.{◌≡◌, ℕ, List, Option, Some, refl, sym, ap, ◌∙◌, arith}
use Rattle.file_world.specs.Tree.{Node, node_at}
use Rattle.file_world.specs.TreeEffect.{contents_of, resize_to, with_contents}
use Rattle.file_world.proofs.EffectLemmas.{length-resized}
use Rattle.file_tree.specs.declared.node.KeptNode.{KeptNode as Kept}
use Rattle.file_tree.specs.Index.{rows_of, kept_at, node_shown}
use Rattle.file_tree.proofs.IndexLemmas.{SetsValue-from_map, found_behind, same_names, node_at-kept}
use Rattle.file_tree.proofs.ApplyLemmas.{Fills-from_set, part_le_sum}
use Rattle.file_tree.proofs.applying.truncate.Goals as goal

pub overflow_sub-result : goal.overflow_sub-result
overflow_sub-result c =
    let node = c.unwrap-node.result.now in
    let there : kept_at c.args.nodes.now.entries c.args.number ≡ Some node = found_behind c.get_mut.result _ c.unwrap-node.result c.get_mut.ensures.value c.unwrap-node.ensures in
    omega (arith, part_le_sum c.args.nodes.now.entries c.args.number node there, c.len-before.ensures, c.requires.summed)

pub returns : goal.returns
returns c =
    let old = c.args.nodes.now.entries in
    let node = c.unwrap-node.result.now in
    let now : Kept = record node { contents = c.resize.new.self } in
    let there : kept_at old c.args.number ≡ Some node = found_behind c.get_mut.result _ c.unwrap-node.result c.get_mut.ensures.value c.unwrap-node.ensures in
    let sets = SetsValue-from_map c.args.nodes.now (c.get_mut.follows.lender now) c.args.number node now there (c.get_mut.follows.holds now) in
    let items : c.resize.new.self.bytes ≡ resize_to (contents_of (node_at (rows_of old) c.args.number)) c.args.len =
    c.resize.ensures.bytes ∙ ap (λ (n : Option Node). resize_to (contents_of n) c.args.len) (sym (node_at-kept old c.args.number node there)) in
    let part = part_le_sum old c.args.number node there in
    Fills-from_set old _ c.args.number node now (resize_to (contents_of (node_at (rows_of old) c.args.number)) c.args.len) _ there sets (same_names node now refl)
    (ap (λ (contents : List ℕ). with_contents contents (node_shown node)) items)
    (let len = length-resized (contents_of (node_at (rows_of old) c.args.number)) c.args.len in omega (arith, part, len, c.len-before.ensures, c.requires.summed))
