-- One node is kept, the root.
use Rattle.std.proofs.Common.{◌≡◌, ℕ, List, [], ◌∷◌, ap, ◌∙◌, nat_cmp}
use Rattle.std.specs.BTreeMap.{insert_entry}
use Rattle.file_world.specs.declared.operation.Kind.TheVariants.{Directory}
use Rattle.file_tree.specs.declared.node.KeptNode.{KeptNode as Kept}
use Rattle.file_tree.specs.Index.{Entries}
use Rattle.file_tree.proofs.FreshLemmas.{fresh_kept}
use Rattle.file_tree.proofs.tree.Tree.new.Goals as goal

pub invariant_of-result : goal.invariant_of-result
invariant_of-result c =
    let kept : Kept = record { kind = Directory; parent = 0; name = c.new.result; contents = c.new-2.result; names = c.new-3.result } in
    let entries : c.insert-put.new.self.entries ≡ (1, kept) ∷ [] = c.in-Ok.ensures.entries ∙ ap (λ (es : Entries). insert_entry nat_cmp es 1 kept) c.new-nodes.ensures.empty in
    fresh_kept c.insert-put.new.self.entries kept entries
    (ap (λ (n : List ℕ). record { kind = Directory; place = record { directory = 0; name = n }; contents = c.new-2.result.bytes }) c.new.ensures
    ∙ ap (λ (items : List ℕ). record { kind = Directory; place = record { directory = 0; name = [] }; contents = items }) c.new-2.ensures)
    c.new-3.ensures.empty
