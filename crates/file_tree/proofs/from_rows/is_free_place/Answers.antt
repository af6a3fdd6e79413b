-- The directory and the names in it, as the nodes have them.
use Rattle.std.proofs.Common.{◌≡◌, Bool, Option, Some, None, is_none, is_some, true, false, Bor, List, ℕ, refl, sym, ap, ◌∙◌, nat_cmp}
use Rattle.std.specs.Prelude.{◌&&◌, not}
use Rattle.std.specs.Map.{lookup}
use Rattle.std.specs.BTreeMap.{is_at}
use Rattle.std.specs.Option.{option_copied}
use Rattle.std.specs.Cmp.Lexicographic.{slice_cmp}
use Rattle.std.proofs.lemmas.Bool.{and_left}
use Rattle.file_world.specs.TreeEffect.{is_directory}
use Rattle.file_tree.specs.declared.node.KeptNode.{KeptNode as Kept}
use Rattle.file_tree.specs.Index.{number_in, reserved_at}
use Rattle.file_tree.proofs.IndexLemmas.{node_at-kept, node_at-missing}
use Rattle.file_tree.proofs.from_rows.is_free_place.Goals as goal

none_if_not_some : {A : Type 0} (b : Bool) (found : Option A) → not b ≡ is_some found → b ≡ is_none found
none_if_not_some true None e = refl
none_if_not_some true (Some value) e = sym e
none_if_not_some false None e = sym e
none_if_not_some false (Some value) e = refl

none_copied : {A : Type 0} (found : Option (Bor A)) → is_none found ≡ is_none (option_copied found)
none_copied None = refl
none_copied (Some borrowed) = refl

pub returns-in-None : goal.returns-in-None
returns-in-None c = sym (and_left _ _ (ap is_directory (node_at-missing c.args.nodes.now.entries c.args.row.now.parent (sym c.in-None.ensures.value))))

pub returns-else-is_directory_kind : goal.returns-else-is_directory_kind
returns-else-is_directory_kind c =
    let found = node_at-kept c.args.nodes.now.entries c.args.row.now.parent c.in-Some.node.now (sym c.in-Some.ensures.value) in
    c.if-is_directory_kind.false ∙ sym (and_left _ _ (ap is_directory found ∙ (sym c.is_directory_kind.ensures ∙ c.if-is_directory_kind.false)))

pub returns-then-is_directory_kind : goal.returns-then-is_directory_kind
returns-then-is_directory_kind c =
    let node = c.in-Some.node.now in
    let found = node_at-kept c.args.nodes.now.entries c.args.row.now.parent node (sym c.in-Some.ensures.value) in
    let none = is_none (reserved_at c.args.nodes.now.entries c.args.row.now.parent c.args.row.now.name) in
    none_if_not_some c.is_none.result c.get-then-is_directory_kind.result (sym c.is_none.ensures)
    ∙ (none_copied c.get-then-is_directory_kind.result
    ∙ (ap is_none (c.get-then-is_directory_kind.ensures.value
    ∙ (ap (λ (name : List ℕ). lookup (is_at (slice_cmp nat_cmp name)) node.names.entries) c.of_short.ensures
    ∙ ap (λ (k : Option Kept). number_in k c.args.row.now.name) c.in-Some.ensures.value))
    ∙ ap (λ (b : Bool). b && none) (sym (ap is_directory found ∙ (sym c.is_directory_kind.ensures ∙ c.if-is_directory_kind.true)))))
