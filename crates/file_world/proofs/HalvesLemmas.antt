-- The two halves of a world after an operation, and that a world stays within its limits.
use Rattle.std.proofs.Common.{◌≡◌, ℕ, ◌+◌, cond, Option, Some, None, is_some, IsSome, IsTrue, option_map, unwrap_or, List, [], ◌∷◌, ◌++◌, map, refl, sym, ap, ◌∙◌, subst, arith, nat_eq, nat_lt, nat_cmp, le-ltb, Ordering, Less, Equal, Greater}
use Rattle.std.specs.Map.{lookup, remove_entry}
use Rattle.std.specs.BTreeMap.{insert_entry}
use Rattle.std.specs.Ordering.{match_ordering}
use Rattle.std.proofs.lemmas.Bool.{cond-true, cond-false, ne_eqb, not-false}
use Rattle.std.proofs.lemmas.List.{map-append}
use Rattle.std.proofs.lemmas.Option.{none-some}
use Rattle.bl_syntax.specs.Names.{is_principal_name}
use Rattle.file_world.specs.declared.operation.MetaOp.{MetaOp}
use Rattle.file_world.specs.declared.operation.MetaOp.TheVariants as on_meta
use Rattle.file_world.specs.declared.operation.TreeOp.TheVariants as on_tree
use Rattle.file_world.specs.declared.operation.Op.{Op}
use Rattle.file_world.specs.declared.operation.Op.TheVariants.{Read, Write, Truncate, List as ListOf, Lookup, Create, Mkdir, Unlink, Rename, Getattr, Setattr, Delattr, Chown}
use Rattle.file_world.specs.Tree.{Node, Nodes, FileTree, node_at, IsTree}
use Rattle.file_world.specs.TreeEffect.{TreeChange, nothing, add, fill, remove, move, change_of, changed_tree, child_of, tests_of, revise, with_contents, with_place}
use Rattle.file_world.specs.Attributes.{Mark, Marks, mark_at, AreMarks}
use Rattle.file_world.specs.AttributeEffect.{IsMetaOperation, attributes_of, with_value, without_value, with_owner, with_parent, with_attributes, new_mark, marks_after}
use Rattle.file_world.specs.World.{Item, World, node_of, mark_of, tree_of, marks_of, IsWorld, fresh_world}
use Rattle.file_world.specs.Effect.{Part, tree_part, meta_part, part_of, IsOperation, refusal_in, refusal, changed_world, marked_world, world_after_part, world_after, item_with_contents, item_with_place, item_with_owner, item_with_attributes}
use Rattle.file_world.specs.Halves.{following, marks_followed, IsDirect, meta_op_of, tree_half_after, MetaMayFollow}
use Rattle.file_world.specs.Laws.{item_at, HalvesAfter}
use Rattle.file_world.proofs.RowLemmas.{split, map-revised, AreRising, AreBelow, below_head, below_tail, rising_tail}
use Rattle.file_world.proofs.TreeLemmas.{IsTree-fresh}
use Rattle.file_world.proofs.EffectLemmas.{none_hold, named_child, Named, IsTree-after}
use Rattle.file_world.proofs.MarkLemmas.{AreMarks-after, AreMarks-fresh}

-- ---- rows of which a part is read

module _ {V W : Type 0} (read : V → W) where
  abbrev pub part_of_row : ℕ × V → ℕ × W
  part_of_row row = (row.0, read row.1)

  pub lookup-part : (rows : List (ℕ × V)) (number : ℕ) → lookup (nat_eq number) (map part_of_row rows) ≡ option_map read (lookup (nat_eq number) rows)
  lookup-part [] number = refl
  lookup-part (row ∷ rows) number =
      split (nat_eq number row.0)
      (λ t. cond-true (nat_eq number row.0) _ _ t ∙ sym (ap (option_map read) (cond-true (nat_eq number row.0) (Some row.1) (lookup (nat_eq number) rows) t)))
      (λ f. cond-false (nat_eq number row.0) _ _ f ∙ (lookup-part rows number ∙ sym (ap (option_map read) (cond-false (nat_eq number row.0) (Some row.1) (lookup (nat_eq number) rows) f))))

  part-removed : (number : ℕ) (rows : List (ℕ × V)) → map part_of_row (remove_entry (nat_eq number) rows) ≡ remove_entry (nat_eq number) (map part_of_row rows)
  part-removed number [] = refl
  part-removed number (row ∷ rows) =
      split (nat_eq number row.0)
      (λ t. ap (map part_of_row) (cond-true (nat_eq number row.0) rows (row ∷ remove_entry (nat_eq number) rows) t)
      ∙ sym (cond-true (nat_eq number row.0) (map part_of_row rows) (part_of_row row ∷ remove_entry (nat_eq number) (map part_of_row rows)) t))
      (λ f. ap (map part_of_row) (cond-false (nat_eq number row.0) rows (row ∷ remove_entry (nat_eq number) rows) f)
      ∙ (ap (λ (rest : List (ℕ × W)). part_of_row row ∷ rest) (part-removed number rows)
      ∙ sym (cond-false (nat_eq number row.0) (map part_of_row rows) (part_of_row row ∷ remove_entry (nat_eq number) (map part_of_row rows)) f)))

  part-revised : (number : ℕ) (revision : V → V) (partly : W → W) → ((value : V) → read (revision value) ≡ partly (read value)) → (rows : List (ℕ × V)) → map part_of_row (revise number revision rows) ≡ revise number partly (map part_of_row rows)
  part-revised number revision partly same [] = refl
  part-revised number revision partly same (row ∷ rows) =
      split (nat_eq number row.0)
      (λ t. ap (map part_of_row) (cond-true (nat_eq number row.0) ((row.0, revision row.1) ∷ rows) (row ∷ revise number revision rows) t)
      ∙ (ap (λ (w : W). (row.0, w) ∷ map part_of_row rows) (same row.1)
      ∙ sym (cond-true (nat_eq number row.0) ((row.0, partly (read row.1)) ∷ map part_of_row rows) (part_of_row row ∷ revise number partly (map part_of_row rows)) t)))
      (λ f. ap (map part_of_row) (cond-false (nat_eq number row.0) ((row.0, revision row.1) ∷ rows) (row ∷ revise number revision rows) f)
      ∙ (ap (λ (rest : List (ℕ × W)). part_of_row row ∷ rest) (part-revised number revision partly same rows)
      ∙ sym (cond-false (nat_eq number row.0) ((row.0, partly (read row.1)) ∷ map part_of_row rows) (part_of_row row ∷ revise number partly (map part_of_row rows)) f)))

-- a number above all others is put last
put_last : {V : Type 0} (number : ℕ) (value : V) (rows : List (ℕ × V)) → AreRising rows → AreBelow number rows → insert_entry nat_cmp rows number value ≡ rows ++ (number, value) ∷ []
put_last number value [] rising below = refl
put_last {V} number value (row ∷ rows) rising below =
    let above = below_head number row rows below in
    let greater : nat_cmp number row.0 ≡ Greater = cond-false (nat_lt number row.0) Less (cond (nat_eq number row.0) Equal Greater) (le-ltb number row.0 (omega (arith, above)))
    ∙ cond-false (nat_eq number row.0) Equal Greater (ne_eqb number row.0 (λ h. omega (arith, h, above))) in
    ap (λ (o : Ordering). match_ordering o ((number, value) ∷ row ∷ rows) ((row.0, value) ∷ rows) (row ∷ insert_entry nat_cmp rows number value)) greater
    ∙ ap (λ (rest : List (ℕ × V)). row ∷ rest) (put_last number value rows (rising_tail row rows rising) (below_tail number row rows rising below))

-- ---- a node of the world in both halves

pub item_from_node : (world : World) (number : ℕ) (node : Node) → node_at (tree_of world).rows number ≡ Some node → (item : Item) × (item_at world number ≡ Some item)
item_from_node world number node e = by (item_at world number) refl
  where
    by : (found : Option Item) → item_at world number ≡ found → (item : Item) × (item_at world number ≡ Some item)
    by None h = absurd (none-some _ (sym (lookup-part node_of world.rows number ∙ ap (option_map node_of) h) ∙ e))
    by (Some item) h = (item, h)

pub item_from_mark : (world : World) (number : ℕ) (mark : Mark) → mark_at (marks_of world) number ≡ Some mark → (item : Item) × (item_at world number ≡ Some item)
item_from_mark world number mark e = by (item_at world number) refl
  where
    by : (found : Option Item) → item_at world number ≡ found → (item : Item) × (item_at world number ≡ Some item)
    by None h = absurd (none-some _ (sym (lookup-part mark_of world.rows number ∙ ap (option_map mark_of) h) ∙ e))
    by (Some item) h = (item, h)

marks_below : (world : World) → IsWorld world → AreBelow world.next (marks_of world)
marks_below world is number mark e =
    let item = item_from_mark world number mark e in
    (is.tree.sound number (node_of item.0) (lookup-part node_of world.rows number ∙ ap (option_map node_of) item.1)).below_next

no_next_mark : (world : World) → IsWorld world → mark_at (marks_of world) world.next ≡ None
no_next_mark world is = by (mark_at (marks_of world) world.next) refl
  where
    by : (found : Option Mark) → mark_at (marks_of world) world.next ≡ found → mark_at (marks_of world) world.next ≡ None
    by None h = h
    by (Some mark) h = absurd (let less = marks_below world is world.next mark h in omega (arith, less))

-- the node that a name stands for has a mark
named_mark : (world : World) (directory : ℕ) (name : List ℕ) (child : Named (tree_of world) directory name) → IsSome (mark_at (marks_of world) (unwrap_or (child_of (tree_of world).rows directory name) 0))
named_mark world directory name child =
    let item = item_from_node world child.child child.stands.node child.stands.found in
    subst (λ (n : Option ℕ). IsSome (mark_at (marks_of world) (unwrap_or n 0))) (sym child.is_child)
    (ap is_some (lookup-part mark_of world.rows child.child ∙ ap (option_map mark_of) item.1))

-- ---- the halves after a change

abbrev tree_with : ℕ → Nodes → FileTree
tree_with next rows = record { rows = rows; next = next }

pub tree_of-changed : (caller : List ℕ) (change : TreeChange) (world : World) → tree_of (changed_world caller change world) ≡ changed_tree change (tree_of world)
tree_of-changed caller nothing world = refl
tree_of-changed caller (add kind place) world = ap (tree_with (world.next + 1)) (map-append (part_of_row node_of) world.rows _)
tree_of-changed caller (fill number contents) world = ap (tree_with world.next) (part-revised node_of number (item_with_contents contents) (with_contents contents) (λ _. refl) world.rows)
tree_of-changed caller (remove number) world = ap (tree_with world.next) (part-removed node_of number world.rows)
tree_of-changed caller (move number place) world = ap (tree_with world.next) (part-revised node_of number (item_with_place place) (with_place place) (λ _. refl) world.rows)

pub marks_of-changed : (caller : List ℕ) (change : TreeChange) (world : World) → IsWorld world → marks_of (changed_world caller change world) ≡ marks_followed (marks_of world) (following caller world.next change)
marks_of-changed caller nothing world is = refl
marks_of-changed caller (add kind place) world is =
    map-append (part_of_row mark_of) world.rows _
    ∙ sym (put_last world.next (new_mark caller place.directory) (marks_of world) is.marks.rising (marks_below world is))
marks_of-changed caller (fill number contents) world is = map-revised (part_of_row mark_of) number (item_with_contents contents) (λ _ _. refl) world.rows
marks_of-changed caller (remove number) world is = part-removed mark_of number world.rows
marks_of-changed caller (move number place) world is = part-revised mark_of number (item_with_place place) (with_parent place.directory) (λ _. refl) world.rows

pub tree_of-marked : (op : MetaOp) (world : World) → tree_of (marked_world op world) ≡ tree_of world
tree_of-marked (on_meta.Get node name) world = refl
tree_of-marked (on_meta.Set node name value) world = ap (tree_with world.next) (map-revised (part_of_row node_of) node.0 (item_with_attributes (with_value (attributes_of (mark_at (marks_of world) node.0)) name value)) (λ _ _. refl) world.rows)
tree_of-marked (on_meta.Remove node name) world = ap (tree_with world.next) (map-revised (part_of_row node_of) node.0 (item_with_attributes (without_value (attributes_of (mark_at (marks_of world) node.0)) name)) (λ _ _. refl) world.rows)
tree_of-marked (on_meta.Chown node owner) world = ap (tree_with world.next) (map-revised (part_of_row node_of) node.0 (item_with_owner owner) (λ _ _. refl) world.rows)
tree_of-marked (on_meta.Add node owner parent) world = refl
tree_of-marked (on_meta.Drop node) world = refl
tree_of-marked (on_meta.Move node parent) world = refl

pub marks_of-marked : (op : MetaOp) (world : World) → IsDirect op → marks_of (marked_world op world) ≡ marks_after (marks_of world) op
marks_of-marked (on_meta.Get node name) world direct = refl
marks_of-marked (on_meta.Set node name value) world direct =
    let attributes = with_value (attributes_of (mark_at (marks_of world) node.0)) name value in
    part-revised mark_of node.0 (item_with_attributes attributes) (with_attributes attributes) (λ _. refl) world.rows
marks_of-marked (on_meta.Remove node name) world direct =
    let attributes = without_value (attributes_of (mark_at (marks_of world) node.0)) name in
    part-revised mark_of node.0 (item_with_attributes attributes) (with_attributes attributes) (λ _. refl) world.rows
marks_of-marked (on_meta.Chown node owner) world direct = part-revised mark_of node.0 (item_with_owner owner) (with_owner owner) (λ _. refl) world.rows
marks_of-marked (on_meta.Add node owner parent) world direct = absurd direct
marks_of-marked (on_meta.Drop node) world direct = absurd direct
marks_of-marked (on_meta.Move node parent) world direct = absurd direct

-- ---- the halves after an operation

abbrev IsDirectPart : Part → Type 0
IsDirectPart (tree_part op) = Unit {0}
IsDirectPart (meta_part op) = IsDirect op

direct_part : (op : Op) → IsDirectPart (part_of op)
direct_part (Read file offset len) = tt
direct_part (Write file offset bytes) = tt
direct_part (Truncate file len) = tt
direct_part (ListOf directory) = tt
direct_part (Lookup directory name) = tt
direct_part (Create directory name) = tt
direct_part (Mkdir directory name) = tt
direct_part (Unlink directory name) = tt
direct_part (Rename directory name target renamed) = tt
direct_part (Getattr node name) = tt
direct_part (Setattr node name value) = tt
direct_part (Delattr node name) = tt
direct_part (Chown node owner) = tt

tree_half : (caller : List ℕ) (world : World) (part : Part) → tree_of (world_after_part caller world part) ≡ tree_half_after (tree_of world) part
tree_half caller world (tree_part op) = tree_of-changed caller (change_of (tree_of world) op) world
tree_half caller world (meta_part op) = tree_of-marked op world

marks_half : (caller : List ℕ) (world : World) (part : Part) → IsWorld world → IsDirectPart part → marks_of (world_after_part caller world part) ≡ marks_followed (marks_of world) (meta_op_of caller (tree_of world) part)
marks_half caller world (tree_part op) is direct = marks_of-changed caller (change_of (tree_of world) op) world is
marks_half caller world (meta_part op) is direct = marks_of-marked op world direct

pub may_follow : (caller : List ℕ) (op : Op) (world : World) → IsWorld world → refusal world op ≡ None → MetaMayFollow (marks_of world) (meta_op_of caller (tree_of world) (part_of op))
may_follow caller (Read file offset len) world is none = tt
may_follow caller (Write file offset bytes) world is none = tt
may_follow caller (Truncate file len) world is none = tt
may_follow caller (ListOf directory) world is none = tt
may_follow caller (Lookup directory name) world is none = tt
may_follow caller (Create directory name) world is none = no_next_mark world is
may_follow caller (Mkdir directory name) world is none = no_next_mark world is
may_follow caller (Unlink directory name) world is none =
    let h = none_hold (tests_of (tree_of world) (on_tree.Unlink directory name)) none in
    named_mark world directory.0 name (named_child (tree_of world) directory.0 name is.tree (not-false _ h.1.0) h.1.1.1.0)
may_follow caller (Rename directory name target renamed) world is none =
    let h = none_hold (tests_of (tree_of world) (on_tree.Rename directory name target renamed)) none in
    named_mark world directory.0 name (named_child (tree_of world) directory.0 name is.tree (not-false _ h.1.0) h.1.1.1.1.1.1.0)
may_follow caller (Getattr node name) world is none = tt
may_follow caller (Setattr node name value) world is none = tt
may_follow caller (Delattr node name) world is none = tt
may_follow caller (Chown node owner) world is none = tt

pub halves_after : (caller : List ℕ) (op : Op) (world : World) → IsWorld world → refusal world op ≡ None → HalvesAfter caller op world (world_after caller world op)
halves_after caller op world is none = record {
  tree = tree_half caller world (part_of op);
  marks = marks_half caller world (part_of op) is (direct_part op);
  may_follow = may_follow caller op world is none;
}

-- ---- worlds stay worlds

IsTree-half : (world : World) (part : Part) → IsTree (tree_of world) → refusal_in world part ≡ None → IsTree (tree_half_after (tree_of world) part)
IsTree-half world (tree_part op) is none = IsTree-after (tree_of world) op is none
IsTree-half world (meta_part op) is none = is

AreMarks-followed : (marks : Marks) (caller : List ℕ) (next : ℕ) (change : TreeChange) → AreMarks marks → IsTrue (is_principal_name caller) → MetaMayFollow marks (following caller next change) → AreMarks (marks_followed marks (following caller next change))
AreMarks-followed marks caller next nothing are named may = are
AreMarks-followed marks caller next (add kind place) are named may = AreMarks-after marks (on_meta.Add (record { 0 = next }) caller (record { 0 = place.directory })) are named may refl
AreMarks-followed marks caller next (fill number contents) are named may = are
AreMarks-followed marks caller next (remove number) are named may = AreMarks-after marks (on_meta.Drop (record { 0 = number })) are tt may refl
AreMarks-followed marks caller next (move number place) are named may = AreMarks-after marks (on_meta.Move (record { 0 = number }) (record { 0 = place.directory })) are tt may refl

abbrev IsPartOperation : Part → Type 0
IsPartOperation (tree_part op) = Unit {0}
IsPartOperation (meta_part op) = IsMetaOperation op

part_operation : (op : Op) → IsOperation op → IsPartOperation (part_of op)
part_operation (Read file offset len) is = tt
part_operation (Write file offset bytes) is = tt
part_operation (Truncate file len) is = tt
part_operation (ListOf directory) is = tt
part_operation (Lookup directory name) is = tt
part_operation (Create directory name) is = tt
part_operation (Mkdir directory name) is = tt
part_operation (Unlink directory name) is = tt
part_operation (Rename directory name target renamed) is = tt
part_operation (Getattr node name) is = tt
part_operation (Setattr node name value) is = is
part_operation (Delattr node name) is = tt
part_operation (Chown node owner) is = is

AreMarks-half : (caller : List ℕ) (world : World) (part : Part) → AreMarks (marks_of world) → IsTrue (is_principal_name caller) → IsPartOperation part → MetaMayFollow (marks_of world) (meta_op_of caller (tree_of world) part) → refusal_in world part ≡ None → AreMarks (marks_followed (marks_of world) (meta_op_of caller (tree_of world) part))
AreMarks-half caller world (tree_part op) are named fit may none = AreMarks-followed (marks_of world) caller world.next (change_of (tree_of world) op) are named may
AreMarks-half caller world (meta_part op) are named fit may none = AreMarks-after (marks_of world) op are fit may none

pub IsWorld-after : (caller : List ℕ) (op : Op) (world : World) → IsWorld world → IsTrue (is_principal_name caller) → IsOperation op → refusal world op ≡ None → IsWorld (world_after caller world op)
IsWorld-after caller op world is named fit none =
    let halves = halves_after caller op world is none in
    record {
      tree = subst IsTree (sym halves.tree) (IsTree-half world (part_of op) is.tree none);
      marks = subst AreMarks (sym halves.marks) (AreMarks-half caller world (part_of op) is.marks named (part_operation op fit) halves.may_follow none);
    }

pub IsWorld-fresh : IsWorld fresh_world
IsWorld-fresh = record { tree = IsTree-fresh; marks = AreMarks-fresh }
