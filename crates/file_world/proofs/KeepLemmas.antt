-- What an operation on the contents, the attributes or the owner of a node leaves alone.
use Rattle.std.proofs.Common.{◌≡◌, ℕ, ◌-◌, ◌<◌, ◌≤◌, min, Some, None, option_map, List, [], ◌++◌, length, take, drop, replicate, refl, sym, ap, ◌∙◌, subst, arith, nat_le, length-take}
use Rattle.std.specs.List.Sorted.{IsStrictlySortedBy}
use Rattle.std.specs.Map.{keys_of}
use Rattle.std.specs.Ordering.{nat_cmp}
use Rattle.std.specs.Cmp.Lexicographic.{slice_cmp}
use Rattle.std.proofs.lemmas.Bool.{leb-true, leb-false}
use Rattle.std.proofs.lemmas.List.{append-nil, take_all, drop_all, take_at, drop_at}
use Rattle.file_world.specs.declared.operation.TreeOp.TheVariants as on_tree
use Rattle.file_world.specs.declared.operation.MetaOp.TheVariants as on_meta
use Rattle.file_world.specs.declared.operation.Op.{Op}
use Rattle.file_world.specs.declared.operation.Op.TheVariants.{Write, Truncate, Setattr, Delattr, Chown}
use Rattle.file_world.specs.Tree.{node_at}
use Rattle.file_world.specs.TreeEffect.{contents_of, write_at, resize_to, tests_of}
use Rattle.file_world.specs.Attributes.{Attributes, mark_at, value_at}
use Rattle.file_world.specs.AttributeEffect.{attributes_of, with_value, without_value, meta_tests}
use Rattle.file_world.specs.World.{Item, World, node_of, mark_of, tree_of, marks_of, IsWorld}
use Rattle.file_world.specs.Effect.{refusal, reply, world_after, revised_world, item_with_contents, item_with_owner, item_with_attributes}
use Rattle.file_world.specs.Laws.{item_at, ChangesOneNode, HasValueAfter, TruncatesKeepTheFirst, ContentsChangeAlone, AttributesChangeAlone, OwnersChangeAlone}
use Rattle.file_world.proofs.RowLemmas.{split, lookup-revised_same, lookup-revised_other}
use Rattle.file_world.proofs.EffectLemmas.{none_hold, some_from, length-resized}
use Rattle.file_world.proofs.HalvesLemmas.{lookup-part, item_from_node, item_from_mark}
use Rattle.file_world.proofs.LawLemmas.{replied_parts}
use Rattle.file_world.proofs.ValueLemmas.{value-put_same, value-put_other, value-gone_same, value-gone_other}

-- ---- one node is revised

revises_one : (number : ℕ) (revision : Item → Item) (Becomes : Item → Item → Type 0) (world after : World) → revised_world number revision world ≡ after → (item : Item) → item_at world number ≡ Some item → Becomes item (revision item) → ChangesOneNode number Becomes world after
revises_one number revision Becomes world after e item there becomes = subst (ChangesOneNode number Becomes world) e (record {
  before = item;
  later = revision item;
  there = there;
  changed = lookup-revised_same number revision world.rows item there;
  becomes = becomes;
  others = λ other apart. lookup-revised_other number other revision world.rows apart;
  next = refl;
})

-- ---- contents

contents_there : (world : World) (number : ℕ) (item : Item) → item_at world number ≡ Some item → contents_of (node_at (tree_of world).rows number) ≡ item.contents
contents_there world number item there = ap contents_of (lookup-part node_of world.rows number ∙ ap (option_map node_of) there)

pub contents_change_alone : ContentsChangeAlone
contents_change_alone caller file world after found = (
  λ offset bytes e.
      let op : Op = Write file offset bytes in
      let parts = replied_parts (refusal world op) (reply world op) found (world_after caller world op) after e in
      let h = none_hold (tests_of (tree_of world) (on_tree.Write file offset bytes)) parts.0 in
      let node = some_from (node_at (tree_of world).rows file.0) h.0 in
      let item = item_from_node world file.0 node.0 node.1 in
      revises_one file.0 (item_with_contents (write_at (contents_of (node_at (tree_of world).rows file.0)) offset bytes)) (λ before later. later ≡ item_with_contents (write_at before.contents offset bytes) before) world after parts.1 item.0 item.1
      (ap (λ (old : List ℕ). item_with_contents (write_at old offset bytes) item.0) (contents_there world file.0 item.0 item.1)),
  λ len e.
      let op : Op = Truncate file len in
      let parts = replied_parts (refusal world op) (reply world op) found (world_after caller world op) after e in
      let h = none_hold (tests_of (tree_of world) (on_tree.Truncate file len)) parts.0 in
      let node = some_from (node_at (tree_of world).rows file.0) h.0 in
      let item = item_from_node world file.0 node.0 node.1 in
      revises_one file.0 (item_with_contents (resize_to (contents_of (node_at (tree_of world).rows file.0)) len)) (λ before later. later ≡ item_with_contents (resize_to before.contents len) before) world after parts.1 item.0 item.1
      (ap (λ (old : List ℕ). item_with_contents (resize_to old len) item.0) (contents_there world file.0 item.0 item.1)),
)

pub truncates_keep_the_first : TruncatesKeepTheFirst
truncates_keep_the_first old len =
    let parts : (take (length old) (resize_to old len) ≡ take len old) × (drop (length old) (resize_to old len) ≡ replicate (len - length old) 0) =
    split (nat_le (length old) len) (λ t. filled (leb-true (length old) len t)) (λ f. cut (leb-false (length old) len f)) in
    (length-resized old len, parts.0, parts.1)
  where
    filled : length old ≤ len → (take (length old) (resize_to old len) ≡ take len old) × (drop (length old) (resize_to old len) ≡ replicate (len - length old) 0)
    filled le =
        let all : take len old ≡ old = take_all len old le in
        let whole : resize_to old len ≡ old ++ replicate (len - length old) 0 = ap (λ (front : List ℕ). front ++ replicate (len - length old) 0) all in (
          ap (take (length old)) whole ∙ (take_at old (replicate (len - length old) 0) (length old) refl ∙ sym all),
          ap (drop (length old)) whole ∙ drop_at old (replicate (len - length old) 0) (length old) refl,
        )

    cut : len < length old → (take (length old) (resize_to old len) ≡ take len old) × (drop (length old) (resize_to old len) ≡ replicate (len - length old) 0)
    cut lt =
        let none : len - length old ≡ 0 = omega (arith, lt) in
        let nothing : replicate (len - length old) 0 ≡ [] = ap (λ (n : ℕ). replicate n 0) none in
        let whole : resize_to old len ≡ take len old = ap (λ (rest : List ℕ). take len old ++ rest) nothing ∙ append-nil (take len old) in
        let few : length (take len old) ≤ length old = (let e : length (take len old) ≡ min len (length old) = length-take len old in omega (arith, e)) in (
          ap (take (length old)) whole ∙ take_all (length old) (take len old) few,
          ap (drop (length old)) whole ∙ (drop_all (length old) (take len old) few ∙ sym nothing),
        )

-- ---- attributes and owners

attributes_there : (world : World) (number : ℕ) (item : Item) → item_at world number ≡ Some item → attributes_of (mark_at (marks_of world) number) ≡ item.attributes
attributes_there world number item there = ap attributes_of (lookup-part mark_of world.rows number ∙ ap (option_map mark_of) there)

rising_there : (world : World) (number : ℕ) (item : Item) → IsWorld world → item_at world number ≡ Some item → IsStrictlySortedBy (slice_cmp nat_cmp) (keys_of item.attributes)
rising_there world number item is there = (is.marks.within number (mark_of item) (lookup-part mark_of world.rows number ∙ ap (option_map mark_of) there)).rising

set_alone : (name value : List ℕ) (old : Attributes) (item : Item) → old ≡ item.attributes → HasValueAfter name (Some value) item (item_with_attributes (with_value old name value) item)
set_alone name value old item same = (
  refl,
  value-put_same old name value,
  λ other apart. value-put_other old name value other apart ∙ ap (λ (attributes : Attributes). value_at attributes other) same,
)

removed_alone : (name : List ℕ) (old : Attributes) (item : Item) → old ≡ item.attributes → IsStrictlySortedBy (slice_cmp nat_cmp) (keys_of item.attributes) → HasValueAfter name None item (item_with_attributes (without_value old name) item)
removed_alone name old item same rising = (
  refl,
  value-gone_same old name (subst (λ (attributes : Attributes). IsStrictlySortedBy (slice_cmp nat_cmp) (keys_of attributes)) (sym same) rising),
  λ other apart. value-gone_other old name other apart ∙ ap (λ (attributes : Attributes). value_at attributes other) same,
)

pub attributes_change_alone : AttributesChangeAlone
attributes_change_alone caller node name world after found is = (
  λ value e.
      let op : Op = Setattr node name value in
      let parts = replied_parts (refusal world op) (reply world op) found (world_after caller world op) after e in
      let h = none_hold (meta_tests (marks_of world) (on_meta.Set node name value)) parts.0 in
      let mark = some_from (mark_at (marks_of world) node.0) h.0 in
      let item = item_from_mark world node.0 mark.0 mark.1 in
      let old : Attributes = attributes_of (mark_at (marks_of world) node.0) in
      revises_one node.0 (item_with_attributes (with_value old name value)) (HasValueAfter name (Some value)) world after parts.1 item.0 item.1
      (set_alone name value old item.0 (attributes_there world node.0 item.0 item.1)),
  λ e.
      let op : Op = Delattr node name in
      let parts = replied_parts (refusal world op) (reply world op) found (world_after caller world op) after e in
      let h = none_hold (meta_tests (marks_of world) (on_meta.Remove node name)) parts.0 in
      let mark = some_from (mark_at (marks_of world) node.0) h.0 in
      let item = item_from_mark world node.0 mark.0 mark.1 in
      let old : Attributes = attributes_of (mark_at (marks_of world) node.0) in
      revises_one node.0 (item_with_attributes (without_value old name)) (HasValueAfter name None) world after parts.1 item.0 item.1
      (removed_alone name old item.0 (attributes_there world node.0 item.0 item.1) (rising_there world node.0 item.0 is item.1)),
)

pub owners_change_alone : OwnersChangeAlone
owners_change_alone caller owner node world after found e =
    let op : Op = Chown node owner in
    let parts = replied_parts (refusal world op) (reply world op) found (world_after caller world op) after e in
    let h = none_hold (meta_tests (marks_of world) (on_meta.Chown node owner)) parts.0 in
    let mark = some_from (mark_at (marks_of world) node.0) h.0 in
    let item = item_from_mark world node.0 mark.0 mark.1 in
    revises_one node.0 (item_with_owner owner) (λ before later. later ≡ item_with_owner owner before) world after parts.1 item.0 item.1 refl
