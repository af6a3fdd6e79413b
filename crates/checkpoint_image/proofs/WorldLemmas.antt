-- The nodes of a world within its limits have a spelling.
use Rattle.std.proofs.Common.{◌≡◌, ℕ, ◌<◌, ◌^◌, false, Option, Some, option_map, List, [], ◌∷◌, map, refl, sym, ap, ◌∙◌, subst, arith, nat_eq, nat_cmp}
use Rattle.std.specs.Prelude.{IsTrue}
use Rattle.std.specs.List.{AllByRecursion}
use Rattle.std.specs.List.Sorted.{IsStrictlySortedBy}
use Rattle.std.specs.Map.{lookup, keys_of}
use Rattle.std.proofs.lemmas.Bool.{eq-eqb, eqb-true, ne_eqb, false≢true}
use Rattle.std.proofs.lemmas.List.{length-map}
use Rattle.std.proofs.lemmas.Option.{same_Some}
use Rattle.file_world.specs.FileNames.{is_node_name}
use Rattle.file_world.specs.Limits.{root_number}
use Rattle.file_world.specs.Tree.{root, Node, node_at, ReachesRoot, at_root, below}
use Rattle.file_world.specs.Attributes.{mark_at}
use Rattle.file_world.specs.World.{Item, World, node_of, mark_of, tree_of, marks_of, IsWorld}
use Rattle.file_world.proofs.RowLemmas.{split, lookup_here, lookup_later, AreRising, rising_head, rising_tail, above_found}
use Rattle.file_world.proofs.HalvesLemmas.{lookup-part}
use Rattle.node_rows.specs.Names.{is_name_or_none}
use Rattle.checkpoint_image.specs.NodeSpelling.{IsSpellableNode, AreSpellableNodes}

-- what holds of each value that is found under a number holds of each row
all_found : {V : Type 0} (P : ℕ × V → Type 0) (rows : List (ℕ × V)) → AreRising rows → ((number : ℕ) (value : V) → lookup (nat_eq number) rows ≡ Some value → P (number, value)) → AllByRecursion P rows
all_found P [] rising h = tt
all_found {V} P (row ∷ rows) rising h =
    let later : (number : ℕ) (value : V) → lookup (nat_eq number) rows ≡ Some value → P (number, value) = λ number value e.
    let above = above_found row.0 number value rows (rising_head row rows rising) e in
    h number value (lookup_later (nat_eq number) row rows (ne_eqb number row.0 (λ same. omega (arith, same, above))) ∙ e) in
    (h row.0 row.1 (lookup_here (nat_eq row.0) row rows (eq-eqb row.0 row.0 refl)), all_found P rows (rising_tail row rows rising) later)

keys-part : {V W : Type 0} (read : V → W) (rows : List (ℕ × V)) → keys_of (map (λ row. (row.0, read row.1)) rows) ≡ keys_of rows
keys-part read [] = refl
keys-part read (row ∷ rows) = ap (λ (keys : List ℕ). row.0 ∷ keys) (keys-part read rows)

node_found : (world : World) (number : ℕ) (item : Item) → lookup (nat_eq number) world.rows ≡ Some item → node_at (tree_of world).rows number ≡ Some (node_of item)
node_found world number item e = lookup-part node_of world.rows number ∙ ap (λ (found : Option Item). option_map node_of found) e

mark_found : (world : World) (number : ℕ) (item : Item) → lookup (nat_eq number) world.rows ≡ Some item → mark_at (marks_of world) number ≡ Some (mark_of item)
mark_found world number item e = lookup-part mark_of world.rows number ∙ ap (λ (found : Option Item). option_map mark_of found) e

-- a node's directory is none, or another node
directory_fits : (world : World) → IsWorld world → (number : ℕ) (node : Node) → ReachesRoot (tree_of world).rows number → node_at (tree_of world).rows number ≡ Some node → node.place.directory < 2 ^ 64
directory_fits world is number node at_root e =
    let same : node.place.directory ≡ 0 = ap (λ (n : Node). n.place.directory) (same_Some _ _ (sym e ∙ is.tree.has_root)) in
    omega (arith, same)
directory_fits world is number node (below _ found there directory held kind up) e =
    let same : node.place.directory ≡ found.place.directory = ap (λ (n : Node). n.place.directory) (same_Some _ _ (sym e ∙ there)) in
    omega (arith, same, (is.tree.sound found.place.directory directory held).below_next, is.tree.next_fits)

-- a node has a name, but for the root
name_fits : (world : World) → IsWorld world → (number : ℕ) (node : Node) → node_at (tree_of world).rows number ≡ Some node → IsTrue (is_name_or_none node.place.name)
name_fits world is number node e =
    split (nat_eq number root_number)
    (λ t. let first : node_at (tree_of world).rows number ≡ Some root = ap (node_at (tree_of world).rows) (eqb-true number root_number t) ∙ is.tree.has_root in
    let same : node.place.name ≡ [] = ap (λ (n : Node). n.place.name) (same_Some _ _ (sym e ∙ first)) in
    subst (λ (name : List ℕ). IsTrue (is_name_or_none name)) (sym same) refl)
    (λ f. named node.place.name ((is.tree.sound number node e).named (λ same. different same f)))
  where
    named : (name : List ℕ) → IsTrue (is_node_name name) → IsTrue (is_name_or_none name)
    named [] h = refl
    named (byte ∷ bytes) h = h

    different : number ≡ root_number → nat_eq number root_number ≡ false → ⊥
    different same f = false≢true (sym f ∙ eq-eqb number root_number same)

node_spelled : (world : World) → IsWorld world → (number : ℕ) (item : Item) → lookup (nat_eq number) world.rows ≡ Some item → IsSpellableNode (number, item)
node_spelled world is number item e =
    let node = node_found world number item e in
    let sound = is.tree.sound number (node_of item) node in
    let mark = is.marks.within number (mark_of item) (mark_found world number item e) in
    record {
      above_zero = omega (arith, sound.above_zero);
      number = omega (arith, sound.below_next, is.tree.next_fits);
      owner = mark.owned;
      directory = directory_fits world is number (node_of item) sound.reached node;
      name = name_fits world is number (node_of item) node;
      attributes = record { few = omega (arith, mark.few); named = mark.named; texts = mark.texts; rising = mark.rising };
      contents = omega (arith, sound.small);
    }

pub worlds_have_images : (world : World) → IsWorld world → AreSpellableNodes world.rows
worlds_have_images world is =
    let tree_row : ℕ × Item → ℕ × Node = λ row. (row.0, node_of row.1) in
    let rising : IsStrictlySortedBy nat_cmp (keys_of world.rows) = subst (IsStrictlySortedBy nat_cmp) (keys-part node_of world.rows) is.tree.rising in
    record {
      few = omega (arith, is.tree.few, length-map world.rows tree_row);
      each = all_found IsSpellableNode world.rows rising (node_spelled world is);
      rising = rising;
    }
