-- What an operation returns over a world within its limits stands on one line.
use Rattle.std.proofs.Common.{◌≡◌, ◌≢◌, ◌<◌, ℕ, Bool, true, false, cond, IsTrue, List, [], ◌∷◌, Option, Some, None, refl, sym, ◌∙◌, ap, subst, nat_eq, nat_cmp, arith}
use Rattle.std.specs.Prelude.{unwrap_or, if◌then◌else◌, ◌==◌}
use Rattle.std.specs.List.{AllByRecursion}
use Rattle.std.specs.Map.{lookup}
use Rattle.std.specs.Ordering.{is_lt}
use Rattle.std.specs.Cmp.Lexicographic.{slice_cmp}
use Rattle.std.specs.Str.{bytes_eq}
use Rattle.std.proofs.lemmas.Bool.{false≢true, eq-eqb, eqb-true, ne_eqb}
use Rattle.std.proofs.lemmas.Option.{same_Some}
use Rattle.bl_syntax.specs.Names.{is_text}
use Rattle.file_world.specs.declared.operation.TreeOp.{TreeOp}
use Rattle.file_world.specs.declared.operation.TreeOp.TheVariants as on_tree
use Rattle.file_world.specs.declared.operation.MetaOp.{MetaOp}
use Rattle.file_world.specs.declared.operation.MetaOp.TheVariants as on_meta
use Rattle.file_world.specs.declared.operation.Op.{Op}
use Rattle.file_world.specs.declared.reply.NamedNode.{NamedNode}
use Rattle.file_world.specs.Attributes.{Attributes, Mark, Marks, AreMarks, mark_at, value_at}
use Rattle.file_world.specs.AttributeEffect.{attributes_of, meta_reply}
use Rattle.file_world.specs.Effect.{Part, tree_part, meta_part, part_of, reply_in, reply}
use Rattle.file_world.specs.Limits.{root_number}
use Rattle.file_world.specs.Tree.{Node, Nodes, FileTree, node_at, root, IsTree}
use Rattle.file_world.specs.TreeEffect.{insert_name, names_in, tree_reply}
use Rattle.file_world.specs.World.{World, IsWorld, tree_of, marks_of}
use Rattle.file_world.proofs.RowLemmas.{split, lookup_here, lookup_later, AreRising, above_found, rising_head, rising_tail}
use Rattle.line_wire.specs.Unbroken.{IsUnbroken, IsUnbrokenNode, IsUnbrokenTree, IsUnbrokenAttribute, IsUnbrokenOperation}
use Rattle.reply_laws.proofs.GrammarLemmas.{text_unbroken, node_name_unbroken}

-- ---- rows

-- what holds of what is found under each number holds of each row, if the numbers rise
rows_found : {V : Type 0} (P : V → Type 0) (rows : List (ℕ × V)) → AreRising rows → ((number : ℕ) (value : V) → lookup (nat_eq number) rows ≡ Some value → P value) → AllByRecursion (λ (row : ℕ × V). P row.1) rows
rows_found P [] rising each = tt
rows_found {V} P (row ∷ rows) rising each = (
  each row.0 row.1 (lookup_here (nat_eq row.0) row rows (eq-eqb row.0 row.0 refl)),
  rows_found P rows (rising_tail row rows rising) (λ number value found.
      let above : row.0 < number = above_found row.0 number value rows (rising_head row rows rising) found in
      let other : number ≡ row.0 → ⊥ = λ same. omega (arith, above, same) in
      each number value (lookup_later (nat_eq number) row rows (ne_eqb number row.0 other) ∙ found)),
)

-- ---- names in a directory

-- the name of a node: the root has none, and each other one is in the grammar
name_unbroken : (tree : FileTree) → IsTree tree → (number : ℕ) (node : Node) → node_at tree.rows number ≡ Some node → IsUnbroken node.place.name
name_unbroken tree is number node found =
    split (nat_eq number root_number)
    (λ here. let same : root ≡ node = same_Some root node (sym is.has_root ∙ (ap (λ (n : ℕ). node_at tree.rows n) (sym (eqb-true number root_number here)) ∙ found)) in
    subst (λ (n : Node). IsUnbroken n.place.name) same refl)
    (λ other. node_name_unbroken node.place.name ((is.sound number node found).named (λ same. false≢true (sym other ∙ eq-eqb number root_number same))))

one_list : {A : Type 0} (P : A → Type 0) (test : Bool) (xs ys : List A) → AllByRecursion P xs → AllByRecursion P ys → AllByRecursion P (if test then xs else ys)
one_list P true xs ys h k = h
one_list P false xs ys h k = k

entered_unbroken : (named : NamedNode) (names : List NamedNode) → IsUnbrokenNode named → AllByRecursion IsUnbrokenNode names → AllByRecursion IsUnbrokenNode (insert_name named names)
entered_unbroken named [] h k = (h, tt)
entered_unbroken named (first ∷ others) h k =
    one_list IsUnbrokenNode (is_lt (slice_cmp nat_cmp named.name first.name)) (named ∷ first ∷ others) (first ∷ insert_name named others) (h, k) (k.0, entered_unbroken named others h k.1)

listed_unbroken : (rows : Nodes) (directory : ℕ) → AllByRecursion (λ (row : ℕ × Node). IsUnbroken row.1.place.name) rows → AllByRecursion IsUnbrokenNode (names_in rows directory)
listed_unbroken [] directory h = tt
listed_unbroken (row ∷ rows) directory h =
    let named : NamedNode = record { name = row.1.place.name; node = record { 0 = row.0 } } in
    one_list IsUnbrokenNode (row.1.place.directory == directory) (insert_name named (names_in rows directory)) (names_in rows directory)
    (entered_unbroken named (names_in rows directory) h.0 (listed_unbroken rows directory h.1)) (listed_unbroken rows directory h.1)

tree_unbroken : (tree : FileTree) (op : TreeOp) → IsTree tree → IsUnbrokenTree (tree_reply tree op)
tree_unbroken tree (on_tree.Read file offset len) is = tt
tree_unbroken tree (on_tree.Write file offset bytes) is = tt
tree_unbroken tree (on_tree.Truncate file len) is = tt
tree_unbroken tree (on_tree.List directory) is = listed_unbroken tree.rows directory.0 (rows_found (λ (node : Node). IsUnbroken node.place.name) tree.rows is.rising (name_unbroken tree is))
tree_unbroken tree (on_tree.Lookup directory name) is = tt
tree_unbroken tree (on_tree.Create directory name) is = tt
tree_unbroken tree (on_tree.Mkdir directory name) is = tt
tree_unbroken tree (on_tree.Unlink directory name) is = tt
tree_unbroken tree (on_tree.Rename directory name target renamed) is = tt

-- ---- values of attributes

-- the value that is found first, or another
found_unbroken : (test : Bool) (value : List ℕ) (others : Option (List ℕ)) → IsUnbroken value → IsUnbroken (unwrap_or others []) → IsUnbroken (unwrap_or (cond test (Some value) others) [])
found_unbroken true value others h k = h
found_unbroken false value others h k = k

-- what is found among texts is one, or nothing is
value_unbroken : (attributes : Attributes) (name : List ℕ) → AllByRecursion (λ (attribute : List ℕ × List ℕ). IsTrue (is_text attribute.1)) attributes → IsUnbroken (unwrap_or (value_at attributes name) [])
value_unbroken [] name h = refl
value_unbroken (attribute ∷ attributes) name h =
    found_unbroken (bytes_eq name attribute.0) attribute.1 (value_at attributes name) (text_unbroken attribute.1 h.0) (value_unbroken attributes name h.1)

-- the attributes of a node that is there, or none
kept_unbroken : (marks : Marks) (number : ℕ) (name : List ℕ) (found : Option Mark) → AreMarks marks → mark_at marks number ≡ found → IsUnbroken (unwrap_or (value_at (attributes_of found) name) [])
kept_unbroken marks number name None are found = refl
kept_unbroken marks number name (Some mark) are found = value_unbroken mark.attributes name (are.within number mark found).texts

meta_unbroken : (marks : Marks) (op : MetaOp) → AreMarks marks → IsUnbrokenAttribute (meta_reply marks op)
meta_unbroken marks (on_meta.Get node name) are = kept_unbroken marks node.0 name (mark_at marks node.0) are refl
meta_unbroken marks (on_meta.Set node name value) are = tt
meta_unbroken marks (on_meta.Remove node name) are = tt
meta_unbroken marks (on_meta.Chown node owner) are = tt
meta_unbroken marks (on_meta.Add node owner parent) are = tt
meta_unbroken marks (on_meta.Drop node) are = tt
meta_unbroken marks (on_meta.Move node parent) are = tt

-- ---- operations

part_unbroken : (world : World) (part : Part) → IsWorld world → IsUnbrokenOperation (reply_in world part)
part_unbroken world (tree_part op) is = tree_unbroken (tree_of world) op is.tree
part_unbroken world (meta_part op) is = meta_unbroken (marks_of world) op is.marks

pub reply_unbroken : (world : World) (op : Op) → IsWorld world → IsUnbrokenOperation (reply world op)
reply_unbroken world op is = part_unbroken world (part_of op) is
