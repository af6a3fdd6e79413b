-- What the absence of a refusal says, and that each operation leaves a tree a tree.
use Rattle.std.proofs.Common.{◌≡◌, ◌≢◌, ℕ, ◌+◌, ◌-◌, ◌≤◌, max, min, ◌==◌, true, false, Option, Some, None, is_some, is_none, unwrap_or, List, [], ◌∷◌, ◌++◌, length, take, drop, replicate, refl, sym, ap, ◌∙◌, subst, arith, nat_eq, nat_lt, nat_le, length-append, length-drop, length-take}
use Rattle.std.proofs.lemmas.Bool.{cond-true, cond-false, false≢true, ne_eqb, eqb-false, ltb-false, leb-false, not-false, or_parts}
use Rattle.std.proofs.lemmas.List.{length-replicate}
use Rattle.std.proofs.lemmas.Option.{none-some, same_Some}
use Rattle.std.specs.Map.{remove_entry}
use Rattle.bl_syntax.specs.declared.terms.NodeId.{NodeId}
use Rattle.file_world.specs.declared.operation.Kind.{Kind}
use Rattle.file_world.specs.declared.operation.Kind.TheVariants.{File, Directory}
use Rattle.file_world.specs.declared.operation.TreeOp.{TreeOp}
use Rattle.file_world.specs.declared.operation.TreeOp.TheVariants.{Read, Write, Truncate, List as ListOf, Lookup, Create, Mkdir, Unlink, Rename}
use Rattle.file_world.specs.FileNames.{is_node_name}
use Rattle.file_world.specs.Limits.{most_nodes, most_bytes, most_bytes_together, last_number}
use Rattle.file_world.specs.Outcome.{Tests, first_of, NoneHolds}
use Rattle.file_world.specs.Tree.{Place, Node, Nodes, FileTree, node_at, number_at, contents_sum, root, IsTree}
use Rattle.file_world.specs.TreeEffect.{is_directory_kind, is_directory, at, child_of, contents_of, has_names, is_full, is_into_itself, length_after, write_at, resize_to, revise, with_place, tests_of, tree_refusal, tree_after}
use Rattle.file_world.proofs.RowLemmas.{split, cond_at_true, cond_at_false}
use Rattle.file_world.proofs.PlaceLemmas.{Stands, stands_at}
use Rattle.file_world.proofs.TreeLemmas.{CanAdd, CanFill, CanRemove, CanMove, IsTree-add, IsTree-fill, IsTree-remove, IsTree-move}

-- ---- no test holds

pub none_hold : (tests : Tests) → first_of tests ≡ None → NoneHolds tests
none_hold [] e = tt
none_hold (test ∷ tests) e =
    split test.0
    (λ t. absurd (none-some _ (sym (cond_at_true test.0 _ _ _ t e))))
    (λ f. (f, none_hold tests (cond_at_false test.0 _ _ _ f e)))

-- ---- what single tests say

pub some_from : {A : Type 0} (found : Option A) → is_none found ≡ false → (value : A) × (found ≡ Some value)
some_from None e = absurd (false≢true (sym e))
some_from (Some value) e = (value, refl)

pub none_from : {A : Type 0} (found : Option A) → is_some found ≡ false → found ≡ None
none_from None e = refl
none_from (Some value) e = absurd (false≢true (sym e))

kind_from_test : (kind : Kind) → is_directory_kind kind ≡ true → kind ≡ Directory
kind_from_test File e = absurd (false≢true e)
kind_from_test Directory e = refl

kind_from_other : (kind : Kind) → is_directory_kind kind ≡ false → kind ≡ File
kind_from_other File e = refl
kind_from_other Directory e = absurd (false≢true (sym e))

-- a node that is a directory
pub record HoldsNames (rows : Nodes) (number : ℕ) : Type 0 where
  pub node : Node
  pub found : node_at rows number ≡ Some node
  pub kind : node.kind ≡ Directory

pub directory_from : (rows : Nodes) (number : ℕ) → is_directory (node_at rows number) ≡ true → HoldsNames rows number
directory_from rows number e = by (node_at rows number) refl
  where
    by : (found : Option Node) → node_at rows number ≡ found → HoldsNames rows number
    by None h = absurd (false≢true (sym (ap is_directory h) ∙ e))
    by (Some node) h = record { node = node; found = h; kind = kind_from_test node.kind (sym (ap is_directory h) ∙ e) }

pub file_from : (rows : Nodes) (number : ℕ) → is_none (node_at rows number) ≡ false → is_directory (node_at rows number) ≡ false → (node : Node) × (node_at rows number ≡ Some node) × (node.kind ≡ File)
file_from rows number there other =
    let found = some_from (node_at rows number) there in
    (found.0, found.1, kind_from_other found.0.kind (sym (ap is_directory found.1) ∙ other))

pub child-in_directory : (rows : Nodes) (directory : ℕ) (name : List ℕ) → is_directory (node_at rows directory) ≡ true → child_of rows directory name ≡ number_at rows (at directory name)
child-in_directory rows directory name e = cond-true (is_directory (node_at rows directory)) _ _ e

childless_from : (rows : Nodes) (number : ℕ) → has_names rows number ≡ false → (other : ℕ) (child : Node) → node_at rows other ≡ Some child → child.place.directory ≢ number
childless_from [] number none other child e = absurd (none-some _ e)
childless_from (row ∷ rows) number none other child e =
    let parts = or_parts (row.1.place.directory == number) (has_names rows number) none in
    split (nat_eq other row.0)
    (λ t. let same : row.1 ≡ child = same_Some _ _ (cond_at_true (nat_eq other row.0) _ _ _ t e) in
    λ h. eqb-false row.1.place.directory number parts.0 (ap (λ (n : Node). n.place.directory) same ∙ h))
    (λ f. childless_from rows number parts.1 other child (cond_at_false (nat_eq other row.0) _ _ _ f e))

-- ---- lengths

pub length-written : (old : List ℕ) (offset byte : ℕ) (bytes : List ℕ) → length (write_at old offset (byte ∷ bytes)) ≡ max (length old) (offset + length (byte ∷ bytes))
length-written old offset byte bytes =
    let more : List ℕ = byte ∷ bytes in
    let a = length-append (take offset old ++ replicate (offset - length old) 0 ++ more) (drop (offset + length more) old) in
    let b = length-append (take offset old ++ replicate (offset - length old) 0) more in
    let c = length-append (take offset old) (replicate (offset - length old) 0) in
    let d = length-drop (offset + length more) old in
    let e = length-replicate {A = ℕ} (offset - length old) 0 in
    let f : length (take offset old) ≡ min offset (length old) = length-take offset old in
    omega (arith, a, b, c, d, e, f)

-- the length after a write is as the test computes it
pub length-written_any : (old : List ℕ) (offset : ℕ) (bytes : List ℕ) → length (write_at old offset bytes) ≡ length_after (length old) offset (length bytes)
length-written_any old offset [] = sym (cond-true (length {A = ℕ} [] == 0) (length old) (max (length old) (offset + length {A = ℕ} [])) refl)
length-written_any old offset (byte ∷ bytes) =
    length-written old offset byte bytes ∙ sym (cond-false (length (byte ∷ bytes) == 0) (length old) (max (length old) (offset + length (byte ∷ bytes))) (ne_eqb (length (byte ∷ bytes)) 0 (λ h. omega (arith, h))))

pub length-resized : (old : List ℕ) (len : ℕ) → length (resize_to old len) ≡ len
length-resized old len =
    let a = length-append (take len old) (replicate (len - length old) 0) in
    let e = length-replicate {A = ℕ} (len - length old) 0 in
    let f : length (take len old) ≡ min len (length old) = length-take len old in
    omega (arith, a, e, f)

pub length-written_le : (old : List ℕ) (offset : ℕ) (bytes : List ℕ) (most : ℕ) → length old ≤ most → offset + length bytes ≤ most → length (write_at old offset bytes) ≤ most
length-written_le old offset [] most a b = a
length-written_le old offset (byte ∷ bytes) most a b = omega (arith, length-written old offset byte bytes, a, b)

-- ---- what each operation may do

-- the root stands at no place that a name reaches
not_root_at : (tree : FileTree) (number directory : ℕ) (name : List ℕ) → IsTree tree → HoldsNames tree.rows directory → Stands tree.rows number (at directory name) → number ≢ 1
not_root_at tree number directory name is holds stands same =
    let root_is : root ≡ stands.node = same_Some _ _ (sym is.has_root ∙ (ap (node_at tree.rows) (sym same) ∙ stands.found)) in
    let zero_is : 0 ≡ directory = ap (λ (n : Node). n.place.directory) root_is ∙ ap (λ (p : Place). p.directory) stands.there in
    let above : 1 ≤ directory = (is.sound directory holds.node holds.found).above_zero in
    omega (arith, zero_is, above)

pub can_add : (tree : FileTree) (directory : ℕ) (name : List ℕ) → IsTree tree → is_directory (node_at tree.rows directory) ≡ true → is_node_name name ≡ true → is_some (child_of tree.rows directory name) ≡ false → is_full tree ≡ false → CanAdd tree (at directory name)
can_add tree directory name is holds named absent room =
    let found = directory_from tree.rows directory holds in
    let parts = or_parts (nat_le most_nodes (length tree.rows)) (tree.next == last_number) room in
    record {
      directory = found.node;
      held = found.found;
      is_directory = found.kind;
      named = named;
      free = sym (child-in_directory tree.rows directory name holds) ∙ none_from (child_of tree.rows directory name) absent;
      few = leb-false most_nodes (length tree.rows) parts.0;
      next_left = (let apart = eqb-false tree.next last_number parts.1 in let fits = is.next_fits in omega (arith, apart, fits));
    }

pub can_fill : (tree : FileTree) (number : ℕ) (contents : List ℕ) → is_none (node_at tree.rows number) ≡ false → is_directory (node_at tree.rows number) ≡ false → length contents ≤ most_bytes → nat_lt most_bytes_together (contents_sum tree.rows - length (contents_of (node_at tree.rows number)) + length contents) ≡ false → CanFill tree number contents
can_fill tree number contents there other small fits =
    let found = file_from tree.rows number there other in
    record {
      node = found.0;
      found = found.1;
      is_file = found.2;
      small = small;
      fits = subst (λ (node : Option Node). contents_sum tree.rows - length (contents_of node) + length contents ≤ most_bytes_together) found.1 (ltb-false most_bytes_together (contents_sum tree.rows - length (contents_of (node_at tree.rows number)) + length contents) fits);
    }

-- the child that a name stands for
pub record Named (tree : FileTree) (directory : ℕ) (name : List ℕ) : Type 0 where
  pub holds : HoldsNames tree.rows directory
  pub child : ℕ
  pub is_child : child_of tree.rows directory name ≡ Some child
  pub stands : Stands tree.rows child (at directory name)
  pub not_root : child ≢ 1

pub named_child : (tree : FileTree) (directory : ℕ) (name : List ℕ) → IsTree tree → is_directory (node_at tree.rows directory) ≡ true → is_none (child_of tree.rows directory name) ≡ false → Named tree directory name
named_child tree directory name is holds there =
    let found = some_from (child_of tree.rows directory name) there in
    let held = directory_from tree.rows directory holds in
    let stands = stands_at (at directory name) found.0 tree.rows is.rising (sym (child-in_directory tree.rows directory name holds) ∙ found.1) in
    record { holds = held; child = found.0; is_child = found.1; stands = stands; not_root = not_root_at tree found.0 directory name is held stands }

pub can_remove : (tree : FileTree) (directory : ℕ) (name : List ℕ) (child : Named tree directory name) → has_names tree.rows (unwrap_or (child_of tree.rows directory name) 0) ≡ false → CanRemove tree child.child
can_remove tree directory name child none =
    record {
      node = child.stands.node;
      found = child.stands.found;
      not_root = child.not_root;
      childless = childless_from tree.rows child.child (ap (λ (n : Option ℕ). has_names tree.rows (unwrap_or n 0)) (sym child.is_child) ∙ none);
    }

pub can_move : (tree : FileTree) (directory : ℕ) (name : List ℕ) (child : Named tree directory name) (target : ℕ) (renamed : List ℕ) → is_directory (node_at tree.rows target) ≡ true → is_node_name renamed ≡ true → is_into_itself tree.rows (unwrap_or (child_of tree.rows directory name) 0) target ≡ false → is_some (child_of tree.rows target renamed) ≡ false → CanMove tree child.child (at target renamed)
can_move tree directory name child target renamed holds named apart absent =
    let found = directory_from tree.rows target holds in
    record {
      node = child.stands.node;
      found = child.stands.found;
      not_root = child.not_root;
      directory = found.node;
      held = found.found;
      is_directory = found.kind;
      named = named;
      free = sym (child-in_directory tree.rows target renamed holds) ∙ none_from (child_of tree.rows target renamed) absent;
      steps = length tree.rows;
      past = not-false _ (ap (λ (n : Option ℕ). is_into_itself tree.rows (unwrap_or n 0) target) (sym child.is_child) ∙ apart);
    }

-- ---- each operation leaves a tree a tree

small_before : (tree : FileTree) (number : ℕ) → IsTree tree → length (contents_of (node_at tree.rows number)) ≤ most_bytes
small_before tree number is = by (node_at tree.rows number) refl
  where
    by : (found : Option Node) → node_at tree.rows number ≡ found → length (contents_of (node_at tree.rows number)) ≤ most_bytes
    by None h = subst (λ (node : Option Node). length (contents_of node) ≤ most_bytes) (sym h) (omega arith)
    by (Some node) h = subst (λ (n : Option Node). length (contents_of n) ≤ most_bytes) (sym h) (is.sound number node h).small

pub can_write : (tree : FileTree) (file : NodeId) (offset : ℕ) (bytes : List ℕ) → IsTree tree → tree_refusal tree (Write file offset bytes) ≡ None → CanFill tree file.0 (write_at (contents_of (node_at tree.rows file.0)) offset bytes)
can_write tree file offset bytes is none =
    let h = none_hold (tests_of tree (Write file offset bytes)) none in
    let contents = write_at (contents_of (node_at tree.rows file.0)) offset bytes in
    can_fill tree file.0 contents h.0 h.1.0 (length-written_le (contents_of (node_at tree.rows file.0)) offset bytes most_bytes (small_before tree file.0 is) (ltb-false most_bytes (offset + length bytes) h.1.1.0))
    (ap (λ (len : ℕ). nat_lt most_bytes_together (contents_sum tree.rows - length (contents_of (node_at tree.rows file.0)) + len)) (length-written_any (contents_of (node_at tree.rows file.0)) offset bytes) ∙ h.1.1.1.0)

pub can_truncate : (tree : FileTree) (file : NodeId) (len : ℕ) → IsTree tree → tree_refusal tree (Truncate file len) ≡ None → CanFill tree file.0 (resize_to (contents_of (node_at tree.rows file.0)) len)
can_truncate tree file len is none =
    let h = none_hold (tests_of tree (Truncate file len)) none in
    let old = contents_of (node_at tree.rows file.0) in
    can_fill tree file.0 (resize_to old len) h.0 h.1.0 (let e = length-resized old len in let small = ltb-false most_bytes len h.1.1.0 in omega (arith, e, small))
    (ap (λ (l : ℕ). nat_lt most_bytes_together (contents_sum tree.rows - length old + l)) (length-resized old len) ∙ h.1.1.1.0)

pub IsTree-after : (tree : FileTree) (op : TreeOp) → IsTree tree → tree_refusal tree op ≡ None → IsTree (tree_after tree op)
IsTree-after tree (Read file offset len) is none = is
IsTree-after tree (Write file offset bytes) is none = IsTree-fill tree file.0 (write_at (contents_of (node_at tree.rows file.0)) offset bytes) is (can_write tree file offset bytes is none)
IsTree-after tree (Truncate file len) is none = IsTree-fill tree file.0 (resize_to (contents_of (node_at tree.rows file.0)) len) is (can_truncate tree file len is none)
IsTree-after tree (ListOf directory) is none = is
IsTree-after tree (Lookup directory name) is none = is
IsTree-after tree (Create directory name) is none =
    let h = none_hold (tests_of tree (Create directory name)) none in
    IsTree-add tree File (at directory.0 name) is (can_add tree directory.0 name is (not-false _ h.1.0) (not-false _ h.1.1.0) h.1.1.1.0 h.1.1.1.1.0)
IsTree-after tree (Mkdir directory name) is none =
    let h = none_hold (tests_of tree (Mkdir directory name)) none in
    IsTree-add tree Directory (at directory.0 name) is (can_add tree directory.0 name is (not-false _ h.1.0) (not-false _ h.1.1.0) h.1.1.1.0 h.1.1.1.1.0)
IsTree-after tree (Unlink directory name) is none =
    let h = none_hold (tests_of tree (Unlink directory name)) none in
    let child = named_child tree directory.0 name is (not-false _ h.1.0) h.1.1.1.0 in
    subst (λ (n : Option ℕ). IsTree (record { rows = remove_entry (nat_eq (unwrap_or n 0)) tree.rows; next = tree.next })) (sym child.is_child)
    (IsTree-remove tree child.child is (can_remove tree directory.0 name child h.1.1.1.1.0))
IsTree-after tree (Rename directory name target renamed) is none =
    let h = none_hold (tests_of tree (Rename directory name target renamed)) none in
    let child = named_child tree directory.0 name is (not-false _ h.1.0) h.1.1.1.1.1.1.0 in
    subst (λ (n : Option ℕ). IsTree (record { rows = revise (unwrap_or n 0) (with_place (at target.0 renamed)) tree.rows; next = tree.next })) (sym child.is_child)
    (IsTree-move tree child.child (at target.0 renamed) is (can_move tree directory.0 name child target.0 renamed (not-false _ h.1.1.1.1.0) (not-false _ h.1.1.1.1.1.0) h.1.1.1.1.1.1.1.0 h.1.1.1.1.1.1.1.1.0))
