-- What the tree is after each operation's change, from what was ready.
use Rattle.std.proofs.Common.{◌≡◌, ℕ, ◌+◌, ◌-◌, ◌≤◌, inl, inr, false, IsSome, is_some, Option, Some, None, unwrap_or, List, [], ◌∷◌, ◌++◌, length, take, sym, ap, ◌∙◌, subst, arith, nat_eq}
use Rattle.std.proofs.lemmas.Bool.{cond-true, cond-false, false≢true, not-false, ltb-false, cases_eq, false_from_ne_true}
use Rattle.std.proofs.lemmas.Option.{same_Some}
use Rattle.std.proofs.lemmas.List.Sums.{sum_by_push}
use Rattle.bl_syntax.specs.declared.terms.NodeId.{NodeId}
use Rattle.file_world.specs.declared.operation.Kind.{Kind}
use Rattle.file_world.specs.declared.operation.Kind.TheVariants.{File, Directory}
use Rattle.file_world.specs.declared.operation.TreeOp.{TreeOp}
use Rattle.file_world.specs.declared.operation.TreeOp.TheVariants.{Write, Truncate, Create, Mkdir, Unlink, Rename}
use Rattle.file_world.specs.Limits.{most_bytes, most_bytes_together}
use Rattle.file_world.specs.Tree.{Place, Node, Nodes, FileTree, node_at, is_place, contents_sum, IsTree}
use Rattle.file_world.specs.TreeEffect.{at, child_of, contents_of, new_node, with_place, write_at, resize_to, revise, tests_of, tree_after, changed_tree, add, fill, remove, move}
use Rattle.file_world.proofs.RowLemmas.{split, lookup-append_found, sum_by-revised}
use Rattle.file_world.proofs.PlaceLemmas.{is_place-true, is_place-refl}
use Rattle.file_world.proofs.TreeLemmas.{CanAdd, CanFill, CanRemove, CanMove, IsTree-add, IsTree-fill, IsTree-remove, IsTree-move}
use Rattle.file_world.proofs.EffectLemmas.{none_hold, directory_from, can_add, named_child, can_remove, can_move, can_write, can_truncate, length-resized}
use Rattle.file_tree.specs.declared.ready.Ready.{Ready}
use Rattle.file_tree.specs.declared.ready.Ready.TheVariants.{Contents, Made, Gone, Moved}
use Rattle.file_tree.specs.State.{spot, child_or_none}
use Rattle.file_tree.specs.Index.{Entries, node_shown, rows_of, kept_at, reserved_at, spot_place, published_nodes, expected_number, tree_in, HasContentsRoom, IsTreeIndex, Puts, Fills, Removes, Relocates, IsChangeable, Changes, number_ready}
use Rattle.file_tree.proofs.IndexLemmas.{rows-append, take-append_one}
use Rattle.file_tree.proofs.KeptLemmas.{some_kept, IsKept-from, short_name}
use Rattle.file_tree.proofs.ChildLemmas.{child-added_here, child-added_elsewhere, child-filled, child-removed_within, child-removed_here, child-removed_elsewhere, child-moved_here, child-moved_from, child-moved_elsewhere}

-- ---- a node that is made

-- what the making of a node asks, and that the tree can have it
pub record IsMakable (old : Entries) (next : ℕ) (kind : Kind) (directory : ℕ) (name : List ℕ) : Type 0 where
  pub kept : IsTreeIndex old next (Some (Made kind (spot directory name)))
  pub can : CanAdd (tree_in (Some (Made kind (spot directory name))) old next) (at directory name)
  pub short : length name ≤ 64
  pub holds : IsSome (kept_at old directory)
  pub held : IsSome (reserved_at old directory name)

makable : (old : Entries) (next : ℕ) (kind : Kind) (directory : ℕ) (name : List ℕ) → IsTreeIndex old next (Some (Made kind (spot directory name))) → CanAdd (tree_in (Some (Made kind (spot directory name))) old next) (at directory name) → IsMakable old next kind directory name
makable old next kind directory name kept can =
    let last = kept.prepared in
    let settled_is : take (length old - 1) old ≡ last.before = ap (λ (es : Entries). take (length es - 1) es) last.last ∙ take-append_one last.before (next, last.kept) in
    let more : Nodes = (next, node_shown last.kept) ∷ [] in
    let found : node_at (rows_of old) directory ≡ Some can.directory =
    ap (λ (es : Entries). node_at (rows_of es) directory) last.last
    ∙ (ap (λ (r : Nodes). node_at r directory) (rows-append last.before next last.kept)
    ∙ lookup-append_found (nat_eq directory) (rows_of last.before) more can.directory (ap (λ (es : Entries). node_at (rows_of es) directory) (sym settled_is) ∙ can.held)) in
    record {
      kept = kept;
      can = can;
      short = short_name name can.named;
      holds = some_kept old directory can.directory found;
      held = ap is_some (kept.index directory name ∙ cond-true (is_place (spot_place (spot directory name)) (at directory name)) _ _ (is_place-refl (at directory name)));
    }

pub made_file : (old : Entries) (next : ℕ) (directory : NodeId) (name : List ℕ) → IsChangeable old next (Made File (spot directory.0 name)) (Create directory name) → IsMakable old next File directory.0 name
made_file old next directory name is =
    let tree = tree_in (Some (Made File (spot directory.0 name))) old next in
    let h = none_hold (tests_of tree (Create directory name)) is.free in
    makable old next File directory.0 name is.kept (can_add tree directory.0 name is.kept.tree (not-false _ h.1.0) (not-false _ h.1.1.0) h.1.1.1.0 h.1.1.1.1.0)

pub made_directory : (old : Entries) (next : ℕ) (directory : NodeId) (name : List ℕ) → IsChangeable old next (Made Directory (spot directory.0 name)) (Mkdir directory name) → IsMakable old next Directory directory.0 name
made_directory old next directory name is =
    let tree = tree_in (Some (Made Directory (spot directory.0 name))) old next in
    let h = none_hold (tests_of tree (Mkdir directory name)) is.free in
    makable old next Directory directory.0 name is.kept (can_add tree directory.0 name is.kept.tree (not-false _ h.1.0) (not-false _ h.1.1.0) h.1.1.1.0 h.1.1.1.1.0)

-- the changed tree is kept, and the sum of all contents is right
changes-from : (new : Entries) (tree : FileTree) (total : ℕ) → IsTree tree → rows_of new ≡ tree.rows → ((directory : ℕ) (name : List ℕ) → reserved_at new directory name ≡ child_of tree.rows directory name) → total ≡ contents_sum (rows_of new) → Changes new tree.next total tree
changes-from new tree total is rows held sum =
    record { kept = IsKept-from new tree is rows held; tree = ap (λ (r : Nodes). record { rows = r; next = tree.next }) rows; summed = sum }

pub Changes-made : (old new : Entries) (next total : ℕ) (kind : Kind) (directory : ℕ) (name : List ℕ) → IsMakable old next kind directory name → Puts old new (at directory name) (Some next) → total ≡ contents_sum (rows_of (published_nodes (Some (Made kind (spot directory name))) old)) → Changes new (next + 1) total (changed_tree (add kind (at directory name)) (tree_in (Some (Made kind (spot directory name))) old next))
Changes-made old new next total kind directory name is puts sum =
    let place : Place = at directory name in
    let tree = tree_in (Some (Made kind (spot directory name))) old next in
    let last = is.kept.prepared in
    let settled_is : take (length old - 1) old ≡ last.before = ap (λ (es : Entries). take (length es - 1) es) last.last ∙ take-append_one last.before (next, last.kept) in
    let rows : rows_of new ≡ tree.rows ++ (next, new_node kind place) ∷ [] =
    puts.same_rows
    ∙ (ap rows_of last.last
    ∙ (rows-append last.before next last.kept
    ∙ (ap (λ (n : Node). rows_of last.before ++ (next, n) ∷ []) last.new
    ∙ ap (λ (es : Entries). rows_of es ++ (next, new_node kind place) ∷ []) (sym settled_is)))) in
    changes-from new (changed_tree (add kind place) tree) total (IsTree-add tree kind place is.kept.tree is.can) rows
    (λ d x.
    split (is_place place (at d x))
    (λ t. let e = is_place-true place (at d x) t in
    ap (λ (p : Place). reserved_at new p.directory p.name) (sym e)
    ∙ (puts.here ∙ (sym (child-added_here tree kind place is.kept.tree is.can) ∙ ap (λ (p : Place). child_of (changed_tree (add kind place) tree).rows p.directory p.name) e)))
    (λ f. puts.elsewhere d x f
    ∙ (is.kept.index d x
    ∙ (cond-false (is_place (spot_place (spot directory name)) (at d x)) _ _ f
    ∙ sym (child-added_elsewhere tree kind place is.kept.tree is.can d x f)))))
    (sum ∙ (sym (sum_with_new tree.rows next kind place) ∙ ap contents_sum (sym rows)))
  where
    sum_with_new : (rs : Nodes) (n : ℕ) (k : Kind) (p : Place) → contents_sum (rs ++ (n, new_node k p) ∷ []) ≡ contents_sum rs
    sum_with_new rs n k p = let e : contents_sum (rs ++ (n, new_node k p) ∷ []) ≡ contents_sum rs + 0 = sum_by_push (λ row. length row.1.contents) rs (n, new_node k p) in omega (arith, e)

-- ---- contents that change

pub record IsFillable (old : Entries) (next number : ℕ) (contents : List ℕ) : Type 0 where
  pub kept : IsTree (tree_in None old next)
  pub index : (directory : ℕ) (name : List ℕ) → reserved_at old directory name ≡ child_of (rows_of old) directory name
  pub can : CanFill (tree_in None old next) number contents
  pub room : HasContentsRoom old number (length contents)

pub writable : (old : Entries) (next : ℕ) (file : NodeId) (offset : ℕ) (bytes : List ℕ) → (len : ℕ) → len ≡ length (write_at (contents_of (node_at (rows_of old) file.0)) offset bytes) → IsChangeable old next (Contents file.0 len) (Write file offset bytes) → IsFillable old next file.0 (write_at (contents_of (node_at (rows_of old) file.0)) offset bytes)
writable old next file offset bytes len e is =
    let tree = tree_in None old next in
    let h = none_hold (tests_of tree (Write file offset bytes)) is.free in
    record {
      kept = is.kept.tree;
      index = is.kept.index;
      can = can_write tree file offset bytes is.kept.tree is.free;
      room = subst (HasContentsRoom old file.0) e is.kept.prepared;
    }

pub truncatable : (old : Entries) (next : ℕ) (file : NodeId) (len : ℕ) → IsChangeable old next (Contents file.0 len) (Truncate file len) → IsFillable old next file.0 (resize_to (contents_of (node_at (rows_of old) file.0)) len)
truncatable old next file len is =
    record {
      kept = is.kept.tree;
      index = is.kept.index;
      can = can_truncate (tree_in None old next) file len is.kept.tree is.free;
      room = subst (HasContentsRoom old file.0) (sym (length-resized (contents_of (node_at (rows_of old) file.0)) len)) is.kept.prepared;
    }

pub Changes-filled : (old new : Entries) (next total number : ℕ) (contents : List ℕ) → IsFillable old next number contents → Fills old new number contents total → Changes new next total (changed_tree (fill number contents) (tree_in None old next))
Changes-filled old new next total number contents is fills =
    changes-from new (changed_tree (fill number contents) (tree_in None old next)) total (IsTree-fill (tree_in None old next) number contents is.kept is.can) fills.rows
    (λ d x. fills.same_held d x ∙ (is.index d x ∙ sym (child-filled (rows_of old) number contents d x)))
    fills.summed

-- ---- a node that goes

-- a node found twice has one place
same_place : (rows : Nodes) (number : ℕ) (first second : Node) (place : Place) → node_at rows number ≡ Some first → node_at rows number ≡ Some second → second.place ≡ place → first.place ≡ place
same_place rows number first second place e f there = ap (λ (n : Node). n.place) (same_Some _ _ (sym e ∙ f)) ∙ there

pub record IsRemovable (old : Entries) (next number directory : ℕ) (name : List ℕ) : Type 0 where
  pub tree : IsTree (tree_in None old next)
  pub index : (d : ℕ) (x : List ℕ) → reserved_at old d x ≡ child_of (rows_of old) d x
  pub can : CanRemove (tree_in None old next) number
  pub there : can.node.place ≡ at directory name
  pub short : length name ≤ 64
  pub holds : IsSome (kept_at old number)

pub removable : (old : Entries) (next : ℕ) (directory : NodeId) (name : List ℕ) → IsChangeable old next (Gone (child_or_none (tree_in None old next) directory.0 name) (spot directory.0 name)) (Unlink directory name) → IsRemovable old next (child_or_none (tree_in None old next) directory.0 name) directory.0 name
removable old next directory name is =
    let tree = tree_in None old next in
    let h = none_hold (tests_of tree (Unlink directory name)) is.free in
    let child = named_child tree directory.0 name is.kept.tree (not-false _ h.1.0) h.1.1.1.0 in
    let number : child_or_none tree directory.0 name ≡ child.child = ap (λ (o : Option ℕ). unwrap_or o 0) child.is_child in
    subst (λ (n : ℕ). IsRemovable old next n directory.0 name) (sym number) (record {
      tree = is.kept.tree;
      index = is.kept.index;
      can = can_remove tree directory.0 name child h.1.1.1.1.0;
      there = same_place tree.rows child.child _ child.stands.node (at directory.0 name) (can_remove tree directory.0 name child h.1.1.1.1.0).found child.stands.found child.stands.there;
      short = short_name name (not-false _ h.1.1.0);
      holds = some_kept old child.child child.stands.node child.stands.found;
    })

pub Changes-removed : (old new : Entries) (next total number directory : ℕ) (name : List ℕ) → IsRemovable old next number directory name → Removes old new number (at directory name) total → Changes new next total (changed_tree (remove number) (tree_in None old next))
Changes-removed old new next total number directory name is removes =
    let place : Place = at directory name in
    let tree = tree_in None old next in
    changes-from new (changed_tree (remove number) tree) total (IsTree-remove tree number is.tree is.can) removes.rows
    (λ d x.
    split (is_place place (at d x))
    (λ t. let e = is_place-true place (at d x) t in
    ap (λ (p : Place). reserved_at new p.directory p.name) (sym e)
    ∙ (removes.here ∙ (sym (child-removed_here tree number place is.tree is.can is.there) ∙ ap (λ (p : Place). child_of (changed_tree (remove number) tree).rows p.directory p.name) e)))
    (λ f. elim (cases_eq d number) [
      | inl same ↦ ap (λ (n : ℕ). reserved_at new n x) same ∙ (removes.within x ∙ (sym (child-removed_within tree number x is.tree) ∙ ap (λ (n : ℕ). child_of (changed_tree (remove number) tree).rows n x) (sym same)))
      | inr other ↦ removes.elsewhere d x f other ∙ (is.index d x ∙ sym (child-removed_elsewhere tree number place is.tree is.can is.there d x f other))
    ]))
    removes.summed

-- ---- a node that moves

pub record IsMovable (old : Entries) (next number directory target : ℕ) (name renamed : List ℕ) : Type 0 where
  pub tree : IsTree (tree_in None old next)
  pub index : (d : ℕ) (x : List ℕ) → reserved_at old d x ≡ expected_number (Some (spot target renamed)) (rows_of old) d x
  pub can : CanMove (tree_in None old next) number (at target renamed)
  pub there : can.node.place ≡ at directory name
  pub apart : is_place (at directory name) (at target renamed) ≡ false
  pub short : length name ≤ 64
  pub short_too : length renamed ≤ 64
  pub kept : IsSome (kept_at old number)
  pub holds : IsSome (kept_at old target)
  pub held : IsSome (reserved_at old target renamed)

pub movable : (old : Entries) (next : ℕ) (directory : NodeId) (name : List ℕ) (target : NodeId) (renamed : List ℕ) → IsChangeable old next (Moved (child_or_none (tree_in None old next) directory.0 name) (spot directory.0 name) (spot target.0 renamed)) (Rename directory name target renamed) → IsMovable old next (child_or_none (tree_in None old next) directory.0 name) directory.0 target.0 name renamed
movable old next directory name target renamed is =
    let tree = tree_in None old next in
    let h = none_hold (tests_of tree (Rename directory name target renamed)) is.free in
    let child = named_child tree directory.0 name is.kept.tree (not-false _ h.1.0) h.1.1.1.1.1.1.0 in
    let number : child_or_none tree directory.0 name ≡ child.child = ap (λ (o : Option ℕ). unwrap_or o 0) child.is_child in
    let holds = directory_from tree.rows target.0 (not-false _ h.1.1.1.1.0) in
    subst (λ (n : ℕ). IsMovable old next n directory.0 target.0 name renamed) (sym number) (record {
      tree = is.kept.tree;
      index = is.kept.index;
      can = can_move tree directory.0 name child target.0 renamed (not-false _ h.1.1.1.1.0) (not-false _ h.1.1.1.1.1.0) h.1.1.1.1.1.1.1.0 h.1.1.1.1.1.1.1.1.0;
      there = same_place tree.rows child.child _ child.stands.node (at directory.0 name) (can_move tree directory.0 name child target.0 renamed (not-false _ h.1.1.1.1.0) (not-false _ h.1.1.1.1.1.0) h.1.1.1.1.1.1.1.0 h.1.1.1.1.1.1.1.1.0).found child.stands.found child.stands.there;
      apart = false_from_ne_true (is_place (at directory.0 name) (at target.0 renamed))
          (λ t. let e = is_place-true (at directory.0 name) (at target.0 renamed) t in
          false≢true (sym h.1.1.1.1.1.1.1.1.0 ∙ ap is_some (ap (λ (p : Place). child_of tree.rows p.directory p.name) (sym e) ∙ child.is_child)));
      short = short_name name (not-false _ h.1.1.0);
      short_too = short_name renamed (not-false _ h.1.1.1.1.1.0);
      kept = some_kept old child.child child.stands.node child.stands.found;
      holds = some_kept old target.0 holds.node holds.found;
      held = ap is_some (is.kept.index target.0 renamed ∙ cond-true (is_place (spot_place (spot target.0 renamed)) (at target.0 renamed)) _ _ (is_place-refl (at target.0 renamed)));
    })

pub Changes-moved : (old new : Entries) (next total number directory target : ℕ) (name renamed : List ℕ) → IsMovable old next number directory target name renamed → Relocates old new number (at directory name) (at target renamed) → total ≡ contents_sum (rows_of old) → Changes new next total (changed_tree (move number (at target renamed)) (tree_in None old next))
Changes-moved old new next total number directory target name renamed is relocates sum =
    let from : Place = at directory name in
    let to : Place = at target renamed in
    let tree = tree_in None old next in
    let after : Nodes = revise number (with_place to) (rows_of old) in
    changes-from new (changed_tree (move number to) tree) total (IsTree-move tree number to is.tree is.can) relocates.rows
    (λ d x.
    split (is_place to (at d x))
    (λ t. let e = is_place-true to (at d x) t in
    ap (λ (p : Place). reserved_at new p.directory p.name) (sym e)
    ∙ (relocates.here is.apart ∙ (sym (child-moved_here tree number to is.tree is.can) ∙ ap (λ (p : Place). child_of after p.directory p.name) e)))
    (λ f. split (is_place from (at d x))
    (λ t. let e = is_place-true from (at d x) t in
    ap (λ (p : Place). reserved_at new p.directory p.name) (sym e)
    ∙ (relocates.there ∙ (sym (child-moved_from tree number from to is.tree is.can is.there is.apart) ∙ ap (λ (p : Place). child_of after p.directory p.name) e)))
    (λ g. relocates.elsewhere d x g f
    ∙ (is.index d x
    ∙ (cond-false (is_place (spot_place (spot target renamed)) (at d x)) _ _ f
    ∙ sym (child-moved_elsewhere tree number from to is.tree is.can is.there d x g f))))))
    (sum ∙ (same_sum (rows_of old) number to is.can.node is.can.found ∙ ap contents_sum (sym relocates.rows)))
  where
    same_sum : (rs : Nodes) (n : ℕ) (p : Place) (node : Node) → node_at rs n ≡ Some node → contents_sum rs ≡ contents_sum (revise n (with_place p) rs)
    same_sum rs n p node e =
        let s : contents_sum (revise n (with_place p) rs) + length node.contents ≡ contents_sum rs + length node.contents = sum_by-revised (λ row. length row.1.contents) n (with_place p) node rs e in omega (arith, s)

-- ---- each operation, by what is ready for it

-- the facts at one form of the operation, and at what is ready for that form
at_form : (old : Entries) (next : ℕ) (ready : Ready) (op form : TreeOp) → op ≡ form → IsChangeable old next ready op → IsChangeable old next ready form
at_form old next ready op form e is = subst (IsChangeable old next ready) e is

as_ready : (old : Entries) (next : ℕ) (ready other : Ready) (op : TreeOp) → ready ≡ other → IsChangeable old next ready op → IsChangeable old next other op
as_ready old next ready other op e is = subst (λ (r : Ready). IsChangeable old next r op) e is

-- what the change comes to, at the operation's own form and what is ready for it
changes_as : (old new : Entries) (next after total : ℕ) (ready other : Ready) (op form : TreeOp) → ready ≡ other → op ≡ form → Changes new after total (tree_after (tree_in (Some other) old next) form) → Changes new after total (tree_after (tree_in (Some ready) old next) op)
changes_as old new next after total ready other op form e f changes =
    subst (λ (o : TreeOp). Changes new after total (tree_after (tree_in (Some ready) old next) o)) (sym f)
    (subst (λ (r : Ready). Changes new after total (tree_after (tree_in (Some r) old next) form)) (sym e) changes)

sum_as : (old : Entries) (total : ℕ) (ready other : Ready) → ready ≡ other → total ≡ contents_sum (rows_of (published_nodes (Some ready) old)) → total ≡ contents_sum (rows_of (published_nodes (Some other) old))
sum_as old total ready other e sum = sum ∙ ap (λ (r : Ready). contents_sum (rows_of (published_nodes (Some r) old))) e

pub at_create : (old : Entries) (next : ℕ) (ready : Ready) (op : TreeOp) (directory : NodeId) (name : List ℕ) → op ≡ Create directory name → IsChangeable old next ready op → IsMakable old next File directory.0 name
at_create old next ready op directory name e is =
    let here = at_form old next ready op (Create directory name) e is in
    made_file old next directory name (as_ready old next ready _ (Create directory name) here.is here)

pub changes_create : (old new : Entries) (next total : ℕ) (ready : Ready) (op : TreeOp) (directory : NodeId) (name bytes : List ℕ) → op ≡ Create directory name → bytes ≡ name → IsChangeable old next ready op → total ≡ contents_sum (rows_of (published_nodes (Some ready) old)) → Puts old new (at directory.0 bytes) (Some next) → Changes new (next + 1) total (tree_after (tree_in (Some ready) old next) op)
changes_create old new next total ready op directory name bytes e same is sum puts =
    let here = at_form old next ready op (Create directory name) e is in
    changes_as old new next (next + 1) total ready (Made File (spot directory.0 name)) op (Create directory name) here.is e
    (Changes-made old new next total File directory.0 name (at_create old next ready op directory name e is) (subst (λ (n : List ℕ). Puts old new (at directory.0 n) (Some next)) same puts) (sum_as old total ready _ here.is sum))

pub at_mkdir : (old : Entries) (next : ℕ) (ready : Ready) (op : TreeOp) (directory : NodeId) (name : List ℕ) → op ≡ Mkdir directory name → IsChangeable old next ready op → IsMakable old next Directory directory.0 name
at_mkdir old next ready op directory name e is =
    let here = at_form old next ready op (Mkdir directory name) e is in
    made_directory old next directory name (as_ready old next ready _ (Mkdir directory name) here.is here)

pub changes_mkdir : (old new : Entries) (next total : ℕ) (ready : Ready) (op : TreeOp) (directory : NodeId) (name bytes : List ℕ) → op ≡ Mkdir directory name → bytes ≡ name → IsChangeable old next ready op → total ≡ contents_sum (rows_of (published_nodes (Some ready) old)) → Puts old new (at directory.0 bytes) (Some next) → Changes new (next + 1) total (tree_after (tree_in (Some ready) old next) op)
changes_mkdir old new next total ready op directory name bytes e same is sum puts =
    let here = at_form old next ready op (Mkdir directory name) e is in
    changes_as old new next (next + 1) total ready (Made Directory (spot directory.0 name)) op (Mkdir directory name) here.is e
    (Changes-made old new next total Directory directory.0 name (at_mkdir old next ready op directory name e is) (subst (λ (n : List ℕ). Puts old new (at directory.0 n) (Some next)) same puts) (sum_as old total ready _ here.is sum))

-- what is written is as long as what is ready
pub at_write : (old : Entries) (next : ℕ) (ready : Ready) (op : TreeOp) (file : NodeId) (offset : ℕ) (bytes : List ℕ) → op ≡ Write file offset bytes → IsChangeable old next ready op → IsFillable old next file.0 (write_at (contents_of (node_at (rows_of old) file.0)) offset bytes) × (rows_of (published_nodes (Some ready) old) ≡ rows_of old) × (offset + length bytes ≤ most_bytes)
at_write old next ready op file offset bytes e is =
    let here = at_form old next ready op (Write file offset bytes) e is in
    let len : ℕ = length (write_at (contents_of (node_at (rows_of (published_nodes (Some ready) old)) file.0)) offset bytes) in
    let settled_is : rows_of (published_nodes (Some ready) old) ≡ rows_of old = ap (λ (r : Ready). rows_of (published_nodes (Some r) old)) here.is in
    let same : len ≡ length (write_at (contents_of (node_at (rows_of old) file.0)) offset bytes) = ap (λ (r : Nodes). length (write_at (contents_of (node_at r file.0)) offset bytes)) settled_is in
    let there = as_ready old next ready (Contents file.0 len) (Write file offset bytes) here.is here in
    let h = none_hold (tests_of (tree_in None old next) (Write file offset bytes)) there.free in
    (writable old next file offset bytes len same there, settled_is, ltb-false most_bytes (offset + length bytes) h.1.1.0)

pub changes_write : (old new : Entries) (next total : ℕ) (ready : Ready) (op : TreeOp) (file : NodeId) (offset : ℕ) (bytes slice : List ℕ) → op ≡ Write file offset bytes → slice ≡ bytes → IsChangeable old next ready op → Fills old new file.0 (write_at (contents_of (node_at (rows_of old) file.0)) offset slice) total → Changes new next total (tree_after (tree_in (Some ready) old next) op)
changes_write old new next total ready op file offset bytes slice e same is fills =
    let here = at_form old next ready op (Write file offset bytes) e is in
    changes_as old new next next total ready _ op (Write file offset bytes) here.is e
    (Changes-filled old new next total file.0 (write_at (contents_of (node_at (rows_of old) file.0)) offset bytes) (at_write old next ready op file offset bytes e is).0
    (subst (λ (b : List ℕ). Fills old new file.0 (write_at (contents_of (node_at (rows_of old) file.0)) offset b) total) same fills))

pub at_truncate : (old : Entries) (next : ℕ) (ready : Ready) (op : TreeOp) (file : NodeId) (len : ℕ) → op ≡ Truncate file len → IsChangeable old next ready op → IsFillable old next file.0 (resize_to (contents_of (node_at (rows_of old) file.0)) len) × (rows_of (published_nodes (Some ready) old) ≡ rows_of old) × HasContentsRoom old file.0 len × (len ≤ most_bytes)
at_truncate old next ready op file len e is =
    let here = at_form old next ready op (Truncate file len) e is in
    let there = as_ready old next ready (Contents file.0 len) (Truncate file len) here.is here in
    let h = none_hold (tests_of (tree_in None old next) (Truncate file len)) there.free in
    (truncatable old next file len there, ap (λ (r : Ready). rows_of (published_nodes (Some r) old)) here.is, there.kept.prepared, ltb-false most_bytes len h.1.1.0)

pub changes_truncate : (old new : Entries) (next total : ℕ) (ready : Ready) (op : TreeOp) (file : NodeId) (len : ℕ) → op ≡ Truncate file len → IsChangeable old next ready op → Fills old new file.0 (resize_to (contents_of (node_at (rows_of old) file.0)) len) total → Changes new next total (tree_after (tree_in (Some ready) old next) op)
changes_truncate old new next total ready op file len e is fills =
    let here = at_form old next ready op (Truncate file len) e is in
    changes_as old new next next total ready (Contents file.0 len) op (Truncate file len) here.is e
    (Changes-filled old new next total file.0 (resize_to (contents_of (node_at (rows_of old) file.0)) len) (at_truncate old next ready op file len e is).0 fills)

-- the sum is small while the tree is one
pub little_sum : (old : Entries) (next total : ℕ) (ready : Ready) → IsTreeIndex old next (Some ready) → rows_of (published_nodes (Some ready) old) ≡ rows_of old → total ≡ contents_sum (rows_of (published_nodes (Some ready) old)) → (total ≡ contents_sum (rows_of old)) × (total ≤ most_bytes_together)
little_sum old next total ready kept same sum = (sum ∙ ap contents_sum same, (let fits = kept.tree.fits in omega (arith, fits, sum)))

pub at_unlink : (old : Entries) (next : ℕ) (ready : Ready) (op : TreeOp) (directory : NodeId) (name : List ℕ) → op ≡ Unlink directory name → IsChangeable old next ready op → IsRemovable old next (number_ready ready) directory.0 name × (rows_of (published_nodes (Some ready) old) ≡ rows_of old)
at_unlink old next ready op directory name e is =
    let here = at_form old next ready op (Unlink directory name) e is in
    let settled_is : rows_of (published_nodes (Some ready) old) ≡ rows_of old = ap (λ (r : Ready). rows_of (published_nodes (Some r) old)) here.is in
    let number : number_ready ready ≡ child_or_none (tree_in (Some ready) old next) directory.0 name = ap number_ready here.is in
    let same : child_or_none (tree_in (Some ready) old next) directory.0 name ≡ child_or_none (tree_in None old next) directory.0 name = ap (λ (r : Nodes). unwrap_or (child_of r directory.0 name) 0) settled_is in
    let ready_is : ready ≡ Gone (child_or_none (tree_in None old next) directory.0 name) (spot directory.0 name) = here.is ∙ ap (λ (n : ℕ). Gone n (spot directory.0 name)) same in
    (subst (λ (n : ℕ). IsRemovable old next n directory.0 name) (sym (number ∙ same)) (removable old next directory name (as_ready old next ready _ (Unlink directory name) ready_is here)), settled_is)

pub changes_unlink : (old new : Entries) (next total : ℕ) (ready : Ready) (op : TreeOp) (directory : NodeId) (name bytes : List ℕ) → op ≡ Unlink directory name → bytes ≡ name → IsChangeable old next ready op → Removes old new (number_ready ready) (at directory.0 bytes) total → Changes new next total (tree_after (tree_in (Some ready) old next) op)
changes_unlink old new next total ready op directory name bytes e same is removes =
    let facts = at_unlink old next ready op directory name e is in
    let here = at_form old next ready op (Unlink directory name) e is in
    let number : number_ready ready ≡ child_or_none (tree_in None old next) directory.0 name = ap number_ready here.is ∙ ap (λ (r : Nodes). unwrap_or (child_of r directory.0 name) 0) facts.1 in
    changes_as old new next next total ready (Gone (child_or_none (tree_in None old next) directory.0 name) (spot directory.0 name)) op (Unlink directory name)
    (here.is ∙ ap (λ (r : Nodes). Gone (unwrap_or (child_of r directory.0 name) 0) (spot directory.0 name)) facts.1) e
    (subst (λ (n : ℕ). Changes new next total (changed_tree (remove n) (tree_in None old next))) number
    (Changes-removed old new next total (number_ready ready) directory.0 name facts.0 (subst (λ (b : List ℕ). Removes old new (number_ready ready) (at directory.0 b) total) same removes)))

pub at_rename : (old : Entries) (next : ℕ) (ready : Ready) (op : TreeOp) (directory : NodeId) (name : List ℕ) (target : NodeId) (renamed : List ℕ) → op ≡ Rename directory name target renamed → IsChangeable old next ready op → IsMovable old next (number_ready ready) directory.0 target.0 name renamed × (rows_of (published_nodes (Some ready) old) ≡ rows_of old)
at_rename old next ready op directory name target renamed e is =
    let here = at_form old next ready op (Rename directory name target renamed) e is in
    let settled_is : rows_of (published_nodes (Some ready) old) ≡ rows_of old = ap (λ (r : Ready). rows_of (published_nodes (Some r) old)) here.is in
    let number : number_ready ready ≡ child_or_none (tree_in (Some ready) old next) directory.0 name = ap number_ready here.is in
    let same : child_or_none (tree_in (Some ready) old next) directory.0 name ≡ child_or_none (tree_in None old next) directory.0 name = ap (λ (r : Nodes). unwrap_or (child_of r directory.0 name) 0) settled_is in
    let ready_is : ready ≡ Moved (child_or_none (tree_in None old next) directory.0 name) (spot directory.0 name) (spot target.0 renamed) = here.is ∙ ap (λ (n : ℕ). Moved n (spot directory.0 name) (spot target.0 renamed)) same in
    (subst (λ (n : ℕ). IsMovable old next n directory.0 target.0 name renamed) (sym (number ∙ same)) (movable old next directory name target renamed (as_ready old next ready _ (Rename directory name target renamed) ready_is here)), settled_is)

pub changes_rename : (old new : Entries) (next total : ℕ) (ready : Ready) (op : TreeOp) (directory : NodeId) (name : List ℕ) (target : NodeId) (renamed bytes others : List ℕ) → op ≡ Rename directory name target renamed → bytes ≡ name → others ≡ renamed → IsChangeable old next ready op → total ≡ contents_sum (rows_of (published_nodes (Some ready) old)) → Relocates old new (number_ready ready) (at directory.0 bytes) (at target.0 others) → Changes new next total (tree_after (tree_in (Some ready) old next) op)
changes_rename old new next total ready op directory name target renamed bytes others e same other is sum relocates =
    let facts = at_rename old next ready op directory name target renamed e is in
    let here = at_form old next ready op (Rename directory name target renamed) e is in
    let number : number_ready ready ≡ child_or_none (tree_in None old next) directory.0 name = ap number_ready here.is ∙ ap (λ (r : Nodes). unwrap_or (child_of r directory.0 name) 0) facts.1 in
    changes_as old new next next total ready (Moved (child_or_none (tree_in None old next) directory.0 name) (spot directory.0 name) (spot target.0 renamed)) op (Rename directory name target renamed)
    (here.is ∙ ap (λ (r : Nodes). Moved (unwrap_or (child_of r directory.0 name) 0) (spot directory.0 name) (spot target.0 renamed)) facts.1) e
    (subst (λ (n : ℕ). Changes new next total (changed_tree (move n (at target.0 renamed)) (tree_in None old next))) number
    (Changes-moved old new next total (number_ready ready) directory.0 target.0 name renamed facts.0
    (subst (λ (o : List ℕ). Relocates old new (number_ready ready) (at directory.0 name) (at target.0 o)) other (subst (λ (b : List ℕ). Relocates old new (number_ready ready) (at directory.0 b) (at target.0 others)) same relocates))
    (sum ∙ ap contents_sum facts.1)))
