-- A tree stays a tree after each change that fits it.
use Rattle.std.proofs.Common.{◌≡◌, ◌≢◌, ℕ, zero, suc, ◌+◌, ◌-◌, ◌<◌, ◌≤◌, ◌⊎◌, inl, inr, true, IsTrue, Option, Some, None, List, [], ◌∷◌, ◌++◌, length, refl, sym, ap, ◌∙◌, subst, arith, nat_eq, nat_cmp, length-append}
use Rattle.std.specs.Map.{lookup, remove_entry, keys_of}
use Rattle.std.specs.List.{IsDistinct}
use Rattle.std.specs.List.Sorted.{IsStrictlySortedBy}
use Rattle.std.proofs.lemmas.Bool.{false≢true, eq-eqb, eqb-true, eqb-false, cases_eq}
use Rattle.std.proofs.lemmas.List.Sums.{sum_by_push}
use Rattle.std.proofs.lemmas.Option.{none-some, same_Some}
use Rattle.file_world.specs.declared.operation.Kind.{Kind}
use Rattle.file_world.specs.declared.operation.Kind.TheVariants.{File, Directory}
use Rattle.file_world.specs.FileNames.{is_node_name}
use Rattle.file_world.specs.Limits.{root_number, most_nodes, most_bytes, most_bytes_together, last_number}
use Rattle.file_world.specs.Tree.{Place, Node, Nodes, FileTree, node_at, number_at, is_place, contents_sum, ReachesRoot, at_root, below, root, IsSound, IsTree}
use Rattle.file_world.specs.TreeEffect.{new_node, with_contents, with_place, revise, has_way_past, has_way_on, changed_tree, add, fill, remove, move, fresh_tree}
use Rattle.file_world.proofs.RowLemmas.{split, cond_at_true, cond_at_false, lookup_here, lookup-append_found, lookup-append_none, lookup-revised_same, lookup-revised_other, map-revised, length-revised, keys-revised, sum_by-revised, weight-le-sum_by, sum_by-removed, length-removed_le, lookup-removed_same, lookup-removed_other, rising-removed, rising-push}
use Rattle.file_world.proofs.PlaceLemmas.{IsFree-from_none, differ-push, differ-removed, differ-moved}

-- ---- what leads to the root

-- a node of the one list stands in the other, in the same directory and of the same kind
pub record Remains (rows after : Nodes) (number : ℕ) (node : Node) : Type 0 where
  pub now : Node
  pub found : node_at after number ≡ Some now
  pub same_directory : now.place.directory ≡ node.place.directory
  pub same_kind : now.kind ≡ node.kind

-- the first link of a walk, made in the other list
step_in : (rows after : Nodes) (number directory : ℕ) (node holder : Node) → Remains rows after number node → node.place.directory ≡ directory → Remains rows after directory holder → holder.kind ≡ Directory → ReachesRoot after directory → ReachesRoot after number
step_in rows after number directory node holder here e there kind up =
    let same : here.now.place.directory ≡ directory = here.same_directory ∙ e in
    below number here.now here.found there.now (ap (node_at after) same ∙ there.found) (there.same_kind ∙ kind) (subst (ReachesRoot after) (sym same) up)

-- if every node remains, what was reached is reached
pub IsReached-remains : (rows after : Nodes) → ((number : ℕ) (node : Node) → node_at rows number ≡ Some node → Remains rows after number node) → (number : ℕ) → ReachesRoot rows number → ReachesRoot after number
IsReached-remains rows after remains number at_root = at_root
IsReached-remains rows after remains number (below _ node found directory held kind up) =
    step_in rows after number node.place.directory node directory (remains number node found) refl (remains node.place.directory directory held) kind (IsReached-remains rows after remains node.place.directory up)

-- ---- a new node

pub record CanAdd (tree : FileTree) (place : Place) : Type 0 where
  pub directory : Node
  pub held : node_at tree.rows place.directory ≡ Some directory
  pub is_directory : directory.kind ≡ Directory
  pub named : IsTrue (is_node_name place.name)
  pub free : number_at tree.rows place ≡ None
  pub few : length tree.rows < most_nodes
  pub next_left : tree.next < last_number

-- what is found after a push: what was found, or the new row
pub found-push : {V : Type 0} (rows : List (ℕ × V)) (next : ℕ) (value : V) (number : ℕ) (found : V) → lookup (nat_eq number) (rows ++ (next, value) ∷ []) ≡ Some found → (lookup (nat_eq number) rows ≡ Some found) ⊎ ((number ≡ next) × (value ≡ found))
found-push rows next value number found e = by (lookup (nat_eq number) rows) refl
  where
    at_next : lookup (nat_eq number) ((next, value) ∷ []) ≡ Some found → (number ≡ next) × (value ≡ found)
    at_next h =
        split (nat_eq number next)
        (λ t. (eqb-true number next t, same_Some _ _ (cond_at_true (nat_eq number next) _ _ _ t h)))
        (λ f. absurd (none-some _ (cond_at_false (nat_eq number next) _ _ _ f h)))

    by : (was : Option _) → lookup (nat_eq number) rows ≡ was → (lookup (nat_eq number) rows ≡ Some found) ⊎ ((number ≡ next) × (value ≡ found))
    by None h = inr (at_next (sym (lookup-append_none (nat_eq number) rows ((next, value) ∷ []) h) ∙ e))
    by (Some w) h = inl (h ∙ (sym (lookup-append_found (nat_eq number) rows ((next, value) ∷ []) w h) ∙ e))

pub IsTree-add : (tree : FileTree) (kind : Kind) (place : Place) → IsTree tree → CanAdd tree place → IsTree (changed_tree (add kind place) tree)
IsTree-add tree kind place is can =
    let more : Nodes = (tree.next, new_node kind place) ∷ [] in
    let remains : (number : ℕ) (node : Node) → node_at tree.rows number ≡ Some node → Remains tree.rows (tree.rows ++ more) number node =
    λ number node e. record { now = node; found = lookup-append_found (nat_eq number) tree.rows more node e; same_directory = refl; same_kind = refl } in
    let reached = IsReached-remains tree.rows (tree.rows ++ more) remains in
    let fresh : node_at tree.rows tree.next ≡ None = none_at_next tree is in
    let new_found : node_at (tree.rows ++ more) tree.next ≡ Some (new_node kind place) =
    lookup-append_none (nat_eq tree.next) tree.rows more fresh ∙ lookup_here (nat_eq tree.next) (tree.next, new_node kind place) [] (eq-eqb tree.next tree.next refl) in
    let new_reached : ReachesRoot (tree.rows ++ more) tree.next =
    below tree.next (new_node kind place) new_found can.directory (lookup-append_found (nat_eq place.directory) tree.rows more can.directory can.held) can.is_directory
    (reached place.directory (is.sound place.directory can.directory can.held).reached) in
    let root_sound = is.sound 1 root is.has_root in
    record {
      has_root = lookup-append_found (nat_eq 1) tree.rows more root is.has_root;
      sound = λ number node e. elim (found-push tree.rows tree.next (new_node kind place) number node e) [
        | inl old ↦ let was = is.sound number node old in record {
          reached = reached number was.reached;
          named = was.named;
          above_zero = was.above_zero;
          below_next = (let lt = was.below_next in omega (arith, lt));
          empty = was.empty;
          small = was.small;
        }
        | inr new ↦ subst (IsSound (changed_tree (add kind place) tree) number) new.1 (subst (λ (n : ℕ). IsSound (changed_tree (add kind place) tree) n (new_node kind place)) (sym new.0) (record {
          reached = new_reached;
          named = λ _. can.named;
          above_zero = (let lt = root_sound.below_next in omega (arith, lt));
          below_next = omega arith;
          empty = λ _. refl;
          small = omega arith;
        }))
      ];
      rising = rising-push tree.next (new_node kind place) tree.rows is.rising (λ number value e. (is.sound number value e).below_next);
      places_differ = differ-push tree.next (new_node kind place) tree.rows is.places_differ (IsFree-from_none place tree.rows can.free);
      few = (let e = length-append tree.rows more in let few = can.few in omega (arith, e, few));
      fits = (let e : contents_sum (tree.rows ++ more) ≡ contents_sum tree.rows + 0 = sum_by_push (λ row. length row.1.contents) tree.rows (tree.next, new_node kind place) in let fits = is.fits in omega (arith, e, fits));
      next_fits = (let left = can.next_left in omega (arith, left));
    }
  where
    none_at_next : (t : FileTree) → IsTree t → node_at t.rows t.next ≡ None
    none_at_next t i = by (node_at t.rows t.next) refl
      where
        by : (was : Option Node) → node_at t.rows t.next ≡ was → node_at t.rows t.next ≡ None
        by None h = h
        by (Some node) h = absurd (let lt : t.next < t.next = (i.sound t.next node h).below_next in omega (arith, lt))

-- ---- contents that change

pub record CanFill (tree : FileTree) (number : ℕ) (contents : List ℕ) : Type 0 where
  pub node : Node
  pub found : node_at tree.rows number ≡ Some node
  pub is_file : node.kind ≡ File
  pub small : length contents ≤ most_bytes
  pub fits : contents_sum tree.rows - length node.contents + length contents ≤ most_bytes_together

-- what is found after a revision: what was found at another number, or the revised value
pub found-revised : {V : Type 0} (number : ℕ) (revision : V → V) (rows : List (ℕ × V)) (old : V) → lookup (nat_eq number) rows ≡ Some old → (other : ℕ) (found : V) → lookup (nat_eq other) (revise number revision rows) ≡ Some found → ((other ≢ number) × (lookup (nat_eq other) rows ≡ Some found)) ⊎ ((other ≡ number) × (revision old ≡ found))
found-revised number revision rows old there other found e =
    elim (cases_eq other number) [
      | inl same ↦ inr (same, same_Some _ _ (sym (lookup-revised_same number revision rows old there) ∙ (ap (λ (n : ℕ). lookup (nat_eq n) (revise number revision rows)) (sym same) ∙ e)))
      | inr apart ↦ inl (apart, sym (lookup-revised_other number other revision rows apart) ∙ e)
    ]

pub remains-revised : (number : ℕ) (revision : Node → Node) (rows : Nodes) → ((node : Node) → (revision node).kind ≡ node.kind) → ((node : Node) → (revision node).place ≡ node.place) → (other : ℕ) (node : Node) → node_at rows other ≡ Some node → Remains rows (revise number revision rows) other node
remains-revised number revision rows kind place other node e =
    elim (cases_eq other number) [
      | inl same ↦ record {
        now = revision node;
        found = ap (λ (n : ℕ). node_at (revise number revision rows) n) same ∙ lookup-revised_same number revision rows node (ap (λ (n : ℕ). node_at rows n) (sym same) ∙ e);
        same_directory = ap (λ (p : Place). p.directory) (place node);
        same_kind = kind node;
      }
      | inr apart ↦ record { now = node; found = lookup-revised_other number other revision rows apart ∙ e; same_directory = refl; same_kind = refl }
    ]

file_is_no_directory : File ≡ Directory → ⊥
file_is_no_directory e = cc

pub not_root_kind : (tree : FileTree) (number : ℕ) (node : Node) → IsTree tree → node_at tree.rows number ≡ Some node → node.kind ≡ File → number ≢ 1
not_root_kind tree number node is e kind same =
    let root_is : root ≡ node = same_Some _ _ (sym is.has_root ∙ (ap (node_at tree.rows) (sym same) ∙ e)) in
    file_is_no_directory (sym kind ∙ ap (λ (n : Node). n.kind) (sym root_is))

pub IsTree-fill : (tree : FileTree) (number : ℕ) (contents : List ℕ) → IsTree tree → CanFill tree number contents → IsTree (changed_tree (fill number contents) tree)
IsTree-fill tree number contents is can =
    let after : Nodes = revise number (with_contents contents) tree.rows in
    let reached = IsReached-remains tree.rows after (remains-revised number (with_contents contents) tree.rows (λ _. refl) (λ _. refl)) in
    let apart : number ≢ 1 = not_root_kind tree number can.node is can.found can.is_file in
    record {
      has_root = lookup-revised_other number 1 (with_contents contents) tree.rows (λ e. apart (sym e)) ∙ is.has_root;
      sound = λ other node e. elim (found-revised number (with_contents contents) tree.rows can.node can.found other node e) [
        | inl old ↦ let was = is.sound other node old.1 in record { reached = reached other was.reached; named = was.named; above_zero = was.above_zero; below_next = was.below_next; empty = was.empty; small = was.small }
        | inr new ↦ let was = is.sound number can.node can.found in
            subst (IsSound (changed_tree (fill number contents) tree) other) new.1 (subst (λ (n : ℕ). IsSound (changed_tree (fill number contents) tree) n (with_contents contents can.node)) (sym new.0) (record {
              reached = reached number was.reached;
              named = was.named;
              above_zero = was.above_zero;
              below_next = was.below_next;
              empty = λ h. absurd (file_is_no_directory (sym can.is_file ∙ h));
              small = can.small;
            }))
      ];
      rising = subst (IsStrictlySortedBy nat_cmp) (sym (keys-revised number (with_contents contents) tree.rows)) is.rising;
      places_differ = subst (IsDistinct is_place) (sym (ap keys_of (map-revised {Y = Place × ℕ} (λ row. (row.1.place, row.0)) number (with_contents contents) (λ _ _. refl) tree.rows))) is.places_differ;
      few = (let e = length-revised number (with_contents contents) tree.rows in let few = is.few in omega (arith, e, few));
      fits = (let e : contents_sum after + length can.node.contents ≡ contents_sum tree.rows + length contents = sum_by-revised (λ row. length row.1.contents) number (with_contents contents) can.node tree.rows can.found in
          let part : length can.node.contents ≤ contents_sum tree.rows = weight-le-sum_by (λ row. length row.1.contents) number can.node tree.rows can.found in
          let fits = can.fits in omega (arith, e, part, fits));
      next_fits = is.next_fits;
    }

-- ---- a node that goes

pub record CanRemove (tree : FileTree) (number : ℕ) : Type 0 where
  pub node : Node
  pub found : node_at tree.rows number ≡ Some node
  pub not_root : number ≢ 1
  pub childless : (other : ℕ) (child : Node) → node_at tree.rows other ≡ Some child → child.place.directory ≢ number

-- what leads to the root leads there without a node that holds none
IsReached-removed : (rows : Nodes) (number : ℕ) → ((other : ℕ) (child : Node) → node_at rows other ≡ Some child → child.place.directory ≢ number) → (other : ℕ) → other ≢ number → ReachesRoot rows other → ReachesRoot (remove_entry (nat_eq number) rows) other
IsReached-removed rows number childless other apart at_root = at_root
IsReached-removed rows number childless other apart (below _ node found directory held kind up) =
    let holder : node.place.directory ≢ number = childless other node found in
    below other node (lookup-removed_other number other rows apart ∙ found) directory (lookup-removed_other number node.place.directory rows holder ∙ held) kind
    (IsReached-removed rows number childless node.place.directory holder up)

pub IsTree-remove : (tree : FileTree) (number : ℕ) → IsTree tree → CanRemove tree number → IsTree (changed_tree (remove number) tree)
IsTree-remove tree number is can =
    let after : Nodes = remove_entry (nat_eq number) tree.rows in
    let kept : (other : ℕ) (node : Node) → node_at after other ≡ Some node → (other ≢ number) × (node_at tree.rows other ≡ Some node) =
    λ other node e. elim (cases_eq other number) [
      | inl same ↦ absurd (none-some _ (sym (lookup-removed_same number tree.rows is.rising) ∙ (ap (node_at after) (sym same) ∙ e)))
      | inr apart ↦ (apart, sym (lookup-removed_other number other tree.rows apart) ∙ e)
    ] in
    record {
      has_root = lookup-removed_other number 1 tree.rows (λ e. can.not_root (sym e)) ∙ is.has_root;
      sound = λ other node e. let was = kept other node e in let sound = is.sound other node was.1 in record {
        reached = IsReached-removed tree.rows number can.childless other was.0 sound.reached;
        named = sound.named;
        above_zero = sound.above_zero;
        below_next = sound.below_next;
        empty = sound.empty;
        small = sound.small;
      };
      rising = rising-removed number tree.rows is.rising;
      places_differ = differ-removed number tree.rows is.places_differ;
      few = (let e = length-removed_le number tree.rows in let few = is.few in omega (arith, e, few));
      fits = (let e : contents_sum after + length can.node.contents ≡ contents_sum tree.rows = sum_by-removed (λ row. length row.1.contents) number can.node tree.rows can.found in let fits = is.fits in omega (arith, e, fits));
      next_fits = is.next_fits;
    }

-- ---- a node that moves

pub record CanMove (tree : FileTree) (number : ℕ) (place : Place) : Type 0 where
  pub node : Node
  pub found : node_at tree.rows number ≡ Some node
  pub not_root : number ≢ 1
  pub directory : Node
  pub held : node_at tree.rows place.directory ≡ Some directory
  pub is_directory : directory.kind ≡ Directory
  pub named : IsTrue (is_node_name place.name)
  pub free : number_at tree.rows place ≡ None
  pub steps : ℕ
  pub past : has_way_past steps tree.rows number place.directory ≡ true

-- each node is there after a move, and of the same kind
kind-moved : (number : ℕ) (place : Place) (rows : Nodes) (other : ℕ) (node : Node) → node_at rows other ≡ Some node → (now : Node) × (node_at (revise number (with_place place) rows) other ≡ Some now) × (now.kind ≡ node.kind)
kind-moved number place rows other node e =
    elim (cases_eq other number) [
      | inl same ↦ (with_place place node, ap (λ (n : ℕ). node_at (revise number (with_place place) rows) n) same ∙ lookup-revised_same number (with_place place) rows node (ap (λ (n : ℕ). node_at rows n) (sym same) ∙ e), refl)
      | inr apart ↦ (node, lookup-revised_other number other (with_place place) rows apart ∙ e, refl)
    ]

-- a walk that meets no moved node can be made after the move
IsReached-past : (number : ℕ) (place : Place) (rows : Nodes) (steps : ℕ) (other : ℕ) → has_way_past steps rows number other ≡ true → ReachesRoot rows other → ReachesRoot (revise number (with_place place) rows) other
IsReached-past number place rows steps other past at_root = at_root
IsReached-past number place rows zero other past (below _ node found directory held kind up) = absurd (false≢true past)
IsReached-past number place rows (suc steps) other past (below _ node found directory held kind up) =
    let after : Nodes = revise number (with_place place) rows in
    split (nat_eq other number)
    (λ t. absurd (false≢true (cond_at_true (nat_eq other number) _ _ _ t past)))
    (λ f. let apart : other ≢ number = eqb-false other number f in
    let further = cond_at_false (nat_eq other number) _ _ _ f past in
    split (nat_eq other 1)
    (λ t. subst (ReachesRoot after) (sym (eqb-true other 1 t)) at_root)
    (λ g. let on : has_way_past steps rows number node.place.directory ≡ true = ap (λ (n : Option Node). has_way_on n (has_way_past steps rows number)) (sym found) ∙ cond_at_false (nat_eq other 1) _ _ _ g further in
    let there = kind-moved number place rows node.place.directory directory held in
    below other node (lookup-revised_other number other (with_place place) rows apart ∙ found) there.0 there.1 (there.2 ∙ kind)
    (IsReached-past number place rows steps node.place.directory on up)))

-- each node is reached after the move, if the moved one is
IsReached-moved : (number : ℕ) (place : Place) (rows : Nodes) → ReachesRoot (revise number (with_place place) rows) number → (other : ℕ) → ReachesRoot rows other → ReachesRoot (revise number (with_place place) rows) other
IsReached-moved number place rows moved other at_root = at_root
IsReached-moved number place rows moved other (below _ node found directory held kind up) =
    let there = kind-moved number place rows node.place.directory directory held in
    let rest = IsReached-moved number place rows moved node.place.directory up in
    elim (cases_eq other number) [
      | inl same ↦ subst (ReachesRoot (revise number (with_place place) rows)) (sym same) moved
      | inr apart ↦ below other node (lookup-revised_other number other (with_place place) rows apart ∙ found) there.0 there.1 (there.2 ∙ kind) rest
    ]

pub IsTree-move : (tree : FileTree) (number : ℕ) (place : Place) → IsTree tree → CanMove tree number place → IsTree (changed_tree (move number place) tree)
IsTree-move tree number place is can =
    let after : Nodes = revise number (with_place place) tree.rows in
    let there = kind-moved number place tree.rows place.directory can.directory can.held in
    let moved : ReachesRoot after number =
    below number (with_place place can.node) (lookup-revised_same number (with_place place) tree.rows can.node can.found) there.0 there.1 (there.2 ∙ can.is_directory)
    (IsReached-past number place tree.rows can.steps place.directory can.past (is.sound place.directory can.directory can.held).reached) in
    let reached = IsReached-moved number place tree.rows moved in
    record {
      has_root = lookup-revised_other number 1 (with_place place) tree.rows (λ e. can.not_root (sym e)) ∙ is.has_root;
      sound = λ other node e. elim (found-revised number (with_place place) tree.rows can.node can.found other node e) [
        | inl old ↦ let was = is.sound other node old.1 in record { reached = reached other was.reached; named = was.named; above_zero = was.above_zero; below_next = was.below_next; empty = was.empty; small = was.small }
        | inr new ↦ let was = is.sound number can.node can.found in
            subst (IsSound (changed_tree (move number place) tree) other) new.1 (subst (λ (n : ℕ). IsSound (changed_tree (move number place) tree) n (with_place place can.node)) (sym new.0) (record {
              reached = moved;
              named = λ _. can.named;
              above_zero = was.above_zero;
              below_next = was.below_next;
              empty = was.empty;
              small = was.small;
            }))
      ];
      rising = subst (IsStrictlySortedBy nat_cmp) (sym (keys-revised number (with_place place) tree.rows)) is.rising;
      places_differ = differ-moved place number tree.rows is.places_differ (IsFree-from_none place tree.rows can.free);
      few = (let e = length-revised number (with_place place) tree.rows in let few = is.few in omega (arith, e, few));
      fits = (let e : contents_sum after + length can.node.contents ≡ contents_sum tree.rows + length can.node.contents = sum_by-revised (λ row. length row.1.contents) number (with_place place) can.node tree.rows can.found in let fits = is.fits in omega (arith, e, fits));
      next_fits = is.next_fits;
    }

-- ---- the tree of the root alone

one_number : IsStrictlySortedBy nat_cmp (root_number ∷ [])
unfolding IsStrictlySortedBy
one_number = (tt, tt)

one_place : (place : Place) → IsDistinct is_place (place ∷ [])
unfolding IsDistinct
one_place place = (tt, tt)

root_alone : (number : ℕ) (node : Node) → node_at fresh_tree.rows number ≡ Some node → (number ≡ root_number) × (root ≡ node)
root_alone number node e =
    split (nat_eq number 1)
    (λ t. (eqb-true number 1 t, same_Some _ _ (cond_at_true (nat_eq number 1) _ _ _ t e)))
    (λ f. absurd (none-some _ (cond_at_false (nat_eq number 1) _ _ _ f e)))

root_sound : IsSound fresh_tree root_number root
root_sound = record {
  reached = at_root;
  named = λ apart. absurd (apart refl);
  above_zero = omega arith;
  below_next = omega arith;
  empty = λ _. refl;
  small = omega arith;
}

pub IsTree-fresh : IsTree fresh_tree
IsTree-fresh = record {
  has_root = refl;
  sound = λ number node e. let is = root_alone number node e in subst (IsSound fresh_tree number) is.1 (subst (λ (n : ℕ). IsSound fresh_tree n root) (sym is.0) root_sound);
  rising = one_number;
  places_differ = one_place root.place;
  few = omega arith;
  fits = omega arith;
  next_fits = omega arith;
}
