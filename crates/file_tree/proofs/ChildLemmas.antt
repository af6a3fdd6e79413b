-- The children in a tree after a change.
use Rattle.std.proofs.Common.{◌≡◌, ◌≢◌, ℕ, ◌<◌, ◌≤◌, inl, inr, Bool, true, false, cond, Option, Some, None, List, [], ◌∷◌, ◌++◌, refl, sym, ap, ◌∙◌, subst, arith, nat_eq}
use Rattle.std.specs.Map.{lookup, remove_entry}
use Rattle.std.proofs.lemmas.Bool.{cond-true, cond-false, true≢false, eq-eqb, ne_eqb, cases_eq}
use Rattle.std.proofs.lemmas.Option.{none-some, same_Some}
use Rattle.file_world.specs.declared.operation.Kind.{Kind}
use Rattle.file_world.specs.declared.operation.Kind.TheVariants.{Directory}
use Rattle.file_world.specs.Tree.{Place, Node, Nodes, FileTree, node_at, number_at, is_place, ReachesRoot, at_root, below, root, IsTree}
use Rattle.file_world.specs.TreeEffect.{is_directory_kind, is_directory, at, child_of, new_node, with_contents, with_place, revise, changed_tree, add, remove, move}
use Rattle.file_world.proofs.RowLemmas.{split, lookup-append_found, lookup-append_none, lookup-revised_same, lookup-revised_other, map-revised, lookup-removed_same, lookup-removed_other}
use Rattle.file_world.proofs.PlaceLemmas.{is_place-same, Stands, stands_at, number_of_place}
use Rattle.file_world.proofs.TreeLemmas.{CanAdd, CanRemove, CanMove, found-push, found-revised, IsTree-add, IsTree-remove, IsTree-move}

-- two options that hold the same are the same
option_same : (a b : Option ℕ) → ((m : ℕ) → a ≡ Some m → b ≡ Some m) → ((m : ℕ) → b ≡ Some m → a ≡ Some m) → a ≡ b
option_same None None f g = refl
option_same None (Some n) f g = g n refl
option_same (Some m) b f g = sym (f m refl)

-- an option that holds nothing is none
option_none : (a : Option ℕ) → ((m : ℕ) → a ≡ Some m → ⊥) → a ≡ None
option_none None f = refl
option_none (Some m) f = absurd (f m refl)

-- ---- what stands where

pub stands_in : (tree : FileTree) (place : Place) (number : ℕ) → IsTree tree → number_at tree.rows place ≡ Some number → Stands tree.rows number place
stands_in tree place number is e = stands_at place number tree.rows is.rising e

pub number_from : (tree : FileTree) (place : Place) (number : ℕ) → IsTree tree → Stands tree.rows number place → number_at tree.rows place ≡ Some number
number_from tree place number is stands =
    subst (λ (p : Place). number_at tree.rows p ≡ Some number) stands.there (number_of_place number stands.node tree.rows is.places_differ stands.found)

number_same : (tree after : FileTree) (place : Place) → IsTree tree → IsTree after → ((m : ℕ) → Stands after.rows m place → Stands tree.rows m place) → ((m : ℕ) → Stands tree.rows m place → Stands after.rows m place) → number_at after.rows place ≡ number_at tree.rows place
number_same tree after place is then back forth =
    option_same (number_at after.rows place) (number_at tree.rows place)
    (λ m e. number_from tree place m is (back m (stands_in after place m then e)))
    (λ m e. number_from after place m then (forth m (stands_in tree place m is e)))

-- what stands in a directory is not the root, and the directory is one
pub holder_of : (tree : FileTree) (directory number : ℕ) (name : List ℕ) → IsTree tree → 1 ≤ directory → Stands tree.rows number (at directory name) → (holder : Node) × (node_at tree.rows directory ≡ Some holder) × (holder.kind ≡ Directory)
holder_of tree directory number name is above stands = by number stands (is.sound number stands.node stands.found).reached
  where
    by : (n : ℕ) → Stands tree.rows n (at directory name) → ReachesRoot tree.rows n → (holder : Node) × (node_at tree.rows directory ≡ Some holder) × (holder.kind ≡ Directory)
    by n s at_root =
        let root_is : root ≡ s.node = same_Some _ _ (sym is.has_root ∙ s.found) in
        let zero_is : 0 ≡ directory = ap (λ (m : Node). m.place.directory) root_is ∙ ap (λ (p : Place). p.directory) s.there in
        absurd (omega (arith, zero_is, above))
    by n s (below _ node found holder held kind up) =
        let same : node.place.directory ≡ directory = ap (λ (m : Node). m.place.directory) (same_Some _ _ (sym found ∙ s.found)) ∙ ap (λ (p : Place). p.directory) s.there in
        (holder, ap (node_at tree.rows) (sym same) ∙ held, kind)

-- ---- a new node

pub no_child_at_next : (tree : FileTree) (name : List ℕ) → IsTree tree → number_at tree.rows (at tree.next name) ≡ None
no_child_at_next tree name is =
    let above : 1 ≤ tree.next = (let lt = (is.sound 1 root is.has_root).below_next in omega (arith, lt)) in
    option_none (number_at tree.rows (at tree.next name))
    (λ m e. let holder = holder_of tree tree.next m name is above (stands_in tree (at tree.next name) m is e) in
    let lt : tree.next < tree.next = (is.sound tree.next holder.0 holder.1).below_next in omega (arith, lt))

pub none_at_next : (tree : FileTree) → IsTree tree → node_at tree.rows tree.next ≡ None
none_at_next tree is = by (node_at tree.rows tree.next) refl
  where
    by : (was : Option Node) → node_at tree.rows tree.next ≡ was → node_at tree.rows tree.next ≡ None
    by None h = h
    by (Some node) h = absurd (let lt : tree.next < tree.next = (is.sound tree.next node h).below_next in omega (arith, lt))

pub child-added_here : (tree : FileTree) (kind : Kind) (place : Place) → IsTree tree → (can : CanAdd tree place) → child_of (changed_tree (add kind place) tree).rows place.directory place.name ≡ Some tree.next
child-added_here tree kind place is can =
    let after : Nodes = tree.rows ++ (tree.next, new_node kind place) ∷ [] in
    let held : node_at after place.directory ≡ Some can.directory = lookup-append_found (nat_eq place.directory) tree.rows ((tree.next, new_node kind place) ∷ []) can.directory can.held in
    let new : node_at after tree.next ≡ Some (new_node kind place) = lookup-append_none (nat_eq tree.next) tree.rows ((tree.next, new_node kind place) ∷ []) (none_at_next tree is) ∙ cond-true (nat_eq tree.next tree.next) _ _ (eq-eqb tree.next tree.next refl) in
    cond-true (is_directory (node_at after place.directory)) _ _ (ap is_directory held ∙ ap is_directory_kind can.is_directory)
    ∙ number_from (changed_tree (add kind place) tree) place tree.next (IsTree-add tree kind place is can) (record { node = new_node kind place; found = new; there = refl })

pub child-added_elsewhere : (tree : FileTree) (kind : Kind) (place : Place) → IsTree tree → (can : CanAdd tree place) → (directory : ℕ) (name : List ℕ) → is_place place (at directory name) ≡ false → child_of (changed_tree (add kind place) tree).rows directory name ≡ child_of tree.rows directory name
child-added_elsewhere tree kind place is can directory name apart =
    let then = IsTree-add tree kind place is can in
    let more : Nodes = (tree.next, new_node kind place) ∷ [] in
    let same : number_at (tree.rows ++ more) (at directory name) ≡ number_at tree.rows (at directory name) =
    number_same tree (changed_tree (add kind place) tree) (at directory name) is then
    (λ m s. elim (found-push tree.rows tree.next (new_node kind place) m s.node s.found) [
      | inl old ↦ record { node = s.node; found = old; there = s.there }
      | inr new ↦ absurd (true≢false (sym (is_place-same place (at directory name) (ap (λ (n : Node). n.place) new.1 ∙ s.there)) ∙ apart))
    ])
    (λ m s. record { node = s.node; found = lookup-append_found (nat_eq m) tree.rows more s.node s.found; there = s.there }) in
    elim (cases_eq directory tree.next) [
      | inl e ↦ let none : number_at (tree.rows ++ more) (at directory name) ≡ None = same ∙ (ap (λ (d : ℕ). number_at tree.rows (at d name)) e ∙ no_child_at_next tree name is) in
          both_none (is_directory (node_at (tree.rows ++ more) directory)) (number_at (tree.rows ++ more) (at directory name)) none
          ∙ sym (cond-false (is_directory (node_at tree.rows directory)) _ _ (ap is_directory (ap (node_at tree.rows) e ∙ none_at_next tree is)))
      | inr other ↦ ap (λ (b : Bool). cond b (number_at (tree.rows ++ more) (at directory name)) None) (ap is_directory (found_same directory other))
          ∙ ap (λ (o : Option ℕ). cond (is_directory (node_at tree.rows directory)) o None) same
    ]
  where
    both_none : (b : Bool) (o : Option ℕ) → o ≡ None → cond b o None ≡ None
    both_none true o e = e
    both_none false o e = refl

    found_same : (d : ℕ) → d ≢ tree.next → node_at (tree.rows ++ (tree.next, new_node kind place) ∷ []) d ≡ node_at tree.rows d
    found_same d other = by (node_at tree.rows d) refl
      where
        by : (was : Option Node) → node_at tree.rows d ≡ was → node_at (tree.rows ++ (tree.next, new_node kind place) ∷ []) d ≡ node_at tree.rows d
        by None h = lookup-append_none (nat_eq d) tree.rows ((tree.next, new_node kind place) ∷ []) h ∙ (cond-false (nat_eq d tree.next) _ _ (ne_eqb d tree.next other) ∙ sym h)
        by (Some w) h = lookup-append_found (nat_eq d) tree.rows ((tree.next, new_node kind place) ∷ []) w h ∙ sym h

-- ---- a revised node

kind-revised : (number : ℕ) (revision : Node → Node) → ((n : Node) → (revision n).kind ≡ n.kind) → (rows : Nodes) (directory : ℕ) → is_directory (node_at (revise number revision rows) directory) ≡ is_directory (node_at rows directory)
kind-revised number revision same [] directory = refl
kind-revised number revision same (row ∷ rows) directory =
    split (nat_eq number row.0)
    (λ t. ap (λ (r : Nodes). is_directory (node_at r directory)) (cond-true (nat_eq number row.0) ((row.0, revision row.1) ∷ rows) (row ∷ revise number revision rows) t)
    ∙ split (nat_eq directory row.0)
    (λ s. ap is_directory (cond-true (nat_eq directory row.0) (Some (revision row.1)) (node_at rows directory) s)
    ∙ (ap is_directory_kind (same row.1) ∙ sym (ap is_directory (cond-true (nat_eq directory row.0) (Some row.1) (node_at rows directory) s))))
    (λ s. ap is_directory (cond-false (nat_eq directory row.0) (Some (revision row.1)) (node_at rows directory) s)
    ∙ sym (ap is_directory (cond-false (nat_eq directory row.0) (Some row.1) (node_at rows directory) s))))
    (λ f. ap (λ (r : Nodes). is_directory (node_at r directory)) (cond-false (nat_eq number row.0) ((row.0, revision row.1) ∷ rows) (row ∷ revise number revision rows) f)
    ∙ split (nat_eq directory row.0)
    (λ s. ap is_directory (cond-true (nat_eq directory row.0) (Some row.1) (node_at (revise number revision rows) directory) s)
    ∙ sym (ap is_directory (cond-true (nat_eq directory row.0) (Some row.1) (node_at rows directory) s)))
    (λ s. ap is_directory (cond-false (nat_eq directory row.0) (Some row.1) (node_at (revise number revision rows) directory) s)
    ∙ (kind-revised number revision same rows directory ∙ sym (ap is_directory (cond-false (nat_eq directory row.0) (Some row.1) (node_at rows directory) s)))))

pub child-filled : (rows : Nodes) (number : ℕ) (contents : List ℕ) (directory : ℕ) (name : List ℕ) → child_of (revise number (with_contents contents) rows) directory name ≡ child_of rows directory name
child-filled rows number contents directory name =
    ap (λ (b : Bool). cond b (number_at (revise number (with_contents contents) rows) (at directory name)) None) (kind-revised number (with_contents contents) (λ _. refl) rows directory)
    ∙ ap (λ (places : List (Place × ℕ)). cond (is_directory (node_at rows directory)) (lookup (is_place (at directory name)) places) None)
    (map-revised {Y = Place × ℕ} (λ row. (row.1.place, row.0)) number (with_contents contents) (λ _ _. refl) rows)

-- ---- a node that goes

kept_after : (tree : FileTree) (number m : ℕ) (node : Node) → IsTree tree → node_at (remove_entry (nat_eq number) tree.rows) m ≡ Some node → (m ≢ number) × (node_at tree.rows m ≡ Some node)
kept_after tree number m node is e =
    elim (cases_eq m number) [
      | inl same ↦ absurd (none-some _ (sym (lookup-removed_same number tree.rows is.rising) ∙ (ap (node_at (remove_entry (nat_eq number) tree.rows)) (sym same) ∙ e)))
      | inr apart ↦ (apart, sym (lookup-removed_other number m tree.rows apart) ∙ e)
    ]

pub child-removed_within : (tree : FileTree) (number : ℕ) (name : List ℕ) → IsTree tree → child_of (changed_tree (remove number) tree).rows number name ≡ None
child-removed_within tree number name is =
    cond-false (is_directory (node_at (remove_entry (nat_eq number) tree.rows) number)) _ _ (ap is_directory (lookup-removed_same number tree.rows is.rising))

pub child-removed_here : (tree : FileTree) (number : ℕ) (place : Place) → IsTree tree → (can : CanRemove tree number) → can.node.place ≡ place → child_of (changed_tree (remove number) tree).rows place.directory place.name ≡ None
child-removed_here tree number place is can there =
    let then = IsTree-remove tree number is can in
    let none : number_at (remove_entry (nat_eq number) tree.rows) place ≡ None =
    option_none (number_at (remove_entry (nat_eq number) tree.rows) place)
    (λ m e. let s = stands_in (changed_tree (remove number) tree) place m then e in
    let was = kept_after tree number m s.node is s.found in
    was.0 (same_Some _ _ (sym (number_from tree place m is (record { node = s.node; found = was.1; there = s.there })) ∙ number_from tree place number is (record { node = can.node; found = can.found; there = there })))) in
    both_none (is_directory (node_at (remove_entry (nat_eq number) tree.rows) place.directory)) (number_at (remove_entry (nat_eq number) tree.rows) place) none
  where
    both_none : (b : Bool) (o : Option ℕ) → o ≡ None → cond b o None ≡ None
    both_none true o e = e
    both_none false o e = refl

pub child-removed_elsewhere : (tree : FileTree) (number : ℕ) (place : Place) → IsTree tree → (can : CanRemove tree number) → can.node.place ≡ place → (directory : ℕ) (name : List ℕ) → is_place place (at directory name) ≡ false → directory ≢ number → child_of (changed_tree (remove number) tree).rows directory name ≡ child_of tree.rows directory name
child-removed_elsewhere tree number place is can there directory name apart other =
    let then = IsTree-remove tree number is can in
    let same : number_at (remove_entry (nat_eq number) tree.rows) (at directory name) ≡ number_at tree.rows (at directory name) =
    number_same tree (changed_tree (remove number) tree) (at directory name) is then
    (λ m s. let was = kept_after tree number m s.node is s.found in record { node = s.node; found = was.1; there = s.there })
    (λ m s. record {
      node = s.node;
      found = lookup-removed_other number m tree.rows (λ e. true≢false (sym (is_place-same place (at directory name) (sym there ∙ (ap (λ (n : Node). n.place) (same_Some _ _ (sym can.found ∙ (ap (node_at tree.rows) (sym e) ∙ s.found))) ∙ s.there))) ∙ apart)) ∙ s.found;
      there = s.there;
    }) in
    ap (λ (b : Bool). cond b (number_at (remove_entry (nat_eq number) tree.rows) (at directory name)) None) (ap is_directory (lookup-removed_other number directory tree.rows other))
    ∙ ap (λ (o : Option ℕ). cond (is_directory (node_at tree.rows directory)) o None) same

-- ---- a node that moves

pub child-moved_here : (tree : FileTree) (number : ℕ) (place : Place) → IsTree tree → (can : CanMove tree number place) → child_of (changed_tree (move number place) tree).rows place.directory place.name ≡ Some number
child-moved_here tree number place is can =
    let after : Nodes = revise number (with_place place) tree.rows in
    cond-true (is_directory (node_at after place.directory)) _ _ (kind-revised number (with_place place) (λ _. refl) tree.rows place.directory ∙ (ap is_directory can.held ∙ ap is_directory_kind can.is_directory))
    ∙ number_from (changed_tree (move number place) tree) place number (IsTree-move tree number place is can)
    (record { node = with_place place can.node; found = lookup-revised_same number (with_place place) tree.rows can.node can.found; there = refl })

pub child-moved_from : (tree : FileTree) (number : ℕ) (from place : Place) → IsTree tree → (can : CanMove tree number place) → can.node.place ≡ from → is_place from place ≡ false → child_of (changed_tree (move number place) tree).rows from.directory from.name ≡ None
child-moved_from tree number from place is can there apart =
    let after : Nodes = revise number (with_place place) tree.rows in
    let then = IsTree-move tree number place is can in
    let none : number_at after from ≡ None =
    option_none (number_at after from)
    (λ m e. let s = stands_in (changed_tree (move number place) tree) from m then e in
    elim (found-revised number (with_place place) tree.rows can.node can.found m s.node s.found) [
      | inl old ↦ old.0 (same_Some _ _ (sym (number_from tree from m is (record { node = s.node; found = old.1; there = s.there })) ∙ number_from tree from number is (record { node = can.node; found = can.found; there = there })))
      | inr new ↦ true≢false (sym (is_place-same from place (sym s.there ∙ ap (λ (n : Node). n.place) (sym new.1))) ∙ apart)
    ]) in
    both_none (is_directory (node_at after from.directory)) (number_at after from) none
  where
    both_none : (b : Bool) (o : Option ℕ) → o ≡ None → cond b o None ≡ None
    both_none true o e = e
    both_none false o e = refl

pub child-moved_elsewhere : (tree : FileTree) (number : ℕ) (from place : Place) → IsTree tree → (can : CanMove tree number place) → can.node.place ≡ from → (directory : ℕ) (name : List ℕ) → is_place from (at directory name) ≡ false → is_place place (at directory name) ≡ false → child_of (changed_tree (move number place) tree).rows directory name ≡ child_of tree.rows directory name
child-moved_elsewhere tree number from place is can there directory name apart other =
    let after : Nodes = revise number (with_place place) tree.rows in
    let then = IsTree-move tree number place is can in
    let same : number_at after (at directory name) ≡ number_at tree.rows (at directory name) =
    number_same tree (changed_tree (move number place) tree) (at directory name) is then
    (λ m s. elim (found-revised number (with_place place) tree.rows can.node can.found m s.node s.found) [
      | inl old ↦ record { node = s.node; found = old.1; there = s.there }
      | inr new ↦ absurd (true≢false (sym (is_place-same place (at directory name) (ap (λ (n : Node). n.place) new.1 ∙ s.there)) ∙ other))
    ])
    (λ m s. record {
      node = s.node;
      found = lookup-revised_other number m (with_place place) tree.rows (λ e. true≢false (sym (is_place-same from (at directory name) (sym there ∙ (ap (λ (n : Node). n.place) (same_Some _ _ (sym can.found ∙ (ap (node_at tree.rows) (sym e) ∙ s.found))) ∙ s.there))) ∙ apart)) ∙ s.found;
      there = s.there;
    }) in
    ap (λ (b : Bool). cond b (number_at after (at directory name)) None) (kind-revised number (with_place place) (λ _. refl) tree.rows directory)
    ∙ ap (λ (o : Option ℕ). cond (is_directory (node_at tree.rows directory)) o None) same
