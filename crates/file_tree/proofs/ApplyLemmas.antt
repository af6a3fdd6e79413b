-- What is kept after a change, piece by piece.
use Rattle.std.proofs.Common.{◌≡◌, ℕ, ◌+◌, ◌≤◌, cond, IsSome, is_some, Option, Some, None, List, length, refl, sym, ap, ◌∙◌, subst, arith, nat_eq, nat_cmp, Result, Ok, OnOk}
use Rattle.std.specs.Map.{remove_entry}
use Rattle.std.specs.BTreeMap.{is_at}
use Rattle.std.proofs.lemmas.Bool.{cond-true, cond-false, false≢true, eq-eqb, ne_eqb}
use Rattle.std.proofs.lemmas.Option.{same_Some}
use Rattle.file_world.specs.Tree.{Place, Nodes, node_at, is_place, contents_sum}
use Rattle.file_world.specs.TreeEffect.{at, with_contents, with_place, revise}
use Rattle.file_world.proofs.RowLemmas.{split, sum_by-revised, sum_by-removed, weight-le-sum_by}
use Rattle.file_world.proofs.PlaceLemmas.{is_place-true}
use Rattle.file_tree.specs.declared.node.KeptNode.{KeptNode as Kept}
use Rattle.file_tree.specs.Index.{Entries, node_shown, rows_of, kept_at, number_in, reserved_at, HasContentsRoom, Puts, Fills, Removes, Replaces, Relocates}
use Rattle.file_tree.proofs.IndexLemmas.{same_test, SetsValue, held-set, rows-set_value, rows-remove_entry, node_at-kept}
use Rattle.file_tree.proofs.KeptLemmas.{some_kept}

pub Fills-from_set : (old new : Entries) (number : ℕ) (was now : Kept) (contents : List ℕ) (total : ℕ) → kept_at old number ≡ Some was → SetsValue old new number now → ((name : List ℕ) → number_in (Some now) name ≡ number_in (Some was) name) → node_shown now ≡ with_contents contents (node_shown was) → total + length was.contents.bytes ≡ contents_sum (rows_of old) + length contents → Fills old new number contents total
Fills-from_set old new number was now contents total there sets names shows sum =
    let rows : rows_of new ≡ revise number (with_contents contents) (rows_of old) = ap rows_of sets.entries ∙ rows-set_value old number (with_contents contents) was now there shows in
    let sums : contents_sum (revise number (with_contents contents) (rows_of old)) + length was.contents.bytes ≡ contents_sum (rows_of old) + length contents =
    sum_by-revised (λ row. length row.1.contents) number (with_contents contents) (node_shown was) (rows_of old) (node_at-kept old number was there) in
    record {
      rows = rows;
      same_held = held-set old new number was now there sets names;
      summed = (let e : total ≡ contents_sum (revise number (with_contents contents) (rows_of old)) = omega (arith, sum, sums) in e ∙ ap contents_sum (sym rows));
    }

pub Replaces-from_set : (old new : Entries) (number : ℕ) (was now : Kept) (place : Place) → kept_at old number ≡ Some was → SetsValue old new number now → ((name : List ℕ) → number_in (Some now) name ≡ number_in (Some was) name) → node_shown now ≡ with_place place (node_shown was) → Replaces old new number place
Replaces-from_set old new number was now place there sets names shows =
    record {
      rows = ap rows_of sets.entries ∙ rows-set_value old number (with_place place) was now there shows;
      same_held = held-set old new number was now there sets names;
    }

pub Removes-from : (old mid new : Entries) (number : ℕ) (place : Place) (was : Kept) (total : ℕ) → kept_at old number ≡ Some was → mid ≡ remove_entry (is_at (nat_cmp number)) old → ((other : ℕ) → kept_at mid other ≡ cond (is_at (nat_cmp number) other) None (kept_at old other)) → Puts mid new place None → total + length was.contents.bytes ≡ contents_sum (rows_of old) → Removes old new number place total
Removes-from old mid new number place was total there gone found puts sum =
    let rows : rows_of new ≡ remove_entry (nat_eq number) (rows_of old) = puts.same_rows ∙ (ap rows_of gone ∙ rows-remove_entry old number) in
    let sums : contents_sum (remove_entry (nat_eq number) (rows_of old)) + length was.contents.bytes ≡ contents_sum (rows_of old) =
    sum_by-removed (λ row. length row.1.contents) number (node_shown was) (rows_of old) (node_at-kept old number was there) in
    let none : (name : List ℕ) → reserved_at mid number name ≡ None =
    λ name. ap (λ (k : Option Kept). number_in k name) (found number ∙ cond-true (is_at (nat_cmp number) number) _ _ (same_test number number ∙ eq-eqb number number refl)) in
    record {
      rows = rows;
      here = puts.here;
      elsewhere = λ directory name apart other.
          puts.elsewhere directory name apart
          ∙ ap (λ (k : Option Kept). number_in k name) (found directory ∙ cond-false (is_at (nat_cmp number) directory) _ _ (same_test number directory ∙ ne_eqb number directory (λ e. other (sym e))));
      within = λ name.
          split (is_place place (at number name))
          (λ t. ap (λ (p : Place). reserved_at new p.directory p.name) (sym (is_place-true place (at number name) t)) ∙ puts.here)
          (λ f. puts.elsewhere number name f ∙ none name);
      summed = (let e : total ≡ contents_sum (remove_entry (nat_eq number) (rows_of old)) = omega (arith, sum, sums) in e ∙ ap contents_sum (sym rows));
    }

-- a node that is kept is kept where the rows are the same
pub still_kept : (old new : Entries) (number : ℕ) → rows_of new ≡ rows_of old → IsSome (kept_at old number) → IsSome (kept_at new number)
still_kept old new number same some = by (kept_at old number) refl
  where
    by : (was : Option Kept) → kept_at old number ≡ was → IsSome (kept_at new number)
    by None h = absurd (false≢true (sym (ap is_some h) ∙ some))
    by (Some kept) h = some_kept new number (node_shown kept) (ap (λ (r : Nodes). node_at r number) same ∙ node_at-kept old number kept h)

pub Relocates-from : (old entered left new : Entries) (number : ℕ) (from to : Place) → Puts old entered to (Some number) → Puts entered left from None → Replaces left new number to → Relocates old new number from to
Relocates-from old entered left new number from to puts takes replaces =
    record {
      rows = replaces.rows ∙ ap (revise number (with_place to)) (takes.same_rows ∙ puts.same_rows);
      here = λ apart. replaces.same_held to.directory to.name ∙ (takes.elsewhere to.directory to.name apart ∙ puts.here);
      there = replaces.same_held from.directory from.name ∙ takes.here;
      elsewhere = λ directory name apart other.
          replaces.same_held directory name ∙ (takes.elsewhere directory name apart ∙ puts.elsewhere directory name other);
    }

-- the room of the node that is kept
pub room_of : (entries : Entries) (number len : ℕ) (kept : Kept) → HasContentsRoom entries number len → kept_at entries number ≡ Some kept → len ≤ kept.contents.room
room_of entries number len kept room found = subst (λ (k : Kept). len ≤ k.contents.room) (same_Some _ _ (sym room.found ∙ found)) room.room

-- what a node has is part of the sum
pub part_le_sum : (entries : Entries) (number : ℕ) (kept : Kept) → kept_at entries number ≡ Some kept → length kept.contents.bytes ≤ contents_sum (rows_of entries)
part_le_sum entries number kept found = weight-le-sum_by (λ row. length row.1.contents) number (node_shown kept) (rows_of entries) (node_at-kept entries number kept found)

pub kept_from_some : (entries : Entries) (number : ℕ) → IsSome (kept_at entries number) → (kept : Kept) × (kept_at entries number ≡ Some kept)
kept_from_some entries number some = by (kept_at entries number) refl
  where
    by : (was : Option Kept) → kept_at entries number ≡ was → (kept : Kept) × (kept_at entries number ≡ Some kept)
    by None h = absurd (false≢true (sym (ap is_some h) ∙ some))
    by (Some kept) h = (kept, h)

-- what is ensured of an answer that is Ok
pub entered_ok : {A E : Type 0} (result : Result A E) (value : A) (P : Type 0) → result ≡ Ok value → OnOk result P → P
entered_ok {A} {E} result value P e h = let Q : Result A E → Type 0 = λ r. OnOk r P in subst Q e h
