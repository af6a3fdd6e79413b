-- The names of rows, entered in their directories one after the other.
use Rattle.std.proofs.Common.{◌≡◌, ℕ, ◌+◌, ◌<◌, true, false, cond, Option, Some, None, is_none, IsSome, List, [], ◌∷◌, ◌++◌, length, take, drop, map, get_or, refl, sym, ap, ◌∙◌, subst}
use Rattle.std.specs.List.{AllByRecursion, IsDistinct}
use Rattle.std.proofs.lemmas.Bool.{cond-true, cond-false, and_parts, and_from, both_ways}
use Rattle.std.proofs.lemmas.Option.{none-some}
use Rattle.file_world.specs.Tree.{Place, Node, Nodes, node_at, number_at, is_place}
use Rattle.file_world.specs.TreeEffect.{at, is_directory}
use Rattle.file_world.proofs.RowLemmas.{split, cond_at_true, cond_at_false}
use Rattle.file_world.proofs.PlaceLemmas.{is_place-true, is_place-refl, is_place-flip, DoPlacesDiffer, IsFree, differ_head, differ_tail, differ-push, IsFree-from_none}
use Rattle.file_world.proofs.EffectLemmas.{directory_from}
use Rattle.node_rows.specs.declared.rows.TreeRow.{TreeRow}
use Rattle.node_rows.specs.Rows.{tree_row}
use Rattle.file_tree.specs.Index.{Entries, rows_of, kept_at, reserved_at, Puts}
use Rattle.file_tree.specs.RowTests.{ShowsRows, AreNamed, NamesRows, is_free_place}
use Rattle.file_tree.proofs.KeptLemmas.{some_kept}
use Rattle.file_tree.proofs.RowLoopLemmas.{rows_more, rows_parted}
use Rattle.file_tree.proofs.RowPutLemmas.{all_push, none_reserved}

-- ---- what stands at a place, one row more

number_apart : (done : Nodes) (row : ℕ × Node) (place : Place) → is_place row.1.place place ≡ false → number_at (done ++ row ∷ []) place ≡ number_at done place
number_apart [] row place apart = cond-false (is_place place row.1.place) _ _ (is_place-flip row.1.place place apart)
number_apart (first ∷ done) row place apart = ap (λ (rest : Option ℕ). cond (is_place place first.1.place) (Some first.0) rest) (number_apart done row place apart)

number_here : (done : Nodes) (row : ℕ × Node) → number_at done row.1.place ≡ None → number_at (done ++ row ∷ []) row.1.place ≡ Some row.0
number_here [] row none = cond-true (is_place row.1.place row.1.place) _ _ (is_place-refl row.1.place)
number_here (first ∷ done) row none =
    split (is_place row.1.place first.1.place)
    (λ t. absurd (none-some _ (sym (cond_at_true (is_place row.1.place first.1.place) _ _ _ t none))))
    (λ f. cond-false (is_place row.1.place first.1.place) _ _ f ∙ number_here done row (cond_at_false (is_place row.1.place first.1.place) _ _ _ f none))

-- ---- a name that is entered

none_from_test : (found : Option ℕ) → is_none found ≡ true → found ≡ None
none_from_test None e = refl
none_from_test (Some number) e = absurd (both_ways (is_none (Some number)) refl e)

named_more : (all done : Nodes) (row : ℕ × Node) → AreNamed all done → is_directory (node_at all row.1.place.directory) ≡ true → number_at done row.1.place ≡ None → AreNamed all (done ++ row ∷ [])
named_more all done row are held none =
    record {
      in_directories = all_push (λ (r : ℕ × Node). is_directory (node_at all r.1.place.directory) ≡ true) done row are.in_directories held;
      places_differ = differ-push row.0 row.1 done are.places_differ (IsFree-from_none row.1.place done none);
    }

enters : (old new : Entries) (all done : Nodes) (row : ℕ × Node) → NamesRows old all done → is_free_place old row.1.place ≡ true → Puts old new row.1.place (Some row.0) → NamesRows new all (done ++ row ∷ [])
enters old new all done row names free puts =
    let parts = and_parts (is_directory (node_at (rows_of old) row.1.place.directory)) (is_none (reserved_at old row.1.place.directory row.1.place.name)) free in
    let none : number_at done row.1.place ≡ None = sym (names.named row.1.place.directory row.1.place.name) ∙ none_from_test (reserved_at old row.1.place.directory row.1.place.name) parts.1 in
    record {
      same_rows = puts.same_rows ∙ names.same_rows;
      named = λ directory name. split (is_place row.1.place (at directory name))
          (λ t. let same : row.1.place ≡ at directory name = is_place-true row.1.place (at directory name) t in
          ap (λ (p : Place). reserved_at new p.directory p.name) (sym same) ∙ (puts.here ∙ (sym (number_here done row none) ∙ ap (number_at (done ++ row ∷ [])) same)))
          (λ f. puts.elsewhere directory name f ∙ (names.named directory name ∙ sym (number_apart done row (at directory name) f)));
      are_named = named_more all done row names.are_named (ap (λ (rs : Nodes). is_directory (node_at rs row.1.place.directory)) (sym names.same_rows) ∙ parts.0) none;
    }

differ_nil : DoPlacesDiffer []
unfolding IsDistinct
differ_nil = tt

pub names_none : (entries : Entries) → ShowsRows entries (rows_of entries) → NamesRows entries (rows_of entries) []
names_none entries shows = record {
  same_rows = refl;
  named = none_reserved entries shows.no_names;
  are_named = record { in_directories = tt; places_differ = differ_nil };
}

pub enters_more : (rows : List TreeRow) (i : ℕ) (row : TreeRow) (old new : Entries) (all : Nodes) → i < length rows → row ≡ get_or rows i row → NamesRows old all (map tree_row (take i rows)) → is_free_place old (tree_row row).1.place ≡ true → Puts old new (tree_row row).1.place (Some row.number.0) → NamesRows new all (map tree_row (take (i + 1) rows))
enters_more rows i row old new all lt is names free puts =
    subst (NamesRows new all) (sym (rows_more rows i row lt is)) (enters old new all (map tree_row (take i rows)) (tree_row row) names free puts)

-- the directory of a free place is kept
pub holder_kept : (entries : Entries) (place : Place) → is_free_place entries place ≡ true → IsSome (kept_at entries place.directory)
holder_kept entries place free =
    let holds = directory_from (rows_of entries) place.directory (and_parts (is_directory (node_at (rows_of entries) place.directory)) (is_none (reserved_at entries place.directory place.name)) free).0 in
    some_kept entries place.directory holds.node holds.found

-- ---- a name that is not entered

all_middle : {A : Type 0} (P : A → Type 0) (done : List A) (x : A) (rest : List A) → AllByRecursion P (done ++ x ∷ rest) → P x
all_middle P [] x rest all = all.0
all_middle P (y ∷ done) x rest all = all_middle P done x rest all.1

free_middle : (place : Place) (done : Nodes) (row : ℕ × Node) (rest : Nodes) → IsFree place (done ++ row ∷ rest) → is_place place row.1.place ≡ false
free_middle place [] row rest free = free.0
free_middle place (first ∷ done) row rest free = free_middle place done row rest free.1

differ_middle : (done : Nodes) (row : ℕ × Node) (rest : Nodes) → DoPlacesDiffer (done ++ row ∷ rest) → number_at done row.1.place ≡ None
differ_middle [] row rest differ = refl
differ_middle (first ∷ done) row rest differ =
    cond-false (is_place row.1.place first.1.place) _ _ (is_place-flip first.1.place row.1.place (free_middle first.1.place done row rest (differ_head first (done ++ row ∷ rest) differ)))
    ∙ differ_middle done row rest (differ_tail first (done ++ row ∷ rest) differ)

refuses : (entries : Entries) (all done : Nodes) (row : ℕ × Node) (rest : Nodes) → NamesRows entries all done → is_free_place entries row.1.place ≡ false → AreNamed all (done ++ row ∷ rest) → ⊥
refuses entries all done row rest names taken are =
    let held : is_directory (node_at (rows_of entries) row.1.place.directory) ≡ true =
    ap (λ (rs : Nodes). is_directory (node_at rs row.1.place.directory)) names.same_rows ∙ all_middle (λ (r : ℕ × Node). is_directory (node_at all r.1.place.directory) ≡ true) done row rest are.in_directories in
    let none : reserved_at entries row.1.place.directory row.1.place.name ≡ None = names.named row.1.place.directory row.1.place.name ∙ differ_middle done row rest are.places_differ in
    both_ways (is_free_place entries row.1.place) taken (and_from _ _ held (ap is_none none))

pub refuses_names : (rows : List TreeRow) (i : ℕ) (row : TreeRow) (entries : Entries) (all : Nodes) → i < length rows → row ≡ get_or rows i row → NamesRows entries all (map tree_row (take i rows)) → is_free_place entries (tree_row row).1.place ≡ false → AreNamed all (map tree_row rows) → ⊥
refuses_names rows i row entries all lt is names taken are =
    refuses entries all (map tree_row (take i rows)) (tree_row row) (map tree_row (drop (i + 1) rows)) names taken (subst (AreNamed all) (rows_parted rows i row lt is) are)
