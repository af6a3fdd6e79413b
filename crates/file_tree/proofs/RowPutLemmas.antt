-- Nodes put one after the other show the rows, without names.
use Rattle.std.proofs.Common.{◌≡◌, ℕ, ◌+◌, ◌<◌, Option, Some, List, [], ◌∷◌, ◌++◌, length, take, drop, map, get_or, None, refl, sym, ap, ap₂, ◌∙◌, subst, arith, nat_eq, nat_cmp}
use Rattle.std.specs.List.{AllByRecursion}
use Rattle.std.specs.Map.{lookup}
use Rattle.std.specs.BTreeMap.{is_at}
use Rattle.std.specs.Cmp.Lexicographic.{slice_cmp}
use Rattle.std.proofs.lemmas.Bool.{cond-true, cond-false, eqb-true}
use Rattle.std.proofs.lemmas.Option.{none-some}
use Rattle.file_world.specs.Tree.{Node, Nodes, node_at}
use Rattle.file_world.proofs.RowLemmas.{split, cond_at_false, lt_from_less, AreAbove, AreRising, AreBelow, rising_head, rising_tail}
use Rattle.node_rows.specs.declared.rows.TreeRow.{TreeRow}
use Rattle.node_rows.specs.Rows.{tree_row}
use Rattle.file_tree.specs.declared.node.KeptNode.{KeptNode as Kept}
use Rattle.file_tree.specs.Index.{Entries, node_shown, rows_of, kept_at, number_in, reserved_at, AreNumbersBelow}
use Rattle.file_tree.specs.RowTests.{ShowsRows}
use Rattle.file_tree.proofs.IndexLemmas.{node_at-kept, rows-append}
use Rattle.file_tree.proofs.RowLoopLemmas.{rows_more, rows_parted}

pub all_push : {A : Type 0} (P : A → Type 0) (xs : List A) (x : A) → AllByRecursion P xs → P x → AllByRecursion P (xs ++ x ∷ [])
all_push P [] x all new = (new, tt)
all_push P (y ∷ xs) x all new = (all.0, all_push P xs x all.1 new)

abbrev AreNameless : Entries → Type 0
AreNameless entries = AllByRecursion (λ entry. entry.1.names.entries ≡ []) entries

-- without names no directory keeps one
pub none_reserved : (entries : Entries) → AllByRecursion (λ entry. entry.1.names.entries ≡ []) entries → (directory : ℕ) (name : List ℕ) → reserved_at entries directory name ≡ None
none_reserved [] none directory name = refl
none_reserved (entry ∷ entries) none directory name =
    split (is_at (nat_cmp directory) entry.0)
    (λ t. ap (λ (k : Option Kept). number_in k name) (cond-true (is_at (nat_cmp directory) entry.0) (Some entry.1) (kept_at entries directory) t)
    ∙ ap (λ (es : List (List ℕ × ℕ)). lookup (is_at (slice_cmp nat_cmp name)) es) none.0)
    (λ f. ap (λ (k : Option Kept). number_in k name) (cond-false (is_at (nat_cmp directory) entry.0) (Some entry.1) (kept_at entries directory) f)
    ∙ none_reserved entries none.1 directory name)

pub shows_none : (entries : Entries) → entries ≡ [] → ShowsRows entries []
shows_none entries e = record { rows_shown = ap rows_of e; no_names = subst AreNameless (sym e) tt }

pub shows_more : (rows : List TreeRow) (i : ℕ) (row : TreeRow) (node : Kept) (old new : Entries) → i < length rows → row ≡ get_or rows i row → ShowsRows old (map tree_row (take i rows)) → node_shown node ≡ (tree_row row).1 → node.names.entries ≡ [] → new ≡ old ++ (row.number.0, node) ∷ [] → ShowsRows new (map tree_row (take (i + 1) rows))
shows_more rows i row node old new lt is shows shown none e =
    record {
      rows_shown = ap rows_of e
          ∙ (rows-append old row.number.0 node
          ∙ (ap₂ (λ (rs : Nodes) (n : Node). rs ++ (row.number.0, n) ∷ []) shows.rows_shown shown
          ∙ sym (rows_more rows i row lt is)));
      no_names = subst AreNameless (sym e) (all_push (λ (entry : ℕ × Kept). entry.1.names.entries ≡ []) old (row.number.0, node) shows.no_names none);
    }

-- ---- the numbers of the rows before one are below it

above_middle : (bound : ℕ) (done : Nodes) (row : ℕ × Node) (rest : Nodes) → AreAbove bound (done ++ row ∷ rest) → bound < row.0
above_middle bound [] row rest above = lt_from_less bound row.0 above.0
above_middle bound (first ∷ done) row rest above = above_middle bound done row rest above.1

below_middle : (done : Nodes) (row : ℕ × Node) (rest : Nodes) → AreRising (done ++ row ∷ rest) → AreBelow row.0 done
below_middle [] row rest rising number value e = absurd (none-some _ e)
below_middle (first ∷ done) row rest rising number value e =
    split (nat_eq number first.0)
    (λ t. let same = eqb-true number first.0 t in let lt = above_middle first.0 done row rest (rising_head first (done ++ row ∷ rest) rising) in omega (arith, same, lt))
    (λ f. below_middle done row rest (rising_tail first (done ++ row ∷ rest) rising) number value (cond_at_false (nat_eq number first.0) _ _ _ f e))

pub numbers_below : (rows : List TreeRow) (i : ℕ) (row : TreeRow) (entries : Entries) → AreRising (map tree_row rows) → i < length rows → row ≡ get_or rows i row → ShowsRows entries (map tree_row (take i rows)) → AreNumbersBelow entries row.number.0
numbers_below rows i row entries rising lt is shows number kept e =
    below_middle (map tree_row (take i rows)) (tree_row row) (map tree_row (drop (i + 1) rows))
    (subst AreRising (rows_parted rows i row lt is) rising)
    number (node_shown kept) (ap (λ (rs : Nodes). node_at rs number) (sym shows.rows_shown) ∙ node_at-kept entries number kept e)
