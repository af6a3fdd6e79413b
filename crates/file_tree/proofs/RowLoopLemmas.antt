-- What loops over rows keep, one row after the other.
use Rattle.std.proofs.Common.{◌≡◌, ℕ, ◌+◌, ◌-◌, ◌<◌, ◌≤◌, Bool, true, false, Option, Some, None, List, [], ◌∷◌, ◌++◌, length, take, drop, map, get_or, sym, ap, ap₂, ◌∙◌}
use Rattle.std.specs.Prelude.{◌&&◌}
use Rattle.std.specs.List.{list_all}
use Rattle.std.proofs.lemmas.Bool.{lt-ltb, le-ltb}
use Rattle.std.proofs.lemmas.List.{take_more, drop_more, take_all, drop_all, map-append, length-map, take-map, take-append-drop}
use Rattle.std.proofs.lemmas.List.Sums.{sum_by-cons}
use Rattle.file_world.specs.Tree.{Node, Nodes, contents_sum}
use Rattle.node_rows.specs.declared.rows.TreeRow.{TreeRow}
use Rattle.node_rows.specs.Rows.{tree_row}
use Rattle.file_tree.specs.declared.ready.Ready.{Ready}
use Rattle.file_tree.specs.declared.ready.Ready.TheVariants.{Nothing, Contents, Made, Gone, Moved}
use Rattle.file_tree.specs.Index.{Entries, rows_of, published_nodes, without_unpublished}
use Rattle.file_tree.specs.RowTests.{is_rising_after}

-- ---- the rows without the last

rows_without_last : (rows : List TreeRow) (entries : Entries) → map tree_row rows ≡ rows_of entries → map tree_row (take (length rows - 1) rows) ≡ rows_of (take (length entries - 1) entries)
rows_without_last rows entries e =
    let same : length rows ≡ length entries = sym (length-map rows tree_row) ∙ (ap length e ∙ length-map entries _) in
    sym (take-map tree_row (length rows - 1) rows)
    ∙ (ap₂ (λ (n : ℕ) (r : Nodes). take (n - 1) r) same e ∙ take-map _ (length entries - 1) entries)

pub rows_published : (ready : Option Ready) (rows : List TreeRow) (entries : Entries) → map tree_row rows ≡ rows_of entries → map tree_row (without_unpublished ready rows) ≡ rows_of (published_nodes ready entries)
rows_published None rows entries e = e
rows_published (Some Nothing) rows entries e = e
rows_published (Some (Contents number len)) rows entries e = e
rows_published (Some (Made kind spot)) rows entries e = rows_without_last rows entries e
rows_published (Some (Gone number spot)) rows entries e = e
rows_published (Some (Moved number from to)) rows entries e = e

-- ---- one row more

drop_read : {A : Type 0} (xs : List A) (i : ℕ) (x : A) → i < length xs → x ≡ get_or xs i x → drop i xs ≡ x ∷ drop (i + 1) xs
drop_read {A} xs i x lt is = drop_more xs i x lt ∙ ap (λ (y : A). y ∷ drop (i + 1) xs) (sym is)

take_read : {A : Type 0} (xs : List A) (i : ℕ) (x : A) → i < length xs → x ≡ get_or xs i x → take (i + 1) xs ≡ take i xs ++ x ∷ []
take_read {A} xs i x lt is = take_more xs i x lt ∙ ap (λ (y : A). take i xs ++ y ∷ []) (sym is)

pub rows_more : (rows : List TreeRow) (i : ℕ) (row : TreeRow) → i < length rows → row ≡ get_or rows i row → map tree_row (take (i + 1) rows) ≡ map tree_row (take i rows) ++ tree_row row ∷ []
rows_more rows i row lt is = ap (map tree_row) (take_read rows i row lt is) ∙ map-append tree_row (take i rows) (row ∷ [])

rows_left : (rows : List TreeRow) (i : ℕ) (row : TreeRow) → i < length rows → row ≡ get_or rows i row → map tree_row (drop i rows) ≡ tree_row row ∷ map tree_row (drop (i + 1) rows)
rows_left rows i row lt is = ap (map tree_row) (drop_read rows i row lt is)

pub rows_parted : (rows : List TreeRow) (i : ℕ) (row : TreeRow) → i < length rows → row ≡ get_or rows i row → map tree_row rows ≡ map tree_row (take i rows) ++ tree_row row ∷ map tree_row (drop (i + 1) rows)
rows_parted rows i row lt is =
    ap (map tree_row) (sym (take-append-drop i rows) ∙ ap (λ (r : List TreeRow). take i rows ++ r) (drop_read rows i row lt is))
    ∙ map-append tree_row (take i rows) (row ∷ drop (i + 1) rows)

pub rows_all : (rows : List TreeRow) (i : ℕ) → length rows ≤ i → map tree_row (take i rows) ≡ map tree_row rows
rows_all rows i le = ap (map tree_row) (take_all i rows le)

-- ---- numbers that rise

pub rising_step : (rows : List TreeRow) (i last : ℕ) (row : TreeRow) → i < length rows → row ≡ get_or rows i row → last < row.number.0 → is_rising_after last (map tree_row (drop i rows)) ≡ is_rising_after row.number.0 (map tree_row (drop (i + 1) rows))
rising_step rows i last row lt is up =
    ap (is_rising_after last) (rows_left rows i row lt is)
    ∙ ap (λ (b : Bool). b && is_rising_after row.number.0 (map tree_row (drop (i + 1) rows))) (lt-ltb last row.number.0 up)

pub rising_stop : (rows : List TreeRow) (i last : ℕ) (row : TreeRow) → i < length rows → row ≡ get_or rows i row → row.number.0 ≤ last → is_rising_after last (map tree_row (drop i rows)) ≡ false
rising_stop rows i last row lt is up =
    ap (is_rising_after last) (rows_left rows i row lt is)
    ∙ ap (λ (b : Bool). b && is_rising_after row.number.0 (map tree_row (drop (i + 1) rows))) (le-ltb last row.number.0 up)

-- ---- a test of each row

pub test_step : (test : ℕ × Node → Bool) (rows : List TreeRow) (i : ℕ) (row : TreeRow) → i < length rows → row ≡ get_or rows i row → test (tree_row row) ≡ true → list_all test (map tree_row (drop i rows)) ≡ list_all test (map tree_row (drop (i + 1) rows))
test_step test rows i row lt is holds =
    ap (list_all test) (rows_left rows i row lt is) ∙ ap (λ (b : Bool). b && list_all test (map tree_row (drop (i + 1) rows))) holds

pub test_stop : (test : ℕ × Node → Bool) (rows : List TreeRow) (i : ℕ) (row : TreeRow) → i < length rows → row ≡ get_or rows i row → test (tree_row row) ≡ false → list_all test (map tree_row (drop i rows)) ≡ false
test_stop test rows i row lt is fails =
    ap (list_all test) (rows_left rows i row lt is) ∙ ap (λ (b : Bool). b && list_all test (map tree_row (drop (i + 1) rows))) fails

-- ---- the sum of all contents

pub sum_step : (rows : List TreeRow) (i : ℕ) (row : TreeRow) → i < length rows → row ≡ get_or rows i row → contents_sum (map tree_row (drop i rows)) ≡ length row.contents + contents_sum (map tree_row (drop (i + 1) rows))
sum_step rows i row lt is = ap contents_sum (rows_left rows i row lt is) ∙ sum_by-cons (λ r. length r.1.contents) (tree_row row) (map tree_row (drop (i + 1) rows))

pub sum_end : (rows : List TreeRow) (i : ℕ) → length rows ≤ i → contents_sum (map tree_row (drop i rows)) ≡ 0
sum_end rows i le = ap (λ (r : List TreeRow). contents_sum (map tree_row r)) (drop_all i rows le)
