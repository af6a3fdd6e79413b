-- The row's mark goes behind those that are kept, since the numbers rise.
use Rattle.std.proofs.Common.{◌≡◌, ◌++◌, ◌∷◌, List, ℕ, suc, ◌+◌, false, Result, Ok, Err, drop, map, refl, sym, ap, ◌∙◌, add-one, drop-cons}
use Rattle.std.specs.Prelude.{OnOk, is_err}
use Rattle.std.proofs.lemmas.Bool.{false≢true}
use Rattle.file_world.specs.Attributes.{Marks}
use Rattle.node_rows.specs.declared.rows.MetaRow.{MetaRow}
use Rattle.node_rows.specs.Rows.{meta_row}
use Rattle.attr_state.specs.Index.{marks_of}
use Rattle.attr_state.proofs.RowsLemmas.{kept_next}
use Rattle.attr_state.proofs.rows.kept_marks.Goals as goal

at_ok : {A E P : Type 0} (result : Result A E) → is_err result ≡ false → OnOk result P → P
at_ok (Ok value) e h = h
at_ok (Err fault) e h = absurd (false≢true (sym e))

next_row : (rows : List MetaRow) (index : ℕ) (row : MetaRow) (old : Marks) → drop index rows ≡ row ∷ drop (index + 1) rows → old ++ map meta_row (drop index rows) ≡ map meta_row rows → old ++ meta_row row ∷ map meta_row (drop (index + 1) rows) ≡ map meta_row rows
next_row rows index row old is so_far = ap (λ (left : List MetaRow). old ++ map meta_row left) (sym is) ∙ so_far

pub loop-row-preserved : goal.loop-row-preserved
loop-row-preserved c =
    let rows = c.args.rows.now in
    let index = c.loop-row.row-index in
    let row = c.row-item.result in
    let left : drop index rows ≡ row ∷ drop (index + 1) rows =
    drop-cons rows index row c.loop-row-test.true ∙ ap (λ (first : MetaRow). first ∷ drop (suc index) rows) (sym c.row-item.is) ∙ ap (λ (n : ℕ). row ∷ drop n rows) (sym (add-one index)) in
    kept_next c.loop-row.marks.entries c.insert-put.new.self.entries row.number.0 c.in_ok-mark.mark (meta_row row) (map meta_row (drop (index + 1) rows)) (map meta_row rows) c.requires
    (next_row rows index row (marks_of c.loop-row.marks.entries) left c.loop-row.invariant) refl c.in_ok-mark.ensures
    (at_ok c.insert-put.result (sym c.is_err.ensures.value ∙ c.if-is_err.false) c.insert-put.ensures.entries)
