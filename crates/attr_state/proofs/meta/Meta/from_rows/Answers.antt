-- The marks of rows that are within the limits.
use Rattle.std.proofs.Common.{List, map, ap, ◌∙◌, subst}
use Rattle.file_world.specs.Attributes.{AreMarks}
use Rattle.node_rows.specs.declared.rows.MetaRow.{MetaRow}
use Rattle.node_rows.specs.Rows.{meta_row}
use Rattle.attr_state.proofs.RowsLemmas.{index_of_marks}
use Rattle.attr_state.proofs.meta.Meta.from_rows.Goals as goal

pub invariant_of-result : goal.invariant_of-result
invariant_of-result c =
    let rows : List MetaRow = c.args.rows.now in
    index_of_marks c.in_ok-kept_marks.field-0.entries (map meta_row rows)
    (subst (λ (them : List MetaRow). AreMarks (map meta_row them)) c.as_slice.ensures (c.are_marks.ensures.0 c.if-not-are_marks.false))
    (c.in_ok-kept_marks.ensures ∙ ap (map meta_row) c.as_slice-2.ensures)
