-- One row more.
use Rattle.std.proofs.Common.{sym, ◌∙◌, arith, map}
use Rattle.std.specs.List.{list_all}
use Rattle.std.proofs.lemmas.List.{at_drop_all}
use Rattle.node_rows.specs.Rows.{tree_row}
use Rattle.file_tree.specs.RowTests.{is_sound_row}
use Rattle.file_tree.proofs.RowLoopLemmas.{test_step, test_stop}
use Rattle.file_tree.proofs.row_tests.are_each_sound.Goals as goal

pub returns-then-not-is_sound_row : goal.returns-then-not-is_sound_row
returns-then-not-is_sound_row c = sym (test_stop (is_sound_row c.args.next) c.args.rows.now c.loop-row.row-index c.row-item.result c.loop-row-test.true c.row-item.is (sym c.if-not-is_sound_row.ensures)) ∙ c.loop-row.invariant

pub loop-row-preserved : goal.loop-row-preserved
loop-row-preserved c = sym (test_step (is_sound_row c.args.next) c.args.rows.now c.loop-row.row-index c.row-item.result c.loop-row-test.true c.row-item.is (sym c.if-not-is_sound_row.ensures)) ∙ c.loop-row.invariant

pub returns : goal.returns
returns c = sym (at_drop_all (λ rows. list_all (is_sound_row c.args.next) (map tree_row rows)) c.args.rows.now c.loop-row.row-index (omega (arith, c.loop-row-test.false))) ∙ c.loop-row.invariant
