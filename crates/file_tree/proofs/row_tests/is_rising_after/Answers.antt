-- One row more.
use Rattle.std.proofs.Common.{sym, ◌∙◌, arith, map}
use Rattle.std.proofs.lemmas.List.{at_drop_all}
use Rattle.node_rows.specs.Rows.{tree_row}
use Rattle.file_tree.specs.RowTests.{is_rising_after}
use Rattle.file_tree.proofs.RowLoopLemmas.{rising_step, rising_stop}
use Rattle.file_tree.proofs.row_tests.is_rising_after.Goals as goal

pub returns-then-row-last : goal.returns-then-row-last
returns-then-row-last c = sym (rising_stop c.args.rows.now c.loop-row.row-index c.loop-row.last c.row-item.result c.loop-row-test.true c.row-item.is (omega arith)) ∙ c.loop-row.invariant

pub loop-row-preserved : goal.loop-row-preserved
loop-row-preserved c = sym (rising_step c.args.rows.now c.loop-row.row-index c.loop-row.last c.row-item.result c.loop-row-test.true c.row-item.is (omega arith)) ∙ c.loop-row.invariant

pub returns : goal.returns
returns c = sym (at_drop_all (λ rows. is_rising_after c.loop-row.last (map tree_row rows)) c.args.rows.now c.loop-row.row-index (omega (arith, c.loop-row-test.false))) ∙ c.loop-row.invariant
