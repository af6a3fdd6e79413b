-- Each row's number is above those before it.
use Rattle.std.proofs.Common.{arith, subst}
use Rattle.file_tree.specs.RowTests.{ShowsRows}
use Rattle.file_tree.proofs.RowLoopLemmas.{rows_all}
use Rattle.file_tree.proofs.RowPutLemmas.{shows_none, shows_more, numbers_below}
use Rattle.file_tree.proofs.from_rows.put_nodes.Goals as goal

pub loop-row-init : goal.loop-row-init
loop-row-init c = shows_none c.new-nodes.result.entries c.new-nodes.ensures.empty

pub put_last-requires : goal.put_last-requires
put_last-requires c = numbers_below c.args.rows.now c.loop-row.row-index c.row-item.result c.loop-row.nodes.entries c.requires c.loop-row-test.true c.row-item.is c.loop-row.invariant

pub loop-row-preserved : goal.loop-row-preserved
loop-row-preserved c =
    shows_more c.args.rows.now c.loop-row.row-index c.row-item.result c.in_ok-node.node c.loop-row.nodes.entries c.put_last.new.nodes.entries c.loop-row-test.true c.row-item.is c.loop-row.invariant
    c.in_ok-node.ensures.shows c.in_ok-node.ensures.no_names c.in_ok-put_last.ensures.ok

pub returns : goal.returns
returns c = subst (ShowsRows c.loop-row.nodes.entries) (rows_all c.args.rows.now c.loop-row.row-index (omega (arith, c.loop-row-test.false))) c.loop-row.invariant
