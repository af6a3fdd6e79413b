-- Each row in turn is left.
use Rattle.std.proofs.Common.{ap, length, arith}
use Rattle.issue_standings.proofs.RowLemmas.{left_all, left_read, length-left_to}
use Rattle.issue_standings.proofs.standings.leave_all.Goals as goal

pub index-before-requires : goal.index-before-requires
index-before-requires c = omega (arith, ap length c.loop-row.invariant.rows, length-left_to c.loop-row.row c.args.rows.now.items)

pub index_mut-requires : goal.index_mut-requires
index_mut-requires c = omega (arith, ap length c.loop-row.invariant.rows, length-left_to c.loop-row.row c.args.rows.now.items)

pub loop-row-preserved : goal.loop-row-preserved
loop-row-preserved c =
    let within = ap length c.loop-row.invariant.rows in
    record {
      rows = left_read c.args.rows.now.items c.loop-row.rows.items c.loop-row.row c.index-before.result.now (omega (arith, within, length-left_to c.loop-row.row c.args.rows.now.items)) c.index-before.ensures c.loop-row.invariant.rows;
      spare = c.loop-row.invariant.spare;
    }

pub returns-clause-rows : goal.returns-clause-rows
returns-clause-rows c = left_all c.args.rows.now.items c.loop-row.rows.items c.loop-row.row (omega arith) c.loop-row.invariant.rows
