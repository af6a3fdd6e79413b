use Rattle.node_rows.specs.Rows.{item_row, item_rows}
use Rattle.node_rows.proofs.RowsLemmas.{item_rows-more, same_nodes-more}
use Rattle.checkpoint_image.specs.Chain.{chain_at}
use Rattle.checkpoint_image.specs.NodeReading.{node_at, number_of}
use Rattle.checkpoint_image.proofs.LoopLemmas.{goes_on, ends, is_done}
use Rattle.checkpoint_image.proofs.node_reading.many_nodes_at.Goals as goal

pub returns-in-Err-clause-read : goal.returns-in-Err-clause-read
returns-in-Err-clause-read c =
    ends c.in-Err.fault (λ previous. node_at previous c.args.input) number_of (item_rows c.loop.trees c.loop.metas) c.args.count c.loop.counter c.loop.previous c.loop.rest.now (chain_at (λ previous. node_at previous c.args.input) number_of c.args.count 0 c.args.bytes.now) c.loop-test.true c.in-Err.ensures.read c.loop.invariant.0

pub loop-preserved : goal.loop-preserved
loop-preserved c =
    let same = c.loop.invariant.1 in
    let read =
    goes_on (λ previous. node_at previous c.args.input) number_of (item_rows c.loop.trees c.loop.metas) c.args.count c.loop.counter c.loop.previous c.loop.rest.now (item_row c.in-Ok.tree c.in-Ok.meta) c.in-Ok.behind.now (chain_at (λ previous. node_at previous c.args.input) number_of c.args.count 0 c.args.bytes.now) c.loop-test.true c.in-Ok.ensures.read c.loop.invariant.0 in
    rw (c.in_ok-add_rows-in-Ok.ensures.tree, c.in_ok-add_rows-in-Ok.ensures.meta, item_rows-more c.loop.trees c.loop.metas c.in-Ok.tree c.in-Ok.meta same)
    (read, same_nodes-more c.loop.trees c.loop.metas c.in-Ok.tree c.in-Ok.meta same c.in-Ok.ensures.number c.in-Ok.ensures.parent)

pub returns-clause-read : goal.returns-clause-read
returns-clause-read c =
    is_done (λ previous. node_at previous c.args.input) number_of (item_rows c.loop.trees c.loop.metas) c.args.count c.loop.counter c.loop.previous c.loop.rest.now (chain_at (λ previous. node_at previous c.args.input) number_of c.args.count 0 c.args.bytes.now) c.loop-test.false c.loop.invariant.0

pub returns-clause-same : goal.returns-clause-same
returns-clause-same c = c.loop.invariant.1
