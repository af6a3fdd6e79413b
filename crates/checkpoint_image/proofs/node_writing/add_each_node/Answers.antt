use Rattle.std.proofs.Common.{◌<◌, length, arith}
use Rattle.node_rows.specs.Rows.{item_row, item_rows}
use Rattle.checkpoint_image.specs.NodeSpelling.{node_spelling, HasFittingParts}
use Rattle.checkpoint_image.proofs.LoopLemmas.{all_read, as_many, as_many_rows, row_read, written_more, written_all}
use Rattle.checkpoint_image.proofs.node_writing.add_each_node.Goals as goal

pub bounds-metas-place : goal.bounds-metas-place
bounds-metas-place c = omega (arith, as_many c.args.trees.now c.args.metas.now c.requires.same, c.loop-place-test.true)

pub add_node-requires : goal.add_node-requires
add_node-requires c =
    let tree = c.index-trees-place.result in
    let meta = c.index-metas-place.result in
    let rows = item_rows c.args.trees.now c.args.metas.now in
    let within : c.loop-place.place < length rows = omega (arith, as_many_rows c.args.trees.now c.args.metas.now c.requires.same, c.loop-place-test.true) in
    all_read (λ row. HasFittingParts row.1) rows c.loop-place.place (item_row tree meta) c.requires.fit within
    (row_read c.args.trees.now c.args.metas.now c.loop-place.place tree meta c.requires.same c.loop-place-test.true c.index-trees-place.is c.index-metas-place.is)

pub loop-place-preserved : goal.loop-place-preserved
loop-place-preserved c =
    let tree = c.index-trees-place.result in
    let meta = c.index-metas-place.result in
    let rows = item_rows c.args.trees.now c.args.metas.now in
    let within : c.loop-place.place < length rows = omega (arith, as_many_rows c.args.trees.now c.args.metas.now c.requires.same, c.loop-place-test.true) in
    written_more node_spelling rows c.loop-place.place (item_row tree meta) c.args.out.now c.loop-place.out c.add_node.new.out within
    (row_read c.args.trees.now c.args.metas.now c.loop-place.place tree meta c.requires.same c.loop-place-test.true c.index-trees-place.is c.index-metas-place.is)
    c.loop-place.invariant c.in_ok-add_node.ensures.ok

pub returns-clause-ok : goal.returns-clause-ok
returns-clause-ok c =
    written_all node_spelling (item_rows c.args.trees.now c.args.metas.now) c.loop-place.place c.args.out.now c.loop-place.out
    (omega (arith, as_many_rows c.args.trees.now c.args.metas.now c.requires.same, c.loop-place-test.false)) c.loop-place.invariant
