-- The rows that are listed are those of the nodes that are published.
use Rattle.std.proofs.Common.{ap, ◌∙◌, map}
use Rattle.node_rows.specs.Rows.{tree_row}
use Rattle.file_tree.proofs.RowLoopLemmas.{rows_published}
use Rattle.file_tree.proofs.to_rows.published_rows.Goals as goal

pub returns : goal.returns
returns c = ap (map tree_row) c.without_unpublished.ensures ∙ rows_published c.args.ready.now c.in_ok-rows.rows c.args.nodes.now.entries c.in_ok-rows.ensures
