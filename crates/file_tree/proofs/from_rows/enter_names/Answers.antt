-- One row more.
use Rattle.std.proofs.Common.{Some, List, ℕ, sym, subst}
use Rattle.file_world.specs.TreeEffect.{at}
use Rattle.file_tree.specs.Index.{rows_of, Puts}
use Rattle.file_tree.proofs.RowNameLemmas.{names_none, enters_more, holder_kept, refuses_names}
use Rattle.file_tree.proofs.from_rows.enter_names.Goals as goal

pub loop-row-init : goal.loop-row-init
loop-row-init c = names_none c.args.nodes.now.entries c.requires

pub returns-then-not-is_free_place-clause-refused : goal.returns-then-not-is_free_place-clause-refused
returns-then-not-is_free_place-clause-refused c =
    refuses_names c.args.rows.now c.loop-row.row-index c.row-item.result c.loop-row.nodes.entries (rows_of c.args.nodes.now.entries) c.loop-row-test.true c.row-item.is c.loop-row.invariant (sym c.if-not-is_free_place.ensures)

pub enter-requires : goal.enter-requires
enter-requires c = holder_kept c.loop-row.nodes.entries (at c.row-item.result.parent c.row-item.result.name) (sym c.if-not-is_free_place.ensures)

pub loop-row-preserved : goal.loop-row-preserved
loop-row-preserved c =
    let row = c.row-item.result in
    let puts = subst (λ (name : List ℕ). Puts c.loop-row.nodes.entries c.enter.new.nodes.entries (at row.parent name) (Some row.number.0)) c.of_short.ensures c.in_ok-enter.ensures.ok in
    enters_more c.args.rows.now c.loop-row.row-index row c.loop-row.nodes.entries c.enter.new.nodes.entries (rows_of c.args.nodes.now.entries) c.loop-row-test.true c.row-item.is c.loop-row.invariant (sym c.if-not-is_free_place.ensures) puts
