use Rattle.std.proofs.Common.{◌≡◌, ◌-◌, length}
use Rattle.file_tree.specs.Index.{rows_of}
use Rattle.file_tree.specs.RowTests.{leads_below}
use Rattle.file_tree.proofs.from_rows.leads_below.Given as goal

-- the way from here, with the steps that are left, leads where the whole way leads
abbrev pub invariant-loop-step : goal.invariant-loop-step
invariant-loop-step l =
    leads_below (length (rows_of l.nodes.entries) - l._step) (rows_of l.nodes.entries) l.bound l.number ≡ leads_below (length (rows_of l.nodes.entries)) (rows_of l.nodes.entries) l.bound l.start
