use Rattle.std.proofs.Common.{◌≡◌, ◌-◌, length}
use Rattle.file_world.specs.TreeEffect.{has_way_past}
use Rattle.file_tree.specs.Index.{rows_of}
use Rattle.file_tree.proofs.refusals.has_way_past.Given as goal

-- the walk from here, with the steps that are left, tells what the whole walk tells
abbrev pub invariant-loop-step : goal.invariant-loop-step
invariant-loop-step l =
    has_way_past (length (rows_of l.nodes.entries) - l._step) (rows_of l.nodes.entries) l.avoided l.number ≡ has_way_past (length (rows_of l.nodes.entries)) (rows_of l.nodes.entries) l.avoided l.start
