-- The rows that are left are sound exactly if all are.
use Rattle.std.proofs.Common.{◌≡◌, drop, map}
use Rattle.std.specs.List.{list_all}
use Rattle.node_rows.specs.Rows.{tree_row}
use Rattle.file_tree.specs.RowTests.{is_sound_row}
use Rattle.file_tree.proofs.row_tests.are_each_sound.Given as goal

abbrev pub invariant-loop-row : goal.invariant-loop-row
invariant-loop-row l = list_all (is_sound_row l.next) (map tree_row (drop l.row-index l.rows)) ≡ list_all (is_sound_row l.next) (map tree_row l.rows)
