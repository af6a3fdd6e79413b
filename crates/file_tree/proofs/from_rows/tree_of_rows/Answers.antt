-- Rows that fail a test are those of no tree.
use Rattle.std.proofs.Common.{arith, map, sym}
use Rattle.std.proofs.lemmas.Bool.{both_ways}
use Rattle.node_rows.specs.Rows.{tree_row}
use Rattle.file_tree.specs.RowTests.{are_sound_rows}
use Rattle.file_tree.proofs.RowTreeLemmas.{sound_in_tree}
use Rattle.file_tree.proofs.from_rows.tree_of_rows.Goals as goal

pub returns-then-not-are_sound_rows-clause-refused : goal.returns-then-not-are_sound_rows-clause-refused
returns-then-not-are_sound_rows-clause-refused c = λ is. both_ways (are_sound_rows c.args.next (map tree_row c.args.rows.now)) (sym c.if-not-are_sound_rows.ensures) (sound_in_tree c.args.next (map tree_row c.args.rows.now) is)

pub returns-in-None-clause-refused : goal.returns-in-None-clause-refused
returns-in-None-clause-refused c = λ is. let fits = is.fits in omega (arith, fits, c.in-None.ensures)
