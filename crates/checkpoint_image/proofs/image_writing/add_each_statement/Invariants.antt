-- The statements so far are written.
use Rattle.std.proofs.Common.{◌≡◌, ◌++◌, take}
use Rattle.std.specs.List.{AllByRecursion, flat_map}
use Rattle.checkpoint_image.specs.ImageSpelling.{entry_spelling, IsSpellableEntry}
use Rattle.checkpoint_image.proofs.image_writing.add_each_statement.Given as goal

abbrev pub invariant-loop-entry : goal.invariant-loop-entry
invariant-loop-entry l = (l.out ≡ l.fn.out ++ flat_map entry_spelling (take l.entry-index l.statements)) × AllByRecursion IsSpellableEntry (take l.entry-index l.statements)
