-- The statements so far.
use Rattle.std.proofs.Common.{◌≡◌, take}
use Rattle.access_history.proofs.copying.copy_statements.Given as goal

abbrev pub invariant-loop-entry : goal.invariant-loop-entry
invariant-loop-entry l = l.copied ≡ take l.entry-index l.entries
