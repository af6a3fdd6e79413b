-- The statements so far.
use Rattle.std.proofs.Common.{◌≡◌, take}
use Rattle.access_history.proofs.copying.registry_of.Given as goal

abbrev pub invariant-loop-entry : goal.invariant-loop-entry
invariant-loop-entry l = l.registry.entries ≡ take l.entry-index l.entries
