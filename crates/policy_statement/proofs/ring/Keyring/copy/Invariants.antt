use Rattle.std.specs.Prelude.{◌≡◌, take}
use Rattle.policy_statement.proofs.ring.Keyring.copy.Given as goal

-- the first entries were copied
abbrev pub invariant-loop-entry : goal.invariant-loop-entry
invariant-loop-entry l = l.entries.items ≡ take l.entry-index l.entry-items
