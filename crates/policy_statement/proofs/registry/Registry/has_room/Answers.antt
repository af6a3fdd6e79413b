-- A statement that no number has is a new one.
use Rattle.std.proofs.Common.{rules, refl}
use Rattle.policy_statement.proofs.RegistryLemmas.{can_register, unnumbered_new}
use Rattle.policy_statement.proofs.registry.Registry.has_room.Goals as goal

pub returns-then-len-ge-MOST_STATEMENTS-clause-may : goal.returns-then-len-ge-MOST_STATEMENTS-clause-may
returns-then-len-ge-MOST_STATEMENTS-clause-may c = (refl, (unnumbered_new _ _ (c.in_default.ensures.none refl), search rules))

pub returns-clause-may : goal.returns-clause-may
returns-clause-may c = (refl, can_register _ _ (unnumbered_new _ _ (c.in_default.ensures.none refl)) (search rules))
