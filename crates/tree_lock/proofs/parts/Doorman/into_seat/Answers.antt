use Rattle.std.proofs.Common.{◌≡◌, ◌+◌, length, ◌∙◌, subst}
use Rattle.tree_lock.proofs.parts.Doorman.into_seat.Goals as goal

pub returns-clause-counted : goal.returns-clause-counted
returns-clause-counted g c = subst (λ d. d.out + length d.retired ≡ d.made) c.self.view_is (c.self.invariant.3 ∙ c.self.invariant.2)
