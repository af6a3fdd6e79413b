-- No statement is added or changed by the ends of entries.
use Rattle.std.proofs.Common.{◌≡◌}
use Rattle.proof_draft.proofs.policy.Policy.set_chain.Given as goal

abbrev pub invariant-loop : goal.invariant-loop
invariant-loop l = l.self.statements ≡ l.initial.self.statements
