-- No statement is added or changed by the entries of its atoms.
use Rattle.std.proofs.Common.{◌≡◌}
use Rattle.proof_draft.proofs.policy.Policy.add_statement.Given as goal

abbrev pub invariant-loop-atom : goal.invariant-loop-atom
invariant-loop-atom l = l.self.statements ≡ l.initial.self.statements
