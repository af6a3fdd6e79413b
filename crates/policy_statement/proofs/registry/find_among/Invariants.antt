-- No statement before this place is the same.
use Rattle.std.proofs.Common.{◌≡◌, ℕ, ◌≤◌, Some}
use Rattle.policy_statement.specs.Registry.{statement_of_number}
use Rattle.policy_statement.proofs.registry.find_among.Given as goal

abbrev pub invariant-loop-place : goal.invariant-loop-place
invariant-loop-place l = (number : ℕ) → number ≤ l.place → statement_of_number l.entries number ≡ Some l.s → ⊥
