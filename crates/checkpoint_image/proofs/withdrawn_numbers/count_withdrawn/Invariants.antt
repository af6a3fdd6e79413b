-- How many of the entries so far were withdrawn.
use Rattle.std.proofs.Common.{◌≡◌, length, take}
use Rattle.policy_statement.specs.Withdrawal.{withdrawn_from}
use Rattle.checkpoint_image.proofs.withdrawn_numbers.count_withdrawn.Given as goal

abbrev pub invariant-loop-entry : goal.invariant-loop-entry
invariant-loop-entry l = l.count ≡ length (withdrawn_from 1 (take l.entry-index l.statements))
