-- The numbers of the withdrawn ones so far are written.
use Rattle.std.proofs.Common.{◌≡◌, ◌++◌, take}
use Rattle.std.specs.List.{flat_map}
use Rattle.policy_statement.specs.Withdrawal.{withdrawn_from}
use Rattle.record_parts.specs.RecordSpelling.{cited_spelling}
use Rattle.checkpoint_image.proofs.withdrawn_numbers.add_each_number.Given as goal

abbrev pub invariant-loop-entry : goal.invariant-loop-entry
invariant-loop-entry l = (l.number ≡ l.entry-index) × (l.out ≡ l.fn.out ++ flat_map cited_spelling (withdrawn_from 1 (take l.entry-index l.statements)))
