use Rattle.record_parts.specs.OperationSpelling.{operation_spelling, IsSpellableOperation}
use Rattle.record_parts.specs.OperationReading.{operation_at}
use Rattle.record_parts.specs.RecordSpelling.{IsRegistration, registration_spelling, IsWithdrawal, withdrawal_spelling, IsIssuing, issuing_spelling, IsAction, action_spelling}
use Rattle.record_parts.specs.RecordReading.{registered_at, withdrawn_at, issued_at, acted_at}
use Rattle.record_parts.proofs.OperationLemmas.{operation_codec}
use Rattle.record_parts.proofs.RecordLemmas.{registered_codec, withdrawn_codec, issued_codec, acted_codec}
use Rattle.reader_laws.proofs.CutLemmas.{cuts}
use Rattle.reader_laws.proofs.RecordLemmas.{operations, registrations, withdrawals, issues, actions}
use Rattle.reader_laws.proofs.laws.cut_parts_are_short.Goals as goal

pub returns : goal.returns
returns c = record {
  operations = cuts IsSpellableOperation operation_spelling operation_at operation_codec operations;
  registrations = cuts IsRegistration registration_spelling registered_at registered_codec registrations;
  withdrawals = cuts IsWithdrawal withdrawal_spelling (λ input. withdrawn_at) withdrawn_codec (λ input onward. withdrawals);
  issues = cuts IsIssuing issuing_spelling issued_at issued_codec issues;
  actions = cuts IsAction action_spelling acted_at acted_codec actions;
}
