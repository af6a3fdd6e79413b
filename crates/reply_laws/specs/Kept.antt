-- What a state keeps, if each name and each text in it stands on one line (this project's own).
use Rattle.std.specs.List.{AllByRecursion}
use Rattle.policy_statement.specs.Registered.{RegisteredView}
use Rattle.access_history.specs.declared.event.Issue.{Issue}
use Rattle.access_history.specs.declared.request.StepRequest.{StepRequest}
use Rattle.access_history.specs.declared.request.StepRequest.TheVariants as requests
use Rattle.access_history.specs.Base.{BaseView}
use Rattle.line_wire.specs.Unbroken.{IsUnbrokenGrant}
use Rattle.reply_laws.specs.Brought.{IsUnbrokenStatement}

abbrev pub IsUnbrokenEntry : RegisteredView → Type 0
IsUnbrokenEntry entry = IsUnbrokenStatement entry.statement

abbrev pub IsUnbrokenIssue : Issue → Type 0
IsUnbrokenIssue issue = IsUnbrokenGrant issue.grant

-- the statements, withdrawn ones too, and what was issued
pub record KeepsUnbroken (state : BaseView) : Type 0 where
  pub statements : AllByRecursion IsUnbrokenEntry state.statements
  pub issues : AllByRecursion IsUnbrokenIssue state.issues

-- what a request adds to a state: a statement, or what a proof grants
abbrev pub AddsUnbroken : StepRequest → Type 0
AddsUnbroken (requests.Register statement signature) = IsUnbrokenStatement statement
AddsUnbroken (requests.Withdraw number signature) = Unit {0}
AddsUnbroken (requests.Issue checked) = IsUnbrokenGrant checked.grant
AddsUnbroken (requests.Act caller op procaps) = Unit {0}
AddsUnbroken (requests.ShowProcap number who) = Unit {0}
