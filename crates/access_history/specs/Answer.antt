-- The answer to a request over a state, and the event to keep: one constructor for each answer and
-- its cause (this project's own).
use Rattle.std.specs.Prelude.{◌≡◌, ◌≤◌, ◌+◌, ℕ, ℤ, List, length, Option, Some, None, Contains}
use Rattle.std.specs.Int.{int_max}
use Rattle.std.specs.List.{AllByRecursion}
use Rattle.bl_syntax.specs.declared.limits.TheConstants.{MOST_STATEMENTS}
use Rattle.bl_syntax.specs.Statement.{StatementView}
use Rattle.bl_syntax.specs.Grant.{GrantView}
use Rattle.procap.specs.declared.procap.Procap.{Procap}
use Rattle.proof_verifier.specs.Cited.{AreCited}
use Rattle.proof_verifier.specs.CheckedView.{CheckedView, IsChecked}
use Rattle.file_world.specs.declared.operation.Op.{Op}
use Rattle.file_world.specs.declared.refusal.Refusal.{Refusal}
use Rattle.file_world.specs.Effect.{refusal, reply}
use Rattle.file_world.specs.Needs.{needs}
use Rattle.access_history.specs.declared.event.Issue.{Issue}
use Rattle.journal_records.specs.declared.event.Event.{Event}
use Rattle.journal_records.specs.declared.event.Event.TheVariants as events
use Rattle.access_history.specs.declared.request.StepRequest.{StepRequest}
use Rattle.access_history.specs.declared.request.StepRequest.TheVariants as requests
use Rattle.access_history.specs.declared.reply.Rejection.TheVariants.{BadSignature, RegistryFull, Duplicate}
use Rattle.access_history.specs.declared.reply.DenialCause.{DenialCause}
use Rattle.access_history.specs.declared.reply.StepReply.{StepReply}
use Rattle.access_history.specs.declared.reply.StepReply.TheVariants as replies
use Rattle.access_history.specs.Base.{BaseView}
use Rattle.access_history.specs.Numbered.{IsNumbered}
use Rattle.access_history.specs.Books.{book_of}
use Rattle.access_history.specs.Citing.{StandsUnderNumber, IsHeld, IsMoved, MayBeWithdrawn, issued_grant, numbers_of}
use Rattle.access_history.specs.Authority.{Authority, IsSignedStatement, IsSignedWithdrawal, MayBeRegistered, procap_of}
use Rattle.policy_statement.specs.Registry.{sayings}
use Rattle.access_history.specs.Admission.{IsAdmitted, IsDenied}

-- the moment of a step: the clock's, but not before the last one
abbrev pub moment_of : BaseView → ℤ → ℤ
moment_of state clock = int_max clock state.moment

-- who may see a procap: if nobody is named, it is the operator, who may see each; else whom its
-- grant names
abbrev pub MaySee : Option (List ℕ) → GrantView → Type 0
MaySee None g = Unit {0}
MaySee (Some who) g = g.goal.who ≡ who

-- the issue of that number, whose procap may be seen
pub record IsShown (state : BaseView) (number : ℕ) (who : Option (List ℕ)) (issue : Issue) : Type 0 where
  pub issued : IsNumbered state.issues number issue
  pub seen : MaySee who issue.grant

-- the answer to a request, and the event to keep if there is one
pub data Answers (authority : Authority) (state : BaseView) (pass : ℕ) (clock : ℤ) : StepRequest →
    StepReply → Option Event → Type 0 where
  unsigned : (statement : StatementView) (signature : List ℕ) →
      (IsSignedStatement authority statement signature → ⊥) →
      Answers authority state pass clock (requests.Register statement signature) (replies.Rejected BadSignature) None
  duplicate : (statement : StatementView) (signature : List ℕ) (number : ℕ) →
      IsSignedStatement authority statement signature →
      IsNumbered (sayings state.statements) number statement →
      Answers authority state pass clock (requests.Register statement signature) (replies.Rejected (Duplicate number)) None
  registry_full : (statement : StatementView) (signature : List ℕ) →
      IsSignedStatement authority statement signature →
      (Contains (sayings state.statements) statement → ⊥) → MOST_STATEMENTS ≤ length state.statements →
      Answers authority state pass clock (requests.Register statement signature) (replies.Rejected RegistryFull) None
  registered : (statement : StatementView) (signature : List ℕ) →
      MayBeRegistered authority state.statements statement signature →
      Answers authority state pass clock (requests.Register statement signature)
      (replies.Statement (length state.statements + 1))
      (Some (events.Registered pass statement signature))
  not_live : (number : ℕ) (signature : List ℕ) → (IsHeld (book_of state) number → ⊥) →
      Answers authority state pass clock (requests.Withdraw number signature) (replies.Absent number) None
  unsigned_withdrawal : (number : ℕ) (signature : List ℕ) (statement : StatementView) →
      IsNumbered (book_of state) number (Some statement) →
      (IsSignedWithdrawal authority statement signature → ⊥) →
      Answers authority state pass clock (requests.Withdraw number signature) (replies.Rejected BadSignature) None
  withdrawn : (number : ℕ) (signature : List ℕ) →
      MayBeWithdrawn authority (book_of state) number signature →
      Answers authority state pass clock (requests.Withdraw number signature) replies.Withdrawn (Some (events.Withdrawn pass number signature))
  moved : (checked : CheckedView) (number : ℕ) → IsMoved (book_of state) checked.cited number →
      Answers authority state pass clock (requests.Issue checked) (replies.Absent number) None
  issued : (checked : CheckedView) → AreCited checked.cited → IsChecked checked →
      AllByRecursion (StandsUnderNumber (book_of state)) checked.cited →
      Answers authority state pass clock (requests.Issue checked)
      (replies.Issue (length state.issues + 1) (length checked.grant.times)
      (length checked.grant.states))
      (Some (events.Issued pass (numbers_of checked.cited) checked.proof (issued_grant checked.grant (numbers_of checked.cited))))
  denied : (caller : List ℕ) (op : Op) (procaps : List Procap) (place : ℕ) (cause : DenialCause) →
      IsDenied authority.key state caller procaps (moment_of state clock) (needs state.world op) place cause →
      Answers authority state pass clock (requests.Act caller op procaps) (replies.Denied (record { need = place; cause = cause; at = state.count })) None
  refused : (caller : List ℕ) (op : Op) (procaps : List Procap) (why : Refusal) →
      IsAdmitted authority.key state caller op procaps (moment_of state clock) →
      refusal state.world op ≡ Some why →
      Answers authority state pass clock (requests.Act caller op procaps) (replies.Refused why state.count) None
  acted : (caller : List ℕ) (op : Op) (procaps : List Procap) →
      IsAdmitted authority.key state caller op procaps (moment_of state clock) →
      refusal state.world op ≡ None →
      Answers authority state pass clock (requests.Act caller op procaps)
      (replies.Operation (reply state.world op))
      (Some (events.Acted pass caller op procaps (moment_of state clock)))
  not_shown : (number : ℕ) (who : Option (List ℕ)) →
      ((issue : Issue) → IsShown state number who issue → ⊥) →
      Answers authority state pass clock (requests.ShowProcap number who) (replies.Absent number) None
  shown : (number : ℕ) (who : Option (List ℕ)) (issue : Issue) → IsShown state number who issue →
      Answers authority state pass clock (requests.ShowProcap number who) (replies.Procap (procap_of authority.key issue.grant)) None
