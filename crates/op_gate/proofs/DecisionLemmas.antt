-- What was decided is an answer, over plain values.
use Rattle.std.proofs.Common.{◌≡◌, ◌+◌, ℕ, List, length, ap, subst, sym, refl, Some}
use Rattle.std.specs.Prelude.{ℤ}
use Rattle.std.specs.List.{AllByRecursion}
use Rattle.bl_syntax.specs.Statement.{StatementView}
use Rattle.proof_verifier.specs.Cited.{AreCited}
use Rattle.proof_verifier.specs.CheckedView.{CheckedView, IsChecked}
use Rattle.journal_records.specs.declared.event.Event.{Event}
use Rattle.journal_records.specs.declared.event.Event.TheVariants.{Registered, Withdrawn, Issued}
use Rattle.access_history.specs.declared.request.StepRequest.{StepRequest}
use Rattle.access_history.specs.declared.request.StepRequest.TheVariants as requests
use Rattle.access_history.specs.declared.reply.StepReply.{StepReply}
use Rattle.access_history.specs.declared.reply.StepReply.TheVariants as replies
use Rattle.access_history.specs.Citing.{MayBeWithdrawn, StandsUnderNumber, issued_grant, numbers_of}
use Rattle.access_history.specs.Authority.{MayBeRegistered}
use Rattle.access_history.specs.Books.{book_of}
use Rattle.access_history.specs.History.{HistoryView, authority_of, state_of, addition_of, IsReadyFor}
use Rattle.access_history.specs.Answer.{Answers, registered, withdrawn, issued}
use Rattle.op_gate.specs.declared.planned.DecisionPlan.{DecisionPlan}
use Rattle.op_gate.specs.declared.planned.DecisionPlan.TheVariants.{Answer, Keep, NoMemory}
use Rattle.op_gate.specs.declared.planned.Pending.{Pending}
use Rattle.op_gate.specs.Admits.{pending_withdrawal}
use Rattle.op_gate.specs.Decision.{IsPlanned, Keeps}

-- what keeps the event of the answer is decided so
pub kept_decided : (before after : HistoryView) (pass : ℕ) (clock : ℤ) (request : StepRequest) (reply : StepReply) (event : Event) (planned : DecisionPlan) →
    Answers (authority_of before) (state_of before) pass clock request reply (Some event) → IsReadyFor after event → Keeps reply event planned → IsPlanned before pass clock request planned after
kept_decided before after pass clock request reply event (Answer told) answers ready keeps = absurd keeps
kept_decided before after pass clock request reply event (Keep told pending) answers ready keeps =
    let event_is : event ≡ pending.event = sym (ap (λ (p : Pending). p.event) keeps.1) in (
      subst (λ (r : StepReply). Answers (authority_of before) (state_of before) pass clock request r (Some pending.event)) (sym keeps.0)
          (subst (λ (e : Event). Answers (authority_of before) (state_of before) pass clock request reply (Some e)) event_is answers),
      subst (λ (e : Event). pending.addition ≡ addition_of e) event_is (ap (λ (p : Pending). p.addition) keeps.1),
      subst (IsReadyFor after) event_is ready,
    )
kept_decided before after pass clock request reply event NoMemory answers ready keeps = tt

-- a statement is registered
pub registered_decided : (h : HistoryView) (pass : ℕ) (clock : ℤ) (statement : StatementView) (signature : List ℕ) (number : ℕ) (planned : DecisionPlan) → MayBeRegistered (authority_of h) (state_of h).statements statement signature → number ≡ length (state_of h).statements →
    Keeps (replies.Statement (number + 1)) (Registered pass statement signature) planned → IsPlanned h pass clock (requests.Register statement signature) planned h
registered_decided h pass clock statement signature number planned may number_is keeps =
    kept_decided h h pass clock (requests.Register statement signature) (replies.Statement (number + 1)) (Registered pass statement signature) planned
    (subst (λ (n : ℕ). Answers (authority_of h) (state_of h) pass clock (requests.Register statement signature) (replies.Statement (n + 1)) (Some (Registered pass statement signature))) (sym number_is) (registered statement signature may))
    tt keeps

-- a statement is withdrawn
pub withdrawn_decided : (h : HistoryView) (pass : ℕ) (clock : ℤ) (number : ℕ) (signature : List ℕ) (pending : Pending) → MayBeWithdrawn (authority_of h) (book_of (state_of h)) number signature → pending ≡ pending_withdrawal pass number signature →
    IsPlanned h pass clock (requests.Withdraw number signature) (Keep replies.Withdrawn pending) h
withdrawn_decided h pass clock number signature pending may pending_is =
    kept_decided h h pass clock (requests.Withdraw number signature) replies.Withdrawn (Withdrawn pass number signature) (Keep replies.Withdrawn pending) (withdrawn number signature may) tt (refl, pending_is)

-- a grant is issued
pub issued_decided : (h : HistoryView) (pass : ℕ) (clock : ℤ) (checked : CheckedView) (issues : ℕ) (planned : DecisionPlan) → AreCited checked.cited → IsChecked checked → AllByRecursion (StandsUnderNumber (book_of (state_of h))) checked.cited →
    issues ≡ length (state_of h).issues → Keeps (replies.Issue (issues + 1) (length checked.grant.times) (length checked.grant.states)) (Issued pass (numbers_of checked.cited) checked.proof (issued_grant checked.grant (numbers_of checked.cited))) planned →
    IsPlanned h pass clock (requests.Issue checked) planned h
issued_decided h pass clock checked issues planned rising granted stand issues_is keeps =
    kept_decided h h pass clock (requests.Issue checked) (replies.Issue (issues + 1) (length checked.grant.times) (length checked.grant.states)) (Issued pass (numbers_of checked.cited) checked.proof (issued_grant checked.grant (numbers_of checked.cited))) planned
    (subst (λ (n : ℕ). Answers (authority_of h) (state_of h) pass clock (requests.Issue checked) (replies.Issue (n + 1) (length checked.grant.times) (length checked.grant.states)) (Some (Issued pass (numbers_of checked.cited) checked.proof (issued_grant checked.grant (numbers_of checked.cited))))) (sym issues_is)
    (issued checked rising granted stand))
    tt keeps
