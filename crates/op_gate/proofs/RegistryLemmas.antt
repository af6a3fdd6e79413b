-- What the registry and the history tell of statements and issues, over plain values.
use Rattle.std.proofs.Common.{◌≡◌, ℕ, zero, suc, List, sym, subst, ◌∙◌, arith, Some, Bool, false}
use Rattle.std.specs.Prelude.{◌↔◌, ℤ, Result, Ok, Err, IsTrue, MatchOption}
use Rattle.std.proofs.lemmas.Option.{slice_get-map}
use Rattle.bl_syntax.specs.Statement.{StatementView, IsStatement}
use Rattle.policy_statement.specs.Registered.{RegisteredView}
use Rattle.policy_statement.specs.Registry.{MayRegister, sayings, statement_of_number}
use Rattle.policy_statement.specs.Messages.{statement_message}
use Rattle.policy_statement.specs.Ring.{KeyView, is_accepted}
use Rattle.policy_statement.specs.declared.registry.RegisterFault.{RegisterFault as Fault}
use Rattle.policy_statement.specs.declared.registry.RegisterFault.TheVariants as faults
use Rattle.policy_statement.specs.Withdrawal.{MayWithdraw}
use Rattle.policy_statement.specs.declared.registry.WithdrawFault.{WithdrawFault}
use Rattle.policy_statement.specs.declared.registry.WithdrawFault.TheVariants as withdrawals
use Rattle.access_history.specs.declared.reply.StepReply.TheVariants as replies
use Rattle.access_history.specs.declared.request.StepRequest.TheVariants as requests
use Rattle.access_history.specs.Answer.{unsigned, duplicate, registry_full, not_live, unsigned_withdrawal}
use Rattle.access_history.specs.Authority.{MayBeRegistered}
use Rattle.access_history.specs.Books.{Book, live_book}
use Rattle.access_history.specs.History.{HistoryView, authority_with, state_of}
use Rattle.op_gate.specs.Rejection.{rejection_of}
use Rattle.op_gate.specs.Decision.{IsPlanned, plan_of_withdrawal}
use Rattle.op_gate.specs.declared.planned.DecisionPlan.{DecisionPlan}
use Rattle.op_gate.specs.declared.planned.DecisionPlan.TheVariants.{Answer, NoMemory}
use Rattle.std.proofs.lemmas.Bool.{false≢true}
use Rattle.access_history.specs.Numbered.{IsNumbered}
use Rattle.access_history.specs.Citing.{IsHeld, MayBeWithdrawn, StandsUnderNumber}
use Rattle.access_history.proofs.CitingLemmas.{live_from_registry, none_in_registry, one_held}
use Rattle.proof_verifier.specs.declared.cites.Cite.{Cite}

abbrev statement_of : RegisteredView → StatementView
statement_of entry = entry.statement

-- the statement that the registry has under a number
pub said_from_registry : (entries : List RegisteredView) (number : ℕ) (s : StatementView) → statement_of_number entries number ≡ Some s → IsNumbered (sayings entries) number s
said_from_registry entries zero s found = absurd cc
said_from_registry entries (suc place) s found = record { place = place; from_one = omega arith; found = slice_get-map statement_of entries place ∙ found }

-- a statement is the one that its number holds, or not
pub stands_as : (book : Book) (cite : Cite) (s : StatementView) (is_same : Bool) → IsNumbered book cite.number (Some s) → IsTrue is_same ↔ (s ≡ cite.statement) → IsTrue is_same ↔ StandsUnderNumber book cite
stands_as book cite s is_same held decides = (
  λ yes. subst (λ (t : StatementView). IsNumbered book cite.number (Some t)) (decides.0 yes) held,
  λ stands. decides.1 (one_held book cite.number s cite.statement held stands),
)

-- its number holds none
pub stands_nowhere : (book : Book) (cite : Cite) → (IsHeld book cite.number → ⊥) → IsTrue false ↔ StandsUnderNumber book cite
stands_nowhere book cite none = (λ yes. absurd (false≢true yes), λ stands. absurd (none (cite.statement, stands)))

-- what the registry tells, over what it is shown
pub MayRegister-shown : (ring shown_ring : List KeyView) (entries shown_entries : List RegisteredView) (statement : StatementView) (signature shown : List ℕ) (told : Result (Unit {0}) Fault) → shown_ring ≡ ring → shown ≡ signature → shown_entries ≡ entries →
    MayRegister (is_accepted shown_ring statement.who (statement_message statement) shown) shown_entries statement told → MayRegister (is_accepted ring statement.who (statement_message statement) signature) entries statement told
MayRegister-shown ring shown_ring entries shown_entries statement signature shown told ring_is signature_is entries_are may =
    subst (λ (r : List KeyView). MayRegister (is_accepted r statement.who (statement_message statement) signature) entries statement told) ring_is
    (subst (λ (s : List ℕ). MayRegister (is_accepted shown_ring statement.who (statement_message statement) s) entries statement told) signature_is
    (subst (λ (es : List RegisteredView). MayRegister (is_accepted shown_ring statement.who (statement_message statement) shown) es statement told) entries_are may))

-- a statement that the registry takes may be registered
pub may_register : (key : List ℕ) (ring : List KeyView) (entries : List RegisteredView) (statement : StatementView) (signature : List ℕ) (told : Unit {0}) → IsStatement statement → MayRegister (is_accepted ring statement.who (statement_message statement) signature) entries statement (Ok told) →
    MayBeRegistered (authority_with key ring) entries statement signature
may_register key ring entries statement signature told is may = record { statement = is; signed = may.0; can = may.1 }

-- a statement that the registry does not take is rejected
pub rejected_decided : (h : HistoryView) (pass : ℕ) (clock : ℤ) (statement : StatementView) (signature : List ℕ) (fault : Fault) (planned : DecisionPlan) →
    MayRegister (is_accepted h.ring statement.who (statement_message statement) signature) (state_of h).statements statement (Err fault) →
    MatchOption (rejection_of fault) (planned ≡ NoMemory) (λ rejection. planned ≡ Answer (replies.Rejected rejection)) →
    IsPlanned h pass clock (requests.Register statement signature) planned h
rejected_decided h pass clock statement signature faults.BadSignature planned may told =
    subst (λ (d : DecisionPlan). IsPlanned h pass clock (requests.Register statement signature) d h) (sym told) (unsigned statement signature (λ signed. false≢true (sym may ∙ signed)))
rejected_decided h pass clock statement signature faults.RegistryFull planned may told =
    subst (λ (d : DecisionPlan). IsPlanned h pass clock (requests.Register statement signature) d h) (sym told)
    (registry_full statement signature may.0 may.1.0 may.1.1)
rejected_decided h pass clock statement signature (faults.Duplicate number) planned may told =
    subst (λ (d : DecisionPlan). IsPlanned h pass clock (requests.Register statement signature) d h) (sym told)
    (duplicate statement signature number may.0 (said_from_registry (state_of h).statements number statement may.1))
rejected_decided h pass clock statement signature faults.NoMemory planned may told =
    subst (λ (d : DecisionPlan). IsPlanned h pass clock (requests.Register statement signature) d h) (sym told) tt

-- ---- withdrawals

-- what the registry tells of a withdrawal, over what it is shown
pub MayWithdraw-shown : (ring shown_ring : List KeyView) (entries shown_entries : List RegisteredView) (number : ℕ) (signature shown : List ℕ) (told : Result (Unit {0}) WithdrawFault) → shown_ring ≡ ring → shown ≡ signature → shown_entries ≡ entries →
    MayWithdraw (is_accepted shown_ring) shown_entries number shown told → MayWithdraw (is_accepted ring) entries number signature told
MayWithdraw-shown ring shown_ring entries shown_entries number signature shown told ring_is signature_is entries_are may =
    subst (λ (r : List KeyView). MayWithdraw (is_accepted r) entries number signature told) ring_is
    (subst (λ (s : List ℕ). MayWithdraw (is_accepted shown_ring) entries number s told) signature_is
    (subst (λ (es : List RegisteredView). MayWithdraw (is_accepted shown_ring) es number shown told) entries_are may))

-- a statement whose withdrawal the registry takes may be withdrawn
pub may_withdraw : (key : List ℕ) (ring : List KeyView) (entries : List RegisteredView) (number : ℕ) (signature : List ℕ) (told : Unit {0}) → MayWithdraw (is_accepted ring) entries number signature (Ok told) → MayBeWithdrawn (authority_with key ring) (live_book entries) number signature
may_withdraw key ring entries number signature told may = record { statement = may.0; live = live_from_registry entries number may.0 may.1; signed = may.2 }

-- one that it does not take is refused
pub withdrawal_refused : (h : HistoryView) (pass : ℕ) (clock : ℤ) (number : ℕ) (signature : List ℕ) (fault : WithdrawFault) → MayWithdraw (is_accepted h.ring) (state_of h).statements number signature (Err fault) →
    IsPlanned h pass clock (requests.Withdraw number signature) (plan_of_withdrawal number fault) h
withdrawal_refused h pass clock number signature withdrawals.Absent may = not_live number signature (none_in_registry (state_of h).statements number may)
withdrawal_refused h pass clock number signature withdrawals.BadSignature may =
    unsigned_withdrawal number signature may.0 (live_from_registry (state_of h).statements number may.0 may.1) (λ signed. false≢true (sym may.2 ∙ signed))
withdrawal_refused h pass clock number signature withdrawals.NoMemory may = tt
