-- The first damage of an event, over plain values.
use Rattle.std.proofs.Common.{◌≡◌, ◌<◌, ◌-◌, ◌^◌, ℕ, List, [], ◌∷◌, ◌++◌, length, refl, sym, ap, subst, ◌∙◌, arith, Some, None}
use Rattle.std.specs.Prelude.{ℤ, ◌≤ℤ◌, Result, Ok, Err, IfOk, IfErr, IsTrue, Option}
use Rattle.std.specs.List.{AllByRecursion}
use Rattle.std.specs.Option.{option_map}
use Rattle.std.proofs.lemmas.Bool.{false≢true}
use Rattle.std.proofs.lemmas.Int.{ints, clamps}
use Rattle.bl_syntax.specs.Names.{is_principal_name}
use Rattle.bl_syntax.specs.Statement.{StatementView, IsStatement}
use Rattle.bl_syntax.specs.TimeOrder.{IsMoment}
use Rattle.bl_syntax.specs.Grant.{GrantView}
use Rattle.policy_statement.specs.Messages.{statement_message}
use Rattle.policy_statement.specs.Withdrawal.{MayWithdraw}
use Rattle.policy_statement.specs.declared.registry.WithdrawFault.{WithdrawFault}
use Rattle.policy_statement.specs.declared.registry.WithdrawFault.TheVariants as withdrawals
use Rattle.policy_statement.specs.Registered.{RegisteredView}
use Rattle.policy_statement.specs.Registry.{MayRegister, CanRegister, sayings}
use Rattle.policy_statement.specs.Ring.{is_accepted}
use Rattle.policy_statement.specs.declared.registry.RegisterFault.{RegisterFault}
use Rattle.policy_statement.specs.declared.registry.RegisterFault.TheVariants as registry
use Rattle.procap.specs.declared.procap.Procap.{Procap}
use Rattle.proof_term.specs.Proof.{ProofView}
use Rattle.proof_verifier.specs.declared.cites.Cite.{Cite}
use Rattle.proof_verifier.specs.Cited.{statements_of}
use Rattle.proof_verifier.specs.CheckedView.{CheckedView, IsChecked}
use Rattle.proof_verifier.specs.Run.{IsFault}
use Rattle.proof_verifier.specs.Verdict.{verdict}
use Rattle.proof_verifier.specs.declared.fault.CheckFault.{CheckFault}
use Rattle.proof_verifier.specs.declared.fault.CheckFault.TheVariants as checks
use Rattle.file_world.specs.declared.operation.Op.{Op}
use Rattle.file_world.specs.Effect.{IsOperation, refusal}
use Rattle.file_world.specs.Needs.{needs}
use Rattle.journal_records.specs.declared.event.Event.{Event}
use Rattle.journal_records.specs.declared.event.Event.TheVariants.{Registered, Withdrawn, Issued, Acted}
use Rattle.access_history.specs.declared.reply.StepReply.{StepReply}
use Rattle.access_history.specs.declared.request.StepRequest.TheVariants.{Act}
use Rattle.access_history.specs.Admission.{IsAdmitted, IsNeedMet}
use Rattle.access_history.specs.Answer.{Answers, moment_of, denied, refused, acted}
use Rattle.access_history.specs.Authority.{Authority, IsSignedStatement, IsSignedWithdrawal, MayBeRegistered}
use Rattle.access_history.specs.Base.{BaseView}
use Rattle.bl_syntax.specs.Citable.{AreCitable}
use Rattle.access_history.specs.Books.{Book, book_of, live_book, whole_book}
use Rattle.access_history.specs.Citing.{AreFound, IsAbsent, IsGoodIssue, IsGrantOf, as_proved, naming, IsGrantedFrom, IsHeld, MayBeIssued, MayBeWithdrawn, issued_grant, numbers_of}
use Rattle.access_history.specs.History.{HistoryView, authority_of, state_of, addition_of, IsReadyFor}
use Rattle.access_history.specs.Lawful.{IsLawfulBase, MayAct}
use Rattle.access_history.proofs.AdmissionLemmas.{AreDerived-admitted}
use Rattle.bl_syntax.proofs.EqualityLemmas.{same_grant}
use Rattle.access_history.proofs.CitingLemmas.{MayBeIssued-found, MayBeIssued-good, AreCitable-numbers, AreCited-numbers, absent_not_found, found_held, granted_as, granted_is, live_from_registry, none_in_registry, one_held, refused_grants_none, said_length, same_cites, stand_registered}
use Rattle.access_history.proofs.NumberedLemmas.{Contains-numbered, none_fails, first_failing}
use Rattle.op_gate.specs.declared.damage.Damage.{Damage}
use Rattle.op_gate.specs.declared.damage.Damage.TheVariants.{Shape, Unsigned, Unproved, NotAdmitted, MomentFalls, Duplicate}
use Rattle.op_gate.specs.declared.damage.AdmitFault.{AdmitFault}
use Rattle.op_gate.specs.declared.damage.AdmitFault.TheVariants.{Damaged, NoMemory}
use Rattle.op_gate.specs.declared.planned.Pending.{Pending}
use Rattle.op_gate.specs.declared.planned.DecisionPlan.TheVariants.{Answer, Keep}
use Rattle.op_gate.specs.Admits.{FindsCited, IsPendingAs, GivesPending, IsTimely, IsCheckedAs, GivesChecked, GivesIssue, LacksNext, pending_issue, pending_statement, pending_withdrawal, proof_damage, register_damage, withdraw_damage}
use Rattle.op_gate.specs.Damage.{HasShape, IsWithdrawalSigned, TakesEffect, IsFreeOf, IsDamagedBy, MayComeNext, TellsDamage, event_damages}
use Rattle.op_gate.specs.DamageLaws.{IsTypedEvent}
use Rattle.op_gate.specs.Decision.{IsPlanned}
use Rattle.op_gate.proofs.RegistryLemmas.{said_from_registry, may_register, may_withdraw}

-- ---- the first damage, kind by kind

first_after : (authority : Authority) (state : BaseView) (event : Event) (before : List Damage) (damage : Damage) (behind : List Damage) → event_damages ≡ before ++ damage ∷ behind → AllByRecursion (IsFreeOf authority state event) before →
    (IsFreeOf authority state event damage → ⊥) → IsDamagedBy authority state event damage
first_after authority state event before damage behind parts free fails =
    record { place = length before; first = record { before = before; behind = behind; parts = parts; place_is = refl; holds_before = free; fails = fails } }

pub damaged_shape : (authority : Authority) (state : BaseView) (event : Event) → (HasShape state event → ⊥) → IsDamagedBy authority state event Shape
damaged_shape authority state event fails = first_after authority state event [] Shape (Unsigned ∷ Unproved ∷ MomentFalls ∷ NotAdmitted ∷ Duplicate ∷ []) refl tt fails

-- an event without moment, that withdraws nothing
shape_registered : (state : BaseView) → state.count < 2 ^ 48 - 1 → (pass : ℕ) (statement : StatementView) (signature : List ℕ) → HasShape state (Registered pass statement signature)
shape_registered state counted pass statement signature = record { counted = counted; in_range = tt; live = tt }

shape_withdrawn : (state : BaseView) → state.count < 2 ^ 48 - 1 → (pass number : ℕ) (signature : List ℕ) → IsHeld (book_of state) number → HasShape state (Withdrawn pass number signature)
shape_withdrawn state counted pass number signature live = record { counted = counted; in_range = tt; live = live }

shape_issued : (state : BaseView) → state.count < 2 ^ 48 - 1 → (pass : ℕ) (cited : List ℕ) (proof : ProofView) (g : GrantView) → HasShape state (Issued pass cited proof g)
shape_issued state counted pass cited proof g = record { counted = counted; in_range = tt; live = tt }

shape_acted : (state : BaseView) → state.count < 2 ^ 48 - 1 → (pass : ℕ) (caller : List ℕ) (op : Op) (procaps : List Procap) (moment : ℤ) → IsMoment moment → HasShape state (Acted pass caller op procaps moment)
shape_acted state counted pass caller op procaps moment in_range = record { counted = counted; in_range = in_range; live = tt }

module _ (authority : Authority) (state : BaseView) (counted : state.count < 2 ^ 48 - 1) where
  -- no statement stands under the number
  damaged_absent : (pass number : ℕ) (signature : List ℕ) → (IsHeld (book_of state) number → ⊥) → IsDamagedBy authority state (Withdrawn pass number signature) Shape
  damaged_absent pass number signature none = damaged_shape authority state (Withdrawn pass number signature) (λ has. none has.live)

  -- the withdrawal is not signed
  damaged_withdrawal : (pass number : ℕ) (signature : List ℕ) → IsHeld (book_of state) number → (IsWithdrawalSigned authority (book_of state) number signature → ⊥) → IsDamagedBy authority state (Withdrawn pass number signature) Unsigned
  damaged_withdrawal pass number signature live fails =
      first_after authority state (Withdrawn pass number signature) (Shape ∷ []) Unsigned (Unproved ∷ MomentFalls ∷ NotAdmitted ∷ Duplicate ∷ []) refl (shape_withdrawn state counted pass number signature live, tt) fails

  damaged_unsigned : (pass : ℕ) (statement : StatementView) (signature : List ℕ) → (IsSignedStatement authority statement signature → ⊥) → IsDamagedBy authority state (Registered pass statement signature) Unsigned
  damaged_unsigned pass statement signature fails =
      first_after authority state (Registered pass statement signature) (Shape ∷ []) Unsigned (Unproved ∷ MomentFalls ∷ NotAdmitted ∷ Duplicate ∷ []) refl (shape_registered state counted pass statement signature, tt) fails

  damaged_duplicate : (pass : ℕ) (statement : StatementView) (signature : List ℕ) → IsSignedStatement authority statement signature → (CanRegister (sayings state.statements) statement → ⊥) → IsDamagedBy authority state (Registered pass statement signature) Duplicate
  damaged_duplicate pass statement signature signed fails =
      first_after authority state (Registered pass statement signature) (Shape ∷ Unsigned ∷ Unproved ∷ MomentFalls ∷ NotAdmitted ∷ []) Duplicate [] refl (shape_registered state counted pass statement signature, (signed, (tt, (tt, (tt, tt))))) fails

  pub damaged_unproved : (pass : ℕ) (cited : List ℕ) (proof : ProofView) (g : GrantView) → (MayBeIssued state (record { cited = cited; proof = proof; grant = g }) → ⊥) → IsDamagedBy authority state (Issued pass cited proof g) Unproved
  damaged_unproved pass cited proof g fails =
      first_after authority state (Issued pass cited proof g) (Shape ∷ Unsigned ∷ []) Unproved (MomentFalls ∷ NotAdmitted ∷ Duplicate ∷ []) refl (shape_issued state counted pass cited proof g, (tt, tt)) fails

  pub damaged_falls : (pass : ℕ) (caller : List ℕ) (op : Op) (procaps : List Procap) (moment : ℤ) → IsMoment moment → (state.moment ≤ℤ moment → ⊥) → IsDamagedBy authority state (Acted pass caller op procaps moment) MomentFalls
  damaged_falls pass caller op procaps moment in_range fails =
      first_after authority state (Acted pass caller op procaps moment) (Shape ∷ Unsigned ∷ Unproved ∷ []) MomentFalls (NotAdmitted ∷ Duplicate ∷ []) refl (shape_acted state counted pass caller op procaps moment in_range, (tt, (tt, tt))) fails

  pub damaged_not_admitted : (pass : ℕ) (caller : List ℕ) (op : Op) (procaps : List Procap) (moment : ℤ) → IsMoment moment → state.moment ≤ℤ moment → (TakesEffect authority.key state caller op procaps moment → ⊥) →
      IsDamagedBy authority state (Acted pass caller op procaps moment) NotAdmitted
  damaged_not_admitted pass caller op procaps moment in_range not_before fails =
      first_after authority state (Acted pass caller op procaps moment) (Shape ∷ Unsigned ∷ Unproved ∷ MomentFalls ∷ []) NotAdmitted (Duplicate ∷ []) refl (shape_acted state counted pass caller op procaps moment in_range, (tt, (tt, (not_before, tt)))) fails

-- ---- statements

-- a statement that the registry takes
pub registered_pending : (h : HistoryView) (pass : ℕ) (statement : StatementView) (signature : List ℕ) (told : Unit {0}) (pending : Pending) → IsStatement statement →
    MayRegister (is_accepted h.ring statement.who (statement_message statement) signature) (state_of h).statements statement (Ok told) →
    pending ≡ pending_statement pass statement signature → IsPendingAs h h (Registered pass statement signature) pending
registered_pending h pass statement signature told pending is may pending_is = record {
  follows = may_register h.key h.ring (state_of h).statements statement signature told is may;
  event_is = ap (λ (p : Pending). p.event) pending_is;
  addition_is = ap (λ (p : Pending). p.addition) pending_is;
  ready = tt;
}

-- what is reported of a statement that the registry takes
pub registered_told : (h : HistoryView) (pass : ℕ) (statement : StatementView) (signature : List ℕ) (told : Unit {0}) (result : Result Pending AdmitFault) → IsStatement statement →
    MayRegister (is_accepted h.ring statement.who (statement_message statement) signature) (state_of h).statements statement (Ok told) →
    IfOk result (λ pending. pending ≡ pending_statement pass statement signature) → IfErr result (λ fault. fault ≡ NoMemory) → GivesPending h h (Registered pass statement signature) result
registered_told h pass statement signature told (Ok pending) is may ok err = registered_pending h pass statement signature told pending is may ok
registered_told h pass statement signature told (Err fault) is may ok err = subst (λ (f : AdmitFault). GivesPending h h (Registered pass statement signature) (Err f)) (sym err) tt

-- a statement that it does not take
pub registered_damaged : (h : HistoryView) (pass : ℕ) (statement : StatementView) (signature : List ℕ) (fault : RegisterFault) → (state_of h).count < 2 ^ 48 - 1 →
    MayRegister (is_accepted h.ring statement.who (statement_message statement) signature) (state_of h).statements statement (Err fault) → GivesPending h h (Registered pass statement signature) (Err (register_damage fault))
registered_damaged h pass statement signature registry.BadSignature counted may =
    damaged_unsigned (authority_of h) (state_of h) counted pass statement signature (λ signed. false≢true (sym may ∙ signed))
registered_damaged h pass statement signature registry.RegistryFull counted may =
    damaged_duplicate (authority_of h) (state_of h) counted pass statement signature may.0 (λ can. omega (arith, can.room, may.1.1, said_length (state_of h).statements))
registered_damaged h pass statement signature (registry.Duplicate number) counted may =
    damaged_duplicate (authority_of h) (state_of h) counted pass statement signature may.0
    (λ can. can.new (Contains-numbered (sayings (state_of h).statements) number statement (said_from_registry (state_of h).statements number statement may.1)))
registered_damaged h pass statement signature registry.NoMemory counted may = tt

-- ---- withdrawals

-- a withdrawal that the registry takes
pub withdrawn_pending : (h : HistoryView) (pass number : ℕ) (signature : List ℕ) (told : Unit {0}) (pending : Pending) → MayWithdraw (is_accepted h.ring) (state_of h).statements number signature (Ok told) →
    pending ≡ pending_withdrawal pass number signature → IsPendingAs h h (Withdrawn pass number signature) pending
withdrawn_pending h pass number signature told pending may pending_is = record {
  follows = may_withdraw h.key h.ring (state_of h).statements number signature told may;
  event_is = ap (λ (p : Pending). p.event) pending_is;
  addition_is = ap (λ (p : Pending). p.addition) pending_is;
  ready = tt;
}

-- and one that it does not take
pub withdrawn_damaged : (h : HistoryView) (pass number : ℕ) (signature : List ℕ) (fault : WithdrawFault) → (state_of h).count < 2 ^ 48 - 1 →
    MayWithdraw (is_accepted h.ring) (state_of h).statements number signature (Err fault) → GivesPending h h (Withdrawn pass number signature) (Err (withdraw_damage fault))
withdrawn_damaged h pass number signature withdrawals.Absent counted may =
    damaged_absent (authority_of h) (state_of h) counted pass number signature (none_in_registry (state_of h).statements number may)
withdrawn_damaged h pass number signature withdrawals.BadSignature counted may =
    let live = live_from_registry (state_of h).statements number may.0 may.1 in
    damaged_withdrawal (authority_of h) (state_of h) counted pass number signature (may.0, live) (λ all. false≢true (sym may.2 ∙ all may.0 live))
withdrawn_damaged h pass number signature withdrawals.NoMemory counted may = tt

-- ---- issues

-- the numbers of a good issue can be cited
pub good_citable : (statements : List StatementView) (cited : List ℕ) (proof : ProofView) (g : GrantView) → IsGoodIssue statements (record { cited = cited; proof = proof; grant = g }) → AreCitable cited
good_citable statements cited proof g good = subst AreCitable (sym good.cited) (AreCitable-numbers good.cites good.rising)

-- they are found among the statements
pub good_cites : (statements : List StatementView) (cited : List ℕ) (proof : ProofView) (g : GrantView) (good : IsGoodIssue statements (record { cited = cited; proof = proof; grant = g })) → AreFound (whole_book statements) cited good.cites
good_cites statements cited proof g good = record { numbers_are = sym good.cited; stand = good.stand }

-- and none of them is absent
pub good_found : (statements : List StatementView) (cited : List ℕ) (proof : ProofView) (g : GrantView) (number : ℕ) → IsGoodIssue statements (record { cited = cited; proof = proof; grant = g }) → IsAbsent (whole_book statements) cited number → ⊥
good_found statements cited proof g number good absent = absent_not_found (whole_book statements) cited number good.cites absent (good_cites statements cited proof g good)

-- a grant of either form is the proved one with what it names
form_names : (proved g : GrantView) (numbers : List ℕ) → IsGrantOf proved numbers g → issued_grant proved g.cited ≡ g
form_names proved _ numbers as_proved = same_grant (issued_grant proved proved.cited) proved refl refl refl refl
form_names proved _ numbers naming = refl

-- seen through the call that returns the proved grant, and through the numbers that were handed in
pub form_of_both : (shown proved : GrantView) (cited numbers : List ℕ) (g : GrantView) → shown ≡ proved → numbers ≡ cited → IsGrantOf shown cited g → IsGrantOf proved numbers g
form_of_both shown proved cited numbers g shown_is numbers_are form = subst (λ (p : GrantView). IsGrantOf p numbers g) shown_is (subst (λ (ns : List ℕ). IsGrantOf shown ns g) (sym numbers_are) form)

-- a checked proof with this grant
pub same_checked : (checked : CheckedView) (g : GrantView) → IsChecked checked → checked.goal ≡ g.goal → IsGrantOf checked.grant (numbers_of checked.cited) g → IsCheckedAs checked.cited checked.proof g checked
same_checked checked g is goal form = record {
  cited_is = refl;
  proof_is = refl;
  grant_is = form_names checked.grant g (numbers_of checked.cited) form;
  granted = granted_as checked.cited checked.goal checked.proof checked.grant g is goal form;
}

-- a grant that the proof does not give
pub other_grant : (checked : CheckedView) (g : GrantView) → IsChecked checked → checked.goal ≡ g.goal → (IsGrantOf checked.grant (numbers_of checked.cited) g → ⊥) → GivesChecked checked.cited checked.proof g (Err (Damaged Unproved))
other_grant checked g is goal differs = (
  refl,
  λ from. differs (granted_is checked.cited checked.goal checked.proof checked.grant g is.verdict_is goal from),
)

-- a proof that is refused
pub not_granted : (cites : List Cite) (proof : ProofView) (g : GrantView) (fault : CheckFault) → IsFault fault (verdict (statements_of cites) g.goal proof) → GivesChecked cites proof g (Err (proof_damage fault))
not_granted cites proof g (checks.NoHypothesis node) fails = (refl, λ from. refused_grants_none cites proof g (checks.NoHypothesis node) (λ e. cc) fails from)
not_granted cites proof g (checks.WrongShape node) fails = (refl, λ from. refused_grants_none cites proof g (checks.WrongShape node) (λ e. cc) fails from)
not_granted cites proof g (checks.NotEntailed node) fails = (refl, λ from. refused_grants_none cites proof g (checks.NotEntailed node) (λ e. cc) fails from)
not_granted cites proof g (checks.NotInState node) fails = (refl, λ from. refused_grants_none cites proof g (checks.NotInState node) (λ e. cc) fails from)
not_granted cites proof g (checks.ViewTooWeak node) fails = (refl, λ from. refused_grants_none cites proof g (checks.ViewTooWeak node) (λ e. cc) fails from)
not_granted cites proof g (checks.BadTerm node) fails = (refl, λ from. refused_grants_none cites proof g (checks.BadTerm node) (λ e. cc) fails from)
not_granted cites proof g (checks.TooManyConditions node) fails = (refl, λ from. refused_grants_none cites proof g (checks.TooManyConditions node) (λ e. cc) fails from)
not_granted cites proof g checks.NoMemory fails = tt

-- what is reported of an issue whose proof is checked
pub issued_told : (pass : ℕ) (cites : List Cite) (proof : ProofView) (g : GrantView) (checked : CheckedView) (result : Result Pending AdmitFault) → IsCheckedAs cites proof g checked →
    IfOk result (λ pending. pending ≡ pending_issue pass (numbers_of checked.cited) checked.proof (issued_grant checked.grant g.cited)) → IfErr result (λ fault. fault ≡ NoMemory) → GivesIssue pass cites proof g result
issued_told pass cites proof g checked (Ok pending) is ok err = (
  is.granted,
  ok ∙ ap (λ (cs : List Cite). pending_issue pass (numbers_of cs) checked.proof (issued_grant checked.grant g.cited)) is.cited_is ∙ ap (λ (p : ProofView). pending_issue pass (numbers_of cites) p (issued_grant checked.grant g.cited)) is.proof_is
      ∙ ap (λ (h : GrantView). pending_issue pass (numbers_of cites) proof h) is.grant_is,
)
issued_told pass cites proof g checked (Err fault) is ok err = subst (λ (f : AdmitFault). GivesIssue pass cites proof g (Err f)) (sym err) tt

-- and of one whose proof is not
pub issued_unchecked : (pass : ℕ) (cites : List Cite) (proof : ProofView) (g : GrantView) (fault : AdmitFault) → GivesChecked cites proof g (Err fault) → GivesIssue pass cites proof g (Err fault)
issued_unchecked pass cites proof g (Damaged damage) gives = gives
issued_unchecked pass cites proof g NoMemory gives = tt

-- an issue that cites what was found, and whose grant is the verdict on its proof from that
pub good_issue : (statements : List StatementView) (cited : List ℕ) (proof : ProofView) (g : GrantView) (cites : List Cite) → AreCitable cited → AreFound (whole_book statements) cited cites → IsGrantedFrom cites proof g →
    IsGoodIssue statements (record { cited = cited; proof = proof; grant = g })
good_issue statements cited proof g cites citable found granted =
    record { cites = cites; cited = sym found.numbers_are; rising = AreCited-numbers cites (subst AreCitable (sym found.numbers_are) citable); stand = found.stand; granted = granted }

-- the verdict of a good issue is from what was found of its numbers
pub good_granted : (statements : List StatementView) (cited : List ℕ) (proof : ProofView) (g : GrantView) (cites : List Cite) → AreFound (whole_book statements) cited cites → IsGoodIssue statements (record { cited = cited; proof = proof; grant = g }) →
    IsGrantedFrom cites proof g
good_granted statements cited proof g cites found good =
    subst (λ (cs : List Cite). IsGrantedFrom cs proof g) (same_cites (whole_book statements) good.cites cites (sym good.cited ∙ sym found.numbers_are) good.stand found.stand) good.granted

-- what is found among the statements that stand is found among those that are registered
found_registered : (state : BaseView) (cited : List ℕ) (cites : List Cite) → AreFound (book_of state) cited cites → AreFound (whole_book (sayings state.statements)) cited cites
found_registered state cited cites found = record { numbers_are = found.numbers_are; stand = stand_registered state cites found.stand }

-- what is found of an issue whose statements were looked up
pub issued_found : (h : HistoryView) (pass : ℕ) (cited : List ℕ) (proof : ProofView) (g : GrantView) (cites : List Cite) (told : Result Pending AdmitFault) → (state_of h).count < 2 ^ 48 - 1 → AreCitable cited →
    AreFound (book_of (state_of h)) cited cites → GivesIssue pass cites proof g told → GivesPending h h (Issued pass cited proof g) told
issued_found h pass cited proof g cites (Ok pending) counted citable found gives =
    let held = found_held (book_of (state_of h)) cited cites found in
    let is : pending ≡ pending_issue pass cited proof g = gives.1 ∙ ap (λ (ns : List ℕ). pending_issue pass ns proof g) found.numbers_are in
    record {
      follows = MayBeIssued-good (state_of h) (record { cited = cited; proof = proof; grant = g }) (good_issue (sayings (state_of h).statements) cited proof g cites citable (found_registered (state_of h) cited cites found) gives.0) held;
      event_is = ap (λ (p : Pending). p.event) is;
      addition_is = ap (λ (p : Pending). p.addition) is;
      ready = tt;
    }
issued_found h pass cited proof g cites (Err (Damaged damage)) counted citable found gives =
    subst (λ (d : Damage). IsDamagedBy (authority_of h) (state_of h) (Issued pass cited proof g) d) (sym gives.0)
    (damaged_unproved (authority_of h) (state_of h) counted pass cited proof g (λ may. gives.1 (good_granted (sayings (state_of h).statements) cited proof g cites (found_registered (state_of h) cited cites found) may.good)))
issued_found h pass cited proof g cites (Err NoMemory) counted citable found gives = tt

-- what is found of an issue whose statements were looked up, or not found
pub issued_cited : (h : HistoryView) (pass : ℕ) (cited : List ℕ) (proof : ProofView) (g : GrantView) (cites : List Cite) (told : Result Pending AdmitFault) (shown : List RegisteredView) (numbers : List ℕ) → (state_of h).count < 2 ^ 48 - 1 → shown ≡ (state_of h).statements → numbers ≡ cited →
    FindsCited (live_book shown) numbers (Ok cites) → GivesIssue pass cites proof g told → GivesPending h h (Issued pass cited proof g) told
issued_cited h pass cited proof g cites told shown numbers counted shown_is numbers_are finds gives =
    let all : AreCitable cited × AreFound (book_of (state_of h)) cited cites =
    subst (λ (ns : List ℕ). AreCitable ns × AreFound (book_of (state_of h)) ns cites) numbers_are (subst (λ (es : List RegisteredView). AreCitable numbers × AreFound (live_book es) numbers cites) shown_is finds) in
    issued_found h pass cited proof g cites told counted all.0 all.1 gives

pub issued_uncited : (h : HistoryView) (pass : ℕ) (cited : List ℕ) (proof : ProofView) (g : GrantView) (fault : AdmitFault) (shown : List RegisteredView) (numbers : List ℕ) → (state_of h).count < 2 ^ 48 - 1 → shown ≡ (state_of h).statements → numbers ≡ cited →
    FindsCited (live_book shown) numbers (Err fault) → GivesPending h h (Issued pass cited proof g) (Err fault)
issued_uncited h pass cited proof g (Damaged damage) shown numbers counted shown_is numbers_are finds =
    subst (λ (d : Damage). IsDamagedBy (authority_of h) (state_of h) (Issued pass cited proof g) d) (sym finds.0)
    (damaged_unproved (authority_of h) (state_of h) counted pass cited proof g
    (λ may. finds.1 may.good.cites (subst AreCitable (sym numbers_are) (good_citable (sayings (state_of h).statements) cited proof g may.good))
    (subst (λ (ns : List ℕ). AreFound (live_book shown) ns may.good.cites) (sym numbers_are)
    (subst (λ (es : List RegisteredView). AreFound (live_book es) cited may.good.cites) (sym shown_is) (MayBeIssued-found (state_of h) (record { cited = cited; proof = proof; grant = g }) may)))))
issued_uncited h pass cited proof g NoMemory shown numbers counted shown_is numbers_are finds = tt

-- ---- the gate

-- nothing is pending
pub none_pending : (pending : Option Pending) → option_map (λ (p : Pending). p.event) pending ≡ None → pending ≡ None
none_pending None is = refl
none_pending (Some p) is = absurd cc

-- there is no number for the event
pub lacks_next : (authority : Authority) (state shown : BaseView) (event : Event) (fault : AdmitFault) → shown ≡ state → LacksNext shown fault → TellsDamage authority state event (Err fault)
lacks_next authority state shown event (Damaged damage) same lacks =
    subst (λ (d : Damage). IsDamagedBy authority state event d) (sym lacks.0)
    (damaged_shape authority state event (λ has. omega (arith, has.counted, lacks.1, ap (λ (s : BaseView). s.count) same)))
lacks_next authority state shown event NoMemory same lacks = tt

-- what is reported of the event that is kept, and of one that is not
pub told_kept : (before after : HistoryView) (event : Event) (pending : Pending) → (state_of before).count < 2 ^ 48 - 1 → IsPendingAs before after event pending → MayComeNext (authority_of before) (state_of before) event
told_kept before after event pending counted is = record { counted = counted; follows = is.follows }

pub told_damaged : (before after : HistoryView) (event : Event) (fault : AdmitFault) → GivesPending before after event (Err fault) → TellsDamage (authority_of before) (state_of before) event (Err fault)
told_damaged before after event (Damaged damage) gives = gives
told_damaged before after event NoMemory gives = tt

-- ---- operations

-- the moment of a step whose clock is not before the last moment
pub moment_is : (state : BaseView) (clock : ℤ) → state.moment ≤ℤ clock → moment_of state clock ≡ clock
moment_is state clock not_before = omega (arith, ints, clamps, not_before)

-- what an operation that was done says of it
record IsDone (authority : Authority) (state : BaseView) (pass : ℕ) (clock : ℤ) (caller : List ℕ) (op : Op) (procaps : List Procap) (event : Event) : Type 0 where
  admitted : IsAdmitted authority.key state caller op procaps (moment_of state clock)
  not_refused : refusal state.world op ≡ None
  event_is : event ≡ Acted pass caller op procaps (moment_of state clock)

done : (authority : Authority) (state : BaseView) (pass : ℕ) (clock : ℤ) (caller : List ℕ) (op : Op) (procaps : List Procap) (reply : StepReply) (event : Event) → Answers authority state pass clock (Act caller op procaps) reply (Some event) →
    IsDone authority state pass clock caller op procaps event
done authority state pass clock _ _ _ _ _ (acted caller op procaps admitted free) = record { admitted = admitted; not_refused = free; event_is = refl }

-- an operation of which nothing is kept has no effect
not_done : (authority : Authority) (state : BaseView) (pass : ℕ) (clock : ℤ) (caller : List ℕ) (op : Op) (procaps : List Procap) (reply : StepReply) → Answers authority state pass clock (Act caller op procaps) reply None →
    TakesEffect authority.key state caller op procaps (moment_of state clock) → ⊥
not_done authority state pass clock _ _ _ _ (denied caller op procaps place cause is) takes =
    none_fails (IsNeedMet authority.key state caller procaps (moment_of state clock)) (needs state.world op) is.index is.need takes.admitted is.first
not_done authority state pass clock _ _ _ _ (refused caller op procaps why admitted refuses) takes = let other : None ≡ Some why = sym takes.not_refused ∙ refuses in absurd cc

-- a timely operation that is done
pub acted_pending : (before after : HistoryView) (pass : ℕ) (caller : List ℕ) (op : Op) (procaps : List Procap) (moment : ℤ) (reply : StepReply) (pending : Pending) → IsLawfulBase (authority_of before) (state_of before) → IsTimely (state_of before) op procaps moment →
    IsTrue (is_principal_name caller) → IsOperation op → IsPlanned before pass moment (Act caller op procaps) (Keep reply pending) after → IsPendingAs before after (Acted pass caller op procaps moment) pending
acted_pending before after pass caller op procaps moment reply pending base timely named operation planned =
    let state = state_of before in
    let at : moment_of state moment ≡ moment = moment_is state moment timely.not_before in
    let is = done (authority_of before) state pass moment caller op procaps reply pending.event planned.0 in
    let admitted : IsAdmitted before.key state caller op procaps moment = subst (IsAdmitted before.key state caller op procaps) at is.admitted in
    let event : pending.event ≡ Acted pass caller op procaps moment = is.event_is ∙ ap (λ (m : ℤ). Acted pass caller op procaps m) at in
    record {
      follows = record {
        not_before = timely.not_before;
        in_range = timely.in_range;
        formed = record { named = named; operation = operation; brought = timely.brought };
        admitted = admitted;
        not_refused = is.not_refused;
        derived = AreDerived-admitted before.key state caller op procaps moment base.good_issues admitted;
      };
      event_is = event;
      addition_is = planned.1 ∙ ap addition_of event;
      ready = subst (λ (e : Event). IsReadyFor after e) event planned.2;
    }

-- a timely operation that is not done
pub acted_damaged : (before after : HistoryView) (pass : ℕ) (caller : List ℕ) (op : Op) (procaps : List Procap) (moment : ℤ) (reply : StepReply) → (state_of before).count < 2 ^ 48 - 1 → IsTimely (state_of before) op procaps moment →
    IsPlanned before pass moment (Act caller op procaps) (Answer reply) after → IsDamagedBy (authority_of before) (state_of before) (Acted pass caller op procaps moment) NotAdmitted
acted_damaged before after pass caller op procaps moment reply counted timely planned =
    let state = state_of before in
    damaged_not_admitted (authority_of before) state counted pass caller op procaps moment timely.in_range timely.not_before
    (λ takes. not_done (authority_of before) state pass moment caller op procaps reply planned (subst (TakesEffect before.key state caller op procaps) (sym (moment_is state moment timely.not_before)) takes))

-- ---- laws

-- who said the statement that stands signed its withdrawal
signed_of : (authority : Authority) (book : Book) (number : ℕ) (signature : List ℕ) → MayBeWithdrawn authority book number signature → IsWithdrawalSigned authority book number signature
signed_of authority book number signature may statement live =
    subst (λ (s : StatementView). IsSignedWithdrawal authority s signature) (one_held book number may.statement statement may.live live) may.signed

all_free : (authority : Authority) (state : BaseView) (event : Event) → MayComeNext authority state event → AllByRecursion (IsFreeOf authority state event) event_damages
all_free authority state (Registered pass statement signature) may =
    let follows : MayBeRegistered authority state.statements statement signature = may.follows in
    (shape_registered state may.counted pass statement signature, (follows.signed, (tt, (tt, (tt, (follows.can, tt))))))
all_free authority state (Withdrawn pass number signature) may =
    let follows : MayBeWithdrawn authority (book_of state) number signature = may.follows in (
      shape_withdrawn state may.counted pass number signature (follows.statement, follows.live),
      (signed_of authority (book_of state) number signature follows, (tt, (tt, (tt, (tt, tt))))),
    )
all_free authority state (Issued pass cited proof g) may = (shape_issued state may.counted pass cited proof g, (tt, (may.follows, (tt, (tt, (tt, tt))))))
all_free authority state (Acted pass caller op procaps moment) may =
    let follows : MayAct authority state caller op procaps moment = may.follows in (
      shape_acted state may.counted pass caller op procaps moment follows.in_range,
      (tt, (tt, (follows.not_before, (record { brought = follows.formed.brought; admitted = follows.admitted; not_refused = follows.not_refused }, (tt, tt))))),
    )

pub first_damages : (authority : Authority) (state : BaseView) (event : Event) (first second : Damage) → IsDamagedBy authority state event first → IsDamagedBy authority state event second → first ≡ second
first_damages authority state event first second one other = (first_failing (IsFreeOf authority state event) event_damages one.place other.place first second one.first other.first).1

pub damaged_not_next : (authority : Authority) (state : BaseView) (event : Event) (damage : Damage) → IsDamagedBy authority state event damage → MayComeNext authority state event → ⊥
damaged_not_next authority state event damage damaged may = none_fails (IsFreeOf authority state event) event_damages damaged.place damage (all_free authority state event may) damaged.first

pub free_next : (authority : Authority) (state : BaseView) (event : Event) → IsLawfulBase authority state → IsTypedEvent event → AllByRecursion (IsFreeOf authority state event) event_damages → MayComeNext authority state event
free_next authority state (Registered pass statement signature) base typed free =
    record { counted = free.0.counted; follows = record { statement = typed; signed = free.1.0; can = free.1.1.1.1.1.0 } }
free_next authority state (Withdrawn pass number signature) base typed free =
    let live : IsHeld (book_of state) number = free.0.live in
    record { counted = free.0.counted; follows = record { statement = live.0; live = live.1; signed = free.1.0 live.0 live.1 } }
free_next authority state (Issued pass cited proof g) base typed free = record { counted = free.0.counted; follows = free.1.1.0 }
free_next authority state (Acted pass caller op procaps moment) base typed free =
    let takes : TakesEffect authority.key state caller op procaps moment = free.1.1.1.1.0 in
    record {
      counted = free.0.counted;
      follows = record {
        not_before = free.1.1.1.0;
        in_range = free.0.in_range;
        formed = record { named = typed.0; operation = typed.1; brought = takes.brought };
        admitted = takes.admitted;
        not_refused = takes.not_refused;
        derived = AreDerived-admitted authority.key state caller op procaps moment base.good_issues takes.admitted;
      };
    }
