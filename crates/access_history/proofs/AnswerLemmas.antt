-- An answer is determined by the request and the state.
use Rattle.std.proofs.Common.{◌≡◌, ◌∙◌, ◌≤◌, ◌+◌, ℕ, Option, Some, None, List, length, refl, sym, ap, subst, arith}
use Rattle.std.specs.Prelude.{ℤ, Contains}
use Rattle.std.specs.List.{AllByRecursion}
use Rattle.std.proofs.lemmas.Option.{none-some, same_Some}
use Rattle.bl_syntax.specs.Statement.{StatementView}
use Rattle.bl_syntax.specs.Grant.{AreDistinct}
use Rattle.procap.specs.declared.procap.Procap.{Procap}
use Rattle.proof_verifier.specs.declared.cites.Cite.{Cite}
use Rattle.proof_verifier.specs.CheckedView.{CheckedView}
use Rattle.file_world.specs.declared.operation.Op.{Op}
use Rattle.file_world.specs.declared.refusal.Refusal.{Refusal}
use Rattle.file_world.specs.Effect.{refusal, reply}
use Rattle.file_world.specs.Needs.{needs}
use Rattle.access_history.specs.declared.event.Issue.{Issue}
use Rattle.journal_records.specs.declared.event.Event.{Event}
use Rattle.journal_records.specs.declared.event.Event.TheVariants as events
use Rattle.access_history.specs.declared.request.StepRequest.{StepRequest}
use Rattle.access_history.specs.declared.request.StepRequest.TheVariants as requests
use Rattle.access_history.specs.declared.reply.Rejection.TheVariants.{BadSignature, RegistryFull, Duplicate}
use Rattle.access_history.specs.declared.reply.DenialCause.{DenialCause}
use Rattle.access_history.specs.declared.reply.StepReply.{StepReply}
use Rattle.access_history.specs.declared.reply.StepReply.TheVariants as replies
use Rattle.access_history.specs.Base.{BaseView}
use Rattle.access_history.specs.Numbered.{IsNumbered}
use Rattle.access_history.specs.Authority.{Authority, IsSignedStatement, IsSignedWithdrawal, MayBeRegistered, procap_of}
use Rattle.policy_statement.specs.Registry.{sayings}
use Rattle.access_history.specs.Books.{book_of}
use Rattle.access_history.specs.Citing.{StandsUnderNumber, IsHeld, IsMoved, MayBeWithdrawn, issued_grant, numbers_of}
use Rattle.access_history.specs.Replay.{replay}
use Rattle.access_history.specs.Admission.{IsAdmitted, IsDenied}
use Rattle.access_history.specs.Answer.{moment_of, IsShown, Answers, unsigned, duplicate, registry_full, registered, not_live, unsigned_withdrawal, withdrawn, moved, issued, denied, refused, acted, not_shown, shown}
use Rattle.access_history.specs.Lawful.{IsLawful}
use Rattle.access_history.proofs.AdmissionLemmas.{admitted_or_denied, one_denial}
use Rattle.access_history.proofs.CitingLemmas.{one_held, said_length}
use Rattle.access_history.proofs.LawfulLemmas.{IsLawfulBase-lawful}
use Rattle.access_history.proofs.NumberedLemmas.{Contains-numbered, numbered_item, distinct_number, none_fails, first_failing}

module _ (authority : Authority) (state : BaseView) (pass : ℕ) (clock : ℤ) where
  -- this answer, with this event, is the one
  abbrev IsOnly : StepRequest → StepReply → Option Event → Type 0
  IsOnly request answer event = (other : StepReply) (other_event : Option Event) → Answers authority state pass clock request other other_event → (answer ≡ other) × (event ≡ other_event)

  only_unsigned : (statement : StatementView) (signature : List ℕ) → (IsSignedStatement authority statement signature → ⊥) → IsOnly (requests.Register statement signature) (replies.Rejected BadSignature) None
  only_unsigned statement signature not_signed _ _ (unsigned _ _ not_signed') = (refl, refl)
  only_unsigned statement signature not_signed _ _ (duplicate _ _ number signed numbered) = absurd (not_signed signed)
  only_unsigned statement signature not_signed _ _ (registry_full _ _ signed new full) = absurd (not_signed signed)
  only_unsigned statement signature not_signed _ _ (registered _ _ may) = absurd (not_signed may.signed)

  only_duplicate : (statement : StatementView) (signature : List ℕ) (number : ℕ) → AreDistinct (sayings state.statements) → IsSignedStatement authority statement signature → IsNumbered (sayings state.statements) number statement
      → IsOnly (requests.Register statement signature) (replies.Rejected (Duplicate number)) None
  only_duplicate statement signature number distinct signed numbered _ _ (unsigned _ _ not_signed) = absurd (not_signed signed)
  only_duplicate statement signature number distinct signed numbered _ _ (duplicate _ _ other signed' numbered') =
      (ap (λ (n : ℕ). replies.Rejected (Duplicate n)) (distinct_number (sayings state.statements) number other statement distinct numbered numbered'), refl)
  only_duplicate statement signature number distinct signed numbered _ _ (registry_full _ _ signed' new full) = absurd (new (Contains-numbered (sayings state.statements) number statement numbered))
  only_duplicate statement signature number distinct signed numbered _ _ (registered _ _ may) = absurd (may.can.new (Contains-numbered (sayings state.statements) number statement numbered))

  only_full : (statement : StatementView) (signature : List ℕ) → IsSignedStatement authority statement signature → (Contains (sayings state.statements) statement → ⊥) → 4096 ≤ length state.statements
      → IsOnly (requests.Register statement signature) (replies.Rejected RegistryFull) None
  only_full statement signature signed new full _ _ (unsigned _ _ not_signed) = absurd (not_signed signed)
  only_full statement signature signed new full _ _ (duplicate _ _ other signed' numbered) = absurd (new (Contains-numbered (sayings state.statements) other statement numbered))
  only_full statement signature signed new full _ _ (registry_full _ _ signed' new' full') = (refl, refl)
  only_full statement signature signed new full _ _ (registered _ _ may) = absurd (omega (arith, full, may.can.room, said_length state.statements))

  only_registered : (statement : StatementView) (signature : List ℕ) → MayBeRegistered authority state.statements statement signature
      → IsOnly (requests.Register statement signature) (replies.Statement (length state.statements + 1)) (Some (events.Registered pass statement signature))
  only_registered statement signature may _ _ (unsigned _ _ not_signed) = absurd (not_signed may.signed)
  only_registered statement signature may _ _ (duplicate _ _ other signed numbered) = absurd (may.can.new (Contains-numbered (sayings state.statements) other statement numbered))
  only_registered statement signature may _ _ (registry_full _ _ signed new full) = absurd (omega (arith, full, may.can.room, said_length state.statements))
  only_registered statement signature may _ _ (registered _ _ may') = (refl, refl)

  only_not_live : (number : ℕ) (signature : List ℕ) → (IsHeld (book_of state) number → ⊥) → IsOnly (requests.Withdraw number signature) (replies.Absent number) None
  only_not_live number signature none _ _ (not_live _ _ none') = (refl, refl)
  only_not_live number signature none _ _ (unsigned_withdrawal _ _ statement live not_signed) = absurd (none (statement, live))
  only_not_live number signature none _ _ (withdrawn _ _ may) = absurd (none (may.statement, may.live))

  -- the statement that stands under the number is the one
  same_live : (number : ℕ) (signature : List ℕ) (statement other : StatementView) → IsNumbered (book_of state) number (Some statement) → IsNumbered (book_of state) number (Some other) → IsSignedWithdrawal authority other signature → IsSignedWithdrawal authority statement signature
  same_live number signature statement other live live' signed =
      subst (λ (s : StatementView). IsSignedWithdrawal authority s signature) (one_held (book_of state) number other statement live' live) signed

  only_unsigned_withdrawal : (number : ℕ) (signature : List ℕ) (statement : StatementView) → IsNumbered (book_of state) number (Some statement) → (IsSignedWithdrawal authority statement signature → ⊥)
      → IsOnly (requests.Withdraw number signature) (replies.Rejected BadSignature) None
  only_unsigned_withdrawal number signature statement live not_signed _ _ (not_live _ _ none) = absurd (none (statement, live))
  only_unsigned_withdrawal number signature statement live not_signed _ _ (unsigned_withdrawal _ _ statement' live' not_signed') = (refl, refl)
  only_unsigned_withdrawal number signature statement live not_signed _ _ (withdrawn _ _ may) = absurd (not_signed (same_live number signature statement may.statement live may.live may.signed))

  only_withdrawn : (number : ℕ) (signature : List ℕ) → MayBeWithdrawn authority (book_of state) number signature → IsOnly (requests.Withdraw number signature) replies.Withdrawn (Some (events.Withdrawn pass number signature))
  only_withdrawn number signature may _ _ (not_live _ _ none) = absurd (none (may.statement, may.live))
  only_withdrawn number signature may _ _ (unsigned_withdrawal _ _ statement live not_signed) = absurd (not_signed (same_live number signature statement may.statement live may.live may.signed))
  only_withdrawn number signature may _ _ (withdrawn _ _ may') = (refl, refl)

  only_moved : (checked : CheckedView) (number : ℕ) → IsMoved (book_of state) checked.cited number → IsOnly (requests.Issue checked) (replies.Absent number) None
  only_moved checked number first _ _ (moved _ number' first') =
      let same = first_failing (StandsUnderNumber (book_of state)) checked.cited first.place first'.place first.cite first'.cite first.first first'.first in
      (ap replies.Absent (first.number_is ∙ (ap (λ (c : Cite). c.number) same.1 ∙ sym first'.number_is)), refl)
  only_moved checked number first _ _ (issued _ rising granted stand) = absurd (none_fails (StandsUnderNumber (book_of state)) checked.cited first.place first.cite stand first.first)

  only_issued : (checked : CheckedView) → AllByRecursion (StandsUnderNumber (book_of state)) checked.cited
      → IsOnly (requests.Issue checked) (replies.Issue (length state.issues + 1) (length checked.grant.times) (length checked.grant.states)) (Some (events.Issued pass (numbers_of checked.cited) checked.proof (issued_grant checked.grant (numbers_of checked.cited))))
  only_issued checked stand _ _ (moved _ number first) = absurd (none_fails (StandsUnderNumber (book_of state)) checked.cited first.place first.cite stand first.first)
  only_issued checked stand _ _ (issued _ rising granted stand') = (refl, refl)

  abbrev denial_of : ℕ → DenialCause → StepReply
  denial_of place cause = replies.Denied (record { need = place; cause = cause; at = state.count })

  only_denied : (caller : List ℕ) (op : Op) (procaps : List Procap) (place : ℕ) (cause : DenialCause) → IsDenied authority.key state caller procaps (moment_of state clock) (needs state.world op) place cause
      → IsOnly (requests.Act caller op procaps) (denial_of place cause) None
  only_denied caller op procaps place cause denial _ _ (denied _ _ _ place' cause' denial') =
      let same = one_denial authority.key state caller procaps (moment_of state clock) (needs state.world op) place place' cause cause' denial denial' in
      (ap (λ (n : ℕ). denial_of n cause) same.0 ∙ ap (λ (c : DenialCause). denial_of place' c) same.1, refl)
  only_denied caller op procaps place cause denial _ _ (refused _ _ _ why admitted is) =
      absurd (admitted_or_denied authority.key state caller procaps (moment_of state clock) (needs state.world op) place cause admitted denial)
  only_denied caller op procaps place cause denial _ _ (acted _ _ _ admitted is) =
      absurd (admitted_or_denied authority.key state caller procaps (moment_of state clock) (needs state.world op) place cause admitted denial)

  only_refused : (caller : List ℕ) (op : Op) (procaps : List Procap) (why : Refusal) → IsAdmitted authority.key state caller op procaps (moment_of state clock) → refusal state.world op ≡ Some why
      → IsOnly (requests.Act caller op procaps) (replies.Refused why state.count) None
  only_refused caller op procaps why admitted is _ _ (denied _ _ _ place cause denial) =
      absurd (admitted_or_denied authority.key state caller procaps (moment_of state clock) (needs state.world op) place cause admitted denial)
  only_refused caller op procaps why admitted is _ _ (refused _ _ _ why' admitted' is') =
      (ap (λ (r : Refusal). replies.Refused r state.count) (same_Some why why' (sym is ∙ is')), refl)
  only_refused caller op procaps why admitted is _ _ (acted _ _ _ admitted' is') = absurd (none-some why (sym is' ∙ is))

  only_acted : (caller : List ℕ) (op : Op) (procaps : List Procap) → IsAdmitted authority.key state caller op procaps (moment_of state clock) → refusal state.world op ≡ None
      → IsOnly (requests.Act caller op procaps) (replies.Operation (reply state.world op)) (Some (events.Acted pass caller op procaps (moment_of state clock)))
  only_acted caller op procaps admitted is _ _ (denied _ _ _ place cause denial) =
      absurd (admitted_or_denied authority.key state caller procaps (moment_of state clock) (needs state.world op) place cause admitted denial)
  only_acted caller op procaps admitted is _ _ (refused _ _ _ why admitted' is') = absurd (none-some why (sym is ∙ is'))
  only_acted caller op procaps admitted is _ _ (acted _ _ _ admitted' is') = (refl, refl)

  only_not_shown : (number : ℕ) (who : Option (List ℕ)) → ((issue : Issue) → IsShown state number who issue → ⊥) → IsOnly (requests.ShowProcap number who) (replies.Absent number) None
  only_not_shown number who none _ _ (not_shown _ _ none') = (refl, refl)
  only_not_shown number who none _ _ (shown _ _ issue there) = absurd (none issue there)

  only_shown : (number : ℕ) (who : Option (List ℕ)) (issue : Issue) → IsShown state number who issue → IsOnly (requests.ShowProcap number who) (replies.Procap (procap_of authority.key issue.grant)) None
  only_shown number who issue there _ _ (not_shown _ _ none) = absurd (none issue there)
  only_shown number who issue there _ _ (shown _ _ issue' there') =
      (ap (λ (i : Issue). replies.Procap (procap_of authority.key i.grant)) (numbered_item state.issues number issue issue' there.issued there'.issued), refl)

  only : (request : StepRequest) (answer : StepReply) (kept : Option Event) → AreDistinct (sayings state.statements) → Answers authority state pass clock request answer kept → IsOnly request answer kept
  only _ _ _ distinct (unsigned statement signature not_signed) = only_unsigned statement signature not_signed
  only _ _ _ distinct (duplicate statement signature number signed numbered) = only_duplicate statement signature number distinct signed numbered
  only _ _ _ distinct (registry_full statement signature signed new full) = only_full statement signature signed new full
  only _ _ _ distinct (registered statement signature may) = only_registered statement signature may
  only _ _ _ distinct (not_live number signature none) = only_not_live number signature none
  only _ _ _ distinct (unsigned_withdrawal number signature statement live not_signed) = only_unsigned_withdrawal number signature statement live not_signed
  only _ _ _ distinct (withdrawn number signature may) = only_withdrawn number signature may
  only _ _ _ distinct (moved checked number first) = only_moved checked number first
  only _ _ _ distinct (issued checked rising granted stand) = only_issued checked stand
  only _ _ _ distinct (denied caller op procaps place cause denial) = only_denied caller op procaps place cause denial
  only _ _ _ distinct (refused caller op procaps why admitted is) = only_refused caller op procaps why admitted is
  only _ _ _ distinct (acted caller op procaps admitted is) = only_acted caller op procaps admitted is
  only _ _ _ distinct (not_shown number who none) = only_not_shown number who none
  only _ _ _ distinct (shown number who issue there) = only_shown number who issue there

-- a request has at most one answer over the state of a lawful history, and one event to keep
pub one_answer : (authority : Authority) (base : BaseView) (events : List Event) (pass : ℕ) (clock : ℤ) (request : StepRequest) (first second : StepReply) (kept other : Option Event)
    → IsLawful authority base events → Answers authority (replay base events) pass clock request first kept → Answers authority (replay base events) pass clock request second other
    → (first ≡ second) × (kept ≡ other)
one_answer authority base events pass clock request first second kept other lawful one =
    only authority (replay base events) pass clock request first kept (IsLawfulBase-lawful authority base events lawful).statements_differ one second other

-- an operation that is admitted and not refused gets its reply and is kept
pub admitted_kept : (authority : Authority) (state : BaseView) (pass : ℕ) (clock : ℤ) (caller : List ℕ) (op : Op) (procaps : List Procap) (answer : StepReply) (event : Option Event)
    → IsAdmitted authority.key state caller op procaps (moment_of state clock) → refusal state.world op ≡ None
    → Answers authority state pass clock (requests.Act caller op procaps) answer event → (replies.Operation (reply state.world op) ≡ answer) × (Some (events.Acted pass caller op procaps (moment_of state clock)) ≡ event)
admitted_kept authority state pass clock caller op procaps answer event admitted is answers = only_acted authority state pass clock caller op procaps admitted is answer event answers
