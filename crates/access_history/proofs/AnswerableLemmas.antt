-- Each well-formed request has an answer, since each of the tests on which the answer rests holds or does not.
use Rattle.std.proofs.Common.{◌≡◌, ◌≤◌, ◌<◌, ◌⊎◌, ℕ, inl, inr, List, length, Option, Some, None, refl, sym, subst, arith}
use Rattle.std.specs.Prelude.{ℤ, Contains}
use Rattle.std.specs.List.{AllByRecursion}
use Rattle.std.proofs.lemmas.Option.{none-some}
use Rattle.bl_syntax.specs.declared.terms.StatePred.{StatePred}
use Rattle.bl_syntax.specs.declared.grant.Goal.{Goal}
use Rattle.bl_syntax.specs.Equality.{node_eq, perm_eq, state_eq}
use Rattle.bl_syntax.proofs.EqualityLemmas.{Decides-node_eq, Decides-perm_eq, Decides-state_eq}
use Rattle.bl_syntax.specs.Statement.{StatementView, IsStatement}
use Rattle.bl_syntax.specs.StatementCode.{statement_code}
use Rattle.bl_syntax.specs.Grant.{GrantView}
use Rattle.procap.specs.Genuine.{seal_of}
use Rattle.procap.specs.declared.procap.Procap.{Procap}
use Rattle.proof_verifier.specs.declared.cites.Cite.{Cite}
use Rattle.proof_verifier.specs.CheckedView.{CheckedView}
use Rattle.file_world.specs.declared.operation.Op.{Op}
use Rattle.file_world.specs.declared.operation.Op.TheVariants.{Read, Write, Truncate, List as ListOf, Lookup, Create, Mkdir, Unlink, Rename, Getattr, Setattr, Delattr, Chown}
use Rattle.file_world.specs.declared.refusal.Refusal.{Refusal}
use Rattle.file_world.specs.Effect.{refusal}
use Rattle.file_world.specs.Facts.{facts}
use Rattle.file_world.specs.Needs.{Need, needs, child_need, slots}
use Rattle.file_world.specs.TreeEffect.{child_of}
use Rattle.file_world.specs.World.{World, tree_of}
use Rattle.access_history.specs.declared.event.Issue.{Issue}
use Rattle.journal_records.specs.declared.event.Event.{Event}
use Rattle.access_history.specs.declared.request.StepRequest.{StepRequest}
use Rattle.access_history.specs.declared.request.StepRequest.TheVariants.{Register, Withdraw, Issue as IssueOf, Act, ShowProcap}
use Rattle.access_history.specs.declared.reply.DenialCause.{DenialCause}
use Rattle.access_history.specs.declared.reply.DenialCause.TheVariants as causes
use Rattle.access_history.specs.declared.reply.StepReply.{StepReply}
use Rattle.access_history.specs.Base.{BaseView}
use Rattle.access_history.specs.Gone.{gone}
use Rattle.access_history.specs.Numbered.{IsNumbered}
use Rattle.access_history.specs.Authority.{Authority, IsSignedStatement, IsSignedWithdrawal}
use Rattle.policy_statement.specs.Registry.{sayings}
use Rattle.access_history.specs.Books.{book_of}
use Rattle.access_history.specs.Citing.{StandsUnderNumber, IsHeld}
use Rattle.access_history.specs.Admission.{wanted_goal, denial_causes, Passes, Admits, IsNeedMet, IsAdmitted}
use Rattle.access_history.specs.Answer.{moment_of, MaySee, Answers, unsigned, duplicate, registry_full, registered, not_live, unsigned_withdrawal, withdrawn, moved, issued, denied, refused, acted, not_shown, shown}
use Rattle.access_history.specs.WellFormed.{IsWellFormed}
use Rattle.access_history.proofs.CitingLemmas.{held_or_not, one_held, said_length}
use Rattle.access_history.proofs.ListLemmas.{AllByRecursion-contains}
use Rattle.access_history.proofs.NumberedLemmas.{numbered_item, none_fails, Contains-failing}
use Rattle.access_history.proofs.EitherLemmas.{OrNot, or_not, true_or_not, few_or_full, same_bytes, same_coded, contains_or, HasFailing, all_or_failing, HasItem, item_or_none, item_of_number, number_of, holds_or}

same_state : (a b : StatePred) → OrNot (a ≡ b)
same_state a b = or_not (state_eq a b) (Decides-state_eq a b)

-- ---- procaps and needs

none_or : (found : Option ℕ) → OrNot (found ≡ None)
none_or None = inl refl
none_or (Some number) = inr (λ none. none-some number (sym none))

passes_or : (key : List ℕ) (state : BaseView) (moment : ℤ) (goal : Goal) (p : Procap) (cause : DenialCause) → OrNot (Passes key state moment goal p cause)
passes_or key state moment goal p causes.Seal = same_bytes p.tag (seal_of key p.grant)
passes_or key state moment goal p causes.Principal = same_bytes p.grant.goal.who goal.who
passes_or key state moment goal p causes.File = or_not (node_eq p.grant.goal.file goal.file) (Decides-node_eq p.grant.goal.file goal.file)
passes_or key state moment goal p causes.Permission = or_not (perm_eq p.grant.goal.perm goal.perm) (Decides-perm_eq p.grant.goal.perm goal.perm)
passes_or key state moment goal p (causes.Time place c) = holds_or moment c
passes_or key state moment goal p (causes.State place s) = contains_or same_state (facts state.world) s
passes_or key state moment goal p (causes.Withdrawn number) = none_or (gone state p.grant)

module _ (key : List ℕ) (state : BaseView) (caller : List ℕ) (procaps : List Procap) (moment : ℤ) where
  admits_or_fails : (goal : Goal) (p : Procap) → Admits key state moment goal p ⊎ HasFailing (Passes key state moment goal p) (denial_causes state p.grant)
  admits_or_fails goal p = all_or_failing (Passes key state moment goal p) (passes_or key state moment goal p) (denial_causes state p.grant)

  met_by : (need : Need) (found : HasItem procaps need.place) → Admits key state moment (wanted_goal caller need) found.item ⊎ HasFailing (Passes key state moment (wanted_goal caller need) found.item) (denial_causes state found.item.grant)
      → OrNot (IsNeedMet key state caller procaps moment need)
  met_by need found (inl admits) = inl (record { procap = found.item; brought = found.numbered; admits = admits })
  met_by need found (inr lacking) =
      inr (λ met. let same : met.procap ≡ found.item = numbered_item procaps need.place met.procap found.item met.brought found.numbered in
      none_fails (Passes key state moment (wanted_goal caller need) found.item) (denial_causes state found.item.grant) lacking.place lacking.item (subst (Admits key state moment (wanted_goal caller need)) same met.admits) lacking.first)

  met_at : (need : Need) → HasItem procaps need.place ⊎ ((p : Procap) → IsNumbered procaps need.place p → ⊥) → OrNot (IsNeedMet key state caller procaps moment need)
  met_at need (inl found) = met_by need found (admits_or_fails (wanted_goal caller need) found.item)
  met_at need (inr none) = inr (λ met. none met.procap met.brought)

  met_or : (need : Need) → OrNot (IsNeedMet key state caller procaps moment need)
  met_or need = met_at need (item_or_none procaps need.place)

-- ---- the places of needs are those of the procaps

abbrev IsWithin : ℕ → Need → Type 0
IsWithin most need = (1 ≤ need.place) × (need.place ≤ most)

child_within : (place most : ℕ) → 1 ≤ place → place ≤ most → (child : Option ℕ) → AllByRecursion (IsWithin most) (child_need place child)
child_within place most some few None = tt
child_within place most some few (Some child) = ((some, few), tt)

needs_within : (world : World) (op : Op) → AllByRecursion (IsWithin (slots op)) (needs world op)
needs_within world (Read file offset len) = ((omega arith, omega arith), tt)
needs_within world (Write file offset bytes) = ((omega arith, omega arith), tt)
needs_within world (Truncate file len) = ((omega arith, omega arith), tt)
needs_within world (ListOf directory) = ((omega arith, omega arith), tt)
needs_within world (Lookup directory name) = ((omega arith, omega arith), tt)
needs_within world (Create directory name) = ((omega arith, omega arith), tt)
needs_within world (Mkdir directory name) = ((omega arith, omega arith), tt)
needs_within world (Unlink directory name) = ((omega arith, omega arith), child_within 2 2 (omega arith) (omega arith) (child_of (tree_of world).rows directory.0 name))
needs_within world (Rename directory name target renamed) =
    ((omega arith, omega arith), ((omega arith, omega arith), child_within 3 3 (omega arith) (omega arith) (child_of (tree_of world).rows directory.0 name)))
needs_within world (Getattr node name) = ((omega arith, omega arith), tt)
needs_within world (Setattr node name value) = ((omega arith, omega arith), tt)
needs_within world (Delattr node name) = ((omega arith, omega arith), tt)
needs_within world (Chown node owner) = ((omega arith, omega arith), tt)

-- ---- answers

-- some reply is the answer, with some event or none
pub record HasAnswer (authority : Authority) (state : BaseView) (pass : ℕ) (clock : ℤ) (request : StepRequest) : Type 0 where
  pub reply : StepReply
  pub event : Option Event
  pub answers : Answers authority state pass clock request reply event

module _ (authority : Authority) (state : BaseView) (pass : ℕ) (clock : ℤ) where
  module _ (statement : StatementView) (signature : List ℕ) (formed : IsStatement statement) (signed : IsSignedStatement authority statement signature) where
    new_answer : (Contains (sayings state.statements) statement → ⊥) → (length state.statements < 4096) ⊎ (4096 ≤ length state.statements) → HasAnswer authority state pass clock (Register statement signature)
    new_answer new (inl room) = record { reply = _; event = _; answers = registered statement signature (record { statement = formed; signed = signed; can = record { new = new; room = omega (arith, room, said_length state.statements) } }) }
    new_answer new (inr full) = record { reply = _; event = _; answers = registry_full statement signature signed new full }

    signed_answer : OrNot (Contains (sayings state.statements) statement) → HasAnswer authority state pass clock (Register statement signature)
    signed_answer (inl known) =
        let there = number_of (sayings state.statements) statement known in record { reply = _; event = _; answers = duplicate statement signature there.number signed there.numbered }
    signed_answer (inr new) = new_answer new (few_or_full (length state.statements))

  register_answer : (statement : StatementView) (signature : List ℕ) → IsStatement statement → OrNot (IsSignedStatement authority statement signature) → HasAnswer authority state pass clock (Register statement signature)
  register_answer statement signature formed (inl signed) = signed_answer statement signature formed signed (contains_or (same_coded statement_code) (sayings state.statements) statement)
  register_answer statement signature formed (inr not_signed) = record { reply = _; event = _; answers = unsigned statement signature not_signed }

  withdraw_signed : (number : ℕ) (signature : List ℕ) (statement : StatementView) → IsNumbered (book_of state) number (Some statement) → OrNot (IsSignedWithdrawal authority statement signature) → HasAnswer authority state pass clock (Withdraw number signature)
  withdraw_signed number signature statement live (inl signed) = record { reply = _; event = _; answers = withdrawn number signature (record { statement = statement; live = live; signed = signed }) }
  withdraw_signed number signature statement live (inr not_signed) = record { reply = _; event = _; answers = unsigned_withdrawal number signature statement live not_signed }

  withdraw_answer : (number : ℕ) (signature : List ℕ) → OrNot (IsHeld (book_of state) number) → HasAnswer authority state pass clock (Withdraw number signature)
  withdraw_answer number signature (inl held) = withdraw_signed number signature held.0 held.1 (true_or_not _)
  withdraw_answer number signature (inr none) = record { reply = _; event = _; answers = not_live number signature none }

  same_as : (cite : Cite) (held : IsHeld (book_of state) cite.number) → OrNot (held.0 ≡ cite.statement) → OrNot (StandsUnderNumber (book_of state) cite)
  same_as cite held (inl same) = inl (subst (λ (s : StatementView). IsNumbered (book_of state) cite.number (Some s)) same held.1)
  same_as cite held (inr other) = inr (λ stands. other (one_held (book_of state) cite.number held.0 cite.statement held.1 stands))

  stands_at : (cite : Cite) → OrNot (IsHeld (book_of state) cite.number) → OrNot (StandsUnderNumber (book_of state) cite)
  stands_at cite (inl held) = same_as cite held (same_coded statement_code held.0 cite.statement)
  stands_at cite (inr none) = inr (λ stands. none (cite.statement, stands))

  stands_or : (cite : Cite) → OrNot (StandsUnderNumber (book_of state) cite)
  stands_or cite = stands_at cite (held_or_not (book_of state) cite.number)

  issue_answer : (checked : CheckedView) → IsWellFormed (IssueOf checked) → AllByRecursion (StandsUnderNumber (book_of state)) checked.cited ⊎ HasFailing (StandsUnderNumber (book_of state)) checked.cited
      → HasAnswer authority state pass clock (IssueOf checked)
  issue_answer checked formed (inl stand) = record { reply = _; event = _; answers = issued checked formed.0 formed.1 stand }
  issue_answer checked formed (inr lacking) =
      record { reply = _; event = _; answers = moved checked lacking.item.number (record { place = lacking.place; cite = lacking.item; first = lacking.first; number_is = refl }) }

  admitted_answer : (caller : List ℕ) (op : Op) (procaps : List Procap) → IsAdmitted authority.key state caller op procaps (moment_of state clock) → (why : Option Refusal) → refusal state.world op ≡ why
      → HasAnswer authority state pass clock (Act caller op procaps)
  admitted_answer caller op procaps admitted None is = record { reply = _; event = _; answers = acted caller op procaps admitted is }
  admitted_answer caller op procaps admitted (Some why) is = record { reply = _; event = _; answers = refused caller op procaps why admitted is }

  module _ (caller : List ℕ) (op : Op) (procaps : List Procap) (lacking : HasFailing (IsNeedMet authority.key state caller procaps (moment_of state clock)) (needs state.world op)) where
    denied_answer : (found : HasItem procaps lacking.item.place) → Admits authority.key state (moment_of state clock) (wanted_goal caller lacking.item) found.item
        ⊎ HasFailing (Passes authority.key state (moment_of state clock) (wanted_goal caller lacking.item) found.item) (denial_causes state found.item.grant) → HasAnswer authority state pass clock (Act caller op procaps)
    denied_answer found (inl admits) = absurd (lacking.first.fails (record { procap = found.item; brought = found.numbered; admits = admits }))
    denied_answer found (inr failing) =
        record {
          reply = _;
          event = _;
          answers = denied caller op procaps lacking.item.place failing.item
              (record { index = lacking.place; need = lacking.item; first = lacking.first; place_is = refl; procap = found.item; brought = found.numbered; denies = record { place = failing.place; first = failing.first } });
        }

  act_answer : (caller : List ℕ) (op : Op) (procaps : List Procap) → IsWellFormed (Act caller op procaps)
      → IsAdmitted authority.key state caller op procaps (moment_of state clock) ⊎ HasFailing (IsNeedMet authority.key state caller procaps (moment_of state clock)) (needs state.world op)
      → HasAnswer authority state pass clock (Act caller op procaps)
  act_answer caller op procaps formed (inl admitted) = admitted_answer caller op procaps admitted (refusal state.world op) refl
  act_answer caller op procaps formed (inr lacking) =
      let within : IsWithin (slots op) lacking.item = AllByRecursion-contains (IsWithin (slots op)) (needs state.world op) lacking.item (needs_within state.world op) (Contains-failing _ _ lacking.place lacking.item lacking.first) in
      let found : HasItem procaps lacking.item.place = item_of_number procaps lacking.item.place within.0 (omega (arith, within.1, formed.brought.slots)) in
      denied_answer caller op procaps lacking found (admits_or_fails authority.key state caller procaps (moment_of state clock) (wanted_goal caller lacking.item) found.item)

  may_see_or : (who : Option (List ℕ)) (g : GrantView) → OrNot (MaySee who g)
  may_see_or None g = inl tt
  may_see_or (Some who) g = same_bytes g.goal.who who

  seen_answer : (number : ℕ) (who : Option (List ℕ)) (found : HasItem state.issues number) → OrNot (MaySee who found.item.grant) → HasAnswer authority state pass clock (ShowProcap number who)
  seen_answer number who found (inl seen) = record { reply = _; event = _; answers = shown number who found.item (record { issued = found.numbered; seen = seen }) }
  seen_answer number who found (inr hidden) =
      record {
        reply = _;
        event = _;
        answers = not_shown number who (λ issue there. hidden (subst (λ (i : Issue). MaySee who i.grant) (numbered_item state.issues number issue found.item there.issued found.numbered) there.seen));
      }

  show_answer : (number : ℕ) (who : Option (List ℕ)) → HasItem state.issues number ⊎ ((issue : Issue) → IsNumbered state.issues number issue → ⊥) → HasAnswer authority state pass clock (ShowProcap number who)
  show_answer number who (inl found) = seen_answer number who found (may_see_or who found.item.grant)
  show_answer number who (inr none) = record { reply = _; event = _; answers = not_shown number who (λ issue there. none issue there.issued) }

  some_answer : (request : StepRequest) → IsWellFormed request → HasAnswer authority state pass clock request
  some_answer (Register statement signature) formed = register_answer statement signature formed (true_or_not _)
  some_answer (Withdraw number signature) formed = withdraw_answer number signature (held_or_not (book_of state) number)
  some_answer (IssueOf checked) formed = issue_answer checked formed (all_or_failing (StandsUnderNumber (book_of state)) stands_or checked.cited)
  some_answer (Act caller op procaps) formed =
      act_answer caller op procaps formed
      (all_or_failing (IsNeedMet authority.key state caller procaps (moment_of state clock)) (met_or authority.key state caller procaps (moment_of state clock)) (needs state.world op))
  some_answer (ShowProcap number who) formed = show_answer number who (item_or_none state.issues number)

-- each well-formed request has an answer, over whichever state
pub has_answer : (authority : Authority) (state : BaseView) (pass : ℕ) (clock : ℤ) (request : StepRequest) → IsWellFormed request
    → (reply : StepReply) × (event : Option Event) × Answers authority state pass clock request reply event
has_answer authority state pass clock request formed = let some = some_answer authority state pass clock request formed in (some.reply, some.event, some.answers)
