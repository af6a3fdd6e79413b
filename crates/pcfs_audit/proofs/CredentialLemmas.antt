-- The credentials of events, over the state before each.
use Rattle.std.proofs.Common.{◌≡◌, ◌<◌, ◌≤◌, ◌+◌, ◌-◌, ℕ, List, [], ◌∷◌, ◌++◌, length, take, get_or, map, refl, sym, ap, subst, ◌∙◌, arith, Bool, true, false, cond, suc, Option, Some, None, is_some, ⊎_elim}
use Rattle.std.specs.Prelude.{Contains, IsTrue, ℤ, find, ◌↔◌, ◌&&◌}
use Rattle.std.specs.List.{AllByRecursion, slice_get}
use Rattle.std.specs.Option.{option_map_or}
use Rattle.std.specs.Borrow.{Bor}
use Rattle.std.proofs.lemmas.Bool.{false≢true}
use Rattle.std.proofs.lemmas.List.{get_or-map, get_or-take, length-map, length-take, take_all, take_more}
use Rattle.bl_syntax.specs.Grant.{GrantView}
use Rattle.bl_syntax.specs.Statement.{StatementView}
use Rattle.bl_syntax.proofs.GrantLemmas.{AllByRecursion-push}
use Rattle.policy_statement.specs.Messages.{statement_message, withdraw_message}
use Rattle.policy_statement.specs.Registered.{RegisteredView}
use Rattle.policy_statement.specs.Withdrawal.{is_withdrawn}
use Rattle.procap.specs.Genuine.{IsGenuine}
use Rattle.procap.specs.declared.procap.Procap.{Procap}
use Rattle.proof_term.specs.Proof.{ProofView}
use Rattle.file_world.specs.declared.operation.Op.{Op}
use Rattle.access_history.specs.declared.event.Issue.{Issue}
use Rattle.journal_records.specs.declared.event.Event.{Event}
use Rattle.journal_records.specs.declared.event.Event.TheVariants.{Registered, Withdrawn, Issued, Acted}
use Rattle.access_history.specs.Authority.{Authority}
use Rattle.policy_statement.specs.Registry.{CanRegister, sayings}
use Rattle.access_history.specs.Base.{BaseView}
use Rattle.access_history.specs.Books.{book_of, live_book}
use Rattle.access_history.specs.Citing.{IsGoodIssue, IsHeld, MayBeIssued, MayBeWithdrawn}
use Rattle.access_history.specs.Numbered.{IsNumbered}
use Rattle.access_history.specs.Lawful.{WasIssued}
use Rattle.access_history.proofs.CitingLemmas.{IsNumbered-whole, MayBeIssued-good, have_numbers, live_entry, live_said, stand_if_none, stands_if}
use Rattle.access_history.proofs.ListLemmas.{AllByRecursion-parts, AllByRecursion-weaker, IsImage-from_map}
use Rattle.access_history.proofs.NumberedLemmas.{HasNumber-item, no_zero, numbered_in, numbered_item}
use Rattle.pcfs_audit.specs.declared.credentials.Credentials.{Credentials}
use Rattle.pcfs_audit.specs.Ends.{CouldBeWithdrawn, first_end, is_ended, is_past}
use Rattle.pcfs_audit.specs.Credentials.{HasCredentials, HasCredentialsAt, IsOfIssues}
use Rattle.pcfs_audit.specs.Papers.{grants_in, shown}
use Rattle.pcfs_audit.specs.Report.{authority_by}
use Rattle.pcfs_audit.proofs.CitesLemmas.{is_false}
use Rattle.pcfs_audit.proofs.EndsLemmas.{first_end_tells}
use Rattle.pcfs_audit.proofs.FirstsLemmas.{slice_get_push}
use Rattle.pcfs_audit.proofs.ReferenceLemmas.{length-shown, shown_read}

-- ---- statements

-- the credentials of a statement
pub registered_credentials : (key : List ℕ) (accepts : List ℕ → List ℕ → List ℕ → Bool) (state : BaseView) (pass : ℕ) (statement : StatementView) (signature : List ℕ) (said : List StatementView) (credentials : Credentials) →
    sayings state.statements ≡ said → (IsTrue credentials.genuine ↔ (IsTrue (accepts statement.who (statement_message statement) signature) × CanRegister said statement)) → IsTrue credentials.issued →
    HasCredentials (authority_by key accepts) state (Registered pass statement signature) credentials
registered_credentials key accepts state pass statement signature said credentials is genuine issued = record {
  genuine = (
    λ yes. let both = genuine.0 yes in (both.0, subst (λ (ss : List StatementView). CanRegister ss statement) (sym is) both.1),
    λ both. genuine.1 (both.0, subst (λ (ss : List StatementView). CanRegister ss statement) is both.1),
  );
  issued = (λ yes. tt, λ none. issued);
}

-- ---- statements that stand

-- a statement that stands was not withdrawn
not_withdrawn : (entries : List RegisteredView) (number : ℕ) (s : StatementView) → IsNumbered (live_book entries) number (Some s) → is_withdrawn entries number ≡ false
not_withdrawn entries number s numbered =
    let live = live_entry entries number s numbered in
    let at : number ≡ suc live.numbered.place = omega (arith, live.numbered.from_one) in
    ap (is_withdrawn entries) at ∙ (ap (λ (found : Option RegisteredView). option_map_or (λ (entry : RegisteredView). entry.withdrawn) found false) live.numbered.found ∙ live.stands)

module _ (state : BaseView) (ends : List (Option ℕ)) (place : ℕ) (ended_are : (number : ℕ) → is_withdrawn state.statements number ≡ is_ended ends number place) where
  withdrawn_told : (accepts : List ℕ → List ℕ → List ℕ → Bool) (key : List ℕ) (number : ℕ) (signature : List ℕ) → CouldBeWithdrawn accepts (sayings state.statements) ends place number signature → MayBeWithdrawn (authority_by key accepts) (book_of state) number signature
  withdrawn_told accepts key number signature could = record {
    statement = could.statement;
    live = stands_if state.statements number could.statement (IsNumbered-whole (sayings state.statements) number could.statement could.registered) (ended_are number ∙ could.stands);
    signed = could.signed;
  }

  told_withdrawn : (accepts : List ℕ → List ℕ → List ℕ → Bool) (key : List ℕ) (number : ℕ) (signature : List ℕ) → MayBeWithdrawn (authority_by key accepts) (book_of state) number signature → CouldBeWithdrawn accepts (sayings state.statements) ends place number signature
  told_withdrawn accepts key number signature may = record {
    statement = may.statement;
    registered = live_said state.statements number may.statement may.live;
    stands = sym (ended_are number) ∙ not_withdrawn state.statements number may.statement may.live;
    signed = may.signed;
  }

  none_found : (numbers : List ℕ) → AllByRecursion (IsHeld (book_of state)) numbers → find (λ (number : ℕ). is_ended ends number place) numbers ≡ None
  none_found [] held = refl
  none_found (number ∷ numbers) held =
      let stands : is_ended ends number place ≡ false = sym (ended_are number) ∙ not_withdrawn state.statements number held.0.0 held.0.1 in
      ap (λ (b : Bool). cond b (Some number) (find (λ (n : ℕ). is_ended ends n place) numbers)) stands ∙ none_found numbers held.1

  find_withdrawn : (numbers : List ℕ) → find (is_withdrawn state.statements) numbers ≡ find (λ (number : ℕ). is_ended ends number place) numbers
  find_withdrawn [] = refl
  find_withdrawn (number ∷ numbers) =
      ap (λ (b : Bool). cond b (Some number) (find (is_withdrawn state.statements) numbers)) (ended_are number)
      ∙ ap (λ (found : Option ℕ). cond (is_ended ends number place) (Some number) found) (find_withdrawn numbers)

  none_of_false : (found : Option ℕ) → is_some found ≡ false → found ≡ None
  none_of_false None is = refl
  none_of_false (Some number) is = absurd (false≢true (sym is))

  -- an issue that cites a withdrawn statement may not come
  pub issued_past : (issue : Issue) → is_past (first_end ends issue.cited) place ≡ true → MayBeIssued state issue → ⊥
  issued_past issue past may =
      let none : is_past (first_end ends issue.cited) place ≡ false = first_end_tells ends issue.cited place ∙ ap is_some (none_found issue.cited may.held) in
      false≢true (sym none ∙ past)

  cited_held : (issue : Issue) → is_past (first_end ends issue.cited) place ≡ false → IsGoodIssue (sayings state.statements) issue → AllByRecursion (IsHeld (book_of state)) issue.cited
  cited_held issue stands good =
      let none : find (is_withdrawn state.statements) issue.cited ≡ None = find_withdrawn issue.cited ∙ none_of_false (find (λ (n : ℕ). is_ended ends n place) issue.cited) (sym (first_end_tells ends issue.cited place) ∙ stands) in
      let live = stand_if_none state.statements good.cites good.stand (subst (λ (ns : List ℕ). find (is_withdrawn state.statements) ns ≡ None) good.cited none) in
      subst (AllByRecursion (IsHeld (book_of state))) (sym good.cited) (have_numbers (book_of state) good.cites live)

  -- an issue that cites none may come if it is good
  pub issued_standing : (issue : Issue) (test : Bool) → is_past (first_end ends issue.cited) place ≡ false → (IsTrue test ↔ IsGoodIssue (sayings state.statements) issue) → IsTrue test ↔ MayBeIssued state issue
  issued_standing issue test stands decides =
      (λ yes. let good = decides.0 yes in MayBeIssued-good state issue good (cited_held issue stands good), λ may. decides.1 may.good)

  -- the credentials of a withdrawal
  pub withdrawn_credentials : (key : List ℕ) (accepts : List ℕ → List ℕ → List ℕ → Bool) (pass number : ℕ) (signature : List ℕ) (said : List StatementView) (credentials : Credentials) → sayings state.statements ≡ said →
      (IsTrue credentials.genuine ↔ CouldBeWithdrawn accepts said ends place number signature) → IsTrue credentials.issued → HasCredentials (authority_by key accepts) state (Withdrawn pass number signature) credentials
  withdrawn_credentials key accepts pass number signature said credentials is genuine issued = record {
    genuine = (
      λ yes. withdrawn_told accepts key number signature (subst (λ (ss : List StatementView). CouldBeWithdrawn accepts ss ends place number signature) (sym is) (genuine.0 yes)),
      λ may. genuine.1 (subst (λ (ss : List StatementView). CouldBeWithdrawn accepts ss ends place number signature) is (told_withdrawn accepts key number signature may)),
    );
    issued = (λ yes. tt, λ none. issued);
  }

-- ---- withdrawals that could be, and that could not

-- a statement that is read by its number
pub numbered_front : (references : List (Bor StatementView)) (earlier number : ℕ) (reference : Bor StatementView) → (number ≡ 0 → ⊥) → number ≤ earlier → earlier ≤ length references → reference ≡ get_or references (number - 1) reference →
    IsNumbered (take earlier (shown references)) number reference.now
numbered_front references earlier number reference some le within read =
    let said : List StatementView = take earlier (shown references) in
    let at : number - 1 < length references = omega (arith, some, le, within) in
    let low : number - 1 < earlier = omega (arith, some, le) in
    let count : number ≤ length said = omega (arith, le, within, length-take earlier (shown references), length-shown references) in
    numbered_in said said number reference.now refl some count (shown_read references (number - 1) reference at read ∙ sym (get_or-take earlier (shown references) (number - 1) reference.now low))

-- no statement has the number 0
pub no_withdrawal_zero : (accepts : List ℕ → List ℕ → List ℕ → Bool) (said : List StatementView) (ends : List (Option ℕ)) (place number : ℕ) (signature : List ℕ) → number ≡ 0 → IsTrue false ↔ CouldBeWithdrawn accepts said ends place number signature
no_withdrawal_zero accepts said ends place number signature zero = is_false (λ could. no_zero said number zero (HasNumber-item said number could.statement could.registered))

pub no_withdrawal_beyond : (accepts : List ℕ → List ℕ → List ℕ → Bool) (said : List StatementView) (ends : List (Option ℕ)) (place number : ℕ) (signature : List ℕ) → length said < number → IsTrue false ↔ CouldBeWithdrawn accepts said ends place number signature
no_withdrawal_beyond accepts said ends place number signature beyond =
    is_false (λ could. let has = HasNumber-item said number could.statement could.registered in omega (arith, beyond, has.1))

pub no_withdrawal_ended : (accepts : List ℕ → List ℕ → List ℕ → Bool) (said : List StatementView) (ends : List (Option ℕ)) (place number : ℕ) (signature : List ℕ) → is_ended ends number place ≡ true → IsTrue false ↔ CouldBeWithdrawn accepts said ends place number signature
no_withdrawal_ended accepts said ends place number signature ended = is_false (λ could. false≢true (sym could.stands ∙ ended))

-- the statement of the number decides it by the signature
pub withdrawal_by_signature : (accepts : List ℕ → List ℕ → List ℕ → Bool) (said : List StatementView) (ends : List (Option ℕ)) (place number : ℕ) (signature : List ℕ) (statement : StatementView) (accepted : Bool) → IsNumbered said number statement →
    is_ended ends number place ≡ false → accepted ≡ accepts statement.who (withdraw_message statement) signature → IsTrue accepted ↔ CouldBeWithdrawn accepts said ends place number signature
withdrawal_by_signature accepts said ends place number signature statement accepted numbered stands is = (
  λ yes. record { statement = statement; registered = numbered; stands = stands; signed = sym is ∙ yes },
  λ could.
      let same : could.statement ≡ statement = numbered_item said number could.statement statement could.registered numbered in
      is ∙ subst (λ (s : StatementView). IsTrue (accepts s.who (withdraw_message s) signature)) same could.signed,
)

-- ---- issues

-- the credentials of an issue
pub issued_credentials : (key : List ℕ) (accepts : List ℕ → List ℕ → List ℕ → Bool) (state : BaseView) (pass : ℕ) (cited : List ℕ) (proof : ProofView) (g : GrantView) (credentials : Credentials) →
    (IsTrue credentials.genuine ↔ MayBeIssued state (record { cited = cited; proof = proof; grant = g })) → IsTrue credentials.issued → HasCredentials (authority_by key accepts) state (Issued pass cited proof g) credentials
issued_credentials key accepts state pass cited proof g credentials genuine issued = record { genuine = genuine; issued = (λ yes. tt, λ none. issued) }

-- ---- operations

Contains-map : {A B : Type 0} (f : A → B) (xs : List A) (x : A) → Contains xs x → Contains (map f xs) (f x)
Contains-map {A} {B} f xs x here =
    (here.0, omega (arith, here.1, length-map xs f), get_or-map f xs here.0 x (f x) here.1 ∙ ap f here.2)

was_among : (issues : List Issue) (g : GrantView) → WasIssued issues g → Contains (grants_in issues) g
was_among issues g was = subst (Contains (grants_in issues)) was.grant_is (Contains-map (λ (i : Issue). i.grant) issues was.issue was.among)

among_was : (issues : List Issue) (g : GrantView) → Contains (grants_in issues) g → WasIssued issues g
among_was issues g here =
    let image = IsImage-from_map (λ (i : Issue). i.grant) issues g here in
    record { issue = image.item; among = image.contained; grant_is = image.same }

pub acted_credentials : (key : List ℕ) (accepts : List ℕ → List ℕ → List ℕ → Bool) (state : BaseView) (pass : ℕ) (caller : List ℕ) (op : Op) (procaps : List Procap) (moment : ℤ) (granted : List GrantView) (credentials : Credentials) →
    grants_in state.issues ≡ granted → (IsTrue credentials.genuine ↔ AllByRecursion (IsGenuine key) procaps) → (IsTrue credentials.issued ↔ AllByRecursion (IsOfIssues granted) procaps) →
    HasCredentials (authority_by key accepts) state (Acted pass caller op procaps moment) credentials
acted_credentials key accepts state pass caller op procaps moment granted credentials is genuine issued =
    let issued_in : IsTrue credentials.issued ↔ AllByRecursion (IsOfIssues (grants_in state.issues)) procaps =
    subst (λ (gs : List GrantView). IsTrue credentials.issued ↔ AllByRecursion (IsOfIssues gs) procaps) (sym is) issued in
    record {
      genuine = genuine;
      issued = (
        λ yes. AllByRecursion-weaker (IsOfIssues (grants_in state.issues)) (λ (p : Procap). WasIssued state.issues p.grant) procaps (λ p here. among_was state.issues p.grant here) (issued_in.0 yes),
        λ were. issued_in.1 (AllByRecursion-weaker (λ (p : Procap). WasIssued state.issues p.grant) (IsOfIssues (grants_in state.issues)) procaps (λ p was. was_among state.issues p.grant was) were),
      );
    }

-- ---- procaps, one after the other

-- both tests hold
pub both_true : (a b both : Bool) → both ≡ (a && b) → IsTrue both ↔ (IsTrue a × IsTrue b)
both_true true true both is = (λ yes. (refl, refl), λ all. is)
both_true true false both is = (λ yes. absurd (false≢true (sym is ∙ yes)), λ all. absurd (false≢true all.1))
both_true false b both is = (λ yes. absurd (false≢true (sym is ∙ yes)), λ all. absurd (false≢true all.0))

-- one item more has the property
pub all_more : {A : Type 0} (P : A → Type 0) (items : List A) (place : ℕ) (item : A) (so_far here both : Bool) → place < length items → item ≡ get_or items place item → (IsTrue so_far ↔ AllByRecursion P (take place items)) → (IsTrue here ↔ P item) →
    both ≡ (so_far && here) → IsTrue both ↔ AllByRecursion P (take (place + 1) items)
all_more {A} P items place item so_far here both within read before at is =
    let more : take (place + 1) items ≡ take place items ++ item ∷ [] = take_more items place item within ∙ ap (λ (x : A). take place items ++ x ∷ []) (sym read) in
    let decides = both_true so_far here both is in (
      λ yes.
          let parts = decides.0 yes in
          subst (AllByRecursion P) (sym more) (AllByRecursion-push P (take place items) item (before.0 parts.0) (at.0 parts.1)),
      λ all.
          let parts = AllByRecursion-parts P (take place items) (item ∷ []) (subst (AllByRecursion P) more all) in
          decides.1 (before.1 parts.0, at.1 parts.1.0),
    )

-- all items have it
pub all_all : {A : Type 0} (P : A → Type 0) (items : List A) (place : ℕ) (test : Bool) → length items ≤ place → (IsTrue test ↔ AllByRecursion P (take place items)) → IsTrue test ↔ AllByRecursion P items
all_all {A} P items place test all decides = subst (λ (xs : List A). IsTrue test ↔ AllByRecursion P xs) (take_all place items all) decides

-- ---- credentials, one after the other

-- those of one event more
pub each_more : (authority : Authority) (base : BaseView) (events : List Event) (all new : List Credentials) (place : ℕ) (credentials : Credentials) → length all ≡ place → new ≡ all ++ credentials ∷ [] →
    ((at : ℕ) (one : Credentials) → slice_get all at ≡ Some one → HasCredentialsAt authority base events at one) → HasCredentialsAt authority base events place credentials →
    (at : ℕ) (one : Credentials) → slice_get new at ≡ Some one → HasCredentialsAt authority base events at one
each_more authority base events all new place credentials counted is before here at one found =
    ⊎_elim (λ front. before at one front)
    (λ back. subst (λ (n : ℕ). HasCredentialsAt authority base events n one) (sym (back.0 ∙ counted)) (subst (HasCredentialsAt authority base events place) back.1 here))
    (slice_get_push all credentials at one (subst (λ (xs : List Credentials). slice_get xs at ≡ Some one) is found))
