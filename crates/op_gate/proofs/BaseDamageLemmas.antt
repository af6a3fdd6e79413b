-- The damage of a state with which a history is to begin, over plain values.
use Rattle.std.proofs.Common.{◌≡◌, ◌<◌, ◌+◌, ℕ, List, [], ◌∷◌, ◌++◌, length, take, drop, get_or, refl, sym, ap, subst, ◌∙◌, arith, ⊎_elim}
use Rattle.std.specs.Prelude.{◌↔◌, Bool, IsTrue, Contains, Result, Ok, Err}
use Rattle.std.specs.List.{AllByRecursion}
use Rattle.std.proofs.lemmas.List.{length-append, map-append, take-append-drop, take_more, drop_more}
use Rattle.std.proofs.lemmas.List.Elements.{Contains-append_right}
use Rattle.bl_syntax.specs.Grant.{AreDistinct}
use Rattle.bl_syntax.specs.Statement.{StatementView, IsStatement}
use Rattle.bl_syntax.proofs.GrantLemmas.{AllByRecursion-push, AreDistinct-push, Contains-head}
use Rattle.policy_statement.specs.Messages.{statement_message}
use Rattle.policy_statement.specs.Registered.{RegisteredView}
use Rattle.policy_statement.specs.Registry.{MayRegister, CanRegister, sayings}
use Rattle.policy_statement.specs.Ring.{KeyView, is_accepted}
use Rattle.policy_statement.specs.declared.registry.RegisterFault.{RegisterFault}
use Rattle.policy_statement.specs.declared.registry.RegisterFault.TheVariants as registry
use Rattle.file_world.specs.World.{IsWorld}
use Rattle.access_history.specs.declared.event.Issue.{Issue}
use Rattle.access_history.specs.Authority.{Authority, IsSignedEntry}
use Rattle.access_history.specs.Base.{BaseView}
use Rattle.access_history.specs.Books.{whole_book}
use Rattle.access_history.specs.Citing.{AreFound, IsGoodIssue, IsGrantedFrom}
use Rattle.access_history.specs.History.{authority_with}
use Rattle.access_history.specs.Lawful.{IsLawfulBase}
use Rattle.access_history.proofs.CitingLemmas.{said_length, sayings-push}
use Rattle.access_history.proofs.ListLemmas.{AllByRecursion-contains, Contains-cons_cases}
use Rattle.access_history.proofs.NumberedLemmas.{Contains-numbered, none_fails, first_failing}
use Rattle.bl_syntax.specs.Citable.{AreCitable}
use Rattle.proof_verifier.specs.declared.cites.Cite.{Cite}
use Rattle.op_gate.specs.declared.damage.Damage.{Damage}
use Rattle.op_gate.specs.declared.damage.Damage.TheVariants.{Shape, Unsigned, Unproved, Duplicate}
use Rattle.op_gate.specs.declared.damage.AdmitFault.{AdmitFault}
use Rattle.op_gate.specs.declared.damage.AdmitFault.TheVariants.{Damaged, NoMemory}
use Rattle.op_gate.specs.Admits.{FindsCited, GivesChecked, register_damage}
use Rattle.op_gate.specs.BaseDamage.{IsBaseShaped, AreNew, IsBaseFreeOf, IsDamagedBase, TellsBase, base_damages}
use Rattle.op_gate.specs.BaseTests.{IsSignedIn, IsFormed, TellsTest}
use Rattle.op_gate.specs.DamageLaws.{IsTypedBase}
use Rattle.op_gate.proofs.AdmitLemmas.{good_citable, good_cites, good_issue, good_granted}
use Rattle.op_gate.proofs.RegistryLemmas.{said_from_registry}
use Rattle.std.proofs.lemmas.Bool.{false≢true}
use Rattle.proof_term.specs.Proof.{ProofView}
use Rattle.proof_verifier.specs.CheckedView.{CheckedView}

-- ---- laws

-- a state has at most one first damage
pub one_base_damage : (authority : Authority) (base : BaseView) (first second : Damage) → IsDamagedBase authority base first → IsDamagedBase authority base second → first ≡ second
one_base_damage authority base first second one other = (first_failing (IsBaseFreeOf authority base) base_damages one.place other.place first second one.first other.first).1

all_free : (authority : Authority) (base : BaseView) → IsLawfulBase authority base → AllByRecursion (IsBaseFreeOf authority base) base_damages
all_free authority base lawful =
    (record { moment_in_range = lawful.moment_in_range; counted = lawful.counted }, (lawful.statements_signed, (lawful.good_issues, (record { differ = lawful.statements_differ; fit = lawful.statements_fit }, tt))))

free_lawful : (authority : Authority) (base : BaseView) → IsTypedBase base → AllByRecursion (IsBaseFreeOf authority base) base_damages → IsLawfulBase authority base
free_lawful authority base typed free =
    let shaped : IsBaseShaped base = free.0 in
    let new : AreNew base.statements = free.1.1.1.0 in
    record {
      tree = typed.0;
      statements_differ = new.differ;
      statements_formed = typed.1;
      statements_signed = free.1.0;
      statements_fit = new.fit;
      moment_in_range = shaped.moment_in_range;
      good_issues = free.1.1.0;
      counted = shaped.counted;
    }

-- a history may not begin with a state that has a damage
pub lawful_base_not_damaged : (authority : Authority) (base : BaseView) (damage : Damage) → IsDamagedBase authority base damage → IsLawfulBase authority base → ⊥
lawful_base_not_damaged authority base damage damaged lawful = none_fails (IsBaseFreeOf authority base) base_damages damaged.place damage (all_free authority base lawful) damaged.first

-- a history may begin with a state exactly if it has none
pub lawful_if_free : (authority : Authority) (base : BaseView) → IsTypedBase base → IsLawfulBase authority base ↔ AllByRecursion (IsBaseFreeOf authority base) base_damages
lawful_if_free authority base typed = (all_free authority base, free_lawful authority base typed)

-- ---- lists of which each item is tested

-- an item that was read is one of the list
pub item_of : {A : Type 0} (P : A → Type 0) (items : List A) (place : ℕ) (item : A) → place < length items → item ≡ get_or items place item → AllByRecursion P items → P item
item_of P items place item within is all = AllByRecursion-contains P items item all (place, within, sym is)

-- what was tested so far, and one more
pub All-more : {A : Type 0} (P : A → Type 0) (items : List A) (place : ℕ) (item : A) → place < length items → item ≡ get_or items place item → AllByRecursion P (take place items) → P item → AllByRecursion P (take (place + 1) items)
All-more {A} P items place item within is all here =
    subst (AllByRecursion P) (ap (λ (x : A). take place items ++ x ∷ []) is ∙ sym (take_more items place item within)) (AllByRecursion-push P (take place items) item all here)

-- a test that fails, since another one does
pub told_by : (P Q : Type 0) (name : Damage) (fault : AdmitFault) → (Q → P) → TellsTest P name (Err fault) → TellsTest Q name (Err fault)
told_by P Q name (Damaged damage) needs told = (told.0, λ q. told.1 (needs q))
told_by P Q name NoMemory needs told = tt

-- a test of each item fails, since that of one does
pub told_by_item : {A : Type 0} (P : A → Type 0) (name : Damage) (items : List A) (place : ℕ) (item : A) (fault : AdmitFault) → place < length items → item ≡ get_or items place item → TellsTest (P item) name (Err fault) → TellsTest (AllByRecursion P items) name (Err fault)
told_by_item P name items place item fault within is told = told_by (P item) (AllByRecursion P items) name fault (item_of P items place item within is) told

-- ---- statements that are new

-- one more statement, which is new among these
AreNew-push : (entries : List RegisteredView) (entry : RegisteredView) → AreNew entries → CanRegister (sayings entries) entry.statement → AreNew (entries ++ entry ∷ [])
AreNew-push entries entry are new = record {
  differ = subst (λ (ss : List StatementView). AreDistinct ss) (sym (sayings-push entries entry)) (AreDistinct-push (sayings entries) entry.statement are.differ new.new);
  fit = omega (arith, new.room, said_length entries, length-append entries (entry ∷ []));
}

-- the statements so far, and what the registry keeps of them
pub record AreKept (registered entries : List RegisteredView) : Type 0 where
  pub same : registered ≡ entries
  pub new : AreNew entries

pub AreKept-none : (entries registered : List RegisteredView) → registered ≡ [] → AreKept registered (take 0 entries)
AreKept-none entries registered none = record { same = none; new = record { differ = tt; fit = omega arith } }

pub AreKept-more : (registered after entries : List RegisteredView) (place : ℕ) (entry : RegisteredView) → place < length entries → entry ≡ get_or entries place entry → AreKept registered (take place entries) → CanRegister (sayings registered) entry.statement → after ≡ registered ++ entry ∷ [] →
    AreKept after (take (place + 1) entries)
AreKept-more registered after entries place entry within is kept new more =
    let next : take place entries ++ entry ∷ [] ≡ take (place + 1) entries = ap (λ (e : RegisteredView). take place entries ++ e ∷ []) is ∙ sym (take_more entries place entry within) in
    record {
      same = more ∙ ap (λ (es : List RegisteredView). es ++ entry ∷ []) kept.same ∙ next;
      new = subst AreNew next (AreNew-push (take place entries) entry kept.new (subst (λ (es : List RegisteredView). CanRegister (sayings es) entry.statement) kept.same new));
    }

distinct_among : {A : Type 0} (before : List A) (x : A) (behind : List A) → AreDistinct (before ++ x ∷ behind) → Contains before x → ⊥
distinct_among [] x behind distinct here = omega (arith, here.1)
distinct_among (y ∷ before) x behind distinct here =
    ⊎_elim (λ same. distinct.0 (Contains-append_right before (x ∷ behind) y (Contains-head y x behind (sym same)))) (λ inner. distinct_among before x behind distinct.1 inner) (Contains-cons_cases y before x here)

parts_at : (entries : List RegisteredView) (place : ℕ) (entry : RegisteredView) → place < length entries → entry ≡ get_or entries place entry → entries ≡ take place entries ++ entry ∷ drop (place + 1) entries
parts_at entries place entry within is =
    sym (take-append-drop place entries) ∙ ap (λ (es : List RegisteredView). take place entries ++ es) (drop_more entries place entry within) ∙ ap (λ (e : RegisteredView). take place entries ++ e ∷ drop (place + 1) entries) (sym is)

-- each of the statements, if they are new, is new among those before it
new_among : (before : List RegisteredView) (entry : RegisteredView) (behind : List RegisteredView) → AreNew (before ++ entry ∷ behind) → CanRegister (sayings before) entry.statement
new_among before entry behind are = record {
  new = distinct_among (sayings before) entry.statement (sayings behind) (subst (λ (ss : List StatementView). AreDistinct ss) (map-append (λ (e : RegisteredView). e.statement) before (entry ∷ behind)) are.differ);
  room = omega (arith, are.fit, said_length before, length-append before (entry ∷ behind));
}

-- a statement that is not new
pub told_by_entry : (registered entries : List RegisteredView) (place : ℕ) (entry : RegisteredView) (fault : AdmitFault) → place < length entries → entry ≡ get_or entries place entry → AreKept registered (take place entries) →
    TellsTest (CanRegister (sayings registered) entry.statement) Duplicate (Err fault) → TellsTest (AreNew entries) Duplicate (Err fault)
told_by_entry registered entries place entry fault within is kept told =
    told_by (CanRegister (sayings registered) entry.statement) (AreNew entries) Duplicate fault
    (λ are. subst (λ (es : List RegisteredView). CanRegister (sayings es) entry.statement) (sym kept.same) (new_among (take place entries) entry (drop (place + 1) entries) (subst AreNew (parts_at entries place entry within is) are))) told

-- what the registry tells of a statement whose signature is accepted: it is new
pub kept_new : (accepted : Bool) (entries : List RegisteredView) (statement shown : StatementView) (done : Unit {0}) → shown ≡ statement → MayRegister accepted entries shown (Ok done) → CanRegister (sayings entries) statement
kept_new accepted entries statement shown done shown_is may =
    subst (CanRegister (sayings entries)) shown_is may.1

not_taken : (accepted : Bool) (entries : List RegisteredView) (statement : StatementView) (fault : RegisterFault) → IsTrue accepted → MayRegister accepted entries statement (Err fault) → TellsTest (CanRegister (sayings entries) statement) Duplicate (Err (register_damage fault))
not_taken accepted entries statement registry.BadSignature signed may = absurd (false≢true (sym may ∙ signed))
not_taken accepted entries statement registry.RegistryFull signed may = (refl, λ can. omega (arith, can.room, may.1.1, said_length entries))
not_taken accepted entries statement (registry.Duplicate number) signed may = (refl, λ can. can.new (Contains-numbered (sayings entries) number statement (said_from_registry entries number statement may.1)))
not_taken accepted entries statement registry.NoMemory signed may = tt

-- or it is not
pub not_new : (ring : List KeyView) (entries : List RegisteredView) (entry : RegisteredView) (shown : StatementView) (signature : List ℕ) (fault : RegisterFault) → shown ≡ entry.statement → signature ≡ entry.signature → IsSignedIn ring entry →
    MayRegister (is_accepted ring shown.who (statement_message shown) signature) entries shown (Err fault) → TellsTest (CanRegister (sayings entries) entry.statement) Duplicate (Err (register_damage fault))
not_new ring entries entry shown signature fault shown_is signature_is signed may =
    not_taken (is_accepted ring entry.statement.who (statement_message entry.statement) entry.signature) entries entry.statement fault signed
    (subst (λ (s : StatementView). MayRegister (is_accepted ring s.who (statement_message s) entry.signature) entries s (Err fault)) shown_is
    (subst (λ (bytes : List ℕ). MayRegister (is_accepted ring shown.who (statement_message shown) bytes) entries shown (Err fault)) signature_is may))

-- ---- issues

found_of : (statements : List StatementView) (numbers cited : List ℕ) (cites : List Cite) → numbers ≡ cited → FindsCited (whole_book statements) numbers (Ok cites) → AreCitable cited × AreFound (whole_book statements) cited cites
found_of statements numbers cited cites numbers_are finds = subst (λ (ns : List ℕ). AreCitable ns × AreFound (whole_book statements) ns cites) numbers_are finds

-- an issue whose statements are found and whose proof is checked
pub issue_good : (statements : List StatementView) (issue : Issue) (numbers : List ℕ) (proof : ProofView) (cites : List Cite) (checked : CheckedView) → numbers ≡ issue.cited → proof ≡ issue.proof → FindsCited (whole_book statements) numbers (Ok cites) →
    GivesChecked cites proof issue.grant (Ok checked) → IsGoodIssue statements issue
issue_good statements issue numbers proof cites checked numbers_are proof_is finds gives =
    let found = found_of statements numbers issue.cited cites numbers_are finds in
    good_issue statements issue.cited issue.proof issue.grant cites found.0 found.1 (subst (λ (p : ProofView). IsGrantedFrom cites p issue.grant) proof_is gives.granted)

-- whose proof is refused
pub issue_unchecked : (statements : List StatementView) (issue : Issue) (numbers : List ℕ) (proof : ProofView) (cites : List Cite) (fault : AdmitFault) → numbers ≡ issue.cited → proof ≡ issue.proof → FindsCited (whole_book statements) numbers (Ok cites) →
    GivesChecked cites proof issue.grant (Err fault) → TellsTest (IsGoodIssue statements issue) Unproved (Err fault)
issue_unchecked statements issue numbers proof cites (Damaged damage) numbers_are proof_is finds gives =
    let found = found_of statements numbers issue.cited cites numbers_are finds in (
      gives.0,
      λ good. gives.1 (subst (λ (p : ProofView). IsGrantedFrom cites p issue.grant) (sym proof_is) (good_granted statements issue.cited issue.proof issue.grant cites found.1 good)),
    )
issue_unchecked statements issue numbers proof cites NoMemory numbers_are proof_is finds gives = tt

-- of which a statement is not found
pub issue_uncited : (statements : List StatementView) (issue : Issue) (numbers : List ℕ) (fault : AdmitFault) → numbers ≡ issue.cited → FindsCited (whole_book statements) numbers (Err fault) → TellsTest (IsGoodIssue statements issue) Unproved (Err fault)
issue_uncited statements issue numbers (Damaged damage) numbers_are finds = (
  finds.0,
  λ good. finds.1 good.cites (subst AreCitable (sym numbers_are) (good_citable statements issue.cited issue.proof issue.grant good))
      (subst (λ (ns : List ℕ). AreFound (whole_book statements) ns good.cites) (sym numbers_are) (good_cites statements issue.cited issue.proof issue.grant good)),
)
issue_uncited statements issue numbers NoMemory numbers_are finds = tt

-- ---- the first damage

first_after : (authority : Authority) (base : BaseView) (before : List Damage) (damage : Damage) (behind : List Damage) → base_damages ≡ before ++ damage ∷ behind → AllByRecursion (IsBaseFreeOf authority base) before →
    (IsBaseFreeOf authority base damage → ⊥) → IsDamagedBase authority base damage
first_after authority base before damage behind parts free fails =
    record { place = length before; first = record { before = before; behind = behind; parts = parts; place_is = refl; holds_before = free; fails = fails } }

-- the state has no shape
pub base_unshaped : (authority : Authority) (base : BaseView) → (IsBaseShaped base → ⊥) → IsDamagedBase authority base Shape
base_unshaped authority base fails = first_after authority base [] Shape (Unsigned ∷ Unproved ∷ Duplicate ∷ []) refl tt fails

-- the first test that fails names the damage
told_after : (authority : Authority) (base : BaseView) (before : List Damage) (name : Damage) (behind : List Damage) (fault : AdmitFault) → base_damages ≡ before ++ name ∷ behind → AllByRecursion (IsBaseFreeOf authority base) before →
    TellsTest (IsBaseFreeOf authority base name) name (Err fault) → TellsBase {A = Unit {0}} authority base (Err fault)
told_after authority base before name behind (Damaged damage) parts free told =
    subst (IsDamagedBase authority base) (sym told.0) (first_after authority base before name behind parts free told.1)
told_after authority base before name behind NoMemory parts free told = tt

formed_sayings : (entries : List RegisteredView) → AllByRecursion IsFormed entries → AllByRecursion IsStatement (sayings entries)
formed_sayings [] all = tt
formed_sayings (entry ∷ entries) all = (all.0, formed_sayings entries all.1)

-- the last test, after all others are passed
base_new : (authority : Authority) (base : BaseView) (result : Result (Unit {0}) AdmitFault) → IsTypedBase base → IsBaseShaped base → AllByRecursion (IsSignedEntry authority) base.statements → AllByRecursion (IsGoodIssue (sayings base.statements)) base.issues →
    TellsTest (AreNew base.statements) Duplicate result → TellsBase authority base result
base_new authority base (Ok done) typed shaped signed good told = free_lawful authority base typed (shaped, (signed, (good, (told, tt))))
base_new authority base (Err fault) typed shaped signed good told = told_after authority base (Shape ∷ Unsigned ∷ Unproved ∷ []) Duplicate [] fault refl (shaped, (signed, (good, tt))) told

module _ (key : List ℕ) (ring : List KeyView) (base : BaseView) (entries : List RegisteredView) (entries_are : entries ≡ base.statements) (shaped : IsBaseShaped base) where
  -- a signature is not accepted
  pub base_unsigned : (fault : AdmitFault) → TellsTest (AllByRecursion (IsSignedIn ring) entries) Unsigned (Err fault) → TellsBase {A = Unit {0}} (authority_with key ring) base (Err fault)
  base_unsigned fault told =
      told_after (authority_with key ring) base (Shape ∷ []) Unsigned (Unproved ∷ Duplicate ∷ []) fault refl (shaped, tt)
      (subst (λ (es : List RegisteredView). TellsTest (AllByRecursion (IsSignedIn ring) es) Unsigned (Err fault)) entries_are told)

  -- an issue is not good
  pub base_unproved : (issues : List Issue) (fault : AdmitFault) → issues ≡ base.issues → AllByRecursion (IsSignedIn ring) entries → TellsTest (AllByRecursion (IsGoodIssue (sayings entries)) issues) Unproved (Err fault) →
      TellsBase {A = Unit {0}} (authority_with key ring) base (Err fault)
  base_unproved issues fault issues_are signed told =
      told_after (authority_with key ring) base (Shape ∷ Unsigned ∷ []) Unproved (Duplicate ∷ []) fault refl (shaped, (subst (AllByRecursion (IsSignedIn ring)) entries_are signed, tt))
      (subst (λ (is : List Issue). TellsTest (AllByRecursion (IsGoodIssue (sayings base.statements)) is) Unproved (Err fault)) issues_are
      (subst (λ (es : List RegisteredView). TellsTest (AllByRecursion (IsGoodIssue (sayings es)) issues) Unproved (Err fault)) entries_are told))

  -- all of it but whether the statements are new
  pub base_told : (issues : List Issue) (result : Result (Unit {0}) AdmitFault) → issues ≡ base.issues → IsWorld base.world → AllByRecursion IsFormed entries → AllByRecursion (IsSignedIn ring) entries → AllByRecursion (IsGoodIssue (sayings entries)) issues →
      TellsTest (AreNew entries) Duplicate result → TellsBase (authority_with key ring) base result
  base_told issues result issues_are world formed signed good told =
      let free_signed : AllByRecursion (IsSignedIn ring) base.statements = subst (AllByRecursion (IsSignedIn ring)) entries_are signed in
      let free_good : AllByRecursion (IsGoodIssue (sayings base.statements)) base.issues =
      subst (AllByRecursion (IsGoodIssue (sayings base.statements))) issues_are (subst (λ (es : List RegisteredView). AllByRecursion (IsGoodIssue (sayings es)) issues) entries_are good) in
      let typed : IsTypedBase base = (world, formed_sayings base.statements (subst (AllByRecursion IsFormed) entries_are formed)) in
      base_new (authority_with key ring) base result typed shaped free_signed free_good (subst (λ (es : List RegisteredView). TellsTest (AreNew es) Duplicate result) entries_are told)
