-- The first test that a procap does not pass, over plain values.
use Rattle.std.proofs.Common.{◌≡◌, ◌<◌, ◌+◌, ℕ, List, [], ◌∷◌, ◌++◌, length, get_or, refl, ap, subst, sym, ◌∙◌, arith, append_assoc, Option, Some, None}
use Rattle.std.specs.Prelude.{ℤ, Contains}
use Rattle.std.proofs.lemmas.Option.{none-some}
use Rattle.std.specs.Prelude.{Bool, true, false, IsTrue, ◌↔◌}
use Rattle.std.specs.List.{AllByRecursion}
use Rattle.std.proofs.lemmas.List.{length-append}
use Rattle.bl_syntax.specs.declared.terms.NodeId.{NodeId}
use Rattle.bl_syntax.specs.declared.terms.Perm.{Perm}
use Rattle.bl_syntax.specs.declared.terms.Term.TheVariants as terms
use Rattle.bl_syntax.specs.declared.terms.Constraint.{Constraint}
use Rattle.bl_syntax.specs.declared.terms.StatePred.{StatePred}
use Rattle.bl_syntax.specs.declared.grant.Goal.{Goal}
use Rattle.bl_syntax.specs.FirstFailing.{IsFirstFailing}
use Rattle.bl_syntax.specs.Grant.{HoldsAt}
use Rattle.procap.specs.Genuine.{IsGenuine}
use Rattle.procap.specs.declared.procap.Procap.{Procap}
use Rattle.file_world.specs.Facts.{facts}
use Rattle.access_history.specs.declared.reply.DenialCause.{DenialCause}
use Rattle.access_history.specs.declared.reply.DenialCause.TheVariants as causes
use Rattle.access_history.specs.Base.{BaseView}
use Rattle.access_history.specs.Gone.{gone}
use Rattle.access_history.specs.Admission.{Admits, Denies, Passes, causes_from, condition_causes, withdrawal_causes}
use Rattle.op_gate.specs.Checks.{FailsAt, name_checks}

-- what holds of two lists holds of them joined
pub all_joined : {A : Type 0} (P : A → Type 0) (xs ys : List A) → AllByRecursion P xs → AllByRecursion P ys → AllByRecursion P (xs ++ ys)
all_joined P [] ys all others = others
all_joined P (x ∷ xs) ys all others = (all.0, all_joined P xs ys all.1 others)

-- the first of a list is the first also if others follow
pub FailsAt-front : {A : Type 0} (P : A → Type 0) (xs ys : List A) (x : A) → FailsAt P xs x → FailsAt P (xs ++ ys) x
FailsAt-front {A} P xs ys x (place, f) = (
  place,
  record {
    before = f.before;
    behind = f.behind ++ ys;
    parts = ap (λ (zs : List A). zs ++ ys) f.parts ∙ append_assoc f.before (x ∷ f.behind) ys;
    place_is = f.place_is;
    holds_before = f.holds_before;
    fails = f.fails;
  },
)

-- and the first after some that have the property
pub FailsAt-behind : {A : Type 0} (P : A → Type 0) (xs ys : List A) (y : A) → AllByRecursion P xs → FailsAt P ys y → FailsAt P (xs ++ ys) y
FailsAt-behind {A} P xs ys y all (place, f) = (
  length xs + place,
  record {
    before = xs ++ f.before;
    behind = f.behind;
    parts = ap (λ (zs : List A). xs ++ zs) f.parts ∙ sym (append_assoc xs f.before (y ∷ f.behind));
    place_is = ap (λ (n : ℕ). length xs + n) f.place_is ∙ sym (length-append xs f.before);
    holds_before = all_joined P xs f.before all f.holds_before;
    fails = f.fails;
  },
)

-- the first of all
pub FailsAt-head : {A : Type 0} (P : A → Type 0) (x : A) (xs : List A) → (P x → ⊥) → FailsAt P (x ∷ xs) x
FailsAt-head P x xs fails = (0, record { before = []; behind = xs; parts = refl; place_is = refl; holds_before = tt; fails = fails })

-- the causes of joined conditions
causes-joined : {A : Type 0} (cause : ℕ → A → DenialCause) (from : ℕ) (before behind : List A) (c : A) →
    causes_from cause from (before ++ c ∷ behind) ≡ causes_from cause from before ++ cause (length before + from) c ∷ causes_from cause (length before + from + 1) behind
causes-joined {A} cause from [] behind c =
    let at : from ≡ 0 + from = omega arith in
    ap (λ (n : ℕ). cause n c ∷ causes_from cause (n + 1) behind) at
causes-joined {A} cause from (first ∷ before) behind c =
    let at : length before + (from + 1) ≡ length (first ∷ before) + from = omega arith in
    ap (λ (rest : List DenialCause). cause from first ∷ rest)
    (causes-joined cause (from + 1) before behind c ∙ ap (λ (n : ℕ). causes_from cause (from + 1) before ++ cause n c ∷ causes_from cause (n + 1) behind) at)

-- what holds of conditions holds under their causes
pub all_causes : {A : Type 0} (P : DenialCause → Type 0) (Q : A → Type 0) (cause : ℕ → A → DenialCause) (from : ℕ) (items : List A) → ((n : ℕ) (c : A) → Q c → P (cause n c)) → AllByRecursion Q items → AllByRecursion P (causes_from cause from items)
all_causes P Q cause from [] under all = tt
all_causes P Q cause from (c ∷ items) under all = (under from c all.0, all_causes P Q cause (from + 1) items under all.1)

-- the first condition that fails is the first test that fails
pub FailsAt-cause : {A : Type 0} (P : DenialCause → Type 0) (Q : A → Type 0) (cause : ℕ → A → DenialCause) (from : ℕ) (items : List A) (place : ℕ) (c : A) → ((n : ℕ) (x : A) → Q x → P (cause n x)) → ((n : ℕ) (x : A) → P (cause n x) → Q x) →
    IsFirstFailing Q items place c → FailsAt P (causes_from cause from items) (cause (place + from) c)
FailsAt-cause {A} P Q cause from items place c under over f = (
  length (causes_from cause from f.before),
  record {
    before = causes_from cause from f.before;
    behind = causes_from cause (length f.before + from + 1) f.behind;
    parts = ap (causes_from cause from) f.parts ∙ causes-joined cause from f.before f.behind c
        ∙ ap (λ (n : ℕ). causes_from cause from f.before ++ cause (n + from) c ∷ causes_from cause (length f.before + from + 1) f.behind) (sym f.place_is);
    place_is = refl;
    holds_before = all_causes P Q cause from f.before under f.holds_before;
    fails = λ holds. f.fails (over (place + from) c holds);
  },
)

-- its seal is not right
pub denied_seal : (key : List ℕ) (state : BaseView) (moment : ℤ) (wanted : Goal) (p : Procap) → (IsGenuine key p → ⊥) → Denies key state moment wanted p causes.Seal
denied_seal key state moment wanted p other =
    let first = FailsAt-head (Passes key state moment wanted p) causes.Seal (name_checks ++ (condition_causes p.grant ++ withdrawal_causes (gone state p.grant))) other in
    record { place = first.0; first = first.1 }

-- its seal is right, and it does not have the names
pub denied_name : (key : List ℕ) (state : BaseView) (moment : ℤ) (wanted : Goal) (p : Procap) (cause : DenialCause) → IsGenuine key p → FailsAt (Passes key state moment wanted p) name_checks cause → Denies key state moment wanted p cause
denied_name key state moment wanted p cause sealed fails =
    let P = Passes key state moment wanted p in
    let rest = condition_causes p.grant ++ withdrawal_causes (gone state p.grant) in
    let first = FailsAt-behind P (causes.Seal ∷ []) (name_checks ++ rest) cause (sealed, tt) (FailsAt-front P name_checks rest cause fails) in
    record { place = first.0; first = first.1 }

-- it has the names, and a condition fails
pub denied_condition : (key : List ℕ) (state : BaseView) (moment : ℤ) (wanted : Goal) (p : Procap) (cause : DenialCause) → IsGenuine key p → AllByRecursion (Passes key state moment wanted p) name_checks →
    FailsAt (Passes key state moment wanted p) (condition_causes p.grant) cause → Denies key state moment wanted p cause
denied_condition key state moment wanted p cause sealed names fails =
    let P = Passes key state moment wanted p in
    let last = withdrawal_causes (gone state p.grant) in
    let rest = condition_causes p.grant ++ last in
    let first = FailsAt-behind P (causes.Seal ∷ []) (name_checks ++ rest) cause (sealed, tt) (FailsAt-behind P name_checks rest cause names (FailsAt-front P (condition_causes p.grant) last cause fails)) in
    record { place = first.0; first = first.1 }

gone_fails : (key : List ℕ) (state : BaseView) (moment : ℤ) (wanted : Goal) (p : Procap) (number : ℕ) → gone state p.grant ≡ Some number → FailsAt (Passes key state moment wanted p) (withdrawal_causes (gone state p.grant)) (causes.Withdrawn number)
gone_fails key state moment wanted p number is =
    let P = Passes key state moment wanted p in
    subst (λ (found : Option ℕ). FailsAt P (withdrawal_causes found) (causes.Withdrawn number)) (sym is) (FailsAt-head P (causes.Withdrawn number) [] (λ none. none-some number (sym none ∙ is)))

-- its conditions hold, and its grant is gone
pub denied_withdrawn : (key : List ℕ) (state : BaseView) (moment : ℤ) (wanted : Goal) (p : Procap) (number : ℕ) → IsGenuine key p → AllByRecursion (Passes key state moment wanted p) name_checks → AllByRecursion (Passes key state moment wanted p) (condition_causes p.grant) →
    gone state p.grant ≡ Some number → Denies key state moment wanted p (causes.Withdrawn number)
denied_withdrawn key state moment wanted p number sealed names conditions is =
    let P = Passes key state moment wanted p in
    let last = withdrawal_causes (gone state p.grant) in
    let rest = condition_causes p.grant ++ last in
    let cause = causes.Withdrawn number in
    let first = FailsAt-behind P (causes.Seal ∷ []) (name_checks ++ rest) cause (sealed, tt) (FailsAt-behind P name_checks rest cause names (FailsAt-behind P (condition_causes p.grant) last cause conditions (gone_fails key state moment wanted p number is))) in
    record { place = first.0; first = first.1 }

none_gone : (key : List ℕ) (state : BaseView) (moment : ℤ) (wanted : Goal) (p : Procap) → gone state p.grant ≡ None → AllByRecursion (Passes key state moment wanted p) (withdrawal_causes (gone state p.grant))
none_gone key state moment wanted p is = subst (λ (found : Option ℕ). AllByRecursion (Passes key state moment wanted p) (withdrawal_causes found)) (sym is) tt

-- it passes all
pub admitted_all : (key : List ℕ) (state : BaseView) (moment : ℤ) (wanted : Goal) (p : Procap) → IsGenuine key p → AllByRecursion (Passes key state moment wanted p) name_checks → AllByRecursion (Passes key state moment wanted p) (condition_causes p.grant) →
    gone state p.grant ≡ None → Admits key state moment wanted p
admitted_all key state moment wanted p sealed names conditions is =
    let P = Passes key state moment wanted p in
    let last = withdrawal_causes (gone state p.grant) in
    (sealed, all_joined P name_checks (condition_causes p.grant ++ last) names (all_joined P (condition_causes p.grant) last conditions (none_gone key state moment wanted p is)))

-- ---- the names, by the grant's goal

pub names_principal : (key : List ℕ) (state : BaseView) (moment : ℤ) (wanted goal : Goal) (p : Procap) → goal ≡ p.grant.goal → (goal.who ≡ wanted.who → ⊥) → FailsAt (Passes key state moment wanted p) name_checks causes.Principal
names_principal key state moment wanted goal p same other =
    FailsAt-head (Passes key state moment wanted p) causes.Principal (causes.File ∷ causes.Permission ∷ []) (λ e. other (ap (λ (x : Goal). x.who) same ∙ e))

pub names_file : (key : List ℕ) (state : BaseView) (moment : ℤ) (wanted goal : Goal) (p : Procap) → goal ≡ p.grant.goal → goal.who ≡ wanted.who → (goal.file ≡ wanted.file → ⊥) → FailsAt (Passes key state moment wanted p) name_checks causes.File
names_file key state moment wanted goal p same who other =
    let P = Passes key state moment wanted p in
    FailsAt-behind P (causes.Principal ∷ []) (causes.File ∷ causes.Permission ∷ []) causes.File (sym (ap (λ (x : Goal). x.who) same) ∙ who, tt)
    (FailsAt-head P causes.File (causes.Permission ∷ []) (λ e. other (ap (λ (x : Goal). x.file) same ∙ e)))

pub names_permission : (key : List ℕ) (state : BaseView) (moment : ℤ) (wanted goal : Goal) (p : Procap) → goal ≡ p.grant.goal → goal.who ≡ wanted.who → goal.file ≡ wanted.file → (goal.perm ≡ wanted.perm → ⊥) →
    FailsAt (Passes key state moment wanted p) name_checks causes.Permission
names_permission key state moment wanted goal p same who file other =
    let P = Passes key state moment wanted p in
    FailsAt-behind P (causes.Principal ∷ causes.File ∷ []) (causes.Permission ∷ []) causes.Permission (sym (ap (λ (x : Goal). x.who) same) ∙ who, (sym (ap (λ (x : Goal). x.file) same) ∙ file, tt))
    (FailsAt-head P causes.Permission [] (λ e. other (ap (λ (x : Goal). x.perm) same ∙ e)))

pub names_all : (key : List ℕ) (state : BaseView) (moment : ℤ) (wanted goal : Goal) (p : Procap) → goal ≡ p.grant.goal → goal.who ≡ wanted.who → goal.file ≡ wanted.file → goal.perm ≡ wanted.perm → AllByRecursion (Passes key state moment wanted p) name_checks
names_all key state moment wanted goal p same who file perm =
    (sym (ap (λ (x : Goal). x.who) same) ∙ who, (sym (ap (λ (x : Goal). x.file) same) ∙ file, (sym (ap (λ (x : Goal). x.perm) same) ∙ perm, tt)))

-- ---- the conditions

pub condition_time : (key : List ℕ) (state : BaseView) (moment : ℤ) (wanted : Goal) (p : Procap) (place : ℕ) (c : Constraint) → IsFirstFailing (HoldsAt moment) p.grant.times place c →
    FailsAt (Passes key state moment wanted p) (condition_causes p.grant) (causes.Time (place + 1) c)
condition_time key state moment wanted p place c first =
    let P = Passes key state moment wanted p in
    FailsAt-front P (causes_from causes.Time 1 p.grant.times) (causes_from causes.State 1 p.grant.states) (causes.Time (place + 1) c)
    (FailsAt-cause P (HoldsAt moment) causes.Time 1 p.grant.times place c (λ n x h. h) (λ n x h. h) first)

pub condition_state : (key : List ℕ) (state : BaseView) (moment : ℤ) (wanted : Goal) (p : Procap) (place : ℕ) (s : StatePred) → AllByRecursion (HoldsAt moment) p.grant.times → IsFirstFailing (Contains (facts state.world)) p.grant.states place s →
    FailsAt (Passes key state moment wanted p) (condition_causes p.grant) (causes.State (place + 1) s)
condition_state key state moment wanted p place s times first =
    let P = Passes key state moment wanted p in
    FailsAt-behind P (causes_from causes.Time 1 p.grant.times) (causes_from causes.State 1 p.grant.states) (causes.State (place + 1) s)
    (all_causes P (HoldsAt moment) causes.Time 1 p.grant.times (λ n x h. h) times)
    (FailsAt-cause P (Contains (facts state.world)) causes.State 1 p.grant.states place s (λ n x h. h) (λ n x h. h) first)

pub conditions_hold : (key : List ℕ) (state : BaseView) (moment : ℤ) (wanted : Goal) (p : Procap) → AllByRecursion (HoldsAt moment) p.grant.times → AllByRecursion (Contains (facts state.world)) p.grant.states →
    AllByRecursion (Passes key state moment wanted p) (condition_causes p.grant)
conditions_hold key state moment wanted p times states =
    let P = Passes key state moment wanted p in
    all_joined P (causes_from causes.Time 1 p.grant.times) (causes_from causes.State 1 p.grant.states)
    (all_causes P (HoldsAt moment) causes.Time 1 p.grant.times (λ n x h. h) times)
    (all_causes P (Contains (facts state.world)) causes.State 1 p.grant.states (λ n x h. h) states)

-- ---- what calls tell

-- the place of the first failing item is within the list
pub place_within : {A : Type 0} (P : A → Type 0) (items : List A) (place : ℕ) (item : A) → IsFirstFailing P items place item → place < length items
place_within P items place item f = omega (arith, f.place_is, ap length f.parts, length-append f.before (item ∷ f.behind))

-- the item at the place where a list is split
at_seam : {A : Type 0} (front behind : List A) (x d : A) → get_or (front ++ x ∷ behind) (length front) d ≡ x
at_seam [] behind x d = refl
at_seam (y ∷ front) behind x d = at_seam front behind x d

-- the item that is read at the place of the first failing one is that
pub failing_read : {A : Type 0} (P : A → Type 0) (items : List A) (place : ℕ) (item found : A) → IsFirstFailing P items place item → found ≡ get_or items place found → IsFirstFailing P items place found
failing_read {A} P items place item found f read =
    let same : item ≡ found = sym (read ∙ ap (λ (xs : List A). get_or xs place found) f.parts ∙ ap (λ (n : ℕ). get_or (f.before ++ item ∷ f.behind) n found) f.place_is ∙ at_seam f.before f.behind item found) in
    subst (λ (x : A). IsFirstFailing P items place x) same f

-- a test that came out true, or false
pub is_so : (P : Type 0) (b : Bool) → (IsTrue b ↔ P) → b ≡ true → P
is_so P true decides e = decides.0 refl
is_so P false decides e = absurd cc

pub is_not_so : (P : Type 0) (b : Bool) → (IsTrue b ↔ P) → b ≡ false → P → ⊥
is_not_so P true decides e p = absurd cc
is_not_so P false decides e p = let yes : false ≡ true = decides.1 p in absurd cc

pub file_same : (a b : NodeId) → terms.File a ≡ terms.File b → a ≡ b
file_same a b e = cc

pub perm_same : (a b : Perm) → terms.Perm a ≡ terms.Perm b → a ≡ b
perm_same a b e = cc
