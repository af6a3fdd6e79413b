-- The tests of conditions, and the rules of grants that they decide.
use Rattle.std.proofs.Common.{◌≡◌, zero, suc, ◌⊎◌, inl, inr, List, [], ◌∷◌, ◌++◌, Bool, true, false, refl, sym, subst, append_assoc, arith}
use Rattle.std.specs.Prelude.{Contains, not, ◌&&◌, ◌||◌}
use Rattle.std.specs.Bool.{Decides}
use Rattle.std.specs.List.{AllByRecursion, list_any}
use Rattle.std.proofs.lemmas.List.{append-nil}
use Rattle.bl_syntax.specs.declared.terms.Constraint.{Constraint}
use Rattle.bl_syntax.specs.declared.terms.StatePred.{StatePred}
use Rattle.bl_syntax.specs.Grant.{IsTimeCondition, IsStateCondition, AreDistinct}
use Rattle.bl_syntax.proofs.GrantLemmas.{AreDistinct-push, AllByRecursion-push}
use Rattle.bl_syntax.specs.Equality.{constraint_eq, state_eq}
use Rattle.bl_syntax.proofs.EqualityLemmas.{Decides-constraint_eq, Decides-state_eq}
use Rattle.procap.specs.GrantSpelling.{IsSpellableTime, IsSpellableState}
use Rattle.bl_syntax.specs.ConditionTests.{is_time_condition, is_state_condition}
use Rattle.bl_syntax.proofs.ConditionTestLemmas.{Decides-time_condition, Decides-state_condition}
use Rattle.procap.specs.GrantReading.{is_time_among, is_state_among, may_follow_times, may_follow_states}
use Rattle.procap.proofs.ItemsLemmas.{AllFollow}

-- one of two facts, and what follows from each
by_either : {P Q R : Type 0} → P ⊎ Q → (P → R) → (Q → R) → R
by_either (inl p) first second = first p
by_either (inr q) first second = second q

-- the head of a list, or one after it
contains_cons : {A : Type 0} (y : A) (ys : List A) (x : A) → Contains (y ∷ ys) x → (y ≡ x) ⊎ Contains ys x
contains_cons y ys x (zero, below, is) = inl is
contains_cons y ys x (suc k, below, is) = inr (k, omega (arith, below), is)

cons_contains : {A : Type 0} (y : A) (ys : List A) (x : A) → Contains ys x → Contains (y ∷ ys) x
cons_contains y ys x h = (suc h.0, omega (arith, h.1), h.2)

by_or : (a b : Bool) → (a || b) ≡ false → (a ≡ false) × (b ≡ false)
by_or true b e = absurd cc
by_or false b e = (refl, e)

not_among : {A : Type 0} (eq : A → A → Bool) → ((a b : A) → a ≡ b → eq a b ≡ true) → (xs : List A) (x : A) → list_any (λ known. eq known x) xs ≡ false → Contains xs x → ⊥
not_among eq same [] x e h = absurd (omega (arith, h.1))
not_among eq same (y ∷ ys) x e h =
    let parts = by_or (eq y x) (list_any (λ known. eq known x) ys) e in
    by_either (contains_cons y ys x h) (λ is. let yes = same y x is in let no = parts.0 in absurd cc) (λ later. not_among eq same ys x parts.1 later)

among_not : {A : Type 0} (eq : A → A → Bool) → ((a b : A) → (a ≡ b → ⊥) → eq a b ≡ false) → (xs : List A) (x : A) → (Contains xs x → ⊥) → list_any (λ known. eq known x) xs ≡ false
among_not eq differ [] x h = refl
among_not eq differ (y ∷ ys) x h = rw (differ y x (λ is. h (0, omega arith, is))) (among_not eq differ ys x (λ later. h (cons_contains y ys x later)))

at_middle : {A : Type 0} (before : List A) (x : A) (after : List A) → Contains (before ++ x ∷ after) x
at_middle [] x after = (0, omega arith, refl)
at_middle (z ∷ zs) x after = cons_contains z (zs ++ x ∷ after) x (at_middle zs x after)

-- no item of a list without doubles stands before itself
not_before : {A : Type 0} (before : List A) (x : A) (after : List A) → AreDistinct (before ++ x ∷ after) → Contains before x → ⊥
not_before [] x after distinct h = absurd (omega (arith, h.1))
not_before (y ∷ ys) x after distinct h = by_either (contains_cons y ys x h) (λ is. distinct.0 (subst (Contains (ys ++ x ∷ after)) (sym is) (at_middle ys x after))) (λ later. not_before ys x after distinct.1 later)

-- items that may follow one another are in their form, and none stands twice
pub follow_means : {A : Type 0} (may_follow : List A → A → Bool) (Fits Spelled : A → Type 0) → ((before : List A) (x : A) → Spelled x → may_follow before x ≡ true → Fits x × (Contains before x → ⊥))
    → (before items : List A) → AllByRecursion Spelled items → AreDistinct before → AllByRecursion Fits before → AllFollow may_follow before items → AreDistinct (before ++ items) × AllByRecursion Fits (before ++ items)
follow_means may_follow Fits Spelled test before [] spelled distinct fit follow = (subst AreDistinct (sym (append-nil before)) distinct, subst (AllByRecursion Fits) (sym (append-nil before)) fit)
follow_means {A} may_follow Fits Spelled test before (x ∷ xs) spelled distinct fit follow =
    let one = test before x spelled.0 follow.0 in
    let all = follow_means may_follow Fits Spelled test (before ++ x ∷ []) xs spelled.1 (AreDistinct-push before x distinct one.1) (AllByRecursion-push Fits before x fit one.0) follow.1 in
    subst (λ (whole : List A). AreDistinct whole × AllByRecursion Fits whole) (append_assoc before (x ∷ []) xs) all

-- items in their form of which none stands twice may follow one another
pub means_follow : {A : Type 0} (may_follow : List A → A → Bool) (Fits : A → Type 0) → ((before : List A) (x : A) → Fits x → (Contains before x → ⊥) → may_follow before x ≡ true)
    → (before items : List A) → AllByRecursion Fits items → AreDistinct (before ++ items) → AllFollow may_follow before items
means_follow may_follow Fits test before [] fit distinct = tt
means_follow may_follow Fits test before (x ∷ xs) fit distinct =
    (test before x fit.0 (not_before before x xs distinct), means_follow may_follow Fits test (before ++ x ∷ []) xs fit.1 (subst AreDistinct (sym (append_assoc before (x ∷ []) xs)) distinct))

false_from : (b : Bool) → (b ≡ true → ⊥) → b ≡ false
false_from true h = absurd (h refl)
false_from false h = refl

differs : {A : Type 0} (eq : A → A → Bool) → ((a b : A) → Decides (eq a b) (a ≡ b)) → (a b : A) → (a ≡ b → ⊥) → eq a b ≡ false
differs eq decides a b differ = false_from (eq a b) (λ yes. differ ((decides a b).0 yes))

by_not : (a b : Bool) → (a && not b) ≡ true → (a ≡ true) × (b ≡ false)
by_not true true e = absurd cc
by_not true false e = (refl, refl)
by_not false b e = absurd cc

and_not : (a b : Bool) → a ≡ true → b ≡ false → (a && not b) ≡ true
and_not a b x y = rw (x, y) refl

pub time_may_follow : (before : List Constraint) (c : Constraint) → IsSpellableTime c → may_follow_times before c ≡ true → IsTimeCondition c × (Contains before c → ⊥)
time_may_follow before c spelled e =
    let parts = by_not (is_time_condition c) (is_time_among before c) e in
    ((Decides-time_condition c).0 parts.0, not_among constraint_eq (λ a b is. (Decides-constraint_eq a b).1 is) before c parts.1)

pub may_follow_time : (before : List Constraint) (c : Constraint) → IsTimeCondition c → (Contains before c → ⊥) → may_follow_times before c ≡ true
may_follow_time before c fits new = and_not (is_time_condition c) (is_time_among before c) ((Decides-time_condition c).1 fits) (among_not constraint_eq (λ a b differ. differs constraint_eq Decides-constraint_eq a b differ) before c new)

pub state_may_follow : (before : List StatePred) (s : StatePred) → IsSpellableState s → may_follow_states before s ≡ true → IsStateCondition s × (Contains before s → ⊥)
state_may_follow before s spelled e =
    let parts = by_not (is_state_condition s) (is_state_among before s) e in
    ((Decides-state_condition s).0 parts.0, not_among state_eq (λ a b is. (Decides-state_eq a b).1 is) before s parts.1)

pub may_follow_state : (before : List StatePred) (s : StatePred) → IsStateCondition s → (Contains before s → ⊥) → may_follow_states before s ≡ true
may_follow_state before s fits new = and_not (is_state_condition s) (is_state_among before s) ((Decides-state_condition s).1 fits) (among_not state_eq (λ a b differ. differs state_eq Decides-state_eq a b differ) before s new)
