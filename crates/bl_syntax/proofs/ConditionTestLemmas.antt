-- Each test of a grant's conditions decides what its definition says.
use Rattle.std.proofs.Common.{◌≡◌, ◌⊎◌, inl, inr, ℤ, pos, negsuc, ◌≤ℤ◌, Bool, true, false, ◌&&◌, ◌||◌, List, [], ◌∷◌, refl, ap, sym, subst, ⊎_elim, rules}
use Rattle.std.specs.Bool.{Decides}
use Rattle.std.specs.List.{list_all, AllByRecursion}
use Rattle.std.proofs.lemmas.Bool.{false≢true}
use Rattle.std.proofs.lemmas.Int.{ints}
use borrow.Author.Tests.{tests}
use Rattle.bl_syntax.specs.declared.terms.Term.{Term}
use Rattle.bl_syntax.specs.declared.terms.Term.TheVariants.{Prin, File, Perm, Time, Text, Ctime, Param, Bound}
use Rattle.bl_syntax.specs.declared.terms.TimePoint.{TimePoint}
use Rattle.bl_syntax.specs.declared.terms.TimePoint.TheVariants.{NegInf, At, PosInf}
use Rattle.bl_syntax.specs.declared.terms.Constraint.{Constraint}
use Rattle.bl_syntax.specs.declared.terms.StatePred.{StatePred}
use Rattle.bl_syntax.specs.TimeOrder.{IsUpTo, IsInRange}
use Rattle.bl_syntax.specs.Terms.{IsConstant, HasTimeInRange}
use Rattle.bl_syntax.specs.WellSorted.{terms_of_state}
use Rattle.bl_syntax.specs.Grant.{IsCtimeOrConstant, IsTimeCondition, IsStateCondition}
use Rattle.bl_syntax.specs.ConditionTests.{is_at_most, is_up_to, is_in_range, is_constant_in_range, is_ctime, is_time_condition, is_state_condition}

pub both_true : (x y : Bool) → (x && y) ≡ true → (x ≡ true) × (y ≡ true)
both_true true true e = (refl, refl)
both_true true false e = absurd (false≢true e)
both_true false y e = absurd (false≢true e)

pub either_true : (x y : Bool) → (x || y) ≡ true → (x ≡ true) ⊎ (y ≡ true)
either_true true y e = inl refl
either_true false y e = inr e

pub Decides-is_at_most : (x y : ℤ) → Decides (is_at_most x y) (x ≤ℤ y)
Decides-is_at_most x y = search (tests, rules, ints)

pub Decides-is_up_to : (u v : TimePoint) → Decides (is_up_to u v) (IsUpTo u v)
Decides-is_up_to NegInf v = (λ e. tt, λ h. refl)
Decides-is_up_to (At t) NegInf = (λ e. absurd (false≢true e), λ h. absurd h)
Decides-is_up_to (At t) (At u) = Decides-is_at_most t u
Decides-is_up_to (At t) PosInf = (λ e. tt, λ h. refl)
Decides-is_up_to PosInf NegInf = (λ e. absurd (false≢true e), λ h. absurd h)
Decides-is_up_to PosInf (At u) = (λ e. absurd (false≢true e), λ h. absurd h)
Decides-is_up_to PosInf PosInf = (λ e. tt, λ h. refl)

in_range : (point : TimePoint) → is_in_range point ≡ true → IsInRange point
in_range NegInf e = tt
in_range (At second) e =
    let parts = both_true _ _ e in
    record { not_before = (Decides-is_at_most _ second).0 parts.0; not_after = (Decides-is_at_most second _).0 parts.1 }
in_range PosInf e = tt

pub constant_in_range : (t : Term) → is_constant_in_range t ≡ true → IsConstant t × HasTimeInRange t
constant_in_range (Prin name) e = (tt, tt)
constant_in_range (File number) e = (tt, tt)
constant_in_range (Perm permission) e = (tt, tt)
constant_in_range (Time point) e = (tt, in_range point e)
constant_in_range (Text constant) e = (tt, tt)
constant_in_range Ctime e = absurd (false≢true e)
constant_in_range (Param n) e = absurd (false≢true e)
constant_in_range (Bound n) e = absurd (false≢true e)

the_current_time : (t : Term) → is_ctime t ≡ true → t ≡ Ctime
the_current_time Ctime e = refl
the_current_time _ e = absurd (false≢true e)

ctime_or_constant : (t : Term) → (is_ctime t || is_constant_in_range t) ≡ true → IsCtimeOrConstant t × HasTimeInRange t
ctime_or_constant t e = ⊎_elim
    (λ (ctime : is_ctime t ≡ true). let same = the_current_time t ctime in (inl same, subst HasTimeInRange (sym same) tt))
    (λ (constant : is_constant_in_range t ≡ true). let found = constant_in_range t constant in (inr found.0, found.1))
    (either_true (is_ctime t) (is_constant_in_range t) e)

pub IsTimeCondition-from_test : (c : Constraint) → is_time_condition c ≡ true → IsTimeCondition c
IsTimeCondition-from_test c e =
    let parts = both_true (is_ctime c.low || is_ctime c.high) _ e in
    let sides = both_true (is_ctime c.low || is_constant_in_range c.low) (is_ctime c.high || is_constant_in_range c.high) parts.1 in
    let low = ctime_or_constant c.low sides.0 in
    let high = ctime_or_constant c.high sides.1 in
    record {
      low = low.0;
      high = high.0;
      of_ctime = ⊎_elim (λ h. inl (the_current_time c.low h)) (λ h. inr (the_current_time c.high h)) (either_true (is_ctime c.low) (is_ctime c.high) parts.0);
      low_in_range = low.1;
      high_in_range = high.1;
    }

constants_in_range : (terms : List Term) → list_all is_constant_in_range terms ≡ true → AllByRecursion IsConstant terms × AllByRecursion HasTimeInRange terms
constants_in_range [] e = (tt, tt)
constants_in_range (t ∷ terms) e =
    let parts = both_true (is_constant_in_range t) (list_all is_constant_in_range terms) e in
    let here = constant_in_range t parts.0 in
    let rest = constants_in_range terms parts.1 in
    ((here.0, rest.0), (here.1, rest.1))

pub IsStateCondition-from_test : (s : StatePred) → is_state_condition s ≡ true → IsStateCondition s
IsStateCondition-from_test s e =
    let found = constants_in_range (terms_of_state s) e in
    record { constants = found.0; times_in_range = found.1 }

both : (x y : Bool) → x ≡ true → y ≡ true → (x && y) ≡ true
both true y first second = second
both false y first second = absurd (false≢true first)

first_of_two : (x y : Bool) → x ≡ true → (x || y) ≡ true
first_of_two true y first = refl
first_of_two false y first = absurd (false≢true first)

second_of_two : (x y : Bool) → y ≡ true → (x || y) ≡ true
second_of_two true y second = refl
second_of_two false y second = second

pub Decides-is_in_range : (point : TimePoint) → Decides (is_in_range point) (IsInRange point)
Decides-is_in_range NegInf = (λ e. tt, λ h. refl)
Decides-is_in_range (At second) = (
  λ e. let parts = both_true _ _ e in
      record { not_before = (Decides-is_at_most (negsuc 62135596799) second).0 parts.0; not_after = (Decides-is_at_most second (pos 253402300799)).0 parts.1 },
  λ h. both _ _ ((Decides-is_at_most (negsuc 62135596799) second).1 h.not_before) ((Decides-is_at_most second (pos 253402300799)).1 h.not_after),
)
Decides-is_in_range PosInf = (λ e. tt, λ h. refl)

constant_told : (t : Term) → IsConstant t → HasTimeInRange t → is_constant_in_range t ≡ true
constant_told (Prin name) constant in_range = refl
constant_told (File number) constant in_range = refl
constant_told (Perm permission) constant in_range = refl
constant_told (Time point) constant in_range = (Decides-is_in_range point).1 in_range
constant_told (Text text) constant in_range = refl
constant_told Ctime constant in_range = absurd constant
constant_told (Param n) constant in_range = absurd constant
constant_told (Bound n) constant in_range = absurd constant

ctime_told : (t : Term) → t ≡ Ctime → is_ctime t ≡ true
ctime_told t e = ap (λ (u : Term). is_ctime u) e

side_told : (t : Term) → IsCtimeOrConstant t → HasTimeInRange t → (is_ctime t || is_constant_in_range t) ≡ true
side_told t side in_range = ⊎_elim
    (λ (ctime : t ≡ Ctime). first_of_two (is_ctime t) (is_constant_in_range t) (ctime_told t ctime))
    (λ (constant : IsConstant t). second_of_two (is_ctime t) (is_constant_in_range t) (constant_told t constant in_range))
    side

pub Decides-time_condition : (c : Constraint) → Decides (is_time_condition c) (IsTimeCondition c)
Decides-time_condition c = (
  IsTimeCondition-from_test c,
  λ h.
      both (is_ctime c.low || is_ctime c.high) ((is_ctime c.low || is_constant_in_range c.low) && (is_ctime c.high || is_constant_in_range c.high))
      (⊎_elim
      (λ (low : c.low ≡ Ctime). first_of_two (is_ctime c.low) (is_ctime c.high) (ctime_told c.low low))
      (λ (high : c.high ≡ Ctime). second_of_two (is_ctime c.low) (is_ctime c.high) (ctime_told c.high high))
      h.of_ctime)
      (both (is_ctime c.low || is_constant_in_range c.low) (is_ctime c.high || is_constant_in_range c.high) (side_told c.low h.low h.low_in_range) (side_told c.high h.high h.high_in_range)),
)

constants_told : (terms : List Term) → AllByRecursion IsConstant terms → AllByRecursion HasTimeInRange terms → list_all is_constant_in_range terms ≡ true
constants_told [] constants in_range = refl
constants_told (t ∷ terms) constants in_range =
    both (is_constant_in_range t) (list_all is_constant_in_range terms) (constant_told t constants.0 in_range.0) (constants_told terms constants.1 in_range.1)

pub Decides-state_condition : (s : StatePred) → Decides (is_state_condition s) (IsStateCondition s)
Decides-state_condition s = (IsStateCondition-from_test s, λ h. constants_told (terms_of_state s) h.constants h.times_in_range)
