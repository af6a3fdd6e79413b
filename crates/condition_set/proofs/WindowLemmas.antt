-- Spans of time, from a first time to a last.
use Rattle.std.proofs.Common.{◌≡◌, ◌⊎◌, inl, inr, ◌+◌, ◌<◌, ℕ, ℤ, pos, negsuc, ◌≤ℤ◌, ◌<ℤ◌, List, [], ◌∷◌, ◌++◌, length, ◌≤◌, ◌∙◌, take, get_or, arith, sym, subst, ap}
use Rattle.std.specs.Prelude.{◌↔◌}
use Rattle.std.specs.List.{AllByRecursion}
use Rattle.std.proofs.lemmas.Int.{ints}
use Rattle.std.proofs.lemmas.List.{take_more}
use Rattle.std.proofs.Math.Seq.{take_all}
use Rattle.bl_syntax.proofs.GrantLemmas.{AllByRecursion-push}
use Rattle.bl_syntax.specs.declared.terms.TimePoint.{TimePoint}
use Rattle.bl_syntax.specs.declared.terms.TimePoint.TheVariants.{NegInf, At, PosInf}
use Rattle.bl_syntax.specs.declared.terms.Term.{Term}
use Rattle.bl_syntax.specs.declared.terms.Term.TheVariants.{Time, Ctime}
use Rattle.bl_syntax.specs.declared.terms.Constraint.{Constraint}
use Rattle.bl_syntax.specs.Terms.{AreInOrder, in_order, term_at}
use Rattle.bl_syntax.specs.TimeOrder.{IsUpTo, IsMoment, IsInRange}
use Rattle.bl_syntax.specs.Grant.{HoldsAt}
use Rattle.condition_set.specs.Window.{LiesBetween, MeetsConditions, IsWindow}

IsUpTo-trans : (u v w : TimePoint) → IsUpTo u v → IsUpTo v w → IsUpTo u w
IsUpTo-trans NegInf v w p q = tt
IsUpTo-trans (At a) NegInf w p q = absurd p
IsUpTo-trans (At a) (At b) NegInf p q = absurd q
IsUpTo-trans (At a) (At b) (At c) p q = omega (arith, ints, p, q)
IsUpTo-trans (At a) (At b) PosInf p q = tt
IsUpTo-trans (At a) PosInf NegInf p q = absurd q
IsUpTo-trans (At a) PosInf (At c) p q = absurd q
IsUpTo-trans (At a) PosInf PosInf p q = tt
IsUpTo-trans PosInf NegInf w p q = absurd p
IsUpTo-trans PosInf (At b) w p q = absurd p
IsUpTo-trans PosInf PosInf w p q = q

times_in_order : (u v : TimePoint) → AreInOrder (Time u) (Time v) → IsUpTo u v
times_in_order u v (in_order h) = h

-- between two times a condition is their order
holds_in_order : (c : Constraint) (s : ℤ) (u v : TimePoint) → term_at s c.low ≡ Time u → term_at s c.high ≡ Time v → HoldsAt s c ↔ IsUpTo u v
holds_in_order c s u v low high = (
  λ h. times_in_order u v (subst (λ (t : Term). AreInOrder (Time u) t) high (subst (λ (t : Term). AreInOrder t (term_at s c.high)) low h)),
  λ h. subst (λ (t : Term). AreInOrder t (term_at s c.high)) (sym low) (subst (λ (t : Term). AreInOrder (Time u) t) (sym high) (in_order h)),
)

-- the current time is always up to itself
pub ctime_to_ctime : (c : Constraint) → c.low ≡ Ctime → c.high ≡ Ctime → (s : ℤ) → HoldsAt s c ↔ LiesBetween NegInf PosInf s
ctime_to_ctime c low high s = (
  λ _. record { not_before = tt; not_after = tt },
  λ _. (holds_in_order c s (At s) (At s) (ap (term_at s) low) (ap (term_at s) high)).1 (omega (arith, ints)),
)

pub ctime_to_constant : (c : Constraint) (v : TimePoint) → c.low ≡ Ctime → c.high ≡ Time v → (s : ℤ) → HoldsAt s c ↔ LiesBetween NegInf v s
ctime_to_constant c v low high s =
    let order = holds_in_order c s (At s) v (ap (term_at s) low) (ap (term_at s) high) in
    (λ h. record { not_before = tt; not_after = order.0 h }, λ h. order.1 h.not_after)

pub constant_to_ctime : (c : Constraint) (u : TimePoint) → c.low ≡ Time u → c.high ≡ Ctime → (s : ℤ) → HoldsAt s c ↔ LiesBetween u PosInf s
constant_to_ctime c u low high s =
    let order = holds_in_order c s u (At s) (ap (term_at s) low) (ap (term_at s) high) in
    (λ h. record { not_before = order.0 h; not_after = tt }, λ h. order.1 h.not_before)

pub second_anywhere : (first last : TimePoint) → first ≡ NegInf → last ≡ PosInf → (s : ℤ) × LiesBetween first last s
second_anywhere first last low high = (
  pos 0,
  record {
    not_before = subst (λ (u : TimePoint). IsUpTo u (At (pos 0))) (sym low) tt;
    not_after = subst (λ (v : TimePoint). IsUpTo (At (pos 0)) v) (sym high) tt;
  },
)

-- some moment of the range lies between times of the range, where some second does
moment_between : (first last : TimePoint) → IsInRange first → IsInRange last → (s : ℤ) → LiesBetween first last s → (moment : ℤ) × IsMoment moment × LiesBetween first last moment
moment_between NegInf NegInf _ _ s h = absurd h.not_after
moment_between NegInf (At b) _ range s h = (b, range, record { not_before = tt; not_after = omega (arith, ints) })
moment_between NegInf PosInf _ _ s h = (pos 0, record { not_before = omega (arith, ints); not_after = omega (arith, ints) }, record { not_before = tt; not_after = tt })
moment_between (At a) NegInf _ _ s h = absurd h.not_after
moment_between (At a) (At b) range _ s h = (a, range, record { not_before = omega (arith, ints); not_after = omega (arith, ints, h.not_before, h.not_after) })
moment_between (At a) PosInf range _ s h = (a, range, record { not_before = omega (arith, ints); not_after = tt })
moment_between PosInf last _ _ s h = absurd h.not_before

-- a second before x that is not after s
before_bound : (x s : ℤ) → (t : ℤ) × (t <ℤ x) × (t ≤ℤ s)
before_bound (pos a) (pos b) = (negsuc 0, omega (arith, ints), omega (arith, ints))
before_bound (pos a) (negsuc b) = (negsuc b, omega (arith, ints), omega (arith, ints))
before_bound (negsuc a) (pos b) = (negsuc (a + 1), omega (arith, ints), omega (arith, ints))
before_bound (negsuc a) (negsuc b) = (negsuc (a + b + 1), omega (arith, ints), omega (arith, ints))

-- a second after x that is not before s
after_bound : (x s : ℤ) → (t : ℤ) × (x <ℤ t) × (s ≤ℤ t)
after_bound (pos a) (pos b) = (pos (a + b + 1), omega (arith, ints), omega (arith, ints))
after_bound (pos a) (negsuc b) = (pos (a + 1), omega (arith, ints), omega (arith, ints))
after_bound (negsuc a) (pos b) = (pos b, omega (arith, ints), omega (arith, ints))
after_bound (negsuc a) (negsuc b) = (pos 0, omega (arith, ints), omega (arith, ints))

-- a time that is not after any second of a span is not after its first time
least_end : (first last : TimePoint) (s : ℤ) → LiesBetween first last s → (time : TimePoint) → ((t : ℤ) → LiesBetween first last t → IsUpTo time (At t)) → IsUpTo time first
least_end PosInf last s h time lower = absurd h.not_before
least_end (At a) last s h time lower = lower a (record { not_before = omega (arith, ints); not_after = IsUpTo-trans (At a) (At s) last h.not_before h.not_after })
least_end NegInf last s h NegInf lower = tt
least_end NegInf last s h (At x) lower =
    let before = before_bound x s in
    absurd (omega (arith, ints, before, lower before.0 (record { not_before = tt; not_after = IsUpTo-trans (At before.0) (At s) last before.2 h.not_after })))
least_end NegInf last s h PosInf lower = lower s h

-- a time that is not before any second of a span is not before its last time
greatest_end : (first last : TimePoint) (s : ℤ) → LiesBetween first last s → (time : TimePoint) → ((t : ℤ) → LiesBetween first last t → IsUpTo (At t) time) → IsUpTo last time
greatest_end first NegInf s h time upper = absurd h.not_after
greatest_end first (At b) s h time upper = upper b (record { not_before = IsUpTo-trans first (At s) (At b) h.not_before h.not_after; not_after = omega (arith, ints) })
greatest_end first PosInf s h PosInf upper = tt
greatest_end first PosInf s h (At x) upper =
    let after = after_bound x s in
    absurd (omega (arith, ints, after, upper after.0 (record { not_before = IsUpTo-trans first (At s) (At after.0) h.not_before after.2; not_after = tt })))
greatest_end first PosInf s h NegInf upper = upper s h

-- conditions that hold exactly from one time of the range to another, and at some second, have these as their window
pub is_window : (conditions : List Constraint) (first last : TimePoint) → ((s : ℤ) → MeetsConditions conditions s ↔ LiesBetween first last s)
    → IsInRange first → IsInRange last → ((s : ℤ) × LiesBetween first last s) → IsWindow conditions first last
is_window conditions first last between first_in_range last_in_range some =
    let moment = moment_between first last first_in_range last_in_range some.0 some.1 in
    record {
      between = between;
      least = λ time lower. least_end first last some.0 some.1 time (λ t lies. lower t ((between t).1 lies));
      greatest = λ time upper. greatest_end first last some.0 some.1 time (λ t lies. upper t ((between t).1 lies));
      is_met = record { moment = moment.0; in_range = moment.1; meets = (between moment.0).1 moment.2 };
      first_in_range = first_in_range;
      last_in_range = last_in_range;
    }

all_pushed : {X : Type 0} (P : X → Type 0) (xs : List X) (x : X) → AllByRecursion P (xs ++ x ∷ []) → AllByRecursion P xs × P x
all_pushed P [] x all = (tt, all.0)
all_pushed P (y ∷ ys) x all = let rest = all_pushed P ys x all.1 in ((all.0, rest.0), rest.1)

-- one more condition
Meets-more : (items : List Constraint) (i : ℕ) (c : Constraint) (s : ℤ) → i < length items → c ≡ get_or items i c → MeetsConditions (take (i + 1) items) s ↔ (MeetsConditions (take i items) s × HoldsAt s c)
Meets-more items i c s lt is =
    let whole : take (i + 1) items ≡ take i items ++ c ∷ [] = take_more items i c lt ∙ ap (λ (x : Constraint). take i items ++ x ∷ []) (sym is) in (
      λ meets. all_pushed (HoldsAt s) (take i items) c (subst (AllByRecursion (HoldsAt s)) whole meets),
      λ both. subst (AllByRecursion (HoldsAt s)) (sym whole) (AllByRecursion-push (HoldsAt s) (take i items) c both.0 both.1),
    )

-- all conditions were looked at
pub at_end : (items : List Constraint) (i : ℕ) → length items ≤ i → (first last : TimePoint)
    → ((s : ℤ) → MeetsConditions (take i items) s ↔ LiesBetween first last s) → (s : ℤ) → MeetsConditions items s ↔ LiesBetween first last s
at_end items i end first last so_far = subst (λ (xs : List Constraint). (s : ℤ) → MeetsConditions xs s ↔ LiesBetween first last s) (take_all i items end) so_far

-- the span that two spans share
pub shared_span : (items : List Constraint) (i : ℕ) (c : Constraint) → i < length items → c ≡ get_or items i c
    → (first last from to first' last' : TimePoint)
    → ((s : ℤ) → MeetsConditions (take i items) s ↔ LiesBetween first last s)
    → ((s : ℤ) → HoldsAt s c ↔ LiesBetween from to s)
    → ((w : TimePoint) → IsUpTo first' w ↔ (IsUpTo first w × IsUpTo from w))
    → ((w : TimePoint) → IsUpTo w last' ↔ (IsUpTo w last × IsUpTo w to))
    → (s : ℤ) → MeetsConditions (take (i + 1) items) s ↔ LiesBetween first' last' s
shared_span items i c lt is first last from to first' last' so_far here later earlier s =
    let more = Meets-more items i c s lt is in (
      λ meets.
          let before = (so_far s).0 (more.0 meets).0 in
          let now = (here s).0 (more.0 meets).1 in
          record { not_before = (later (At s)).1 (before.not_before, now.not_before); not_after = (earlier (At s)).1 (before.not_after, now.not_after) },
      λ lies.
          let low = (later (At s)).0 lies.not_before in
          let high = (earlier (At s)).0 lies.not_after in
          more.1 ((so_far s).1 (record { not_before = low.0; not_after = high.0 }), (here s).1 (record { not_before = low.1; not_after = high.1 })),
    )

-- one of two times of the range lies in the range
pub either_in_range : (u v w : TimePoint) → IsInRange u → IsInRange v → (w ≡ u) ⊎ (w ≡ v) → IsInRange w
either_in_range u v w p q (inl same) = subst IsInRange (sym same) p
either_in_range u v w p q (inr same) = subst IsInRange (sym same) q
