-- The order of times is total.
use Rattle.std.proofs.Common.{◌⊎◌, inl, inr, ℤ, pos, negsuc, ◌≤ℤ◌, arith}
use Rattle.std.proofs.lemmas.Bool.{cases_lt}
use Rattle.std.proofs.lemmas.Int.{ints}
use Rattle.bl_syntax.specs.declared.terms.TimePoint.{TimePoint}
use Rattle.bl_syntax.specs.declared.terms.TimePoint.TheVariants.{NegInf, At, PosInf}
use Rattle.bl_syntax.specs.TimeOrder.{IsUpTo}
use Rattle.bl_constraints.proofs.ChainLemmas.{by_cases}

-- either a time is not after another, or it is
second_upto_or_not : (a b : ℤ) → (a ≤ℤ b) ⊎ (a ≤ℤ b → ⊥)
second_upto_or_not (pos m) (pos n) = by_cases (cases_lt n m) (λ h. inr (λ k. absurd (omega (arith, ints, h, k)))) (λ h. inl (omega (arith, ints, h)))
second_upto_or_not (pos m) (negsuc n) = inr (λ k. absurd (omega (arith, ints, k)))
second_upto_or_not (negsuc m) (pos n) = inl (omega (arith, ints))
second_upto_or_not (negsuc m) (negsuc n) = by_cases (cases_lt m n) (λ h. inr (λ k. absurd (omega (arith, ints, h, k)))) (λ h. inl (omega (arith, ints, h)))

pub upto_or_not : (u v : TimePoint) → IsUpTo u v ⊎ (IsUpTo u v → ⊥)
upto_or_not NegInf v = inl tt
upto_or_not (At a) NegInf = inr (λ k. k)
upto_or_not (At a) (At b) = second_upto_or_not a b
upto_or_not (At a) PosInf = inl tt
upto_or_not PosInf NegInf = inr (λ k. k)
upto_or_not PosInf (At b) = inr (λ k. k)
upto_or_not PosInf PosInf = inl tt

-- of two, the first is not after the second, or the other way round
seconds_either : (a b : ℤ) → (a ≤ℤ b → ⊥) → b ≤ℤ a
seconds_either (pos m) (pos n) h = by_cases (cases_lt n m) (λ lt. omega (arith, ints, lt)) (λ ge. absurd (h (omega (arith, ints, ge))))
seconds_either (pos m) (negsuc n) h = omega (arith, ints)
seconds_either (negsuc m) (pos n) h = absurd (h (omega (arith, ints)))
seconds_either (negsuc m) (negsuc n) h = by_cases (cases_lt m n) (λ lt. omega (arith, ints, lt)) (λ ge. absurd (h (omega (arith, ints, ge))))

pub other_way : (u v : TimePoint) → (IsUpTo u v → ⊥) → IsUpTo v u
other_way NegInf v h = absurd (h tt)
other_way (At a) NegInf h = tt
other_way (At a) (At b) h = seconds_either a b h
other_way (At a) PosInf h = absurd (h tt)
other_way PosInf NegInf h = tt
other_way PosInf (At b) h = tt
other_way PosInf PosInf h = tt
