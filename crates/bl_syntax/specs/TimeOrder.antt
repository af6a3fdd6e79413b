-- Points in time and their order: `-inf` first, `+inf` last, whole seconds between them. The range
-- of moments is this project's own.
use Rattle.std.specs.Prelude.{ℤ, ◌≤ℤ◌}
use Rattle.bl_syntax.specs.declared.limits.TheConstants.{FIRST_MOMENT, LAST_MOMENT}
use Rattle.bl_syntax.specs.declared.terms.TimePoint.{TimePoint}
use Rattle.bl_syntax.specs.declared.terms.TimePoint.TheVariants.{NegInf, At, PosInf}

-- the first is not after the second
abbrev pub IsUpTo : TimePoint → TimePoint → Type 0
IsUpTo NegInf v = Unit {0}
IsUpTo (At t) NegInf = ⊥
IsUpTo (At t) (At u) = t ≤ℤ u
IsUpTo (At t) PosInf = Unit {0}
IsUpTo PosInf NegInf = ⊥
IsUpTo PosInf (At u) = ⊥
IsUpTo PosInf PosInf = Unit {0}

-- a whole second from 0001-01-01T00:00:00Z to 9999-12-31T23:59:59Z, counted from
-- 1970-01-01T00:00:00Z
pub record IsMoment (second : ℤ) : Type 0 where
  pub not_before : FIRST_MOMENT ≤ℤ second
  pub not_after : second ≤ℤ LAST_MOMENT

-- a point in time lies in the range of moments
abbrev pub IsInRange : TimePoint → Type 0
IsInRange NegInf = Unit {0}
IsInRange (At second) = IsMoment second
IsInRange PosInf = Unit {0}
