-- What constraints between times entail (after the constraints of BL; the order of constants and
-- the profile are this project's own).
use Rattle.std.specs.Prelude.{List, Contains}
use Rattle.bl_syntax.specs.declared.terms.TimePoint.{TimePoint}
use Rattle.bl_syntax.specs.declared.terms.TimePoint.TheVariants.{NegInf, PosInf}
use Rattle.bl_syntax.specs.declared.terms.Term.{Term}
use Rattle.bl_syntax.specs.declared.terms.Term.TheVariants.{Time}
use Rattle.bl_syntax.specs.declared.terms.Constraint.{Constraint}
use Rattle.bl_syntax.specs.TimeOrder.{IsUpTo}
use Rattle.bl_syntax.specs.Terms.{AreInOrder}

-- the first term is seen not to be after the second: they are the same, two constants in order,
-- `-inf` is first or `+inf` last, or a constraint says so
pub data IsLink (constraints : List Constraint) : Term → Term → Type 0 where
  same : (t : Term) → IsLink constraints t t
  constants : (u v : Term) → AreInOrder u v → IsLink constraints u v
  from_the_start : (v : Term) → IsLink constraints (Time NegInf) v
  to_the_end : (u : Term) → IsLink constraints u (Time PosInf)
  constrained : (c : Constraint) → Contains constraints c → IsLink constraints c.low c.high

-- links lead from the first term to the second
pub data IsChain (constraints : List Constraint) : Term → Term → Type 0 where
  link : (u v : Term) → IsLink constraints u v → IsChain constraints u v
  longer : (u v w : Term) → IsLink constraints u v → IsChain constraints v w →
      IsChain constraints u w

-- no assignment of times meets the constraints, since they lead from a constant to a lesser one
pub record IsContradictory (constraints : List Constraint) : Type 0 where
  pub greater : TimePoint
  pub lesser : TimePoint
  pub chain : IsChain constraints (Time greater) (Time lesser)
  pub out_of_order : IsUpTo greater lesser → ⊥

-- the constraints entail that the first term is not after the second
pub data Entails (constraints : List Constraint) (u v : Term) : Type 0 where
  chained : IsChain constraints u v → Entails constraints u v
  contradicted : IsContradictory constraints → Entails constraints u v

-- the constraints entail each of the others
pub record EntailsAll (constraints others : List Constraint) : Type 0 where
  pub each : (c : Constraint) → Contains others c → Entails constraints c.low c.high
