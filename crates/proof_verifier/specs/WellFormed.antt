-- Sequents of closed and well sorted formulas, whose times lie in the range of moments: those that
-- a proof within its type meets, from statements.
use Rattle.std.specs.Prelude.{List, [], Some, Contains}
use Rattle.bl_syntax.specs.declared.terms.Sort.{Sort}
use Rattle.bl_syntax.specs.declared.terms.Sort.TheVariants.{Principal, Time}
use Rattle.bl_syntax.specs.declared.terms.Term.{Term}
use Rattle.bl_syntax.specs.declared.terms.StatePred.{StatePred}
use Rattle.bl_syntax.specs.declared.terms.Constraint.{Constraint}
use Rattle.bl_syntax.specs.Formula.{FormulaView, state}
use Rattle.bl_syntax.specs.Terms.{HasTimeInRange}
use Rattle.bl_syntax.specs.WellSorted.{HasSort, IsWellSorted}
use Rattle.bl_syntax.specs.Statement.{AllTerms}
use Rattle.bl_rules.specs.Sequent.{Hypothesis, holds, claims}
use Rattle.proof_verifier.specs.Sequent.{Sequent}

-- the term is in scope and has the sort, and if it is a time, it lies in the range of moments
pub record IsTermOf (sorts : List Sort) (sort : Sort) (t : Term) : Type 0 where
  pub sorted : HasSort sorts [] sort t
  pub in_range : HasTimeInRange t

-- the formula is closed and well sorted, and its times lie in the range of moments
pub record IsClosed (sorts : List Sort) (f : FormulaView) : Type 0 where
  pub sorted : IsWellSorted sorts [] f
  pub in_range : AllTerms HasTimeInRange f

-- from one time to another
pub record IsInterval (sorts : List Sort) (from to : Term) : Type 0 where
  pub from_time : IsTermOf sorts Time from
  pub to_time : IsTermOf sorts Time to

abbrev pub IsWellFormedHypothesis : List Sort → Hypothesis → Type 0
IsWellFormedHypothesis sorts (holds a u v) = IsClosed sorts a × IsInterval sorts u v
IsWellFormedHypothesis sorts (claims k a u v) = IsTermOf sorts Principal k ×
    (IsClosed sorts a × IsInterval sorts u v)

-- so is each formula and term of the sequent
pub record IsWellFormedSequent (s : Sequent) : Type 0 where
  pub constraints : (c : Constraint) → Contains s.constraints c → IsInterval s.sorts c.low c.high
  pub facts : (fact : StatePred) → Contains s.facts fact → IsClosed s.sorts (state fact)
  pub hypotheses : (h : Hypothesis) → Contains s.hypotheses (Some h) →
      IsWellFormedHypothesis s.sorts h
  pub viewer : IsTermOf s.sorts Principal s.view.who
  pub view : IsInterval s.sorts s.view.from s.view.to
  pub goal : IsClosed s.sorts s.goal
  pub interval : IsInterval s.sorts s.from s.to
