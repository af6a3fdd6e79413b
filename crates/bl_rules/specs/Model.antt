-- A plain meaning of formulas, to hold the rules against: intervals are pairs of times,
-- implications and quantifiers are what they are in mathematics, and `K says A` is that A is
-- true in each world that is as K would have it over the interval. It is this project's own, after
-- the usual models of modal logics.
use Rattle.std.specs.Prelude.{◌≡◌, ◌⊎◌, ◌<◌, ℕ, zero, suc, ℤ, List, [], ◌∷◌, map, length, Contains, Bool, IsTrue, Some}
use Rattle.std.specs.List.{AllByRecursion, slice_get}
use Rattle.bl_syntax.specs.declared.terms.Sort.{Sort}
use Rattle.bl_syntax.specs.declared.terms.TimePoint.{TimePoint}
use Rattle.bl_syntax.specs.declared.terms.TimePoint.TheVariants as times
use Rattle.bl_syntax.specs.declared.terms.Term.{Term}
use Rattle.bl_syntax.specs.declared.terms.Term.TheVariants.{Prin, File, Perm, Time, Text, Ctime, Param, Bound}
use Rattle.bl_syntax.specs.declared.terms.StatePred.{StatePred}
use Rattle.bl_syntax.specs.declared.terms.StatePred.TheVariants.{Owner, HasXattr, InDir}
use Rattle.bl_syntax.specs.declared.terms.Constraint.{Constraint}
use Rattle.bl_syntax.specs.Formula.{FormulaView, atom, compare, state, both, either, implies, truth, falsity, forall_, exists_, says, on}
use Rattle.bl_syntax.specs.TimeOrder.{IsUpTo}
use Rattle.bl_syntax.specs.Terms.{IsConstant, IsAtLeastAsStrong, sort_of}
use Rattle.bl_syntax.specs.WellSorted.{terms_of_state}
use Rattle.bl_syntax.specs.Statement.{AllTerms}
use Rattle.bl_rules.specs.Sequent.{Hypothesis, holds, claims, Known}

-- a model: when it is; which atoms are true in which world on which intervals, and on each within;
-- which predicates on the state are facts; and which worlds are as a principal
-- would have them over an interval, where all that heeds the one heeds those who are at least as
-- strong, over each longer interval
pub record Model : Type 0 where
  pub moment : ℤ
  pub is_true : ℕ → List ℕ → List Term → TimePoint → TimePoint → Bool
  pub is_fact : StatePred → Bool
  pub heeds : ℕ → Term → TimePoint → TimePoint → Bool
  pub true_within : (world : ℕ) (name : List ℕ) (terms : List Term) (u v x y : TimePoint)
      → IsTrue (is_true world name terms u v) → IsUpTo u x → IsUpTo y v
      → IsTrue (is_true world name terms x y)
  pub heeds_stronger : (world : ℕ) (k other : Term) (u v b e : TimePoint)
      → IsAtLeastAsStrong k other → IsUpTo u b → IsUpTo e v → IsTrue (heeds world other b e)
      → IsTrue (heeds world k u v)

-- what the parameters stand for
abbrev pub Values : Type 0
Values = ℕ → Term

-- what the bound variables stand for, the innermost first
abbrev pub bound_value : List Term → ℕ → Term
bound_value [] n = Bound 0
bound_value (t ∷ values) zero = t
bound_value (t ∷ values) (suc n) = bound_value values n

-- what a term stands for
abbrev pub value : Model → Values → List Term → Term → Term
value m params bounds (Prin name) = Prin name
value m params bounds (File number) = File number
value m params bounds (Perm permission) = Perm permission
value m params bounds (Time point) = Time point
value m params bounds (Text constant) = Text constant
value m params bounds Ctime = Time (times.At m.moment)
value m params bounds (Param n) = params n
value m params bounds (Bound n) = bound_value bounds n

-- the time that a constant is; what is no time counts as before all times
abbrev pub time_of : Term → TimePoint
time_of (Prin name) = times.NegInf
time_of (File number) = times.NegInf
time_of (Perm permission) = times.NegInf
time_of (Time point) = point
time_of (Text constant) = times.NegInf
time_of Ctime = times.NegInf
time_of (Param n) = times.NegInf
time_of (Bound n) = times.NegInf

abbrev pub time_value : Model → Values → List Term → Term → TimePoint
time_value m params bounds t = time_of (value m params bounds t)

abbrev pub state_value : Model → Values → List Term → StatePred → StatePred
state_value m params bounds (Owner file owner) = Owner (value m params bounds file) (value m params bounds owner)
state_value m params bounds (HasXattr file name text) = HasXattr (value m params bounds file) (value m params bounds name) (value m params bounds text)
state_value m params bounds (InDir file directory) = InDir (value m params bounds file) (value m params bounds directory)

-- a constant of the sort
pub record IsConstantOf (s : Sort) (t : Term) : Type 0 where
  pub constant : IsConstant t
  pub sort : sort_of [] [] t ≡ Some s

-- the formula is true in the world from u to v
abbrev pub IsTrueIn : Model → Values → List Term → ℕ → FormulaView → TimePoint → TimePoint → Type 0
IsTrueIn m params bounds world (atom name terms) u v = IsTrue (m.is_true world name (map (value m params bounds) terms) u v)
IsTrueIn m params bounds world (compare c) u v = IsUpTo (time_value m params bounds c.low) (time_value m params bounds c.high)
IsTrueIn m params bounds world (state s) u v = IsTrue (m.is_fact (state_value m params bounds s))
IsTrueIn m params bounds world (both a b) u v = IsTrueIn m params bounds world a u v
    × IsTrueIn m params bounds world b u v
IsTrueIn m params bounds world (either a b) u v = IsTrueIn m params bounds world a u v
    ⊎ IsTrueIn m params bounds world b u v
IsTrueIn m params bounds world (implies a b) u v =
    (x y : TimePoint) → IsUpTo u x → IsUpTo y v → IsTrueIn m params bounds world a x y
    → IsTrueIn m params bounds world b x y
IsTrueIn m params bounds world truth u v = Unit {0}
IsTrueIn m params bounds world falsity u v = ⊥
IsTrueIn m params bounds world (forall_ s a) u v = (t : Term) → IsConstantOf s t
    → IsTrueIn m params (t ∷ bounds) world a u v
IsTrueIn m params bounds world (exists_ s a) u v = (t : Term) × IsConstantOf s t
    × IsTrueIn m params (t ∷ bounds) world a u v
IsTrueIn m params bounds world (says k a) u v =
    (other : ℕ) → IsTrue (m.heeds other (value m params bounds k) u v)
    → IsTrueIn m params bounds other a u v
IsTrueIn m params bounds world (on a from to) u v = IsTrueIn m params bounds world a (time_value m params bounds from) (time_value m params bounds to)

-- the hypothesis is true in the world; a claim is what its principal says, in whatever world
abbrev pub IsTrueHypothesis : Model → Values → ℕ → Hypothesis → Type 0
IsTrueHypothesis m params world (holds a u v) = IsTrueIn m params [] world a (time_value m params [] u) (time_value m params [] v)
IsTrueHypothesis m params world (claims k a u v) = IsTrueIn m params [] world (says k a) (time_value m params [] u) (time_value m params [] v)

-- all that is known is true in the world, and the world heeds the view's principal over the view's
-- interval
pub record IsTrueKnown (m : Model) (params : Values) (world : ℕ) (known : Known) : Type 0 where
  pub sorts : (n : ℕ) (s : Sort) → slice_get known.sorts n ≡ Some s → IsConstantOf s (params n)
  pub constraints : (c : Constraint) → Contains known.constraints c
      → IsUpTo (time_value m params [] c.low) (time_value m params [] c.high)
  pub facts : (s : StatePred) → Contains known.facts s
      → IsTrue (m.is_fact (state_value m params [] s))
  pub hypotheses : (h : Hypothesis) → Contains known.hypotheses h
      → IsTrueHypothesis m params world h
  pub view : IsTrue (m.heeds world (value m params [] known.view.who) (time_value m params [] known.view.from) (time_value m params [] known.view.to))

-- its parameter, if it is one, has a lesser number
abbrev pub IsParameterBelow : ℕ → Term → Type 0
IsParameterBelow count (Prin name) = Unit {0}
IsParameterBelow count (File number) = Unit {0}
IsParameterBelow count (Perm permission) = Unit {0}
IsParameterBelow count (Time point) = Unit {0}
IsParameterBelow count (Text constant) = Unit {0}
IsParameterBelow count Ctime = Unit {0}
IsParameterBelow count (Param n) = n < count
IsParameterBelow count (Bound n) = Unit {0}

abbrev pub IsHypothesisBelow : ℕ → Hypothesis → Type 0
IsHypothesisBelow count (holds a u v) = AllTerms (IsParameterBelow count) a
    × IsParameterBelow count u × IsParameterBelow count v
IsHypothesisBelow count (claims k a u v) = IsParameterBelow count k
    × AllTerms (IsParameterBelow count) a × IsParameterBelow count u × IsParameterBelow count v

-- all parameters in it are declared
pub record AreParametersDeclared (known : Known) : Type 0 where
  pub constraints : (c : Constraint) → Contains known.constraints c
      → IsParameterBelow (length known.sorts) c.low × IsParameterBelow (length known.sorts) c.high
  pub facts : (s : StatePred) → Contains known.facts s
      → AllByRecursion (IsParameterBelow (length known.sorts)) (terms_of_state s)
  pub hypotheses : (h : Hypothesis) → Contains known.hypotheses h
      → IsHypothesisBelow (length known.sorts) h
  pub who : IsParameterBelow (length known.sorts) known.view.who
  pub from : IsParameterBelow (length known.sorts) known.view.from
  pub to : IsParameterBelow (length known.sorts) known.view.to

-- and so in the goal
pub record IsGoalDeclared (known : Known) (goal : FormulaView) (u v : Term) : Type 0 where
  pub formula : AllTerms (IsParameterBelow (length known.sorts)) goal
  pub from : IsParameterBelow (length known.sorts) u
  pub to : IsParameterBelow (length known.sorts) v
