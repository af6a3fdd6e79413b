-- Statements: what a principal says, and on which interval.
use Rattle.std.specs.Prelude.{ℕ, List, []}
use Rattle.std.specs.List.{AllByRecursion}
use Rattle.bl_syntax.specs.declared.terms.TimePoint.{TimePoint}
use Rattle.bl_syntax.specs.declared.terms.Term.{Term}
use Rattle.bl_syntax.specs.declared.terms.Term.TheVariants.{Prin, File, Perm, Time, Text, Ctime, Param, Bound}
use Rattle.bl_syntax.specs.Formula.{FormulaView, atom, compare, state, both, either, implies, truth, falsity, forall_, exists_, says, on}
use Rattle.bl_syntax.specs.TimeOrder.{IsInRange}
use Rattle.bl_syntax.specs.Terms.{HasTimeInRange}
use Rattle.bl_syntax.specs.WellSorted.{IsFormula, terms_of_state}

-- who says that the formula holds from one time to another
pub record StatementView : Type 0 where
  pub who : List ℕ
  pub body : FormulaView
  pub from : TimePoint
  pub to : TimePoint

abbrev pub statement_view : List ℕ → FormulaView → TimePoint → TimePoint → StatementView
statement_view who body from to = record { who = who; body = body; from = from; to = to }

-- each term of the formula has the property
abbrev pub AllTerms : (Term → Type 0) → FormulaView → Type 0
AllTerms P (atom name terms) = AllByRecursion P terms
AllTerms P (compare c) = P c.low × P c.high
AllTerms P (state s) = AllByRecursion P (terms_of_state s)
AllTerms P (both a b) = AllTerms P a × AllTerms P b
AllTerms P (either a b) = AllTerms P a × AllTerms P b
AllTerms P (implies a b) = AllTerms P a × AllTerms P b
AllTerms P truth = Unit {0}
AllTerms P falsity = Unit {0}
AllTerms P (forall_ s a) = AllTerms P a
AllTerms P (exists_ s a) = AllTerms P a
AllTerms P (says k a) = P k × AllTerms P a
AllTerms P (on a u v) = AllTerms P a × (P u × P v)

-- it does not speak of the current time
abbrev pub IsNotCtime : Term → Type 0
IsNotCtime (Prin name) = Unit {0}
IsNotCtime (File number) = Unit {0}
IsNotCtime (Perm permission) = Unit {0}
IsNotCtime (Time point) = Unit {0}
IsNotCtime (Text constant) = Unit {0}
IsNotCtime Ctime = ⊥
IsNotCtime (Param n) = Unit {0}
IsNotCtime (Bound n) = Unit {0}

-- the term may stand in a statement
abbrev pub IsSayable : Term → Type 0
IsSayable t = IsNotCtime t × HasTimeInRange t

-- the formula may stand in a statement
abbrev pub IsSayableFormula : FormulaView → Type 0
IsSayableFormula f = IsFormula [] f × AllTerms IsSayable f

-- what may be said: a closed and well sorted formula within the limits, without parameters and the
-- current time, with all times in the range of moments
pub record IsStatement (s : StatementView) : Type 0 where
  pub body_is_formula : IsFormula [] s.body
  pub no_ctime : AllTerms IsNotCtime s.body
  pub times_in_range : AllTerms HasTimeInRange s.body
  pub from_in_range : IsInRange s.from
  pub to_in_range : IsInRange s.to
