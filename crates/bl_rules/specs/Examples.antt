-- Sequents and policies for examples.
use Rattle.std.specs.Prelude.{ℕ, List, [], ◌∷◌, codes}
use Rattle.bl_syntax.specs.declared.terms.TimePoint.{TimePoint}
use Rattle.bl_syntax.specs.declared.terms.TimePoint.TheVariants.{NegInf, PosInf}
use Rattle.bl_syntax.specs.declared.terms.Sort.TheVariants as sorts
use Rattle.bl_syntax.specs.declared.terms.Term.{Term}
use Rattle.bl_syntax.specs.declared.terms.Term.TheVariants.{Prin, File, Perm, Time, Bound}
use Rattle.bl_syntax.specs.declared.terms.NodeId.{NodeId}
use Rattle.bl_syntax.specs.declared.terms.Perm.{Perm as Permission}
use Rattle.bl_syntax.specs.Formula.{FormulaView, atom, implies, forall_, says}
use Rattle.bl_syntax.specs.WellSorted.{may}
use Rattle.bl_syntax.specs.Statement.{StatementView, statement_view}
use Rattle.bl_rules.specs.Sequent.{Hypothesis, holds, Known, View}
use Rattle.bl_rules.specs.Derivable.{Derivable}

-- `admin`, `loc`, and a principal who speaks for itself alone
abbrev pub admin_name : List ℕ
admin_name = codes "admin"

abbrev pub loc_name : List ℕ
loc_name = codes "loc"

abbrev pub hr : List ℕ
hr = codes "hr"

-- one hypothesis, in a view
abbrev pub one_hypothesis : Hypothesis → View → Known
one_hypothesis hypothesis view = record { sorts = []; constraints = []; facts = []; hypotheses = hypothesis ∷ []; view = view }

-- that somebody is an employee
abbrev pub employee : Term → FormulaView
employee person = atom (codes "employee") (person ∷ [])

-- each principal X of whom `hr` says that X is an employee may have the permission on the file
abbrev pub policy_for_employees : NodeId → Permission → FormulaView
policy_for_employees file permission =
    forall_ sorts.Principal (implies (says (Prin hr) (employee (Bound 0))) (atom may (Bound 0 ∷ File file ∷ Perm permission ∷ [])))

-- `admin` states this without limit, and `hr`, for a time, that somebody is an employee
abbrev pub statements_on_employees : NodeId → Permission → List ℕ → TimePoint → TimePoint →
    List StatementView
statements_on_employees file permission person from to =
    statement_view admin_name (policy_for_employees file permission) NegInf PosInf ∷ statement_view hr (employee (Prin person)) from to ∷ []

-- the view of `admin`, for all times
abbrev pub admins_view : View
admins_view = record { who = Prin admin_name; from = Time NegInf; to = Time PosInf }

-- what is true at all times, and nothing else
abbrev pub always : FormulaView → Known
always a = one_hypothesis (holds a (Time NegInf) (Time PosInf)) admins_view

-- it is derivable from this for all times
abbrev pub GivesAlways : FormulaView → FormulaView → Type 0
GivesAlways a b = Derivable (always a) b (Time NegInf) (Time PosInf)

-- two atoms without arguments
abbrev pub rain : FormulaView
rain = atom (codes "rain") []

abbrev pub snow : FormulaView
snow = atom (codes "snow") []
