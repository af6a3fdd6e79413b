-- Formulas as plain data, without where their parts lie in memory (after the syntax of BL: Garg,
-- Proof theory for authorization logic and its application to a
-- practical file system; the choice of connectives is this project's own).
use Rattle.std.specs.Prelude.{ℕ, List}
use Rattle.bl_syntax.specs.declared.terms.Term.{Term}
use Rattle.bl_syntax.specs.declared.terms.Sort.{Sort}
use Rattle.bl_syntax.specs.declared.terms.StatePred.{StatePred}
use Rattle.bl_syntax.specs.declared.terms.Constraint.{Constraint}
use Rattle.bl_syntax.specs.declared.formula.Formula.{Formula}
use Rattle.bl_syntax.specs.declared.formula.Formula.TheVariants as code

-- a formula
pub data FormulaView : Type 0 where
  atom : List ℕ → List Term → FormulaView
  compare : Constraint → FormulaView
  state : StatePred → FormulaView
  both : FormulaView → FormulaView → FormulaView
  either : FormulaView → FormulaView → FormulaView
  implies : FormulaView → FormulaView → FormulaView
  truth : FormulaView
  falsity : FormulaView
  forall_ : Sort → FormulaView → FormulaView
  exists_ : Sort → FormulaView → FormulaView
  says : Term → FormulaView → FormulaView
  on : FormulaView → Term → Term → FormulaView

-- the formula that a formula of the program stands for
abbrev pub formula_view : Formula → FormulaView
formula_view (code.Atom name terms) = atom name terms
formula_view (code.Cons c) = compare c.value
formula_view (code.State s) = state s.value
formula_view (code.And' p a q b) = both (formula_view a) (formula_view b)
formula_view (code.Or' p a q b) = either (formula_view a) (formula_view b)
formula_view (code.Imp' p a q b) = implies (formula_view a) (formula_view b)
formula_view code.True = truth
formula_view code.False = falsity
formula_view (code.Forall' s p a) = forall_ s (formula_view a)
formula_view (code.Exists' s p a) = exists_ s (formula_view a)
formula_view (code.Says' t p a) = says t.value (formula_view a)
formula_view (code.At' p a u v) = on (formula_view a) u.value v.value
