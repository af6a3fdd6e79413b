-- What a formula is made of at its root, put together again round other formulas: what copying
-- computes node by node.
use Rattle.bl_syntax.specs.Formula.{FormulaView, atom, compare, state, both, either, implies, truth, falsity, forall_, exists_, says, on}

-- two formulas under the connective of the first
abbrev pub join_again : FormulaView → FormulaView → FormulaView → FormulaView
join_again (both _ _) a b = both a b
join_again (either _ _) a b = either a b
join_again _ a b = implies a b

-- a formula in the place of the one inside the first
abbrev pub wrap_again : FormulaView → FormulaView → FormulaView
wrap_again (forall_ s _) a = forall_ s a
wrap_again (exists_ s _) a = exists_ s a
wrap_again (says k _) a = says k a
wrap_again (on _ u v) a = on a u v
wrap_again _ a = a

-- the formula itself, where it has no formulas in it
abbrev pub leaf_again : FormulaView → FormulaView
leaf_again (atom name terms) = atom name terms
leaf_again (compare c) = compare c
leaf_again (state s) = state s
leaf_again truth = truth
leaf_again _ = falsity
