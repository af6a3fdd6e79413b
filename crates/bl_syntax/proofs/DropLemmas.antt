-- How a formula is taken apart without going down into it: how much is left of it falls at each step.
use Rattle.std.proofs.Common.{ℕ, ◌+◌, ◌<◌, Option, Some, None, Box, Global, arith}
use Rattle.bl_syntax.specs.declared.formula.Formula.{Formula}
use Rattle.bl_syntax.specs.Formula.{FormulaView, formula_view, atom, compare, state, both, either, implies, truth, falsity, forall_, exists_, says, on}

-- how many steps it takes; what stands on the left is moved before it is opened
abbrev pub steps : FormulaView → ℕ
steps (atom name terms) = 1
steps (compare c) = 1
steps (state s) = 1
steps (both a b) = 1 + steps a + steps a + steps b
steps (either a b) = 1 + steps a + steps a + steps b
steps (implies a b) = 1 + steps a + steps a + steps b
steps truth = 1
steps falsity = 1
steps (forall_ s a) = 1 + steps a
steps (exists_ s a) = 1 + steps a
steps (says k a) = 1 + steps a
steps (on a u v) = 1 + steps a

-- how many steps it takes for a formula, while others wait
abbrev pub steps_left : Formula → Option (Box Formula Global) → ℕ
steps_left f None = steps (formula_view f)
steps_left f (Some waiting) = steps (formula_view f) + steps (formula_view f) + steps (formula_view waiting.value)

-- one step further in
pub steps_left-inside : (f inside : Formula) (waiting : Option (Box Formula Global)) → steps (formula_view inside) < steps (formula_view f) → steps_left inside waiting < steps_left f waiting
steps_left-inside f inside None h = h
steps_left-inside f inside (Some others) h = omega arith
