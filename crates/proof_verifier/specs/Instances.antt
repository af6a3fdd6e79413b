-- What the formulas of the program stand for at a node: a formula with terms for the variables of
-- the binders around it. A term in scope holds no variable, so the order in which they
-- are put in does not matter; the innermost binder's is put in last, as the rules for quantifiers
-- do.
use Rattle.std.specs.Prelude.{ℕ, suc}
use Rattle.bl_syntax.specs.declared.terms.Term.{Term}
use Rattle.bl_syntax.specs.declared.terms.Constraint.{Constraint}
use Rattle.bl_syntax.specs.declared.terms.StatePred.{StatePred}
use Rattle.bl_syntax.specs.declared.terms.StatePred.TheVariants.{Owner, HasXattr, InDir}
use Rattle.bl_syntax.specs.Formula.{FormulaView, formula_view}
use Rattle.bl_syntax.specs.Substitution.{put_in, put_in_term}
use Rattle.proof_verifier.specs.declared.instance.TermList.{TermList}
use Rattle.proof_verifier.specs.declared.instance.TermList.TheVariants as code
use Rattle.proof_verifier.specs.declared.instance.Instance.{Instance}

-- a term below so many binders, with the terms for the variables of the binders around these
abbrev pub term_with : ℕ → TermList → Term → Term
term_with depth code.None t = t
term_with depth (code.More' p outer last) t = put_in_term depth last.now (term_with (suc depth) outer t)

abbrev pub constraint_with : ℕ → TermList → Constraint → Constraint
constraint_with depth terms c = record { low = term_with depth terms c.low; high = term_with depth terms c.high }

abbrev pub state_with : ℕ → TermList → StatePred → StatePred
state_with depth terms (Owner file owner) = Owner (term_with depth terms file) (term_with depth terms owner)
state_with depth terms (HasXattr file name value) = HasXattr (term_with depth terms file) (term_with depth terms name) (term_with depth terms value)
state_with depth terms (InDir file directory) = InDir (term_with depth terms file) (term_with depth terms directory)

-- a formula below so many binders, with the terms for the variables of the binders around these
abbrev pub formula_with : ℕ → TermList → FormulaView → FormulaView
formula_with depth code.None f = f
formula_with depth (code.More' p outer last) f = put_in depth last.now (formula_with (suc depth) outer f)

-- the formula that an instance stands for
abbrev pub instance_view : Instance → FormulaView
instance_view i = formula_with 0 i.terms.now (formula_view i.formula.now)

-- the body of a binder that an instance stands for: the binder's own variable is left
abbrev pub body_view : Instance → FormulaView
body_view i = formula_with 1 i.terms.now (formula_view i.formula.now)
