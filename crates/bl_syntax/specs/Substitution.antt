-- A term instead of a bound variable, and a moment instead of the current time (after the
-- substitutions of BL's quantifier rules).
use Rattle.std.specs.Prelude.{ℕ, ℤ, suc, map, ◌==◌, if◌then◌else◌}
use Rattle.bl_syntax.specs.declared.terms.Term.{Term}
use Rattle.bl_syntax.specs.declared.terms.Term.TheVariants.{Prin, File, Perm, Time, Text, Ctime, Param, Bound}
use Rattle.bl_syntax.specs.declared.terms.Constraint.{Constraint}
use Rattle.bl_syntax.specs.declared.terms.StatePred.{StatePred}
use Rattle.bl_syntax.specs.declared.terms.StatePred.TheVariants.{Owner, HasXattr, InDir}
use Rattle.bl_syntax.specs.Formula.{FormulaView, atom, compare, state, both, either, implies, truth, falsity, forall_, exists_, says, on}
use Rattle.bl_syntax.specs.Terms.{term_at, constraint_at, state_at}

-- the term, with t for the variable of the binder that stands so many binders further out
abbrev pub put_in_term : ℕ → Term → Term → Term
put_in_term depth t (Prin name) = Prin name
put_in_term depth t (File number) = File number
put_in_term depth t (Perm permission) = Perm permission
put_in_term depth t (Time point) = Time point
put_in_term depth t (Text constant) = Text constant
put_in_term depth t Ctime = Ctime
put_in_term depth t (Param n) = Param n
put_in_term depth t (Bound n) = if n == depth then t else Bound n

abbrev pub put_in_constraint : ℕ → Term → Constraint → Constraint
put_in_constraint depth t c = record { low = put_in_term depth t c.low; high = put_in_term depth t c.high }

abbrev pub put_in_state : ℕ → Term → StatePred → StatePred
put_in_state depth t (Owner file owner) = Owner (put_in_term depth t file) (put_in_term depth t owner)
put_in_state depth t (HasXattr file name value) = HasXattr (put_in_term depth t file) (put_in_term depth t name) (put_in_term depth t value)
put_in_state depth t (InDir file directory) = InDir (put_in_term depth t file) (put_in_term depth t directory)

-- the formula, with t for the variable of the binder that stands so many binders further out. It is
-- put in as it stands, and the other variables keep their numbers; a t without bound variables
-- cannot be captured
abbrev pub put_in : ℕ → Term → FormulaView → FormulaView
put_in depth t (atom name terms) = atom name (map (put_in_term depth t) terms)
put_in depth t (compare c) = compare (put_in_constraint depth t c)
put_in depth t (state s) = state (put_in_state depth t s)
put_in depth t (both a b) = both (put_in depth t a) (put_in depth t b)
put_in depth t (either a b) = either (put_in depth t a) (put_in depth t b)
put_in depth t (implies a b) = implies (put_in depth t a) (put_in depth t b)
put_in depth t truth = truth
put_in depth t falsity = falsity
put_in depth t (forall_ s a) = forall_ s (put_in (suc depth) t a)
put_in depth t (exists_ s a) = exists_ s (put_in (suc depth) t a)
put_in depth t (says k a) = says (put_in_term depth t k) (put_in depth t a)
put_in depth t (on a u v) = on (put_in depth t a) (put_in_term depth t u) (put_in_term depth t v)

-- the body of a binder at t
abbrev pub instance_at : Term → FormulaView → FormulaView
instance_at t body = put_in 0 t body

-- the formula at a moment: the moment instead of the current time
abbrev pub formula_at : ℤ → FormulaView → FormulaView
formula_at moment (atom name terms) = atom name (map (term_at moment) terms)
formula_at moment (compare c) = compare (constraint_at moment c)
formula_at moment (state s) = state (state_at moment s)
formula_at moment (both a b) = both (formula_at moment a) (formula_at moment b)
formula_at moment (either a b) = either (formula_at moment a) (formula_at moment b)
formula_at moment (implies a b) = implies (formula_at moment a) (formula_at moment b)
formula_at moment truth = truth
formula_at moment falsity = falsity
formula_at moment (forall_ s a) = forall_ s (formula_at moment a)
formula_at moment (exists_ s a) = exists_ s (formula_at moment a)
formula_at moment (says k a) = says (term_at moment k) (formula_at moment a)
formula_at moment (on a u v) = on (formula_at moment a) (term_at moment u) (term_at moment v)
