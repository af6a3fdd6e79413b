-- A closed formula within the limits has a spelling, if its names and texts are in the grammar, its numbers fit their bytes, and its times lie in the range of moments: its variables are few.
use Rattle.std.proofs.Common.{◌≡◌, ℕ, ◌+◌, ◌≤◌, ◌<◌, ◌^◌, List, [], ◌∷◌, length, refl, ap, arith}
use Rattle.std.specs.Prelude.{Option, Some, None, IsSome}
use Rattle.std.specs.Option.{is_some}
use Rattle.std.specs.List.{AllByRecursion, slice_get}
use Rattle.std.proofs.lemmas.Bool.{false≢true}
use Rattle.std.proofs.lemmas.Option.{slice_get_within}
use Rattle.bl_syntax.specs.declared.terms.Sort.{Sort}
use Rattle.bl_syntax.specs.declared.terms.Sort.TheVariants as sorts
use Rattle.bl_syntax.specs.declared.terms.Term.{Term}
use Rattle.bl_syntax.specs.declared.terms.Term.TheVariants.{Prin, File, Perm, Time, Text, Ctime, Param, Bound}
use Rattle.bl_syntax.specs.declared.terms.StatePred.TheVariants.{Owner, HasXattr, InDir}
use Rattle.bl_syntax.specs.Formula.{FormulaView, atom, compare, state, both, either, implies, truth, falsity, forall_, exists_, says, on}
use Rattle.bl_syntax.specs.Spelling.{IsSpellable}
use Rattle.bl_syntax.specs.Statement.{AllTerms}
use Rattle.bl_syntax.specs.Terms.{HasTimeInRange}
use Rattle.bl_syntax.specs.WellSorted.{HasSort, IsInScope, IsWellSorted, size}
use Rattle.text_laws.proofs.TokenLemmas.{IsInGrammar}

-- ---- terms within so many binders

some_is : {A : Type 0} (o : Option A) → IsSome o → (a : A) × (o ≡ Some a)
some_is None h = absurd (false≢true h)
some_is (Some a) h = (a, refl)

variable_spellable : (binders : List Sort) (n : ℕ) → length binders ≤ 512 → IsSome (slice_get binders n) → n < 2 ^ 32
variable_spellable binders n few scoped =
    let found = some_is (slice_get binders n) scoped in
    let inside : n < length binders = slice_get_within binders n found.0 found.1 in omega (arith, few, inside)

term_spellable : (binders : List Sort) (t : Term) → length binders ≤ 512 → IsInScope [] binders t → IsInGrammar t → HasTimeInRange t → IsSpellable t
term_spellable binders (Prin name) few scoped named timed = named
term_spellable binders (File node) few scoped named timed = named
term_spellable binders (Perm permission) few scoped named timed = tt
term_spellable binders (Time point) few scoped named timed = timed
term_spellable binders (Text text) few scoped named timed = named
term_spellable binders Ctime few scoped named timed = tt
term_spellable binders (Param n) few scoped named timed = named
term_spellable binders (Bound n) few scoped named timed = variable_spellable binders n few scoped

terms_spellable : (binders : List Sort) (terms : List Term) → length binders ≤ 512 → AllByRecursion (IsInScope [] binders) terms → AllByRecursion IsInGrammar terms → AllByRecursion HasTimeInRange terms → AllByRecursion IsSpellable terms
terms_spellable binders [] few scoped named timed = tt
terms_spellable binders (t ∷ terms) few scoped named timed = (term_spellable binders t few scoped.0 named.0 timed.0, terms_spellable binders terms few scoped.1 named.1 timed.1)

sorted_spellable : (binders : List Sort) (s : Sort) (t : Term) → length binders ≤ 512 → HasSort [] binders s t → IsInGrammar t → HasTimeInRange t → IsSpellable t
sorted_spellable binders s t few sort named timed = term_spellable binders t few (ap is_some sort) named timed

-- ---- formulas

pub formula_spellable : (f : FormulaView) (binders : List Sort) → length binders + size f ≤ 512 → IsWellSorted [] binders f → AllTerms IsInGrammar f → AllTerms HasTimeInRange f → AllTerms IsSpellable f
formula_spellable (atom name terms) binders few fits named timed = terms_spellable binders terms (omega arith) fits.in_scope named timed
formula_spellable (compare c) binders few fits named timed =
    (sorted_spellable binders sorts.Time c.low (omega arith) fits.0 named.0 timed.0, sorted_spellable binders sorts.Time c.high (omega arith) fits.1 named.1 timed.1)
formula_spellable (state (Owner a b)) binders few fits named timed =
    (sorted_spellable binders sorts.File a (omega arith) fits.0 named.0 timed.0, (sorted_spellable binders sorts.Principal b (omega arith) fits.1 named.1.0 timed.1.0, tt))
formula_spellable (state (HasXattr a b c)) binders few fits named timed =
    (sorted_spellable binders sorts.File a (omega arith) fits.0 named.0 timed.0, (sorted_spellable binders sorts.Text b (omega arith) fits.1.0 named.1.0 timed.1.0, (sorted_spellable binders sorts.Text c (omega arith) fits.1.1 named.1.1.0 timed.1.1.0, tt)))
formula_spellable (state (InDir a b)) binders few fits named timed =
    (sorted_spellable binders sorts.File a (omega arith) fits.0 named.0 timed.0, (sorted_spellable binders sorts.File b (omega arith) fits.1 named.1.0 timed.1.0, tt))
formula_spellable (both a b) binders few fits named timed = (formula_spellable a binders (omega arith) fits.0 named.0 timed.0, formula_spellable b binders (omega arith) fits.1 named.1 timed.1)
formula_spellable (either a b) binders few fits named timed = (formula_spellable a binders (omega arith) fits.0 named.0 timed.0, formula_spellable b binders (omega arith) fits.1 named.1 timed.1)
formula_spellable (implies a b) binders few fits named timed = (formula_spellable a binders (omega arith) fits.0 named.0 timed.0, formula_spellable b binders (omega arith) fits.1 named.1 timed.1)
formula_spellable truth binders few fits named timed = tt
formula_spellable falsity binders few fits named timed = tt
formula_spellable (forall_ s a) binders few fits named timed = formula_spellable a (s ∷ binders) (omega arith) fits named timed
formula_spellable (exists_ s a) binders few fits named timed = formula_spellable a (s ∷ binders) (omega arith) fits named timed
formula_spellable (says k a) binders few fits named timed = (sorted_spellable binders sorts.Principal k (omega arith) fits.0 named.0 timed.0, formula_spellable a binders (omega arith) fits.1 named.1 timed.1)
formula_spellable (on a u v) binders few fits named timed =
    (formula_spellable a binders (omega arith) fits.0 named.0 timed.0, (sorted_spellable binders sorts.Time u (omega arith) fits.1.0 named.1.0 timed.1.0, sorted_spellable binders sorts.Time v (omega arith) fits.1.1 named.1.1 timed.1.1))
