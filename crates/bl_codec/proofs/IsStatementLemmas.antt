-- What the test of a statement means.
use Rattle.std.proofs.Common.{◌≡◌, ◌↔◌, ℕ, Bool, true, List, [], ◌∷◌, refl}
use Rattle.std.specs.Prelude.{Option, Some, None, is_none, ◌&&◌}
use Rattle.std.specs.List.{AllByRecursion, list_all}
use Rattle.std.proofs.lemmas.Bool.{and_parts, and_from, false≢true}
use Rattle.bl_syntax.specs.declared.terms.Term.{Term}
use Rattle.bl_syntax.specs.declared.terms.Term.TheVariants.{Prin, File, Perm, Time, Text, Ctime, Param, Bound}
use Rattle.bl_syntax.specs.declared.terms.TimePoint.{TimePoint}
use Rattle.bl_syntax.specs.declared.check.SyntaxFault.{SyntaxFault}
use Rattle.bl_syntax.specs.Formula.{FormulaView, atom, compare, state, both, either, implies, truth, falsity, forall_, exists_, says, on}
use Rattle.bl_syntax.specs.WellSorted.{terms_of_state}
use Rattle.bl_syntax.specs.FirstFault.{formula_fault}
use Rattle.bl_syntax.specs.TimeOrder.{IsInRange}
use Rattle.bl_syntax.specs.Terms.{HasTimeInRange}
use Rattle.bl_syntax.specs.Statement.{statement_view, AllTerms, IsNotCtime, IsStatement}
use Rattle.bl_syntax.specs.Spelling.{IsSpellable}
use Rattle.bl_syntax.specs.FormulaReading.{all_terms, is_not_ctime, is_sayable}
use Rattle.bl_syntax.proofs.FirstFaultLemmas.{Tells-formula_fault}
use Rattle.bl_syntax.proofs.TermLemmas.{HasTimeInRange-from_spellable}

none_is : (o : Option SyntaxFault) → is_none o ≡ true → o ≡ None
none_is None e = refl
none_is (Some fault) e = absurd (false≢true e)

is_none-from : (o : Option SyntaxFault) → o ≡ None → is_none o ≡ true
is_none-from None e = refl
is_none-from (Some fault) e = absurd cc

not_ctime : (t : Term) → (is_not_ctime t ≡ true) ↔ IsNotCtime t
not_ctime (Prin name) = (λ e. tt, λ h. refl)
not_ctime (File node) = (λ e. tt, λ h. refl)
not_ctime (Perm permission) = (λ e. tt, λ h. refl)
not_ctime (Time point) = (λ e. tt, λ h. refl)
not_ctime (Text text) = (λ e. tt, λ h. refl)
not_ctime Ctime = (λ e. false≢true e, λ h. absurd h)
not_ctime (Param n) = (λ e. tt, λ h. refl)
not_ctime (Bound n) = (λ e. tt, λ h. refl)

-- two tests, each with its meaning
each : (a b : Bool) (P Q : Type 0) → (a ≡ true) ↔ P → (b ≡ true) ↔ Q → (a && b ≡ true) ↔ (P × Q)
each a b P Q p q = (λ e. let parts = and_parts a b e in (p.0 parts.0, q.0 parts.1), λ h. and_from a b (p.1 h.0) (q.1 h.1))

list_not_ctime : (ts : List Term) → (list_all is_not_ctime ts ≡ true) ↔ AllByRecursion IsNotCtime ts
list_not_ctime [] = (λ e. tt, λ h. refl)
list_not_ctime (t ∷ ts) = each (is_not_ctime t) (list_all is_not_ctime ts) (IsNotCtime t) (AllByRecursion IsNotCtime ts) (not_ctime t) (list_not_ctime ts)

terms_not_ctime : (f : FormulaView) → (all_terms is_not_ctime f ≡ true) ↔ AllTerms IsNotCtime f
terms_not_ctime (atom name terms) = list_not_ctime terms
terms_not_ctime (compare c) = each (is_not_ctime c.low) (is_not_ctime c.high) (IsNotCtime c.low) (IsNotCtime c.high) (not_ctime c.low) (not_ctime c.high)
terms_not_ctime (state s) = list_not_ctime (terms_of_state s)
terms_not_ctime (both a b) = each (all_terms is_not_ctime a) (all_terms is_not_ctime b) (AllTerms IsNotCtime a) (AllTerms IsNotCtime b) (terms_not_ctime a) (terms_not_ctime b)
terms_not_ctime (either a b) = each (all_terms is_not_ctime a) (all_terms is_not_ctime b) (AllTerms IsNotCtime a) (AllTerms IsNotCtime b) (terms_not_ctime a) (terms_not_ctime b)
terms_not_ctime (implies a b) = each (all_terms is_not_ctime a) (all_terms is_not_ctime b) (AllTerms IsNotCtime a) (AllTerms IsNotCtime b) (terms_not_ctime a) (terms_not_ctime b)
terms_not_ctime truth = (λ e. tt, λ h. refl)
terms_not_ctime falsity = (λ e. tt, λ h. refl)
terms_not_ctime (forall_ s a) = terms_not_ctime a
terms_not_ctime (exists_ s a) = terms_not_ctime a
terms_not_ctime (says k a) = each (is_not_ctime k) (all_terms is_not_ctime a) (IsNotCtime k) (AllTerms IsNotCtime a) (not_ctime k) (terms_not_ctime a)
terms_not_ctime (on a u v) =
    let whole = each (all_terms is_not_ctime a && is_not_ctime u) (is_not_ctime v) (AllTerms IsNotCtime a × IsNotCtime u) (IsNotCtime v) (each (all_terms is_not_ctime a) (is_not_ctime u) (AllTerms IsNotCtime a) (IsNotCtime u) (terms_not_ctime a) (not_ctime u)) (not_ctime v) in
    (λ e. let h = whole.0 e in (h.0.0, (h.0.1, h.1)), λ h. whole.1 ((h.0, h.1.0), h.1.1))

list_in_range : (ts : List Term) → AllByRecursion IsSpellable ts → AllByRecursion HasTimeInRange ts
list_in_range [] h = tt
list_in_range (t ∷ ts) h = (HasTimeInRange-from_spellable t h.0, list_in_range ts h.1)

pub terms_in_range : (f : FormulaView) → AllTerms IsSpellable f → AllTerms HasTimeInRange f
terms_in_range (atom name terms) h = list_in_range terms h
terms_in_range (compare c) h = (HasTimeInRange-from_spellable c.low h.0, HasTimeInRange-from_spellable c.high h.1)
terms_in_range (state s) h = list_in_range (terms_of_state s) h
terms_in_range (both a b) h = (terms_in_range a h.0, terms_in_range b h.1)
terms_in_range (either a b) h = (terms_in_range a h.0, terms_in_range b h.1)
terms_in_range (implies a b) h = (terms_in_range a h.0, terms_in_range b h.1)
terms_in_range truth h = tt
terms_in_range falsity h = tt
terms_in_range (forall_ s a) h = terms_in_range a h
terms_in_range (exists_ s a) h = terms_in_range a h
terms_in_range (says k a) h = (HasTimeInRange-from_spellable k h.0, terms_in_range a h.1)
terms_in_range (on a u v) h = (terms_in_range a h.0, (HasTimeInRange-from_spellable u h.1.0, HasTimeInRange-from_spellable v h.1.1))

-- a formula that passes the test, and whose terms have a spelling, may be said
pub statement_from_test : (who : List ℕ) (f : FormulaView) (from to : TimePoint) → is_sayable f ≡ true → AllTerms IsSpellable f → IsInRange from → IsInRange to → IsStatement (statement_view who f from to)
statement_from_test who f from to is fits from_fits to_fits =
    let parts = and_parts (is_none (formula_fault [] f)) (all_terms is_not_ctime f) is in
    record {
      body_is_formula = (Tells-formula_fault [] f).0 (none_is (formula_fault [] f) parts.0);
      no_ctime = (terms_not_ctime f).0 parts.1;
      times_in_range = terms_in_range f fits;
      from_in_range = from_fits;
      to_in_range = to_fits;
    }

-- what may be said passes the test
pub test_from_statement : (who : List ℕ) (f : FormulaView) (from to : TimePoint) → IsStatement (statement_view who f from to) → is_sayable f ≡ true
test_from_statement who f from to h =
    and_from (is_none (formula_fault [] f)) (all_terms is_not_ctime f) (is_none-from (formula_fault [] f) ((Tells-formula_fault [] f).1 h.body_is_formula)) ((terms_not_ctime f).1 h.no_ctime)
