-- What may be said, part by part.
use Rattle.std.proofs.Common.{◌↔◌, ℕ, List, [], ◌∷◌}
use Rattle.std.specs.List.{AllByRecursion}
use Rattle.bl_syntax.specs.declared.terms.Term.{Term}
use Rattle.bl_syntax.specs.declared.terms.TimePoint.{TimePoint}
use Rattle.bl_syntax.specs.Formula.{FormulaView, atom, compare, state, both, either, implies, truth, falsity, forall_, exists_, says, on}
use Rattle.bl_syntax.specs.TimeOrder.{IsInRange}
use Rattle.bl_syntax.specs.Terms.{HasTimeInRange}
use Rattle.bl_syntax.specs.WellSorted.{terms_of_state}
use Rattle.bl_syntax.specs.Statement.{AllTerms, IsNotCtime, IsSayableFormula, IsStatement, statement_view}

AllByRecursion-both : {A : Type 0} (P Q : A → Type 0) (xs : List A) → AllByRecursion (λ x. P x × Q x) xs ↔ (AllByRecursion P xs × AllByRecursion Q xs)
AllByRecursion-both P Q [] = (λ h. (tt, tt), λ h. tt)
AllByRecursion-both P Q (x ∷ xs) =
    let others = AllByRecursion-both P Q xs in
    (λ h. let rest = others.0 h.1 in ((h.0.0, rest.0), (h.0.1, rest.1)), λ h. ((h.0.0, h.1.0), others.1 (h.0.1, h.1.1)))

swap : {A B C D : Type 0} → ((A × B) × (C × D)) → ((A × C) × (B × D))
swap h = ((h.0.0, h.1.0), (h.0.1, h.1.1))

join : {A B C D E F : Type 0} → (E ↔ (A × B)) → (F ↔ (C × D)) → (E × F) ↔ ((A × C) × (B × D))
join e f = (λ h. swap (e.0 h.0, f.0 h.1), λ h. let parts = swap h in (e.1 parts.0, f.1 parts.1))

same : {A : Type 0} → A ↔ A
same = (λ h. h, λ h. h)

-- two properties of each term
AllTerms-both : (P Q : Term → Type 0) (f : FormulaView) → AllTerms (λ t. P t × Q t) f ↔ (AllTerms P f × AllTerms Q f)
AllTerms-both P Q (atom name terms) = AllByRecursion-both P Q terms
AllTerms-both P Q (compare c) = join same same
AllTerms-both P Q (state s) = AllByRecursion-both P Q (terms_of_state s)
AllTerms-both P Q (both a b) = join (AllTerms-both P Q a) (AllTerms-both P Q b)
AllTerms-both P Q (either a b) = join (AllTerms-both P Q a) (AllTerms-both P Q b)
AllTerms-both P Q (implies a b) = join (AllTerms-both P Q a) (AllTerms-both P Q b)
AllTerms-both P Q truth = (λ h. (tt, tt), λ h. tt)
AllTerms-both P Q falsity = (λ h. (tt, tt), λ h. tt)
AllTerms-both P Q (forall_ s a) = AllTerms-both P Q a
AllTerms-both P Q (exists_ s a) = AllTerms-both P Q a
AllTerms-both P Q (says k a) = join same (AllTerms-both P Q a)
AllTerms-both P Q (on a u v) = join (AllTerms-both P Q a) (join same same)

pub IsStatement-from_parts : (who : List ℕ) (f : FormulaView) (from to : TimePoint) → IsSayableFormula f → IsInRange from → IsInRange to → IsStatement (statement_view who f from to)
IsStatement-from_parts who f from to h from_in_range to_in_range =
    let terms = (AllTerms-both IsNotCtime HasTimeInRange f).0 h.1 in
    record {
      body_is_formula = h.0;
      no_ctime = terms.0;
      times_in_range = terms.1;
      from_in_range = from_in_range;
      to_in_range = to_in_range;
    }

pub IsSayableFormula-from_statement : (who : List ℕ) (f : FormulaView) (from to : TimePoint) → IsStatement (statement_view who f from to) → IsSayableFormula f
IsSayableFormula-from_statement who f from to h = (h.body_is_formula, (AllTerms-both IsNotCtime HasTimeInRange f).1 (h.no_ctime, h.times_in_range))
