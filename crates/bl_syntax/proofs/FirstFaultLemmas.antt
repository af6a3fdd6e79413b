-- A formula has no first fault exactly if it is closed and well sorted within the limits.
use Rattle.std.proofs.Common.{◌≡◌, ◌≤◌, ◌↔◌, ℕ, List, [], ◌∷◌, Bool, true, false, refl, ap, rules}
use Rattle.std.specs.Prelude.{is_ok, Result, Ok, Err, Option, Some, None, IsSome, nat_le, if◌then◌else◌}
use Rattle.std.specs.Bool.{Decides}
use Rattle.std.specs.List.{AllByRecursion}
use Rattle.std.specs.Str.{bytes_eq}
use Rattle.std.proofs.lemmas.Bool.{false≢true}
use Rattle.std.proofs.lemmas.Bool.Decides.{Decides-and}
use borrow.Author.Tests.{tests}
use Rattle.std.proofs.lemmas.Slice.Eq.{bytes_eq-Decides}
use Rattle.bl_syntax.specs.declared.terms.Sort.{Sort}
use Rattle.bl_syntax.specs.declared.terms.Sort.TheVariants as sorts
use Rattle.bl_syntax.specs.declared.terms.Term.{Term}
use Rattle.bl_syntax.specs.declared.terms.StatePred.{StatePred}
use Rattle.bl_syntax.specs.declared.terms.StatePred.TheVariants.{Owner, HasXattr, InDir}
use Rattle.bl_syntax.specs.declared.check.SyntaxFault.{SyntaxFault}
use Rattle.bl_syntax.specs.declared.check.SyntaxFault.TheVariants.{TooLarge}
use Rattle.bl_syntax.specs.Formula.{FormulaView, atom, compare, state, both, either, implies, truth, falsity, forall_, exists_, says, on}
use Rattle.bl_syntax.specs.Terms.{sort_of}
use Rattle.bl_syntax.specs.WellSorted.{may, sorts_of_may, HasSort, IsInScope, HaveSorts, FitsPredicate, IsSortedState, IsWellSorted, IsFormula, size, widest_atom}
use Rattle.bl_syntax.specs.FirstFault.{Finds, first_of, sort_mismatch, sort_fault, scope_fault, term_fault, scopes_fault, may_fault, state_fault, times_fault, sorting_fault, formula_fault}

-- there is no fault exactly if the fact holds
abbrev Tells : Option SyntaxFault → Type 0 → Type 0
Tells fault P = (fault ≡ None) ↔ P

Tells-first_of : (a b : Option SyntaxFault) (P Q : Type 0) → Tells a P → Tells b Q → Tells (first_of a b) (P × Q)
Tells-first_of None b P Q p q = (λ e. (p.0 refl, q.0 e), λ h. q.1 h.1)
Tells-first_of (Some fault) b P Q p q = (λ e. cc, λ h. p.1 h.0)

Tells-sort_mismatch : (wanted found : Sort) → Tells (sort_mismatch wanted found) (◌≡◌ {A = Option Sort} (Some found) (Some wanted))
Tells-sort_mismatch sorts.Principal sorts.Principal = (λ e. refl, λ e. refl)
Tells-sort_mismatch sorts.File sorts.File = (λ e. refl, λ e. refl)
Tells-sort_mismatch sorts.Perm sorts.Perm = (λ e. refl, λ e. refl)
Tells-sort_mismatch sorts.Time sorts.Time = (λ e. refl, λ e. refl)
Tells-sort_mismatch sorts.Text sorts.Text = (λ e. refl, λ e. refl)
Tells-sort_mismatch _ _ = (λ e. cc, λ e. cc)

Tells-sort_fault : (wanted : Sort) (found : Option Sort) → Tells (sort_fault wanted found) (found ≡ Some wanted)
Tells-sort_fault wanted None = (λ e. cc, λ e. cc)
Tells-sort_fault wanted (Some found) = Tells-sort_mismatch wanted found

Tells-scope_fault : (found : Option Sort) → Tells (scope_fault found) (IsSome found)
Tells-scope_fault None = (λ e. cc, λ h. absurd (search rules))
Tells-scope_fault (Some found) = (λ e. search rules, λ h. refl)

module _ (parameters : List Sort) where
  Tells-term_fault : (binders : List Sort) (wanted : Sort) (t : Term) → Tells (term_fault parameters binders wanted t) (HasSort parameters binders wanted t)
  Tells-term_fault binders wanted t = Tells-sort_fault wanted (sort_of parameters binders t)

  Tells-scopes_fault : (binders : List Sort) (terms : List Term) → Tells (scopes_fault parameters binders terms) (AllByRecursion (IsInScope parameters binders) terms)
  Tells-scopes_fault binders [] = (λ e. tt, λ h. refl)
  Tells-scopes_fault binders (t ∷ terms) =
      Tells-first_of _ _ _ _ (Tells-scope_fault (sort_of parameters binders t)) (Tells-scopes_fault binders terms)

  Tells-times_fault : (binders : List Sort) (u v : Term) → Tells (times_fault parameters binders u v) (HasSort parameters binders sorts.Time u × HasSort parameters binders sorts.Time v)
  Tells-times_fault binders u v = Tells-first_of _ _ _ _ (Tells-term_fault binders sorts.Time u) (Tells-term_fault binders sorts.Time v)

  Tells-state_fault : (binders : List Sort) (s : StatePred) → Tells (state_fault parameters binders s) (IsSortedState parameters binders s)
  Tells-state_fault binders (Owner file owner) = Tells-first_of _ _ _ _ (Tells-term_fault binders sorts.File file) (Tells-term_fault binders sorts.Principal owner)
  Tells-state_fault binders (HasXattr file name value) =
      Tells-first_of _ _ _ _ (Tells-term_fault binders sorts.File file)
      (Tells-first_of _ _ _ _ (Tells-term_fault binders sorts.Text name) (Tells-term_fault binders sorts.Text value))
  Tells-state_fault binders (InDir file directory) = Tells-first_of _ _ _ _ (Tells-term_fault binders sorts.File file) (Tells-term_fault binders sorts.File directory)

  Tells-may_fault : (binders : List Sort) (terms : List Term) → Tells (may_fault parameters binders terms) (HaveSorts parameters binders sorts_of_may terms)
  Tells-may_fault binders [] = (λ e. cc, λ h. absurd h)
  Tells-may_fault binders (a ∷ []) = (λ e. cc, λ h. absurd h.1)
  Tells-may_fault binders (a ∷ b ∷ []) = (λ e. cc, λ h. absurd h.1.1)
  Tells-may_fault binders (a ∷ b ∷ c ∷ []) =
      let three : Tells (may_fault parameters binders (a ∷ b ∷ c ∷ [])) (HasSort parameters binders sorts.Principal a × (HasSort parameters binders sorts.File b × HasSort parameters binders sorts.Perm c)) =
      Tells-first_of _ _ _ _ (Tells-term_fault binders sorts.Principal a)
      (Tells-first_of _ _ _ _ (Tells-term_fault binders sorts.File b) (Tells-term_fault binders sorts.Perm c)) in
      (λ e. let h = three.0 e in (h.0, (h.1.0, (h.1.1, tt))), λ h. three.1 (h.0, (h.1.0, h.1.1.0)))
  Tells-may_fault binders (a ∷ b ∷ c ∷ d ∷ terms) = (λ e. cc, λ h. absurd h.1.1.1)

  -- terms that have sorts are in scope
  in_scope : (binders wanted : List Sort) (terms : List Term) → HaveSorts parameters binders wanted terms → AllByRecursion (IsInScope parameters binders) terms
  in_scope binders [] [] h = tt
  in_scope binders [] (t ∷ terms) h = absurd h
  in_scope binders (s ∷ wanted) [] h = absurd h
  in_scope binders (s ∷ wanted) (t ∷ terms) h = ((Tells-scope_fault (sort_of parameters binders t)).0 (ap scope_fault h.0), in_scope binders wanted terms h.1)

  atom_fault : Bool → List Sort → List Term → Option SyntaxFault
  atom_fault of_may binders terms = if of_may then may_fault parameters binders terms else scopes_fault parameters binders terms

  Tells-atom_fault : (of_may : Bool) (binders : List Sort) (name : List ℕ) (terms : List Term) → Decides of_may (name ≡ may)
      → Tells (atom_fault of_may binders terms) (FitsPredicate parameters binders name terms)
  unfolding atom_fault
  Tells-atom_fault true binders name terms decides =
      let tells = Tells-may_fault binders terms in (
        λ e. record { in_scope = in_scope binders sorts_of_may terms (tells.0 e); of_may = λ _. tells.0 e },
        λ h. tells.1 (h.of_may (decides.0 refl)),
      )
  Tells-atom_fault false binders name terms decides =
      let tells = Tells-scopes_fault binders terms in (
        λ e. record { in_scope = tells.0 e; of_may = λ same. absurd (false≢true (decides.1 same)) },
        λ h. tells.1 h.in_scope,
      )

  pub Tells-sorting_fault : (binders : List Sort) (f : FormulaView) → Tells (sorting_fault parameters binders f) (IsWellSorted parameters binders f)
  unfolding atom_fault
  Tells-sorting_fault binders (atom name terms) = Tells-atom_fault (bytes_eq name may) binders name terms (bytes_eq-Decides name may)
  Tells-sorting_fault binders (compare c) = Tells-times_fault binders c.low c.high
  Tells-sorting_fault binders (state s) = Tells-state_fault binders s
  Tells-sorting_fault binders (both a b) = Tells-first_of _ _ _ _ (Tells-sorting_fault binders a) (Tells-sorting_fault binders b)
  Tells-sorting_fault binders (either a b) = Tells-first_of _ _ _ _ (Tells-sorting_fault binders a) (Tells-sorting_fault binders b)
  Tells-sorting_fault binders (implies a b) = Tells-first_of _ _ _ _ (Tells-sorting_fault binders a) (Tells-sorting_fault binders b)
  Tells-sorting_fault binders truth = (λ e. tt, λ h. refl)
  Tells-sorting_fault binders falsity = (λ e. tt, λ h. refl)
  Tells-sorting_fault binders (forall_ s a) = Tells-sorting_fault (s ∷ binders) a
  Tells-sorting_fault binders (exists_ s a) = Tells-sorting_fault (s ∷ binders) a
  Tells-sorting_fault binders (says k a) = Tells-first_of _ _ _ _ (Tells-term_fault binders sorts.Principal k) (Tells-sorting_fault binders a)
  Tells-sorting_fault binders (on a u v) = Tells-first_of _ _ _ _ (Tells-sorting_fault binders a) (Tells-times_fault binders u v)

Tells-limited : (within : Bool) (over : SyntaxFault) (fault : Option SyntaxFault) (P Q : Type 0) → Decides within P → Tells fault Q
    → Tells (if within then fault else Some over) (P × Q)
Tells-limited true over fault P Q decides tells = (λ e. (decides.0 refl, tells.0 e), λ h. tells.1 h.1)
Tells-limited false over fault P Q decides tells = (λ e. cc, λ h. absurd (false≢true (decides.1 h.0)))

Decides-nat_le : (a b : ℕ) → Decides (nat_le a b) (a ≤ b)
Decides-nat_le a b = search (tests, rules)

pub Tells-formula_fault : (parameters : List Sort) (f : FormulaView) → Tells (formula_fault parameters f) (IsFormula parameters f)
Tells-formula_fault parameters f =
    let tells = Tells-limited _ TooLarge _ _ _ (Decides-and _ _ (Decides-nat_le (size f) 512) (Decides-nat_le (widest_atom f) 8)) (Tells-sorting_fault parameters [] f) in (
      λ e. let h = tells.0 e in record { within_limits = record { nodes = h.0.0; arguments = h.0.1 }; well_sorted = h.1 },
      λ h. tells.1 ((h.within_limits.nodes, h.within_limits.arguments), h.well_sorted),
    )

-- a check passes exactly the formulas
pub Decides-Finds : (parameters : List Sort) (f : FormulaView) (r : Result (Unit {0}) SyntaxFault) → Finds r (formula_fault parameters f) → Decides (is_ok r) (IsFormula parameters f)
Decides-Finds parameters f (Ok x) finds = (λ e. (Tells-formula_fault parameters f).0 finds, λ h. refl)
Decides-Finds parameters f (Err fault) finds = (λ e. absurd (false≢true e), λ h. let none = (Tells-formula_fault parameters f).1 h in cc)
