-- The issues that would admit, one after the other.
use Rattle.std.proofs.Common.{◌≡◌, ◌<◌, ◌≤◌, ℕ, suc, List, [], ◌∷◌, ◌++◌, length, drop, get_or, sym, ap, subst, ◌∙◌, append_assoc, add-one, drop-cons, ⊎_elim}
use Rattle.std.specs.Prelude.{ℤ}
use Rattle.std.proofs.lemmas.List.{append-nil, drop_all}
use Rattle.bl_syntax.specs.declared.terms.NodeId.{NodeId}
use Rattle.bl_syntax.specs.declared.terms.Perm.{Perm}
use Rattle.access_history.specs.declared.event.Issue.{Issue}
use Rattle.access_history.specs.Base.{BaseView}
use Rattle.history_table.specs.WhoMay.{AddsAdmitting, AreAdmitting, AreAdmittingFrom, WouldAdmit, admitting, no_issue, passed_over}

module _ (state : BaseView) (file : NodeId) (permission : Perm) (moment : ℤ) where
  -- with the numbers of those that are left, these are all
  pub AreFirst : ℕ → List ℕ → Type 0
  AreFirst place numbers = (others : List ℕ) → AreAdmittingFrom state file permission moment (suc place) (drop place state.issues) others → AreAdmitting state file permission moment (numbers ++ others)

  pub none_first : AreFirst 0 []
  unfolding AreFirst
  none_first = λ others all. all

  rest_is : (place : ℕ) (issue : Issue) → place < length state.issues → issue ≡ get_or state.issues place issue → drop place state.issues ≡ issue ∷ drop (suc place) state.issues
  rest_is place issue below at = drop-cons state.issues place issue below ∙ ap (λ (i : Issue). i ∷ drop (suc place) state.issues) (sym at)

  pub first_admitting : (place : ℕ) (issue : Issue) (numbers : List ℕ) → place < length state.issues → issue ≡ get_or state.issues place issue → WouldAdmit state file permission moment issue → AreFirst place numbers → AreFirst (suc place) (numbers ++ suc place ∷ [])
  unfolding AreFirst
  first_admitting place issue numbers below at admits so_far = λ others rest.
      subst (AreAdmitting state file permission moment) (sym (append_assoc numbers (suc place ∷ []) others))
      (so_far (suc place ∷ others)
      (subst (λ (is : List Issue). AreAdmittingFrom state file permission moment (suc place) is (suc place ∷ others)) (sym (rest_is place issue below at))
      (admitting (suc place) issue (drop (suc place) state.issues) others admits (subst (λ (n : ℕ). AreAdmittingFrom state file permission moment n (drop (suc place) state.issues) others) (sym (add-one (suc place))) rest))))

  pub first_passed : (place : ℕ) (issue : Issue) (numbers : List ℕ) → place < length state.issues → issue ≡ get_or state.issues place issue → (WouldAdmit state file permission moment issue → ⊥) → AreFirst place numbers → AreFirst (suc place) numbers
  unfolding AreFirst
  first_passed place issue numbers below at never so_far = λ others rest.
      so_far others
      (subst (λ (is : List Issue). AreAdmittingFrom state file permission moment (suc place) is others) (sym (rest_is place issue below at))
      (passed_over (suc place) issue (drop (suc place) state.issues) others never (subst (λ (n : ℕ). AreAdmittingFrom state file permission moment n (drop (suc place) state.issues) others) (sym (add-one (suc place))) rest)))

  -- one more was looked at
  pub next_first : (place next number : ℕ) (issue : Issue) (issues : List Issue) (numbers more : List ℕ) → issues ≡ state.issues → place < length issues → next ≡ suc place → number ≡ suc place → issue ≡ get_or issues place issue →
      AddsAdmitting state file permission moment number issue numbers more → AreFirst place numbers → AreFirst next more
  next_first place next number issue issues numbers more same below next_is number_is read added so_far =
      let below_all : place < length state.issues = subst (λ (is : List Issue). place < length is) same below in
      let at : issue ≡ get_or state.issues place issue = subst (λ (is : List Issue). issue ≡ get_or is place issue) same read in
      subst (λ (n : ℕ). AreFirst n more) (sym next_is)
      (⊎_elim
      (λ admits. subst (AreFirst (suc place)) (sym (admits.1 ∙ ap (λ (n : ℕ). numbers ++ n ∷ []) number_is)) (first_admitting place issue numbers below_all at admits.0 so_far))
      (λ passes. subst (AreFirst (suc place)) (sym passes.1) (first_passed place issue numbers below_all at passes.0 so_far))
      added)

  pub all_first : (place : ℕ) (numbers : List ℕ) → length state.issues ≤ place → AreFirst place numbers → AreAdmitting state file permission moment numbers
  unfolding AreFirst
  all_first place numbers past so_far =
      subst (AreAdmitting state file permission moment) (append-nil numbers)
      (so_far [] (subst (λ (is : List Issue). AreAdmittingFrom state file permission moment (suc place) is []) (sym (drop_all place state.issues past)) (no_issue (suc place))))
