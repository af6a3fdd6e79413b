-- Grants that are gone: by which number, and that they admit nothing.
use Rattle.std.proofs.Common.{◌≡◌, ◌∙◌, ◌<◌, ℕ, List, [], ◌∷◌, ◌++◌, length, Bool, true, false, cond, None, Some, refl, sym, subst, ap, arith}
use Rattle.std.specs.Prelude.{◌↔◌, ℤ, Contains, find}
use Rattle.std.specs.List.{AllByRecursion}
use Rattle.std.proofs.lemmas.Option.{none-some, same_Some}
use Rattle.bl_syntax.specs.Citable.{AreNamed}
use Rattle.bl_syntax.specs.Grant.{GrantView}
use Rattle.procap.specs.declared.procap.Procap.{Procap}
use Rattle.policy_statement.specs.Withdrawal.{is_withdrawn}
use Rattle.issue_standings.specs.Gone.{IsGoneBy}
use Rattle.issue_standings.proofs.StandingLemmas.{gone_exactly}
use Rattle.file_world.specs.declared.operation.Op.{Op}
use Rattle.file_world.specs.Needs.{Need, needs}
use Rattle.access_history.specs.Base.{BaseView}
use Rattle.access_history.specs.Gone.{bearings, gone_naming, gone, IsFirstWithdrawn}
use Rattle.access_history.specs.Numbered.{IsNumbered}
use Rattle.access_history.specs.Admission.{wanted_goal, IsNeedMet, IsAdmitted}
use Rattle.access_history.proofs.ListLemmas.{AllByRecursion-contains}
use Rattle.access_history.proofs.NumberedLemmas.{numbered_item}
use Rattle.access_history.proofs.AdmissionLemmas.{not_gone-admits}

-- what is told of a grant that names no statements is by which number it is gone
pub gone_told : (state : BaseView) (g : GrantView) (number : ℕ) → g.cited ≡ [] → (gone state g ≡ Some number) ↔ IsGoneBy (is_withdrawn state.statements) g (bearings state.issues) number
gone_told state g number unnamed = subst (λ (names : List ℕ). (gone_naming state g names ≡ Some number) ↔ IsGoneBy (is_withdrawn state.statements) g (bearings state.issues) number)
    (sym unnamed) (gone_exactly (is_withdrawn state.statements) g (bearings state.issues) number)

-- ---- the first withdrawn number among some

module _ (withdrawn : ℕ → Bool) where
  found_here_or_later : (test : Bool) (x : ℕ) (xs : List ℕ) (number : ℕ) → withdrawn x ≡ test
      → (find withdrawn xs ≡ Some number → IsFirstWithdrawn withdrawn xs number)
      → cond test (Some x) (find withdrawn xs) ≡ Some number → IsFirstWithdrawn withdrawn (x ∷ xs) number
  found_here_or_later true x xs number is later found = subst (λ (n : ℕ). IsFirstWithdrawn withdrawn (x ∷ xs) n) (same_Some x number found) (record {
    earlier = [];
    later = xs;
    parts = refl;
    stand = tt;
    out = is;
  })
  found_here_or_later false x xs number is later found = let rest = later found in record {
    earlier = x ∷ rest.earlier;
    later = rest.later;
    parts = ap (λ (l : List ℕ). x ∷ l) rest.parts;
    stand = (is, rest.stand);
    out = rest.out;
  }

  first_of_found : (numbers : List ℕ) (number : ℕ) → find withdrawn numbers ≡ Some number → IsFirstWithdrawn withdrawn numbers number
  first_of_found [] number found = absurd cc
  first_of_found (x ∷ xs) number found = found_here_or_later (withdrawn x) x xs number refl (first_of_found xs number) found

  found_behind : (earlier later : List ℕ) (number : ℕ) → AllByRecursion (λ (n : ℕ). withdrawn n ≡ false) earlier → withdrawn number ≡ true
      → find withdrawn (earlier ++ number ∷ later) ≡ Some number
  found_behind [] later number stand out = ap (λ (test : Bool). cond test (Some number) (find withdrawn later)) out
  found_behind (x ∷ xs) later number stand out =
      ap (λ (test : Bool). cond test (Some x) (find withdrawn (xs ++ number ∷ later))) stand.0 ∙ found_behind xs later number stand.1 out

  found_exactly : (numbers : List ℕ) (number : ℕ) → (find withdrawn numbers ≡ Some number) ↔ IsFirstWithdrawn withdrawn numbers number
  found_exactly numbers number = (
    first_of_found numbers number,
    λ first. ap (find withdrawn) first.parts ∙ found_behind first.earlier first.later number first.stand first.out,
  )

told_by_names : (state : BaseView) (g : GrantView) (numbers : List ℕ) (number : ℕ) → 0 < length numbers
    → (gone_naming state g numbers ≡ Some number) ↔ IsFirstWithdrawn (is_withdrawn state.statements) numbers number
told_by_names state g [] number some = absurd (omega arith)
told_by_names state g (n ∷ numbers) number some = found_exactly (is_withdrawn state.statements) (n ∷ numbers) number

-- what is told of a grant that names statements is the first of these that was withdrawn
pub named_told : (state : BaseView) (g : GrantView) (number : ℕ) → AreNamed g.cited
    → (gone state g ≡ Some number) ↔ IsFirstWithdrawn (is_withdrawn state.statements) g.cited number
named_told state g number named = told_by_names state g g.cited number named.some

-- a procap whose grant is gone meets no need
pub gone_denied : (key : List ℕ) (state : BaseView) (caller : List ℕ) (op : Op) (procaps : List Procap) (moment : ℤ) (need : Need) (p : Procap) (number : ℕ)
    → Contains (needs state.world op) need → IsNumbered procaps need.place p → gone state p.grant ≡ Some number
    → IsAdmitted key state caller op procaps moment → ⊥
gone_denied key state caller op procaps moment need p number needed brought told admitted =
    let met : IsNeedMet key state caller procaps moment need = AllByRecursion-contains (IsNeedMet key state caller procaps moment) (needs state.world op) need admitted needed in
    let same : met.procap ≡ p = numbered_item procaps need.place met.procap p met.brought brought in
    let not : gone state met.procap.grant ≡ None = not_gone-admits key state moment (wanted_goal caller need) met.procap met.admits in
    none-some number (sym not ∙ (ap (λ (q : Procap). gone state q.grant) same ∙ told))
