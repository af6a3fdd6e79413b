-- Lemmas on hypotheses by their numbers.
use Rattle.std.proofs.Common.{◌≡◌, ℕ, zero, suc, ◌+◌, ◌≤◌, Bool, true, false, List, [], ◌∷◌, ◌++◌, map, length, refl, ap, sym, ◌∙◌, arith}
use Rattle.std.proofs.lemmas.List.{length-map, length-append}
use Rattle.std.specs.Prelude.{Option, Some, None, option_and_then}
use Rattle.std.specs.List.{slice_get}
use Rattle.bl_rules.specs.Sequent.{Hypothesis, holds, claims}
use Rattle.proof_verifier.specs.Sequent.{unless_truth}
use Rattle.proof_verifier.specs.Hypotheses.{left_at, struck_if}

pub slice_get-last : {A : Type 0} (xs : List A) (x : A) (h : ℕ) → h ≡ length xs → slice_get (xs ++ x ∷ []) h ≡ Some x
slice_get-last [] x zero e = refl
slice_get-last [] x (suc h) e = absurd (omega (arith, e))
slice_get-last (y ∷ xs) x zero e = absurd (omega (arith, e))
slice_get-last (y ∷ xs) x (suc h) e = slice_get-last xs x h (omega (arith, e))

pub left_at-struck : (xs : List (Option Hypothesis)) (h : ℕ) → left_at (map unless_truth xs) h ≡ unless_truth (left_at xs h)
left_at-struck [] h = refl
left_at-struck (x ∷ xs) zero = refl
left_at-struck (x ∷ xs) (suc h) = left_at-struck xs h

-- struck out once or twice
pub unless_truth-twice : (struck : Bool) (x : Option Hypothesis) → struck_if struck (unless_truth x) ≡ unless_truth x
unless_truth-twice true None = refl
unless_truth-twice true (Some (holds a u v)) = refl
unless_truth-twice true (Some (claims k a u v)) = refl
unless_truth-twice false x = refl

-- the newest hypothesis
pub found_last : (xs : List (Option Hypothesis)) (x : Hypothesis) (newer : ℕ) (struck : Bool) (found : Option Hypothesis)
    → newer ≤ 0 → found ≡ struck_if struck (Some x)
    → (h : ℕ) → h + newer + 1 ≡ length (xs ++ Some x ∷ []) → found ≡ struck_if struck (left_at (xs ++ Some x ∷ []) h)
found_last xs x newer struck found none same h e =
    let here : h ≡ length xs = omega (arith, length-append xs (Some x ∷ [])) in
    same ∙ sym (ap (λ (o : Option (Option Hypothesis)). struck_if struck (option_and_then (λ (left : Option Hypothesis). left) o)) (slice_get-last xs (Some x) h here))

-- a hypothesis before the truths were struck out
pub found_struck : (xs : List (Option Hypothesis)) (newer : ℕ) (struck : Bool) (found : Option Hypothesis)
    → ((h : ℕ) → h + newer + 1 ≡ length xs → found ≡ struck_if true (left_at xs h))
    → (h : ℕ) → h + newer + 1 ≡ length (map unless_truth xs) → found ≡ struck_if struck (left_at (map unless_truth xs) h)
found_struck xs newer struck found before h e =
    before h (e ∙ length-map xs unless_truth) ∙ sym (ap (struck_if struck) (left_at-struck xs h) ∙ unless_truth-twice struck (left_at xs h))
