-- Entries under numbers, and beginnings of lists.
use Rattle.std.proofs.Common.{◌≡◌, ◌≢◌, ℕ, List, [], ◌∷◌, ◌++◌, cond, eq-eqb, ne_eqb, refl, sym, ap, ◌∙◌, append_assoc, append-nil}
use mathlib.Core.Logic.{dite}
use mathlib.Core.List.{IsPrefix}
use native.Mathlib.Decide.{ℕ_discrete}
use Rattle.tree_lock.specs.Entries.{of_number, AllOfNumber}

module _ {E : Type 0} where
  pub of_number-here : (n : ℕ) (e : ℕ × E) (es : List (ℕ × E)) → e.0 ≡ n → of_number n (e ∷ es) ≡ e ∷ of_number n es
  of_number-here n e es is = ap (λ b. cond b (e ∷ of_number n es) (of_number n es)) (eq-eqb e.0 n is)

  pub of_number-else : (n : ℕ) (e : ℕ × E) (es : List (ℕ × E)) → e.0 ≢ n → of_number n (e ∷ es) ≡ of_number n es
  of_number-else n e es ne = ap (λ b. cond b (e ∷ of_number n es) (of_number n es)) (ne_eqb e.0 n ne)

  pub of_number-append : (n : ℕ) (xs ys : List (ℕ × E)) → of_number n (xs ++ ys) ≡ of_number n xs ++ of_number n ys
  of_number-append n [] ys = refl
  of_number-append n (x ∷ xs) ys = dite (ℕ_discrete x.0 n)
      (λ is. of_number-here n x (xs ++ ys) is ∙ ap (λ l. x ∷ l) (of_number-append n xs ys) ∙ sym (ap (λ l. l ++ of_number n ys) (of_number-here n x xs is)))
      (λ ne. of_number-else n x (xs ++ ys) ne ∙ of_number-append n xs ys ∙ sym (ap (λ l. l ++ of_number n ys) (of_number-else n x xs ne)))

  pub of_number-all : (n : ℕ) (es : List (ℕ × E)) → AllOfNumber n es → of_number n es ≡ es
  of_number-all n [] all = refl
  of_number-all n (e ∷ es) all = of_number-here n e es all.0 ∙ ap (λ l. e ∷ l) (of_number-all n es all.1)

  pub of_number-none : (n m : ℕ) (es : List (ℕ × E)) → m ≢ n → AllOfNumber m es → of_number n es ≡ []
  of_number-none n m [] ne all = refl
  of_number-none n m (e ∷ es) ne all = of_number-else n e es (λ is. ne (sym all.0 ∙ is)) ∙ of_number-none n m es ne all.1

  -- entries under another number change nothing
  pub of_number-others : (n m : ℕ) (history added : List (ℕ × E)) → m ≢ n → AllOfNumber m added → of_number n (history ++ added) ≡ of_number n history
  of_number-others n m history added ne all =
      of_number-append n history added ∙ ap (λ l. of_number n history ++ l) (of_number-none n m added ne all) ∙ append-nil (of_number n history)

  pub of_number-added : (n : ℕ) (history added : List (ℕ × E)) → AllOfNumber n added → of_number n (history ++ added) ≡ of_number n history ++ added
  of_number-added n history added all = of_number-append n history added ∙ ap (λ l. of_number n history ++ l) (of_number-all n added all)

module _ {A : Type 0} where
  pub prefix_refl : (xs : List A) → IsPrefix xs xs
  prefix_refl xs = ([], append-nil xs)

  pub prefix_nil : (xs : List A) → IsPrefix [] xs
  prefix_nil xs = (xs, refl)

  pub prefix_append : (xs ys : List A) → IsPrefix xs (xs ++ ys)
  prefix_append xs ys = (ys, refl)

  pub prefix_trans : (xs ys zs : List A) → IsPrefix xs ys → IsPrefix ys zs → IsPrefix xs zs
  prefix_trans xs ys zs p q = (p.0 ++ q.0, sym (append_assoc xs p.0 q.0) ∙ ap (λ l. l ++ q.0) p.1 ∙ q.1)

  -- a beginning of a list begins a longer one
  pub prefix_more : (xs ys more : List A) → IsPrefix xs ys → IsPrefix xs (ys ++ more)
  prefix_more xs ys more p = prefix_trans xs ys (ys ++ more) p (prefix_append ys more)
