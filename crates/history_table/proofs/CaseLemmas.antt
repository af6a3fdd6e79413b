-- Numbers, one below the other or not.
use Rattle.std.proofs.Common.{◌≡◌, ◌<◌, ◌≤◌, ◌⊎◌, ℕ, inl, inr, ⊎_elim, arith, ltb}
use Rattle.std.proofs.lemmas.Bool.{cases_Bool, ltb-true, ltb-false}

pub below_or_from : (a b : ℕ) → (a < b) ⊎ (b ≤ a)
below_or_from a b = ⊎_elim (λ t. inl (ltb-true a b t)) (λ f. inr (ltb-false a b f)) (cases_Bool (ltb a b))

pub within_or_past : (a b : ℕ) → (a ≤ b) ⊎ (b < a)
within_or_past a b = ⊎_elim (λ lt. inr lt) (λ le. inl le) (below_or_from b a)

pub after_or_same : (a b : ℕ) → a ≤ b → (a < b) ⊎ (a ≡ b)
after_or_same a b within = ⊎_elim (λ lt. inl lt) (λ le. inr (omega (arith, within, le))) (below_or_from a b)

pub same_or_not : (a b : ℕ) → (a ≡ b) ⊎ (a ≡ b → ⊥)
same_or_not a b =
    ⊎_elim
    (λ lt. inr (λ same. omega (arith, lt, same)))
    (λ le. ⊎_elim (λ gt. inr (λ same. omega (arith, gt, same))) (λ ge. inl (omega (arith, le, ge))) (below_or_from b a))
    (below_or_from a b)
