-- Entries, each under the number of the pass whose job appended it. This project's own.
use Rattle.std.specs.Prelude.{◌≡◌, ℕ, List, [], ◌∷◌, ◌++◌, cond, ◌==◌}

module _ {E : Type 0} where
  -- the entries under a number, in their order
  abbrev pub of_number : ℕ → List (ℕ × E) → List (ℕ × E)
  of_number n [] = []
  of_number n (e ∷ es) = cond (e.0 == n) (e ∷ of_number n es) (of_number n es)

  -- each of the entries is under this number
  abbrev pub AllOfNumber : ℕ → List (ℕ × E) → Type 0
  AllOfNumber n [] = Unit {0}
  AllOfNumber n (e ∷ es) = (e.0 ≡ n) × AllOfNumber n es

  -- the entries after are those before, and then some under this number
  pub record Appends (n : ℕ) (before after : List (ℕ × E)) : Type 0 where
    pub added : List (ℕ × E)
    pub is : after ≡ before ++ added
    pub of_number : AllOfNumber n added
