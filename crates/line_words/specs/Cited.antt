-- The numbers of cited statements in a word of a line (this project's own).
use Rattle.std.specs.Prelude.{◌≡◌, ℕ, List, [], ◌∷◌, ◌++◌}
use Rattle.bl_syntax.specs.Citable.{AreCitable}
use Rattle.line_words.specs.Numbers.{IsNumber}

-- numbers with commas between them
pub data AreJoined : List ℕ → List ℕ → Type 0 where
  one_number : (word : List ℕ) (number : ℕ) → IsNumber word number → AreJoined word (number ∷ [])
  more_numbers : (word others : List ℕ) (number : ℕ) (numbers : List ℕ) → IsNumber word number →
      AreJoined others numbers → AreJoined (word ++ 44 ∷ others) (number ∷ numbers)

-- the numbers of statements that may be cited together
pub record IsCited (word : List ℕ) (numbers : List ℕ) : Type 0 where
  pub joined : AreJoined word numbers
  pub citable : AreCitable numbers

-- the numbers of the word were added
pub record AreAdded (word before after : List ℕ) : Type 0 where
  pub numbers : List ℕ
  pub joined : AreJoined word numbers
  pub after_is : after ≡ before ++ numbers
