-- The number of a statement in a word (this project's own).
use Rattle.std.specs.Prelude.{◌≤◌, ℕ, List}
use Rattle.line_words.specs.Numbers.{IsNumber}

-- the number of a statement, from 1
pub record IsStatementNumber (word : List ℕ) (number : ℕ) : Type 0 where
  pub number_is : IsNumber word number
  pub some : 1 ≤ number
