-- What is given to a command, as `clap` finds it in the words (this project's own).
use Rattle.std.specs.Prelude.{◌≡◌, ◌≤◌, ℕ, List, codes, Option, Some, None}
use Rattle.clap.specs.Words.{Row, Text, first_of}
use Rattle.line_words.specs.Numbers.{IsLongNumber}
use Rattle.command_words.specs.declared.given.TheConstants.{MOST_PIECES}

-- a number from the one to the other is given under this name, in decimal without leading zeros
pub record GivesNumber (least most : ℕ) (name : Text) (given : List Row) (number : ℕ) : Type 0 where
  pub text : Text
  pub is_given : first_of name given ≡ Some text
  pub says : IsLongNumber text number
  pub not_below : least ≤ number
  pub not_above : number ≤ most

-- how many pieces are asked for: at least 1, or nothing is said
abbrev pub GivesPieces : List Row → Option ℕ → Type 0
GivesPieces given None = first_of (codes "pieces") given ≡ None
GivesPieces given (Some pieces) = GivesNumber 1 MOST_PIECES (codes "pieces") given pieces
