-- The token at which a fault is met, by its number, and how many tokens after it are needed to tell
-- it (this project's own). A fault of the grammar is met at its own token, and so is one of size,
-- for which
-- the next token is needed too. A fault of sorts is met at one of four tokens: at the term, if what
-- stands before it asks for a sort; at `<=` or `says`, if that stands after it; at the parenthesis
-- that closes
-- a predicate's arguments; or at a predicate's name without arguments, which the next token shows.
use Rattle.std.specs.Prelude.{◌≡◌, ℕ, ◌+◌, ◌<◌, List, Bool, true, false, ◌||◌}
use Rattle.bl_tokens.specs.declared.faults.TextFault.{TextFault}
use Rattle.bl_tokens.specs.declared.faults.TextFault.TheVariants.{Unexpected, UnknownName, BadDate, Sort, TooLarge}
use Rattle.bl_tokens.specs.declared.tokens.Sign.TheVariants as signs
use Rattle.bl_tokens.specs.declared.tokens.Keyword.TheVariants as keywords
use Rattle.bl_tokens.specs.declared.tokens.Token.{Token}
use Rattle.bl_tokens.specs.declared.tokens.Token.TheVariants as tokens
use Rattle.bl_tokens.specs.declared.tokens.Cursor.{Cursor}
use Rattle.bl_tokens.specs.Tokens.{is_sign, is_word}

-- a fault at that byte that is neither one of sorts nor one of size, nor out of memory
pub data IsMisread (at : ℕ) : TextFault → Type 0 where
  unexpected : IsMisread at (Unexpected at)
  unknown_name : IsMisread at (UnknownName at)
  bad_date : IsMisread at (BadDate at)

-- the signs before which a term's sort is asked for
abbrev pub ends_term : Token → Bool
ends_term token = is_sign signs.UpTo token || is_word keywords.Says token

-- of these tokens one is a predicate's name before `(`, and the other the first `)` after it
pub record IsCallOf (tokens_of : ℕ → Cursor) (first last : ℕ) : Type 0 where
  pub name : List ℕ
  pub named : (tokens_of first).token ≡ tokens.Name name
  pub opened : is_sign signs.Open (tokens_of (first + 1)).token ≡ true
  pub inside : (n : ℕ) → first < n → n < last → is_sign signs.Close (tokens_of n).token ≡ false
  pub closed : is_sign signs.Close (tokens_of last).token ≡ true
  pub ordered : first < last

-- the fault is met at the token with that number. The tokens up to it decide that, and so many
-- after it
pub data IsMetAt (tokens_of : ℕ → Cursor) (number : ℕ) : ℕ → TextFault → Type 0 where
  misread : (e : TextFault) → IsMisread (tokens_of number).at e → IsMetAt tokens_of number 0 e
  at_term : IsMetAt tokens_of number 0 (Sort (tokens_of number).at)
  before_sign : (first : ℕ) → number ≡ first + 1 → ends_term (tokens_of number).token ≡ true
      → IsMetAt tokens_of number 0 (Sort (tokens_of first).at)
  at_close : (first : ℕ) → IsCallOf tokens_of first number
      → IsMetAt tokens_of number 0 (Sort (tokens_of first).at)
  without_arguments : (name : List ℕ) → (tokens_of number).token ≡ tokens.Name name
      → is_sign signs.Open (tokens_of (number + 1)).token ≡ false
      → is_sign signs.UpTo (tokens_of (number + 1)).token ≡ false
      → IsMetAt tokens_of number 1 (Sort (tokens_of number).at)
  at_limit : IsMetAt tokens_of number 1 (TooLarge (tokens_of number).at)

-- how many tokens, from the one at which the fault is met on, the grammar allows after those
-- before: that one, if the fault is one of sorts or size
abbrev pub allowed : TextFault → ℕ
allowed (Sort at) = 1
allowed (TooLarge at) = 1
allowed _ = 0
