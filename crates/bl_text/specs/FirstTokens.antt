-- The tokens of a text by their numbers, and texts that begin with the same tokens (this project's
-- own).
use Rattle.std.specs.Prelude.{◌≡◌, ℕ, zero, suc, List}
use Rattle.bl_tokens.specs.declared.tokens.Cursor.{Cursor}
use Rattle.bl_tokens.specs.Tokens.{token_from}

-- the byte after so many tokens from that byte on
abbrev pub behind_tokens : List ℕ → ℕ → ℕ → ℕ
behind_tokens text zero from = from
behind_tokens text (suc n) from = behind_tokens text n (token_from text from 0).end

-- the token with that number, from 0 on
abbrev pub token_number : List ℕ → ℕ → Cursor
token_number text n = token_from text (behind_tokens text n 0) 0

-- from that byte on so many tokens are the same in both texts, at the same places
abbrev pub SameTokens : List ℕ → List ℕ → ℕ → ℕ → Type 0
SameTokens text other zero from = Unit {0}
SameTokens text other (suc n) from = (token_from text from 0 ≡ token_from other from 0) ×
    SameTokens text other n (token_from text from 0).end
