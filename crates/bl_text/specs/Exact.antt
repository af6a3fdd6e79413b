-- The exact place of a text's fault: one token of the text, at which it can be told, and before
-- which it cannot (this project's own).
use Rattle.std.specs.Prelude.{ℕ, ◌+◌, List, ◌++◌}
use Rattle.bl_tokens.specs.declared.faults.TextFault.{TextFault}
use Rattle.bl_tokens.specs.declared.tokens.Token.{Token}
use Rattle.bl_text.specs.FirstTokens.{token_number, SameTokens}
use Rattle.bl_text.specs.Met.{IsMetAt, allowed}
use Rattle.bl_text.specs.Sentences.{first_tokens}

-- the fault is met at the token with that number. The tokens before it can be completed to a
-- sentence, and with it too, where the fault is one of sorts or size. Each text with the same
-- tokens up to it, and
-- the same one after it where that is needed, has the fault too
pub record IsExact (HasFault : List ℕ → TextFault → Type 0) (IsOne : List Token → Type 0) (text : List ℕ) (e : TextFault) : Type 0 where
  pub number : ℕ
  pub ahead : ℕ
  pub met : IsMetAt (token_number text) number ahead e
  pub others : List Token
  pub sentence : IsOne (first_tokens text (number + allowed e) 0 ++ others)
  pub same : (other : List ℕ) → SameTokens text other (number + 1 + ahead) 0 → HasFault other e
