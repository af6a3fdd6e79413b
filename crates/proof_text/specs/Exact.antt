-- The exact place of a proof's fault: a token, at which it can be told, and before which it cannot
-- (this project's own).
use Rattle.std.specs.Prelude.{ℕ, List}
use Rattle.bl_tokens.specs.declared.faults.TextFault.{TextFault}
use Rattle.proof_text.specs.Cursor.{cursor_at, first_byte}
use Rattle.proof_text.specs.SameTokens.{SameUpTo}
use Rattle.proof_text.specs.Sentences.{IsAfterViablePrefix}
use Rattle.proof_text.specs.Texts.{ProofTextFault}

-- the fault stands after words that can be completed to a sentence. Each text with the same tokens
-- up to the fault's has it too
pub record IsExactInProof (text : List ℕ) (e : TextFault) : Type 0 where
  pub prefix : IsAfterViablePrefix text e
  pub same : (other : List ℕ) → SameUpTo text other (first_byte text (cursor_at prefix.behind 0)) →
      ProofTextFault other e
