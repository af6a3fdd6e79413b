-- Texts that begin alike (this project's own).
use Rattle.std.specs.Prelude.{◌≡◌, ℕ, ◌≤◌, List, Option, Some, None}
use Rattle.bl_tokens.specs.declared.faults.TextFault.{TextFault}
use Rattle.bl_tokens.specs.declared.faults.TextFault.TheVariants.{Unexpected, UnknownName, BadDate, Sort, TooLarge, NoMemory}
use Rattle.bl_tokens.specs.Tokens.{token_from}
use Rattle.proof_text.specs.Cursor.{cursor_at, rule_at, hypothesis_at}

-- the place of a fault; out of memory has none
abbrev pub fault_place : TextFault → Option ℕ
fault_place (Unexpected at) = Some at
fault_place (UnknownName at) = Some at
fault_place (BadDate at) = Some at
fault_place (Sort at) = Some at
fault_place (TooLarge at) = Some at
fault_place NoMemory = None

-- from that byte on both texts have the same next token: in the place of a rule, in that of a
-- hypothesis, and elsewhere
pub record SameNext (text other : List ℕ) (from : ℕ) : Type 0 where
  pub token : (left : ℕ) → token_from text from left ≡ token_from other from left
  pub rule : (left : ℕ) → rule_at text (cursor_at from left) ≡ rule_at other (cursor_at from left)
  pub hypothesis : (left : ℕ) →
      hypothesis_at text (cursor_at from left) ≡ hypothesis_at other (cursor_at from left)

-- so they have from each byte on, up to that one
abbrev pub SameUpTo : List ℕ → List ℕ → ℕ → Type 0
SameUpTo text other at = (from : ℕ) → from ≤ at → SameNext text other from
