-- Procaps in the words of a line (this project's own).
use Rattle.std.specs.Prelude.{ℕ, List, ◌∷◌}
use Rattle.line_text.specs.HexWord.{IsHex}
use Rattle.procap.specs.declared.procap.Procap.{Procap}
use Rattle.procap.specs.Procap.{procap_spelling, IsSpellableProcap}
use Rattle.line_words.specs.Numbers.{IsLongNumber}
use Rattle.line_words.specs.declared.procap_word.ProcapWord.{ProcapWord}
use Rattle.line_words.specs.declared.procap_word.ProcapWord.TheVariants.{Procap as BySpelling, Issue}

-- the bytes of a procap in hexadecimal
pub record IsProcapHex (word : List ℕ) (p : Procap) : Type 0 where
  pub spelled : IsSpellableProcap p
  pub hex : IsHex word (procap_spelling p)

-- for a procap: an `@` and the number of an issue, or the procap itself
pub data IsProcapWord : List ℕ → ProcapWord → Type 0 where
  by_number : (digits : List ℕ) (number : ℕ) → IsLongNumber digits number →
      IsProcapWord (64 ∷ digits) (Issue number)
  by_spelling : (word : List ℕ) (p : Procap) → IsProcapHex word p → IsProcapWord word (BySpelling p)
