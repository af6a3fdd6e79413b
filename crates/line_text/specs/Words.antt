-- The words of a line, which a stop byte ends (this project's own).
use Rattle.std.specs.Prelude.{ℕ, List, [], ◌∷◌, Bool, true, false, not, ◌==◌, IsTrue}
use Rattle.std.specs.List.{list_all}

-- whether the byte stands first
abbrev pub has_first : ℕ → List ℕ → Bool
has_first stop [] = false
has_first stop (byte ∷ bytes) = byte == stop

-- whether a word ends before these bytes: the stop byte stands first, or nothing does
abbrev pub is_word_end : ℕ → List ℕ → Bool
is_word_end stop [] = true
is_word_end stop (byte ∷ bytes) = byte == stop

-- the byte is not in the word
abbrev pub HasNo : ℕ → List ℕ → Type 0
HasNo stop word = IsTrue (list_all (λ byte. not (byte == stop)) word)
