-- The words of a line (this project's own): a space ends a word, but not between quotes. A word
-- that begins with a quote reaches to the next quote, and on to the next space.
use Rattle.std.specs.Prelude.{ℕ, List, [], ◌∷◌, Bool, false, ◌==◌, if◌then◌else◌}

-- where in a word a byte stands: first in it, between quotes, or elsewhere
pub data Position : Type 0 where
  beginning : Position
  quoted : Position
  plain : Position

-- whether the byte ends the word
abbrev pub ends : Position → ℕ → Bool
ends beginning byte = byte == 32
ends quoted byte = false
ends plain byte = byte == 32

-- where the byte after it stands
abbrev pub next : Position → ℕ → Position
next beginning byte = if byte == 34 then quoted else plain
next quoted byte = if byte == 34 then plain else quoted
next plain byte = plain

-- a word, and what stands after it: a space and the rest of the line, or nothing
pub record Cut : Type 0 where
  pub word : List ℕ
  pub behind : List ℕ

-- the byte before the word
abbrev pub with_byte : ℕ → Cut → Cut
with_byte byte cut = record { word = byte ∷ cut.word; behind = cut.behind }

-- the rest of a word, from that position on, and what stands after it
abbrev pub cut_from : Position → List ℕ → Cut
cut_from position [] = record { word = []; behind = [] }
cut_from position (byte ∷ bytes) = if ends position byte then record {
  word = [];
  behind = byte
      ∷ bytes;
} else with_byte byte (cut_from (next position byte) bytes)

-- the first word of a line
abbrev pub first_cut : List ℕ → Cut
first_cut line = cut_from beginning line
