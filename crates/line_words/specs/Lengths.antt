-- How long a word is, by the places of quotes and spaces.
use Rattle.std.specs.Prelude.{ℕ, List, [], ◌∷◌, ◌+◌, ◌==◌, if◌then◌else◌, drop}
use Rattle.std.specs.List.{position_or_len}

-- the place of the first such byte, or the length
abbrev pub place_of_byte : ℕ → List ℕ → ℕ
place_of_byte stop line = position_or_len (λ byte. byte == stop) line

-- the place of the quote that ends the quoted part of the first word, or the length; 0 for a word
-- that begins with no quote
abbrev pub closing_place : List ℕ → ℕ
closing_place [] = 0
closing_place (first ∷ others) = if first == 34 then 1 + place_of_byte 34 others else 0

-- the length of the first word
abbrev pub first_len : List ℕ → ℕ
first_len line = closing_place line + place_of_byte 32 (drop (closing_place line) line)
