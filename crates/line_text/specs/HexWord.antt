-- Words of hexadecimal: two lower-case digits for each byte, the high four bits first. The word for
-- no bytes is this project's own.
use Rattle.std.specs.Prelude.{◌≡◌, ℕ, List, [], ◌∷◌, codes, Bool, not, nat_le, ◌&&◌}
use Rattle.std.specs.List.{list_all}
use Rattle.hex.specs.Hex.{IsBytes, encode_lower}

-- the word that is written for these bytes
abbrev pub hex_word : List ℕ → List ℕ
hex_word [] = codes "-"
hex_word (byte ∷ bytes) = encode_lower (byte ∷ bytes)

-- the word is the one for these bytes
pub record IsHex (word bytes : List ℕ) : Type 0 where
  pub in_range : IsBytes bytes
  pub word_is : word ≡ hex_word bytes

-- from `A` to `F`
abbrev pub is_upper_case_digit : ℕ → Bool
is_upper_case_digit byte = nat_le 65 byte && nat_le byte 70

-- none of the bytes is a digit from `A` to `F`
abbrev pub has_no_upper_case : List ℕ → Bool
has_no_upper_case word = list_all (λ byte. not (is_upper_case_digit byte)) word
