-- Strings of JSON (RFC 8259).
use Rattle.std.specs.Prelude.{ℕ, ◌+◌, ◌/◌, ◌%◌, List, [], ◌∷◌, ◌++◌, codes, ◌==◌, ◌||◌, nat_lt, if◌then◌else◌}
use Rattle.std.specs.List.{flat_map}

-- a digit of hexadecimal
abbrev pub hex_digit : ℕ → ℕ
hex_digit number = if nat_lt number 10 then number + 48 else number + 87

-- a byte as it stands in a string
abbrev pub escaped : ℕ → List ℕ
escaped byte =
    if (byte == 34) || (byte == 92) then 92 ∷ byte ∷ [] else
    if nat_lt byte 32 || nat_lt 126 byte then codes "\\u00" ++ hex_digit (byte / 16) ∷ hex_digit (byte % 16) ∷ [] else
    byte ∷ []

-- these bytes as a string
abbrev pub string_text : List ℕ → List ℕ
string_text bytes = codes "\"" ++ (flat_map escaped bytes ++ codes "\"")
