-- The grammar of names and text constants. It is this project's own.
use Rattle.std.specs.Prelude.{◌-◌, ℕ, List, [], ◌∷◌, length, codes, Bool, false, not, nat_le, ◌&&◌, ◌||◌, ◌==◌}
use Rattle.std.specs.List.{list_all, list_any}
use Rattle.std.specs.Str.{bytes_eq}
use Rattle.bl_syntax.specs.declared.limits.TheConstants.{LONGEST_WORD, LONGEST_TEXT}

-- from `a` to `z`
abbrev pub is_lower_case : ℕ → Bool
is_lower_case byte = nat_le 97 byte && nat_le byte 122

-- from `A` to `Z`
abbrev pub is_upper_case : ℕ → Bool
is_upper_case byte = nat_le 65 byte && nat_le byte 90

-- from `0` to `9`
abbrev pub is_digit : ℕ → Bool
is_digit byte = nat_le 48 byte && nat_le byte 57

-- what may follow the first byte of a name: a lower-case letter, a digit or `_`
abbrev pub is_name_byte : ℕ → Bool
is_name_byte byte = is_lower_case byte || is_digit byte || (byte == 95)

-- a lower-case letter, and at most 31 further bytes of a name
abbrev pub is_identifier : List ℕ → Bool
is_identifier [] = false
is_identifier (first ∷ others) = is_lower_case first && list_all is_name_byte others && nat_le (length others) (LONGEST_WORD - 1)

-- the words that are no names
abbrev pub reserved_words : List (List ℕ)
reserved_words = codes "forall" ∷ codes "exists" ∷ codes "says" ∷ codes "from" ∷ codes "to" ∷ codes "true" ∷ codes "false" ∷ codes "ctime" ∷ codes "inf"
    ∷ codes "read" ∷ codes "write" ∷ codes "execute" ∷ codes "identity" ∷ codes "govern"
    ∷ codes "principal" ∷ codes "file" ∷ codes "perm" ∷ codes "time" ∷ codes "text" ∷ []

-- the predicates on the server's state, which are no names of other predicates
abbrev pub state_predicates : List (List ℕ)
state_predicates = codes "owner" ∷ codes "has_xattr" ∷ codes "in_dir" ∷ []

-- whether the word is among these
abbrev pub is_among : List (List ℕ) → List ℕ → Bool
is_among words word = list_any (λ w. bytes_eq w word) words

-- whether the bytes name a principal
abbrev pub is_principal_name : List ℕ → Bool
is_principal_name bytes = is_identifier bytes && not (is_among reserved_words bytes)

-- whether the bytes name a predicate
abbrev pub is_predicate_name : List ℕ → Bool
is_predicate_name bytes = is_principal_name bytes && not (is_among state_predicates bytes)

-- a visible byte of ASCII or a space, but neither `"` nor `\`
abbrev pub is_text_byte : ℕ → Bool
is_text_byte byte = nat_le 32 byte && nat_le byte 126 && not (byte == 34) && not (byte == 92)

-- whether the bytes are a text constant: at most 128 of these
abbrev pub is_text : List ℕ → Bool
is_text bytes = list_all is_text_byte bytes && nat_le (length bytes) LONGEST_TEXT
