-- A word of hexadecimal is read as the bytes for which it is written.
use Rattle.std.proofs.Common.{◌≡◌, ℕ, zero, suc, ◌+◌, ◌*◌, ◌/◌, ◌%◌, ◌<◌, ◌==◌, Bool, true, false, not, cond, ◌&&◌, List, [], ◌∷◌, length, slice_index, Option, MatchOption, Some, None, unwrap_or, Result, Ok, Err, is_some, IsTrue, codes, refl, sym, ap, ◌∙◌, arith, inl, inr}
use Rattle.std.specs.Result.{result_unwrap_or}
use Rattle.std.specs.List.{list_all}
use Rattle.std.proofs.lemmas.Bool.{and_parts, and_from, cases_lt, eqb-true, false≢true}
use Rattle.hex.specs.Hex.{IsBytes, decode_of, decode_pairs, digit_or_error, hex_digit_value, encode_lower, encode_with, lower_digits, pair_value, value_at, ◌>>=◌}
use Rattle.hex.specs.declared.error.FromHexError.{FromHexError}
use Rattle.hex.proofs.HexLemmas.{length-encode_with, decode_of-encode_lower, decode_of-same, decode_of-ok, decode_of-even}
use Rattle.line_text.specs.HexWord.{hex_word, IsHex, is_upper_case_digit, has_no_upper_case}

-- ---- digits

-- the digit is an upper-case letter, or the lower-case digit of its value, or none
abbrev is_lower_digit : ℕ → Bool
is_lower_digit c = cond (is_upper_case_digit c) true (cond (is_some (hex_digit_value c)) (slice_index lower_digits (unwrap_or (hex_digit_value c) 0) == c) true)

abbrev are_lower_digits : ℕ → Bool
are_lower_digits zero = true
are_lower_digits (suc n) = is_lower_digit n && are_lower_digits n

are_lower_digits-at : (n c : ℕ) → are_lower_digits n ≡ true → c < n → is_lower_digit c ≡ true
are_lower_digits-at zero c h lt = absurd (omega arith)
are_lower_digits-at (suc n) c h lt =
    let parts = and_parts (is_lower_digit n) (are_lower_digits n) h in
    elim (cases_lt c n) [
      | inl below ↦ are_lower_digits-at n c parts.1 below
      | inr top ↦
          let e : c ≡ n = omega arith in
          rw e parts.0
    ]

hex_digit_value-range : (c v : ℕ) → hex_digit_value c ≡ Some v → (c < 103) × (v < 16)
hex_digit_value-range c v h = (grind (arith), grind (arith))

not_upper : (upper : Bool) → IsTrue (not upper) → upper ≡ false
not_upper true h = absurd (false≢true h)
not_upper false h = refl

lower_digit_test : (upper : Bool) (o : Option ℕ) (c v : ℕ) → cond upper true (cond (is_some o) (slice_index lower_digits (unwrap_or o 0) == c) true) ≡ true
    → upper ≡ false → o ≡ Some v → (slice_index lower_digits v == c) ≡ true
lower_digit_test upper o c v test lower is_value = rw (lower, is_value) at test

lower_digit : (c v : ℕ) → hex_digit_value c ≡ Some v → IsTrue (not (is_upper_case_digit c)) → slice_index lower_digits v ≡ c
lower_digit c v h lower =
    let test = are_lower_digits-at 103 c refl (hex_digit_value-range c v h).0 in
    eqb-true (slice_index lower_digits v) c (lower_digit_test (is_upper_case_digit c) (hex_digit_value c) c v test (not_upper (is_upper_case_digit c) lower) h)

-- ---- what decodes

bind_ok : {A B : Type 0} (r : Result A FromHexError) (f : A → Result B FromHexError) (y : B)
    → (r >>= f) ≡ Ok y → (x : A) × (r ≡ Ok x) × (f x ≡ Ok y)
bind_ok (Ok x) f y h = (x, refl, h)
bind_ok (Err e) f y h = cc h

digit_read : (c i : ℕ) (o : Option ℕ) (v : ℕ) → digit_or_error c i o ≡ Ok v → o ≡ Some v
digit_read c i (Some w) v h = cc h
digit_read c i None v h = cc h

-- two lower-case digits are those of their byte
pub record IsPair (high low byte : ℕ) : Type 0 where
  pub high_is : slice_index lower_digits (byte / 16) ≡ high
  pub low_is : slice_index lower_digits (byte % 16) ≡ low

IsPair-from_pair_value : (high low i byte : ℕ) → pair_value high low i ≡ Ok byte → IsTrue (not (is_upper_case_digit high)) → IsTrue (not (is_upper_case_digit low)) → IsPair high low byte
IsPair-from_pair_value high low i byte h high_lower low_lower =
    let first = bind_ok (value_at high i) _ byte h in
    let second = bind_ok (value_at low (i + 1)) _ byte first.2 in
    let high_read = digit_read high i (hex_digit_value high) first.0 first.1 in
    let low_read = digit_read low (i + 1) (hex_digit_value low) second.0 second.1 in
    let high_range = (hex_digit_value-range high first.0 high_read).1 in
    let low_range = (hex_digit_value-range low second.0 low_read).1 in
    let byte_is : first.0 * 16 + second.0 ≡ byte = ap (λ (r : Result ℕ FromHexError). result_unwrap_or r 0) second.2 in
    let high_part : byte / 16 ≡ first.0 = omega arith in
    let low_part : byte % 16 ≡ second.0 = omega arith in
    record {
      high_is = ap (slice_index lower_digits) high_part ∙ lower_digit high first.0 high_read high_lower;
      low_is = ap (slice_index lower_digits) low_part ∙ lower_digit low second.0 low_read low_lower;
    }

encode_lower-decode_pairs : (i : ℕ) (s bytes : List ℕ) → decode_pairs i s ≡ Ok bytes → IsTrue (has_no_upper_case s) → encode_lower bytes ≡ s
unfolding decode_pairs encode_with
encode_lower-decode_pairs i [] bytes h lower =
    let e : [] ≡ bytes = ap (λ (r : Result (List ℕ) FromHexError). result_unwrap_or r []) h in
    rw (sym e) refl
encode_lower-decode_pairs i (a ∷ []) bytes h lower = cc h
encode_lower-decode_pairs i (a ∷ b ∷ rest) bytes h lower =
    let pair = bind_ok (pair_value a b i) _ bytes h in
    let others = bind_ok (decode_pairs (i + 2) rest) _ bytes pair.2 in
    let bytes_are : pair.0 ∷ others.0 ≡ bytes = ap (λ (r : Result (List ℕ) FromHexError). result_unwrap_or r []) others.2 in
    let first = and_parts (not (is_upper_case_digit a)) (has_no_upper_case (b ∷ rest)) lower in
    let second = and_parts (not (is_upper_case_digit b)) (has_no_upper_case rest) first.1 in
    let is_pair = IsPair-from_pair_value a b i pair.0 pair.1 first.0 second.0 in
    let ih = encode_lower-decode_pairs (i + 2) rest others.0 others.1 second.1 in
    rw (sym bytes_are, is_pair.high_is, is_pair.low_is, ih) refl

-- ---- what is written

-- each of the first n digits has the property
abbrev pub all_digits : (ℕ → Bool) → ℕ → Bool
all_digits p zero = true
all_digits p (suc n) = p (slice_index lower_digits n) && all_digits p n

all_digits-at : (p : ℕ → Bool) (n d : ℕ) → all_digits p n ≡ true → d < n → IsTrue (p (slice_index lower_digits d))
all_digits-at p zero d h lt = absurd (omega arith)
all_digits-at p (suc n) d h lt =
    let parts = and_parts (p (slice_index lower_digits n)) (all_digits p n) h in
    elim (cases_lt d n) [
      | inl below ↦ all_digits-at p n d parts.1 below
      | inr top ↦
          let e : d ≡ n = omega arith in
          rw e parts.0
    ]

list_all-encode_lower : (p : ℕ → Bool) → all_digits p 16 ≡ true → (bytes : List ℕ) → IsBytes bytes → IsTrue (list_all p (encode_lower bytes))
unfolding encode_with
list_all-encode_lower p digits [] h = refl
list_all-encode_lower p digits (byte ∷ bytes) h =
    let fits : byte < 256 = h 0 in
    let rest = list_all-encode_lower p digits bytes (λ i. h (suc i)) in
    and_from _ _ (all_digits-at p 16 (byte / 16) digits (omega arith)) (and_from _ _ (all_digits-at p 16 (byte % 16) digits (omega arith)) rest)

-- no lower-case digit is an upper-case letter
has_no_upper_case-encode_lower : (bytes : List ℕ) → IsBytes bytes → IsTrue (has_no_upper_case (encode_lower bytes))
has_no_upper_case-encode_lower bytes h = list_all-encode_lower (λ byte. not (is_upper_case_digit byte)) refl bytes h

-- ---- the word of bytes

pub IsHex-nothing : (word bytes : List ℕ) → word ≡ codes "-" → bytes ≡ [] → IsHex word bytes
IsHex-nothing word bytes word_is nothing = rw (word_is, nothing) (record { in_range = λ i. omega arith; word_is = refl })

odd_word : (byte : ℕ) (bytes word : List ℕ) → word ≡ encode_lower (byte ∷ bytes) → length word ≡ 1 → ⊥
odd_word byte bytes word h one =
    let len = length-encode_with lower_digits (byte ∷ bytes) in
    let same = ap length h in
    omega (arith, len, same)

pub only_nothing : (word bytes : List ℕ) → word ≡ codes "-" → IsHex word bytes → bytes ≡ []
only_nothing word [] h is = refl
only_nothing word (byte ∷ bytes) h is = absurd (odd_word byte bytes word is.word_is (ap length h))

-- a word that is not `-` is read as the pairs of its digits
pub decode_of-IsHex : (word bytes : List ℕ) → (word ≡ codes "-" → ⊥) → IsHex word bytes → decode_of word ≡ Ok bytes
decode_of-IsHex word [] other is = absurd (other is.word_is)
decode_of-IsHex word (byte ∷ bytes) other is = rw is.word_is (decode_of-encode_lower (byte ∷ bytes) is.in_range)

not_dash : (word bytes : List ℕ) (byte : ℕ) → IsHex word (byte ∷ bytes) → word ≡ codes "-" → ⊥
not_dash word bytes byte is dash = let nothing = only_nothing word (byte ∷ bytes) dash is in cc

-- a word is that of one list of bytes
pub IsHex-same : (word a b : List ℕ) → IsHex word a → IsHex word b → a ≡ b
IsHex-same word [] b first second = sym (only_nothing word b first.word_is second)
IsHex-same word (x ∷ a) [] first second = only_nothing word (x ∷ a) second.word_is first
IsHex-same word (x ∷ a) (y ∷ b) first second =
    let other = not_dash word a x first in
    decode_of-same word (x ∷ a) (y ∷ b) (decode_of-IsHex word (x ∷ a) other first) (decode_of-IsHex word (y ∷ b) other second)

-- such a word has a `-` or digits alone
pub IsHex-all : (p : ℕ → Bool) → p 45 ≡ true → all_digits p 16 ≡ true → (word bytes : List ℕ) → IsHex word bytes → IsTrue (list_all p word)
IsHex-all p dash digits word [] is = rw is.word_is (and_from (p 45) true dash refl)
IsHex-all p dash digits word (byte ∷ bytes) is = rw is.word_is (list_all-encode_lower p digits (byte ∷ bytes) is.in_range)

-- such a word is not empty, and has no upper-case letter
pub IsHex-form : (word bytes : List ℕ) → (word ≡ codes "-" → ⊥) → IsHex word bytes → (1 < length word) × IsTrue (has_no_upper_case word)
IsHex-form word [] other is = absurd (other is.word_is)
IsHex-form word (byte ∷ bytes) other is =
    let len = length-encode_with lower_digits (byte ∷ bytes) in
    let same = ap length is.word_is in
    (omega (arith, len, same), rw is.word_is (has_no_upper_case-encode_lower (byte ∷ bytes) is.in_range))

spelled : (word bytes : List ℕ) → 0 < length word → length word ≡ 2 * length bytes → encode_lower bytes ≡ word → word ≡ hex_word bytes
spelled word [] some len h = absurd (omega arith)
spelled word (byte ∷ bytes) some len h = sym h

pub IsHex-decode_of : (word bytes : List ℕ) → 0 < length word → IsTrue (has_no_upper_case word) → decode_of word ≡ Ok bytes → IsHex word bytes
IsHex-decode_of word bytes some lower h =
    let ok = decode_of-ok word bytes h in
    let written = encode_lower-decode_pairs 0 word bytes (sym (decode_of-even word ok.0) ∙ h) lower in
    record { in_range = ok.3; word_is = spelled word bytes some ok.2 written }

-- ---- what a reading of a word answers

-- a word that is not `-`, and empty or with an upper-case letter, is none
pub none_refused : (word : List ℕ) (may : Bool) → (word ≡ codes "-" → ⊥) → (((0 < length word) × IsTrue (has_no_upper_case word)) → may ≡ true) → may ≡ false → (bytes : List ℕ) → IsHex word bytes → ⊥
none_refused word may other may_be refused bytes is =
    let form = IsHex-form word bytes other is in
    false≢true (sym refused ∙ may_be (omega arith, form.1))

-- such a word is read as what it decodes to
pub reads_word : (word : List ℕ) (read : Option (List ℕ)) → (word ≡ codes "-" → ⊥) → 0 < length word → IsTrue (has_no_upper_case word)
    → MatchOption read ((bytes : List ℕ) → decode_of word ≡ Ok bytes → ⊥) (λ bytes. decode_of word ≡ Ok bytes)
    → MatchOption read ((bytes : List ℕ) → IsHex word bytes → ⊥) (IsHex word) × ((bytes : List ℕ) → IsHex word bytes → read ≡ Some bytes)
reads_word word None other some lower h = (λ bytes is. h bytes (decode_of-IsHex word bytes other is), λ bytes is. absurd (h bytes (decode_of-IsHex word bytes other is)))
reads_word word (Some read) other some lower h = (IsHex-decode_of word read some lower h, λ bytes is. ap Some (decode_of-same word read bytes h (decode_of-IsHex word bytes other is)))
