-- Whether a word is one of hexadecimal is decided.
use Rattle.std.proofs.Common.{◌≡◌, ℕ, ◌<◌, ◌&&◌, Bool, true, false, List, [], length, Result, Ok, Err, Decides, codes, refl, sym, ◌∙◌, arith, ◌⊎◌, inl, inr}
use Rattle.std.specs.Prelude.{nat_lt}
use Rattle.std.specs.Str.{bytes_eq}
use Rattle.std.proofs.lemmas.Bool.{and_parts, and_from, ltb-true, lt-ltb, false≢true}
use Rattle.std.proofs.lemmas.Slice.Eq.{bytes_eq-Decides}
use Rattle.hex.specs.Hex.{decode_of}
use Rattle.hex.specs.declared.error.FromHexError.{FromHexError}
use Rattle.line_text.specs.HexWord.{IsHex, has_no_upper_case}
use Rattle.line_text.proofs.HexLemmas.{IsHex-nothing, IsHex-form, IsHex-decode_of, decode_of-IsHex}

-- the word writes bytes, or none
abbrev pub DecidesHex : List ℕ → Type 0
DecidesHex word = ((bytes : List ℕ) × IsHex word bytes) ⊎ ((bytes : List ℕ) → IsHex word bytes → ⊥)

decided_digits : (word : List ℕ) → (word ≡ codes "-" → ⊥) → (may : Bool) → (nat_lt 0 (length word) && has_no_upper_case word) ≡ may → (read : Result (List ℕ) FromHexError) → decode_of word ≡ read → DecidesHex word
decided_digits word other false may_is read read_is = inr (λ bytes is.
    let form = IsHex-form word bytes other is in
    let some : 0 < length word = omega arith in
    false≢true (sym may_is ∙ and_from (nat_lt 0 (length word)) (has_no_upper_case word) (lt-ltb 0 (length word) some) form.1))
decided_digits word other true may_is (Ok bytes) read_is =
    let parts = and_parts (nat_lt 0 (length word)) (has_no_upper_case word) may_is in
    inl (bytes, IsHex-decode_of word bytes (ltb-true 0 (length word) parts.0) parts.1 read_is)
decided_digits word other true may_is (Err e) read_is = inr (λ bytes is. let h = decode_of-IsHex word bytes other is in cc)

decided_dash : (word : List ℕ) (dash : Bool) → Decides dash (word ≡ codes "-") → DecidesHex word
decided_dash word true d = inl ([], IsHex-nothing word [] (d.0 refl) refl)
decided_dash word false d = decided_digits word (λ same. false≢true (d.1 same)) (nat_lt 0 (length word) && has_no_upper_case word) refl (decode_of word) refl

pub decided_hex : (word : List ℕ) → DecidesHex word
decided_hex word = decided_dash word (bytes_eq word (codes "-")) (bytes_eq-Decides word (codes "-"))
