-- Reading a word that is outside its grammar, and how long a word in the grammar is.
use Rattle.std.proofs.Common.{◌≡◌, ◌≤◌, ℕ, List, [], ◌∷◌, length, Bool, refl, arith}
use Rattle.std.specs.Prelude.{Ok, Err, IsTrue, ◌&&◌, nat_le, not}
use Rattle.std.specs.List.{list_all}
use Rattle.std.proofs.lemmas.Bool.{false_from_ne_true, false≢true, and_parts, leb-true}
use Rattle.bl_syntax.specs.declared.codec_fault.CodecFault.TheVariants.{NotCanonical}
use Rattle.bl_syntax.specs.Names.{is_identifier, is_lower_case, is_name_byte, is_principal_name, is_predicate_name, is_among, reserved_words, state_predicates, is_text, is_text_byte}
use Rattle.bl_syntax.specs.Reading.{place, with_length_at, word_at}

pub word_refused : (least most input : ℕ) (is_word : List ℕ → Bool) (bytes word rest : List ℕ) → with_length_at least most input bytes ≡ Ok (word, rest) → (IsTrue (is_word word) → ⊥)
    → word_at least most is_word input bytes ≡ Err (NotCanonical (place input bytes))
unfolding word_at
word_refused least most input is_word bytes word rest found refused = rw (found, false_from_ne_true (is_word word) refused) refl

-- a length from the first number to the second
pub record IsBetween (least most length : ℕ) : Type 0 where
  pub not_below : least ≤ length
  pub not_above : length ≤ most

short_identifier : (name : List ℕ) → IsTrue (is_identifier name) → IsBetween 1 32 (length name)
short_identifier [] h = absurd (false≢true h)
short_identifier (first ∷ others) h =
    let short = leb-true (length others) 31 (and_parts (is_lower_case first && list_all is_name_byte others) (nat_le (length others) 31) h).1 in
    record { not_below = omega arith; not_above = omega arith }

pub short_name : (name : List ℕ) → IsTrue (is_principal_name name) → IsBetween 1 32 (length name)
short_name name h = short_identifier name (and_parts (is_identifier name) (not (is_among reserved_words name)) h).0

pub short_predicate : (name : List ℕ) → IsTrue (is_predicate_name name) → IsBetween 1 32 (length name)
short_predicate name h = short_name name (and_parts (is_principal_name name) (not (is_among state_predicates name)) h).0

pub short_text : (text : List ℕ) → IsTrue (is_text text) → IsBetween 0 128 (length text)
short_text text h = record { not_below = omega arith; not_above = leb-true (length text) 128 (and_parts (list_all is_text_byte text) (nat_le (length text) 128) h).1 }
