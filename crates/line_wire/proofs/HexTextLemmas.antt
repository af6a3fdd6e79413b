-- Bytes that are written piece by piece are written as a whole.
use Rattle.std.proofs.Common.{◌≡◌, ◌/◌, ◌%◌, ◌<◌, ℕ, List, [], ◌∷◌, ◌++◌, length, slice_index, refl, sym, ap, ◌∙◌, arith, append_assoc}
use Rattle.hex.specs.Hex.{encode_with, encode_lower, lower_digits}
use Rattle.bl_syntax.specs.BeginsWith.{BeginsWith}
use Rattle.line_text.specs.HexWord.{hex_word}

pub encode_lower-append : (front behind : List ℕ) → encode_lower (front ++ behind) ≡ encode_lower front ++ encode_lower behind
unfolding encode_with
encode_lower-append [] behind = refl
encode_lower-append (byte ∷ front) behind = ap (λ (digits : List ℕ). slice_index lower_digits (byte / 16) ∷ slice_index lower_digits (byte % 16) ∷ digits) (encode_lower-append front behind)

-- one piece more was written
pub piece_more : (old out whole piece others after : List ℕ) → after ≡ out ++ encode_lower piece → out ++ encode_lower (piece ++ others) ≡ old ++ encode_lower whole → after ++ encode_lower others ≡ old ++ encode_lower whole
piece_more old out whole piece others after added so_far =
    ap (λ (l : List ℕ). l ++ encode_lower others) added ∙ append_assoc out (encode_lower piece) (encode_lower others) ∙ ap (λ (l : List ℕ). out ++ l) (sym (encode_lower-append piece others)) ∙ so_far

-- what was added keeps what stood there before
pub begins_more : (old out more after : List ℕ) → after ≡ out ++ more → BeginsWith out old → BeginsWith after old
begins_more old out more after added h = record { rest = h.rest ++ more; parts = added ∙ ap (λ (l : List ℕ). l ++ more) h.parts ∙ append_assoc old h.rest more }

-- the word for some bytes
pub word_of_some : (bytes : List ℕ) → 0 < length bytes → hex_word bytes ≡ encode_lower bytes
word_of_some [] some = absurd (omega (arith, some))
word_of_some (byte ∷ bytes) some = refl
