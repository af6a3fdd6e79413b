-- How long a greeting is.
use Rattle.std.proofs.Common.{◌≡◌, ◌≤◌, ◌*◌, ℕ, List, [], ◌∷◌, length, codes, arith, length-append}
use Rattle.hex.specs.Hex.{lower_digits}
use Rattle.hex.proofs.HexLemmas.{length-encode_with}
use Rattle.line_text.specs.HexWord.{hex_word}
use Rattle.line_text.specs.Greeting.{greeting_text}
use Rattle.nine_fids.specs.Nonce.{greeting}

length-hex_word : (bytes : List ℕ) → 1 ≤ length bytes → length (hex_word bytes) ≡ 2 * length bytes
length-hex_word [] some = absurd (omega (arith, some))
length-hex_word (byte ∷ bytes) some = length-encode_with lower_digits (byte ∷ bytes)

pub length-greeting : (nonce : List ℕ) → length nonce ≡ 16 → length (greeting nonce) ≡ 39
length-greeting nonce count =
    let word = length-hex_word nonce (omega (arith, count)) in
    let text = length-append (codes "hello ") (hex_word nonce) in
    let line = length-append (greeting_text nonce) (10 ∷ []) in
    omega (arith, word, text, line, count)
