-- What a search for a byte finds is the place of the first such byte.
use Rattle.std.proofs.Common.{◌≡◌, ℕ, List, length, Option, Some, None, sym, ap, ◌∙◌, arith}
use Rattle.std.specs.Prelude.{position, nat_lt, ◌==◌}
use Rattle.std.proofs.lemmas.Bool.{lt-ltb, le-ltb, cond-true, cond-false, false_from_ne_true}
use Rattle.std.proofs.lemmas.List.Sums.{position_or_len_is}
use Rattle.memchr.specs.Find.{IsFirstByte, is_byte}
use Rattle.line_words.specs.Lengths.{place_of_byte}

pub found_by_search : (stop : ℕ) (line : List ℕ) (result : Option ℕ) → IsFirstByte (is_byte stop) line result → result ≡ position (λ byte. byte == stop) line
found_by_search stop line None nowhere =
    let place : place_of_byte stop line ≡ length line = position_or_len_is (λ byte. byte == stop) line (length line) 0 (omega arith) (λ k below. false_from_ne_true _ (nowhere k (omega arith) below)) (λ inside. absurd (omega arith)) in
    let none : position (λ byte. byte == stop) line ≡ None = cond-false (nat_lt (place_of_byte stop line) (length line)) (Some (place_of_byte stop line)) None (le-ltb (place_of_byte stop line) (length line) (omega (arith, place))) in
    sym none
found_by_search stop line (Some k) found =
    let place : place_of_byte stop line ≡ k = position_or_len_is (λ byte. byte == stop) line k 0 (omega (arith, found.0.high)) (λ j below. false_from_ne_true _ (found.0.before j (omega arith) below)) (λ inside. found.1) in
    let some : position (λ byte. byte == stop) line ≡ Some (place_of_byte stop line) = cond-true (nat_lt (place_of_byte stop line) (length line)) (Some (place_of_byte stop line)) None (lt-ltb (place_of_byte stop line) (length line) (omega (arith, place, found.0.high))) in
    sym (some ∙ ap (λ (n : ℕ). Some n) place)
