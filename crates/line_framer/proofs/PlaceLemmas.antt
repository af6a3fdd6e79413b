-- The first end of a line, by its place.
use Rattle.std.proofs.Common.{◌≡◌, ◌≤◌, ◌<◌, ◌+◌, ℕ, Bool, true, false, cond, List, ◌∷◌, ◌++◌, get_or, length, take, drop, Option, Some, None, MatchOption, refl, sym, ap, ◌∙◌, subst, arith}
use Rattle.std.specs.Prelude.{position, nat_lt, ◌==◌}
use Rattle.std.proofs.lemmas.Bool.{ltb-true, ltb-false, eqb-true, lt-ltb, le-ltb, cond-true, cond-false, false_from_ne_true}
use Rattle.std.proofs.lemmas.List.Sums.{split_at_first, passes_at_first, position_or_len_is}
use Rattle.std.proofs.lemmas.List.{take_all}
use Rattle.memchr.specs.Find.{IsFirstByte, is_byte}
use Rattle.line_text.specs.Words.{HasNo}
use Rattle.line_text.proofs.WordLemmas.{stop_place, HasNo-front}
use Rattle.line_framer.specs.Framing.{IsFirst}

abbrev EndsAt : List ℕ → ℕ → Type 0
EndsAt bytes end = (end < length bytes) × IsFirst bytes (take end bytes) (drop (end + 1) bytes)

at_place : (bytes : List ℕ) → stop_place 10 bytes < length bytes → EndsAt bytes (stop_place 10 bytes)
at_place bytes inside =
    let place = stop_place 10 bytes in
    let byte : get_or bytes place 0 ≡ 10 = eqb-true (get_or bytes place 0) 10 (passes_at_first (λ byte. byte == 10) bytes 0 inside) in
    (inside, record { parts = split_at_first (λ byte. byte == 10) bytes 0 inside ∙ ap (λ (b : ℕ). take place bytes ++ b ∷ drop (place + 1) bytes) byte; one = HasNo-front 10 bytes })

no_place : (bytes : List ℕ) → length bytes ≤ stop_place 10 bytes → HasNo 10 bytes
no_place bytes past = subst (HasNo 10) (take_all (stop_place 10 bytes) bytes past) (HasNo-front 10 bytes)

by_test : (bytes : List ℕ) (inside : Bool) → nat_lt (stop_place 10 bytes) (length bytes) ≡ inside → MatchOption (cond inside (Some (stop_place 10 bytes)) None) (HasNo 10 bytes) (EndsAt bytes)
by_test bytes true is = at_place bytes (ltb-true (stop_place 10 bytes) (length bytes) is)
by_test bytes false is = no_place bytes (ltb-false (stop_place 10 bytes) (length bytes) is)

pub end_at : (bytes : List ℕ) (result : Option ℕ) → result ≡ position (λ byte. byte == 10) bytes → MatchOption result (HasNo 10 bytes) (EndsAt bytes)
end_at bytes result is = subst (λ (r : Option ℕ). MatchOption r (HasNo 10 bytes) (EndsAt bytes)) (sym is) (by_test bytes (nat_lt (stop_place 10 bytes) (length bytes)) refl)

-- what a search for a byte finds is the place of the first such byte
pub found_by_search : (stop : ℕ) (bytes : List ℕ) (result : Option ℕ) → IsFirstByte (is_byte stop) bytes result → result ≡ position (λ byte. byte == stop) bytes
found_by_search stop bytes None nowhere =
    let place : stop_place stop bytes ≡ length bytes = position_or_len_is (λ byte. byte == stop) bytes (length bytes) 0 (omega arith) (λ k below. false_from_ne_true _ (nowhere k (omega arith) below)) (λ inside. absurd (omega arith)) in
    let none : position (λ byte. byte == stop) bytes ≡ None = cond-false (nat_lt (stop_place stop bytes) (length bytes)) (Some (stop_place stop bytes)) None (le-ltb (stop_place stop bytes) (length bytes) (omega (arith, place))) in
    sym none
found_by_search stop bytes (Some k) found =
    let place : stop_place stop bytes ≡ k = position_or_len_is (λ byte. byte == stop) bytes k 0 (omega (arith, found.0.high)) (λ j below. false_from_ne_true _ (found.0.before j (omega arith) below)) (λ inside. found.1) in
    let some : position (λ byte. byte == stop) bytes ≡ Some (stop_place stop bytes) = cond-true (nat_lt (stop_place stop bytes) (length bytes)) (Some (stop_place stop bytes)) None (lt-ltb (stop_place stop bytes) (length bytes) (omega (arith, place, found.0.high))) in
    sym (some ∙ ap (λ (n : ℕ). Some n) place)
