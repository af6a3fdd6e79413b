-- The first line of a text ends before the first byte 0a.
use Rattle.std.proofs.Common.{◌≡◌, ℕ, suc, ◌+◌, ◌<◌, ◌≤◌, Bool, true, false, not, cond, List, [], ◌∷◌, length, take, drop, ◌-◌, Some, None, refl, sym, subst, ap, arith, one-add, add-one}
use Rattle.std.specs.Prelude.{◌==◌, position, nat_lt}
use Rattle.std.specs.List.{position_or_len}
use Rattle.std.proofs.lemmas.Bool.{ltb-true, ltb-false, eqb-false}
use Rattle.std.proofs.lemmas.Option.{cond_some, none-some}
use Rattle.std.proofs.lemmas.List.{take_rest}
use Rattle.line_text.specs.Lines.{lines_of, with_byte}

-- the place of the first end of a line, or the length
abbrev pub line_len : List ℕ → ℕ
line_len bytes = position_or_len (λ byte. byte == 10) bytes

abbrev FirstLineIs : List ℕ → ℕ → Type 0
FirstLineIs bytes n = lines_of bytes ≡ take n bytes ∷ lines_of (drop (n + 1) bytes)

-- one more byte in front, which is the end of a line or none
first_line_step : (is_end : Bool) (byte : ℕ) (bytes : List ℕ) (n : ℕ) → (n < length bytes → FirstLineIs bytes n) → cond (not is_end) (1 + n) 0 < suc (length bytes)
    → cond is_end ([] ∷ lines_of bytes) (with_byte byte (lines_of bytes)) ≡ take (cond (not is_end) (1 + n) 0) (byte ∷ bytes) ∷ lines_of (drop (cond (not is_end) (1 + n) 0 + 1) (byte ∷ bytes))
first_line_step true byte bytes n first inside = refl
first_line_step false byte bytes n first inside = let e = rw add-one at (first (omega arith)) in rw (one-add, add-one, e) refl

pub lines_of-first : (bytes : List ℕ) → line_len bytes < length bytes → FirstLineIs bytes (line_len bytes)
lines_of-first [] inside = absurd (omega arith)
lines_of-first (byte ∷ bytes) inside = first_line_step (byte == 10) byte bytes (line_len bytes) (lines_of-first bytes) inside

last_line_step : (is_end : Bool) (byte : ℕ) (bytes : List ℕ) (n : ℕ) → (0 < length bytes → length bytes ≤ n → lines_of bytes ≡ bytes ∷ []) → suc (length bytes) ≤ cond (not is_end) (1 + n) 0
    → cond is_end ([] ∷ lines_of bytes) (with_byte byte (lines_of bytes)) ≡ (byte ∷ bytes) ∷ []
last_line_step true byte bytes n last past = absurd (omega arith)
last_line_step false byte [] n last past = refl
last_line_step false byte (b ∷ bytes) n last past = let e = last (omega arith) (omega arith) in ap (with_byte byte) e

-- the last line without its end
pub lines_of-last : (bytes : List ℕ) → 0 < length bytes → length bytes ≤ line_len bytes → lines_of bytes ≡ bytes ∷ []
lines_of-last [] some past = absurd (omega arith)
lines_of-last (byte ∷ bytes) some past = last_line_step (byte == 10) byte bytes (line_len bytes) (lines_of-last bytes) past

pub lines_of-at_end : (rest : List ℕ) (end : ℕ) → Some end ≡ position (λ byte. byte == 10) rest → lines_of rest ≡ take end rest ∷ lines_of (take (length rest - (end + 1)) (drop (end + 1) rest))
lines_of-at_end rest end h =
    let at = cond_some (nat_lt (line_len rest) (length rest)) (line_len rest) end (sym h) in
    let first : FirstLineIs rest end = subst (FirstLineIs rest) at.1 (lines_of-first rest (ltb-true (line_len rest) (length rest) at.0)) in
    rw take_rest first

no_place : (inside : Bool) (place : ℕ) → None ≡ cond inside (Some place) None → inside ≡ false
no_place true place h = absurd (none-some place h)
no_place false place h = refl

pub lines_of-no_end : (rest : List ℕ) → None ≡ position (λ byte. byte == 10) rest → false ≡ (length rest == 0) → lines_of rest ≡ rest ∷ []
lines_of-no_end rest h some =
    let past : length rest ≤ line_len rest = ltb-false (line_len rest) (length rest) (no_place (nat_lt (line_len rest) (length rest)) (line_len rest) h) in
    let not_zero = eqb-false (length rest) 0 (sym some) in
    lines_of-last rest (omega arith) past
