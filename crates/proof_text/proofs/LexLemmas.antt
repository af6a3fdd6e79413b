-- The tokens of what is written: each ends where the sign after it begins.
use Rattle.std.proofs.Common.{◌≡◌, ℕ, suc, ◌+◌, ◌-◌, ◌^◌, ◌<◌, Bool, true, false, cond, List, [], ◌∷◌, ◌++◌, length, take, drop, refl, ap, ◌∙◌, arith, IsTrue, Some, Result, Ok, Err}
use Rattle.std.specs.Prelude.{if◌then◌else◌, ◌==◌}
use Rattle.std.specs.List.{prefix_len, take_while, list_all}
use Rattle.std.specs.Fmt.{decimal}
use Rattle.std.proofs.lemmas.List.{length-drop, take_all}
use Rattle.std.proofs.lemmas.Bool.Decides.{nat_tests}
use Rattle.std.proofs.lemmas.Fmt.{decimal_nonempty, digits_decimal}
use Rattle.std.proofs.Math.Seq.{take-append_seam}
use Rattle.bl_syntax.specs.Names.{is_digit}
use Rattle.bl_tokens.specs.declared.classes.Class.TheVariants as classes
use Rattle.bl_tokens.specs.declared.faults.TextFault.{TextFault}
use Rattle.bl_tokens.specs.declared.tokens.Sign.{Sign as Sign'}
use Rattle.bl_tokens.specs.declared.tokens.Sign.TheVariants as signs
use Rattle.bl_tokens.specs.declared.tokens.Token.TheVariants as tokens
use Rattle.bl_tokens.specs.declared.tokens.Lexeme.{Lexeme}
use Rattle.bl_tokens.specs.declared.tokens.Cursor.{Cursor}
use Rattle.bl_tokens.specs.Classes.{is_in}
use Rattle.bl_tokens.specs.Tokens.{token_from, first_lexeme, sized_lexeme, sign_code, is_sign}
use Rattle.bl_tokens.proofs.DateLemmas.{both_true}
use Rattle.bl_tokens.proofs.NumeralLemmas.{is_numeral_model}
use Rattle.proof_text.specs.declared.names.RuleName.{RuleName}
use Rattle.proof_text.specs.declared.cursor.ProofCursor.{ProofCursor}
use Rattle.proof_text.specs.Rules.{rule_named}
use Rattle.proof_text.specs.Cursor.{cursor_at, first_byte, cursor_after_token, cursor_after_sign, hypothesis_reading, hypothesis_in, hypothesis_at, rule_reading, is_word_start, rule_of_word, rule_in, rule_at}
use Rattle.bl_text.proofs.WordLemmas.{numeral_found}

-- ---- runs

pub prefix_stops : (p : ℕ → Bool) (xs : List ℕ) (c : ℕ) (ys : List ℕ) → IsTrue (list_all p xs) → p c ≡ false → prefix_len p (xs ++ c ∷ ys) ≡ length xs
prefix_stops p [] c ys all ends = ap (λ b. cond b (1 + prefix_len p ys) 0) ends
prefix_stops p (x ∷ xs) c ys all ends =
    let parts = both_true (p x) (list_all p xs) all in
    let next : 1 + length xs ≡ suc (length xs) = omega arith in
    ap (λ b. cond b (1 + prefix_len p (xs ++ c ∷ ys)) 0) parts.0 ∙ ap (λ n. 1 + n) (prefix_stops p xs c ys parts.1 ends) ∙ next

pub prefix_whole : (p : ℕ → Bool) (xs : List ℕ) → IsTrue (list_all p xs) → prefix_len p (xs ++ []) ≡ length xs
prefix_whole p [] all = refl
prefix_whole p (x ∷ xs) all =
    let parts = both_true (p x) (list_all p xs) all in
    let next : 1 + length xs ≡ suc (length xs) = omega arith in
    ap (λ b. cond b (1 + prefix_len p (xs ++ [])) 0) parts.0 ∙ ap (λ n. 1 + n) (prefix_whole p xs parts.1) ∙ next

-- what follows is no part of the run
abbrev pub Ends : (ℕ → Bool) → List ℕ → Type 0
Ends p [] = Unit {0}
Ends p (c ∷ ys) = p c ≡ false

prefix_ends : (p : ℕ → Bool) (xs ys : List ℕ) → IsTrue (list_all p xs) → Ends p ys → prefix_len p (xs ++ ys) ≡ length xs
prefix_ends p xs [] all ends = prefix_whole p xs all
prefix_ends p xs (c ∷ ys) all ends = prefix_stops p xs c ys all ends

pub run_ends : (p : ℕ → Bool) (xs ys : List ℕ) → IsTrue (list_all p xs) → Ends p ys → take_while p (xs ++ ys) ≡ xs
run_ends p xs ys all ends = ap (λ n. take n (xs ++ ys)) (prefix_ends p xs ys all ends) ∙ take-append_seam xs ys

-- no space stands before these
pub unspaced : (p : ℕ → Bool) (xs ys : List ℕ) → ((x : ℕ) → p x ≡ true → is_in classes.Space x ≡ false) → IsTrue (list_all p xs) → 0 < length xs → prefix_len (is_in classes.Space) (xs ++ ys) ≡ 0
unspaced p [] ys never all some = absurd (omega (arith, some))
unspaced p (x ∷ xs) ys never all some = ap (λ b. cond b (1 + prefix_len (is_in classes.Space) (xs ++ ys)) 0) (never x (both_true (p x) (list_all p xs) all).0)

pub digit_no_space : (x : ℕ) → is_digit x ≡ true → is_in classes.Space x ≡ false
digit_no_space x h = grind (arith, nat_tests)

word_no_space : (x : ℕ) → is_in classes.Word x ≡ true → is_in classes.Space x ≡ false
word_no_space x h = grind (arith, nat_tests)

-- ---- numbers

pub digits_written : (n : ℕ) (ys : List ℕ) → n < 2 ^ 64 → Ends (is_in classes.Digit) ys → take_while (is_in classes.Digit) (decimal n ++ ys) ≡ decimal n
digits_written n ys fits ends = run_ends (is_in classes.Digit) (decimal n) ys (digits_decimal is_numeral_model n fits) ends

-- ---- places

-- from that byte on the text has these bytes
abbrev pub At : List ℕ → ℕ → List ℕ → Type 0
At text from bytes = drop from text ≡ bytes

first_is : (text bytes : List ℕ) (from left : ℕ) → At text from bytes → prefix_len (is_in classes.Space) bytes ≡ 0 → first_byte text (cursor_at from left) ≡ from
first_is text bytes from left here none =
    let zero_is : prefix_len (is_in classes.Space) (drop from text) ≡ 0 = ap (prefix_len (is_in classes.Space)) here ∙ none in omega (arith, zero_is)

pub hypothesis_written : (text : List ℕ) (from left h : ℕ) (ys : List ℕ) → h < 2 ^ 16 → Ends (is_in classes.Digit) ys → At text from (decimal h ++ ys)
    → hypothesis_at text (cursor_at from left) ≡ Ok (h, cursor_at (from + length (decimal h)) left)
unfolding hypothesis_at
hypothesis_written text from left h ys lt ends here =
    let fits : h < 2 ^ 64 = omega (arith, lt) in
    let first = first_is text (decimal h ++ ys) from left here (unspaced is_digit (decimal h) ys digit_no_space (digits_decimal is_numeral_model h fits) (decimal_nonempty h fits)) in
    ap (λ at. hypothesis_in at left (take_while (is_in classes.Digit) (drop at text))) first
    ∙ ap (λ (bytes : List ℕ). hypothesis_in from left (take_while (is_in classes.Digit) bytes)) here
    ∙ ap (hypothesis_in from left) (digits_written h ys fits ends)
    ∙ ap (hypothesis_reading from (length (decimal h)) left) (numeral_found (2 ^ 16) h fits lt)

begins : (x : ℕ) (xs ys : List ℕ) → is_word_start (x ∷ xs) ≡ true → is_word_start ((x ∷ xs) ++ ys) ≡ true
begins x xs ys h = h

pub rule_written : (text : List ℕ) (from left : ℕ) (x : ℕ) (xs ys : List ℕ) (name : RuleName) → rule_named (x ∷ xs) ≡ Some name → is_word_start (x ∷ xs) ≡ true → IsTrue (list_all (is_in classes.Word) (x ∷ xs))
    → Ends (is_in classes.Word) ys → At text from ((x ∷ xs) ++ ys) → rule_at text (cursor_at from left) ≡ Ok (name, cursor_at (from + length (x ∷ xs)) left)
unfolding rule_at
rule_written text from left x xs ys name known letter all ends here =
    let first = first_is text ((x ∷ xs) ++ ys) from left here (unspaced (is_in classes.Word) (x ∷ xs) ys word_no_space all (omega arith)) in
    ap (λ at. rule_in at left (drop at text)) first ∙ ap (rule_in from left) here
    ∙ ap (λ b. if b then rule_of_word from left (take_while (is_in classes.Word) ((x ∷ xs) ++ ys)) else Err (TextFault.Unexpected from)) letter
    ∙ ap (rule_of_word from left) (run_ends (is_in classes.Word) (x ∷ xs) ys all ends) ∙ ap (rule_reading from (length (x ∷ xs)) left) known

-- ---- tokens of formulas

abbrev pub made : ℕ → ℕ → Lexeme → Cursor
made at left found = record { at = at; token = found.token; end = at + found.size; left = left }

pub token_written : (text : List ℕ) (from left : ℕ) (bytes : List ℕ) (found : Lexeme) → At text from bytes → prefix_len (is_in classes.Space) bytes ≡ 0 → first_lexeme bytes ≡ found
    → token_from text from left ≡ made from left found
unfolding token_from
token_written text from left bytes found here none is =
    ap (λ at. made at left (first_lexeme (drop at text))) (first_is text bytes from left here none) ∙ ap (λ (bs : List ℕ). made from left (first_lexeme bs)) here ∙ ap (made from left) is

abbrev sign_of : Sign' → Cursor → Result ProofCursor TextFault
sign_of sign token = if is_sign sign token.token then Ok (cursor_after_token token) else Err (TextFault.Unexpected token.at)

own_code : (n : ℕ) → (n == n) ≡ true
own_code n = grind (arith, nat_tests)

own_sign : (sign : Sign') → is_sign sign (tokens.Sign sign) ≡ true
unfolding is_sign
own_sign sign = own_code (sign_code sign)

pub to_end : (text : List ℕ) (at : ℕ) → take (length text - at) (drop at text) ≡ drop at text
to_end text at = let len : length (drop at text) ≡ length text - at = length-drop at text in take_all (length text - at) (drop at text) (omega arith)

-- the bytes after the spaces begin with the sign
pub sign_there : (text : List ℕ) (sign : Sign') (here : ProofCursor) → first_lexeme (drop (first_byte text here) text) ≡ sized_lexeme (tokens.Sign sign) 1 → cursor_after_sign text sign here ≡ Ok (cursor_at (first_byte text here + 1) here.left)
unfolding cursor_after_sign token_from
sign_there text sign here is =
    ap (λ (l : Lexeme). sign_of sign (made (first_byte text here) here.left l)) is
    ∙ ap (λ b. if b then Ok (cursor_at (first_byte text here + 1) here.left) else Err (TextFault.Unexpected (first_byte text here))) (own_sign sign)

pub open_written : (text : List ℕ) (from left : ℕ) (ys : List ℕ) → At text from (40 ∷ ys) → cursor_after_sign text signs.Open (cursor_at from left) ≡ Ok (cursor_at (from + 1) left)
unfolding cursor_after_sign is_sign
open_written text from left ys here = ap (sign_of signs.Open) (token_written text from left (40 ∷ ys) (sized_lexeme (tokens.Sign signs.Open) 1) here refl refl)

pub close_written : (text : List ℕ) (from left : ℕ) (ys : List ℕ) → At text from (41 ∷ ys) → cursor_after_sign text signs.Close (cursor_at from left) ≡ Ok (cursor_at (from + 1) left)
unfolding cursor_after_sign is_sign
close_written text from left ys here = ap (sign_of signs.Close) (token_written text from left (41 ∷ ys) (sized_lexeme (tokens.Sign signs.Close) 1) here refl refl)

pub comma_written : (text : List ℕ) (from left : ℕ) (ys : List ℕ) → At text from (44 ∷ ys) → cursor_after_sign text signs.Comma (cursor_at from left) ≡ Ok (cursor_at (from + 1) left)
unfolding cursor_after_sign is_sign
comma_written text from left ys here = ap (sign_of signs.Comma) (token_written text from left (44 ∷ ys) (sized_lexeme (tokens.Sign signs.Comma) 1) here refl refl)
