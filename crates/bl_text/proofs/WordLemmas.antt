-- The words that are printed are the tokens that they stand for, whatever follows that does not go on with them.
use Rattle.std.proofs.Common.{◌≡◌, ℕ, zero, suc, ◌+◌, Bool, true, false, List, [], ◌∷◌, ◌++◌, length, refl, sym, ap, ◌∙◌, arith}
use Rattle.std.specs.Prelude.{◌<◌, ◌^◌, pos, neg_ℤ, take, drop, codes, cond, not, nat_le, nat_lt, nat_eq, ◌&&◌, ◌||◌, ◌==◌, slice_index, Option, Some, None, if◌then◌else◌}
use Rattle.std.specs.List.{prefix_len, take_while, starts_with, list_all, AllByRecursion}
use Rattle.std.specs.Str.{bytes_eq}
use Rattle.std.specs.Str.Parse.{digits_value}
use Rattle.std.specs.Fmt.{decimal}
use Rattle.std.proofs.lemmas.Bool.{false≢true, and_parts, or_parts, and_right, and_left}
use Rattle.std.proofs.lemmas.Bool.Decides.{nat_tests}
use Rattle.std.proofs.lemmas.Slice.Eq.{bytes_eq-Decides}
use Rattle.std.proofs.lemmas.Fmt.{decimal_digit, decimal_is_IsNumeral, decimal_nonempty, first_decimal, length-decimal-le}
use Rattle.std.proofs.Math.Seq.{take-append_seam, drop-append_seam}
use Rattle.bl_syntax.specs.Names.{is_lower_case, is_upper_case, is_digit, is_name_byte, is_identifier, is_among, reserved_words, is_principal_name, is_text_byte, is_text}
use Rattle.bl_syntax.specs.declared.terms.Term.TheVariants as terms
use Rattle.bl_tokens.specs.declared.classes.Class.TheVariants as classes
use Rattle.bl_tokens.specs.declared.tokens.Token.TheVariants as tokens
use Rattle.bl_tokens.specs.declared.tokens.Lexeme.{Lexeme}
use Rattle.bl_tokens.specs.Classes.{is_in, is_word_byte}
use Rattle.bl_tokens.specs.Dates.{has_date_front, has_two, has_byte}
use Rattle.bl_tokens.specs.Numerals.{is_numeral, numeral_below}
use Rattle.bl_tokens.specs.Words.{keyword, sort_named, constant_named, constant_or_name, sort_or_other, keyword_or_other, word_token}
use Rattle.bl_tokens.specs.Tokens.{sized_lexeme, bad_lexeme, second_token, short_value, digits_of, integer_lexeme, negative_lexeme, time_lexeme, has_first_byte, first_lexeme}
use Rattle.bl_text.specs.PrintedTokens.{EndsRun}
use Rattle.bl_tokens.proofs.NumeralLemmas.{is_numeral_model}

-- ---- where a run ends

abbrev StopsAt : (ℕ → Bool) → List ℕ → Type 0
StopsAt p [] = Unit {0}
StopsAt p (byte ∷ more) = p byte ≡ false

cond_true : {A : Type 0} (b : Bool) (x y : A) → b ≡ true → cond b x y ≡ x
cond_true true x y h = refl
cond_true false x y h = absurd (false≢true h)

cond_false : {A : Type 0} (b : Bool) (x y : A) → b ≡ false → cond b x y ≡ y
cond_false true x y h = absurd (false≢true (sym h))
cond_false false x y h = refl

run_len : (p : ℕ → Bool) (xs rest : List ℕ) → list_all p xs ≡ true → StopsAt p rest → prefix_len p (xs ++ rest) ≡ length xs
run_len p [] [] all stops = refl
run_len p [] (byte ∷ more) all stops = cond_false (p byte) _ _ stops
run_len p (x ∷ xs) rest all stops =
    let parts = and_parts (p x) (list_all p xs) all in
    cond_true (p x) _ _ parts.0 ∙ (let more = run_len p xs rest parts.1 stops in ap (λ n. 1 + n) more ∙ omega arith)

run_is : (p : ℕ → Bool) (xs rest : List ℕ) → list_all p xs ≡ true → StopsAt p rest → take_while p (xs ++ rest) ≡ xs
run_is p xs rest all stops = ap (λ n. take n (xs ++ rest)) (run_len p xs rest all stops) ∙ take-append_seam xs rest

stops_word : (rest : List ℕ) → EndsRun rest → StopsAt (is_in classes.Word) rest
stops_word [] ends = tt
stops_word (byte ∷ more) ends = ends.0

stops_name : (rest : List ℕ) → EndsRun rest → StopsAt (is_in classes.Name) rest
stops_name [] ends = tt
stops_name (byte ∷ more) ends = (or_parts (is_name_byte byte) (is_upper_case byte) ends.0).0

stops_digit : (rest : List ℕ) → EndsRun rest → StopsAt (is_in classes.Digit) rest
stops_digit [] ends = tt
stops_digit (byte ∷ more) ends =
    let name = (or_parts (is_name_byte byte) (is_upper_case byte) ends.0).0 in
    (or_parts (is_lower_case byte) (is_digit byte) (or_parts (is_lower_case byte || is_digit byte) (byte == 95) name).0).1

-- ---- words

pub word_lexed : (first : ℕ) (others rest : List ℕ) → is_lower_case first ≡ true → list_all is_name_byte (first ∷ others) ≡ true → EndsRun rest
    → first_lexeme (first ∷ (others ++ rest)) ≡ sized_lexeme (word_token (first ∷ others)) (length (first ∷ others))
word_lexed first others rest low all ends =
    cond_true (is_lower_case first) _ _ low ∙ ap (λ ws. sized_lexeme (word_token ws) (length ws)) (run_is (is_in classes.Name) (first ∷ others) rest all (stops_name rest ends))

bytes_eq_sym : (xs ys : List ℕ) → bytes_eq xs ys ≡ false → bytes_eq ys xs ≡ false
bytes_eq_sym xs ys h = other (bytes_eq ys xs) refl
  where
    other : (b : Bool) → bytes_eq ys xs ≡ b → bytes_eq ys xs ≡ false
    other true is = absurd (false≢true (sym h ∙ (bytes_eq-Decides xs ys).1 (sym ((bytes_eq-Decides ys xs).0 is))))
    other false is = is

none_among : (words : List (List ℕ)) (word : List ℕ) → is_among words word ≡ false → AllByRecursion (λ w. bytes_eq word w ≡ false) words
none_among [] word h = tt
none_among (w ∷ words) word h =
    let parts = or_parts (bytes_eq w word) (is_among words word) h in (bytes_eq_sym w word parts.0, none_among words word parts.1)

next : {A : Type 0} {b : Bool} {y z : A} (x : A) → b ≡ false → y ≡ z → (if b then x else y) ≡ z
next {A} {b} {y} {z} x other rest = cond_false b x y other ∙ rest

not_true : (b : Bool) → not b ≡ true → b ≡ false
not_true true h = absurd (false≢true h)
not_true false h = refl

-- a name is no other word
name_word : (word : List ℕ) → is_principal_name word ≡ true → word_token word ≡ tokens.Name word
name_word word name =
    let parts = and_parts (is_identifier word) (not (is_among reserved_words word)) name in
    let r = none_among reserved_words word (not_true (is_among reserved_words word) parts.1) in
    let no_keyword : keyword word ≡ None = next _ r.0 (next _ r.1.0 (next _ r.1.1.0 (next _ r.1.1.1.0 (next _ r.1.1.1.1.0 (next _ r.1.1.1.1.1.0 (next _ r.1.1.1.1.1.1.0 (next _ r.1.1.1.1.1.1.1.1.0 refl))))))) in
    let s = r.1.1.1.1.1.1.1.1.1.1.1.1.1.1 in
    let no_sort : sort_named word ≡ None = next _ s.0 (next _ s.1.0 (next _ s.1.1.0 (next _ s.1.1.1.0 (next _ s.1.1.1.1.0 refl)))) in
    let c = r.1.1.1.1.1.1.1.1.1 in
    let no_constant : constant_named word ≡ None = next _ r.1.1.1.1.1.1.1.0 (next _ c.0 (next _ c.1.0 (next _ c.1.1.0 (next _ c.1.1.1.0 (next _ c.1.1.1.1.0 refl))))) in
    ap (keyword_or_other word) no_keyword ∙ ap (sort_or_other word) no_sort ∙ ap (constant_or_name word) no_constant ∙ cond_true (is_principal_name word) _ _ name

pub name_lexed : (word rest : List ℕ) → is_principal_name word ≡ true → EndsRun rest → first_lexeme (word ++ rest) ≡ sized_lexeme (tokens.Name word) (length word)
name_lexed [] rest name ends = absurd (false≢true name)
name_lexed (first ∷ others) rest name ends =
    let parts = and_parts (is_identifier (first ∷ others)) (not (is_among reserved_words (first ∷ others))) name in
    let long = and_parts (is_lower_case first && list_all is_name_byte others) (nat_le (length others) 31) parts.0 in
    let low = and_parts (is_lower_case first) (list_all is_name_byte others) long.0 in
    word_lexed first others rest low.0 (name_bytes first others low.0 low.1) ends ∙ ap (λ t. sized_lexeme t (length (first ∷ others))) (name_word (first ∷ others) name)
  where
    name_bytes : (byte : ℕ) (more : List ℕ) → is_lower_case byte ≡ true → list_all is_name_byte more ≡ true → list_all is_name_byte (byte ∷ more) ≡ true
    name_bytes byte more low all = both (is_lower_case byte) (is_digit byte) (byte == 95) (list_all is_name_byte more) low all
      where
        both : (a b c d : Bool) → a ≡ true → d ≡ true → ((a || b || c) && d) ≡ true
        both true b c d ha hd = hd
        both false b c d ha hd = absurd (false≢true ha)

-- ---- numbers

digits_digits : (n : ℕ) → n < 2 ^ 64 → list_all is_digit (decimal n) ≡ true
digits_digits n small = is_numeral_model.from (decimal n) (decimal_is_IsNumeral n small).0.1

all_as : (p q : ℕ → Bool) (xs : List ℕ) → ((x : ℕ) → p x ≡ true → q x ≡ true) → list_all p xs ≡ true → list_all q xs ≡ true
all_as p q [] f all = refl
all_as p q (x ∷ xs) f all = let parts = and_parts (p x) (list_all p xs) all in joined (q x) (list_all q xs) (f x parts.0) (all_as p q xs f parts.1)
  where
    joined : (a b : Bool) → a ≡ true → b ≡ true → (a && b) ≡ true
    joined true b ha hb = hb
    joined false b ha hb = absurd (false≢true ha)

digit_word : (byte : ℕ) → is_digit byte ≡ true → is_word_byte byte ≡ true
digit_word byte digit = grind (arith, nat_tests)

-- the digits of a number, whatever follows
digits_found : (n : ℕ) (rest : List ℕ) → n < 2 ^ 64 → EndsRun rest → digits_of (decimal n ++ rest) ≡ decimal n
digits_found n rest small ends = run_is (is_in classes.Digit) (decimal n) rest (digits_digits n small) (stops_digit rest ends)

abbrev on_option : {A : Type 0} → Lexeme → (A → Lexeme) → Option A → Lexeme
on_option l f None = l
on_option l f (Some a) = f a

numeral_is : (n : ℕ) → n < 2 ^ 64 → is_numeral (decimal n) ≡ true
numeral_is zero small = ap is_numeral (decimal_digit 0 (omega arith))
numeral_is (suc n) small =
    let some = decimal_nonempty (suc n) small in let first = first_decimal (suc n) (omega arith) small in grind (arith, nat_tests)

pub numeral_found : (limit n : ℕ) → n < 2 ^ 64 → n < limit → numeral_below limit (decimal n) ≡ Some n
numeral_found limit n small below =
    let value = (decimal_is_IsNumeral n small).1 in
    let fits : nat_lt (digits_value 10 (decimal n)) limit ≡ true = ap (λ m. nat_lt m limit) value ∙ (grind (arith, nat_tests)) in
    cond_true (is_numeral (decimal n) && nat_lt (digits_value 10 (decimal n)) limit) _ _ (joined _ _ (numeral_is n small) fits) ∙ ap Some value
  where
    joined : (a b : Bool) → a ≡ true → b ≡ true → (a && b) ≡ true
    joined true b ha hb = hb
    joined false b ha hb = absurd (false≢true ha)

pub file_lexed : (n : ℕ) (rest : List ℕ) → n < 2 ^ 64 → EndsRun rest → first_lexeme (35 ∷ (decimal n ++ rest)) ≡ sized_lexeme (tokens.Constant (terms.File (record { 0 = n }))) (length (decimal n) + 1)
file_lexed n rest small ends =
    ap (λ ds. on_option bad_lexeme (λ m. sized_lexeme (tokens.Constant (terms.File (record { 0 = m }))) (length ds + 1)) (numeral_below (2 ^ 64) ds)) (digits_found n rest small ends)
    ∙ ap (on_option bad_lexeme (λ m. sized_lexeme (tokens.Constant (terms.File (record { 0 = m }))) (length (decimal n) + 1))) (numeral_found (2 ^ 64) n small small)

pub parameter_lexed : (n : ℕ) (rest : List ℕ) → n < 2 ^ 32 → EndsRun rest → first_lexeme (63 ∷ (decimal n ++ rest)) ≡ sized_lexeme (tokens.Constant (terms.Param n)) (length (decimal n) + 1)
parameter_lexed n rest below ends =
    let small : n < 2 ^ 64 = omega arith in
    ap (λ ds. on_option bad_lexeme (λ m. sized_lexeme (tokens.Constant (terms.Param m)) (length ds + 1)) (numeral_below (2 ^ 32) ds)) (digits_found n rest small ends)
    ∙ ap (on_option bad_lexeme (λ m. sized_lexeme (tokens.Constant (terms.Param m)) (length (decimal n) + 1))) (numeral_found (2 ^ 32) n small below)

-- the variable of a binder
pub variable_lexed : (n : ℕ) (rest : List ℕ) → n < 1000 → EndsRun rest → first_lexeme (88 ∷ (decimal n ++ rest)) ≡ sized_lexeme (tokens.Variable (88 ∷ decimal n)) (length (88 ∷ decimal n))
variable_lexed n rest few ends =
    let small : n < 2 ^ 64 = omega arith in
    let short = length-decimal-le 3 n (omega arith) few small in
    let fits : nat_le (length (88 ∷ decimal n)) 32 ≡ true = grind (arith, nat_tests) in
    ap (λ ws. if nat_le (length ws) 32 then sized_lexeme (tokens.Variable ws) (length ws) else bad_lexeme)
    (run_is (is_in classes.Word) (88 ∷ decimal n) rest (all_as is_digit is_word_byte (decimal n) digit_word (digits_digits n small)) (stops_word rest ends))
    ∙ cond_true (nat_le (length (88 ∷ decimal n)) 32) _ _ fits

-- ---- times

-- what is false in front makes the whole test false
abbrev date_from : Bool → Bool → Bool → Bool → Bool → Bool → Bool → Bool
date_from a b c d e f g = a && b && c && d && e && f && g

date_1 : (a b c d e f g : Bool) → a ≡ false → date_from a b c d e f g ≡ false
date_1 false b c d e f g h = refl
date_1 true b c d e f g h = absurd (false≢true (sym h))

date_2 : (a b c d e f g : Bool) → b ≡ false → date_from a b c d e f g ≡ false
date_2 a true c d e f g h = absurd (false≢true (sym h))
date_2 true false c d e f g h = refl
date_2 false false c d e f g h = refl

date_3 : (a b c d e f g : Bool) → c ≡ false → date_from a b c d e f g ≡ false
date_3 a b true d e f g h = absurd (false≢true (sym h))
date_3 true true false d e f g h = refl
date_3 true false false d e f g h = refl
date_3 false b false d e f g h = refl

date_4 : (a b c d e f g : Bool) → d ≡ false → date_from a b c d e f g ≡ false
date_4 a b c true e f g h = absurd (false≢true (sym h))
date_4 true true true false e f g h = refl
date_4 true true false false e f g h = refl
date_4 true false c false e f g h = refl
date_4 false b c false e f g h = refl

not_digit_end : (byte : ℕ) → is_word_byte byte ≡ false → is_digit byte ≡ false
not_digit_end byte h =
    (or_parts (is_lower_case byte) (is_digit byte) (or_parts (is_lower_case byte || is_digit byte) (byte == 95) (or_parts (is_name_byte byte) (is_upper_case byte) h).0).0).1

digit_no_minus : (byte : ℕ) → is_digit byte ≡ true → (byte == 45) ≡ false
digit_no_minus byte h = grind (arith, nat_tests)

too_short : (bytes : List ℕ) → nat_le 10 (length bytes) ≡ false → has_date_front bytes ≡ false
too_short bytes h = date_1 (nat_le 10 (length bytes)) (has_two bytes 0) (has_two bytes 2) (has_byte bytes 4 45) (has_two bytes 5) (has_byte bytes 7 45) (has_two bytes 8) h

no_first : (bytes : List ℕ) → has_two bytes 0 ≡ false → has_date_front bytes ≡ false
no_first bytes h = date_2 (nat_le 10 (length bytes)) (has_two bytes 0) (has_two bytes 2) (has_byte bytes 4 45) (has_two bytes 5) (has_byte bytes 7 45) (has_two bytes 8) h

no_second : (bytes : List ℕ) → has_two bytes 2 ≡ false → has_date_front bytes ≡ false
no_second bytes h = date_3 (nat_le 10 (length bytes)) (has_two bytes 0) (has_two bytes 2) (has_byte bytes 4 45) (has_two bytes 5) (has_byte bytes 7 45) (has_two bytes 8) h

no_minus : (bytes : List ℕ) → has_byte bytes 4 45 ≡ false → has_date_front bytes ≡ false
no_minus bytes h = date_4 (nat_le 10 (length bytes)) (has_two bytes 0) (has_two bytes 2) (has_byte bytes 4 45) (has_two bytes 5) (has_byte bytes 7 45) (has_two bytes 8) h

two_left : (bytes : List ℕ) (place : ℕ) → is_digit (slice_index bytes place) ≡ false → has_two bytes place ≡ false
two_left bytes place h = and_left (is_digit (slice_index bytes place)) (is_digit (slice_index bytes (place + 1))) h

two_right : (bytes : List ℕ) (place : ℕ) → is_digit (slice_index bytes (place + 1)) ≡ false → has_two bytes place ≡ false
two_right bytes place h = and_right (is_digit (slice_index bytes place)) (is_digit (slice_index bytes (place + 1))) h

-- digits with another end than `-` are no date
no_date : (ds rest : List ℕ) → list_all is_digit ds ≡ true → EndsRun rest → has_date_front (ds ++ rest) ≡ false
no_date [] [] all ends = too_short [] refl
no_date [] (r ∷ rs) all ends = no_first (r ∷ rs) (two_left (r ∷ rs) 0 (not_digit_end r ends.0))
no_date (a ∷ []) [] all ends = too_short (a ∷ []) refl
no_date (a ∷ []) (r ∷ rs) all ends = no_first (a ∷ r ∷ rs) (two_right (a ∷ r ∷ rs) 0 (not_digit_end r ends.0))
no_date (a ∷ b ∷ []) [] all ends = too_short (a ∷ b ∷ []) refl
no_date (a ∷ b ∷ []) (r ∷ rs) all ends = no_second (a ∷ b ∷ r ∷ rs) (two_left (a ∷ b ∷ r ∷ rs) 2 (not_digit_end r ends.0))
no_date (a ∷ b ∷ c ∷ []) [] all ends = too_short (a ∷ b ∷ c ∷ []) refl
no_date (a ∷ b ∷ c ∷ []) (r ∷ rs) all ends = no_second (a ∷ b ∷ c ∷ r ∷ rs) (two_right (a ∷ b ∷ c ∷ r ∷ rs) 2 (not_digit_end r ends.0))
no_date (a ∷ b ∷ c ∷ d ∷ []) [] all ends = too_short (a ∷ b ∷ c ∷ d ∷ []) refl
no_date (a ∷ b ∷ c ∷ d ∷ []) (r ∷ rs) all ends = no_minus (a ∷ b ∷ c ∷ d ∷ r ∷ rs) ends.1
no_date (a ∷ b ∷ c ∷ d ∷ e ∷ more) rest all ends =
    let p = and_parts (is_digit a) (list_all is_digit (b ∷ c ∷ d ∷ e ∷ more)) all in
    let q = and_parts (is_digit b) (list_all is_digit (c ∷ d ∷ e ∷ more)) p.1 in
    let r = and_parts (is_digit c) (list_all is_digit (d ∷ e ∷ more)) q.1 in
    let s = and_parts (is_digit d) (list_all is_digit (e ∷ more)) r.1 in
    let t = and_parts (is_digit e) (list_all is_digit more) s.1 in
    no_minus (a ∷ b ∷ c ∷ d ∷ e ∷ (more ++ rest)) (digit_no_minus e t.0)

short_found : (n : ℕ) → n < 10 ^ 18 → short_value (decimal n) ≡ Some n
short_found n few =
    let small : n < 2 ^ 64 = omega arith in
    let some = decimal_nonempty n small in
    let short = length-decimal-le 18 n (omega arith) few small in
    let fits : (nat_le 1 (length (decimal n)) && nat_le (length (decimal n)) 18) ≡ true = grind (arith, nat_tests) in
    cond_true (nat_le 1 (length (decimal n)) && nat_le (length (decimal n)) 18) _ _ fits ∙ ap Some (decimal_is_IsNumeral n small).1

integer_found : (n : ℕ) (rest : List ℕ) → n < 10 ^ 18 → EndsRun rest → integer_lexeme (digits_of (decimal n ++ rest)) ≡ sized_lexeme (second_token (pos n)) (length (decimal n))
integer_found n rest few ends =
    let small : n < 2 ^ 64 = omega arith in
    ap integer_lexeme (digits_found n rest small ends) ∙ ap (on_option bad_lexeme (λ m. sized_lexeme (second_token (pos m)) (length (decimal n)))) (short_found n few)

negative_found : (n : ℕ) (rest : List ℕ) → n < 10 ^ 18 → EndsRun rest → negative_lexeme (digits_of (decimal n ++ rest)) ≡ sized_lexeme (second_token (neg_ℤ (pos n))) (length (decimal n) + 1)
negative_found n rest few ends =
    let small : n < 2 ^ 64 = omega arith in
    ap negative_lexeme (digits_found n rest small ends) ∙ ap (on_option bad_lexeme (λ m. sized_lexeme (second_token (neg_ℤ (pos m))) (length (decimal n) + 1))) (short_found n few)

-- what begins with a digit is a time
digit_begins : (ds rest : List ℕ) → list_all is_digit ds ≡ true → 0 < length ds → first_lexeme (ds ++ rest) ≡ time_lexeme (ds ++ rest)
digit_begins [] rest all some = absurd (omega arith)
digit_begins (d ∷ more) rest all some =
    let digit = (and_parts (is_digit d) (list_all is_digit more) all).0 in
    cond_false (is_lower_case d) _ _ (digit_no_lower d digit) ∙ cond_false (is_upper_case d) _ _ (digit_no_upper d digit) ∙ cond_true (is_digit d) _ _ digit
  where
    digit_no_lower : (byte : ℕ) → is_digit byte ≡ true → is_lower_case byte ≡ false
    digit_no_lower byte h = grind (arith, nat_tests)

    digit_no_upper : (byte : ℕ) → is_digit byte ≡ true → is_upper_case byte ≡ false
    digit_no_upper byte h = grind (arith, nat_tests)

pub second_lexed : (n : ℕ) (rest : List ℕ) → n < 10 ^ 18 → EndsRun rest → first_lexeme (decimal n ++ rest) ≡ sized_lexeme (second_token (pos n)) (length (decimal n))
second_lexed n rest few ends =
    let small : n < 2 ^ 64 = omega arith in
    digit_begins (decimal n) rest (digits_digits n small) (decimal_nonempty n small)
    ∙ cond_false (has_date_front (decimal n ++ rest)) _ _ (no_date (decimal n) rest (digits_digits n small) ends) ∙ integer_found n rest few ends

no_inf : (ds rest : List ℕ) → list_all is_digit ds ≡ true → 0 < length ds → starts_with nat_eq (ds ++ rest) (codes "inf") ≡ false
no_inf [] rest all some = absurd (omega arith)
no_inf (d ∷ more) rest all some = let digit = (and_parts (is_digit d) (list_all is_digit more) all).0 in and_left (nat_eq 105 d) _ (digit_no_letter d digit)
  where
    digit_no_letter : (byte : ℕ) → is_digit byte ≡ true → nat_eq 105 byte ≡ false
    digit_no_letter byte h = grind (arith, nat_tests)

pub negative_lexed : (n : ℕ) (rest : List ℕ) → n < 10 ^ 18 → EndsRun rest → first_lexeme (45 ∷ (decimal n ++ rest)) ≡ sized_lexeme (second_token (neg_ℤ (pos n))) (length (decimal n) + 1)
negative_lexed n rest few ends =
    let small : n < 2 ^ 64 = omega arith in
    cond_false (starts_with nat_eq (decimal n ++ rest) (codes "inf")) _ _ (no_inf (decimal n) rest (digits_digits n small) (decimal_nonempty n small)) ∙ negative_found n rest few ends

-- ---- texts

text_stops : (bytes : List ℕ) → list_all is_text_byte bytes ≡ true → (rest : List ℕ) → prefix_len (is_in classes.Text) (bytes ++ 34 ∷ rest) ≡ length bytes
text_stops bytes all rest = run_len (is_in classes.Text) bytes (34 ∷ rest) all refl

abbrev text_of : ℕ → List ℕ → Lexeme
text_of len others = if has_first_byte 34 (drop len others) && is_text (take len others) then sized_lexeme (tokens.Constant (terms.Text (take len others))) (len + 2) else bad_lexeme

pub text_lexed : (bytes rest : List ℕ) → is_text bytes ≡ true → first_lexeme (34 ∷ (bytes ++ 34 ∷ rest)) ≡ sized_lexeme (tokens.Constant (terms.Text bytes)) (length bytes + 2)
text_lexed bytes rest text =
    let parts = and_parts (list_all is_text_byte bytes) (nat_le (length bytes) 128) text in
    ap (λ len. text_of len (bytes ++ 34 ∷ rest)) (text_stops bytes parts.0 rest)
    ∙ ap (λ bs. if has_first_byte 34 (drop (length bytes) (bytes ++ 34 ∷ rest)) && is_text bs then sized_lexeme (tokens.Constant (terms.Text bs)) (length bytes + 2) else bad_lexeme) (take-append_seam bytes (34 ∷ rest))
    ∙ cond_true _ _ _ (joined (has_first_byte 34 (drop (length bytes) (bytes ++ 34 ∷ rest))) (is_text bytes) (ap (has_first_byte 34) (drop-append_seam bytes (34 ∷ rest))) text)
  where
    joined : (a b : Bool) → a ≡ true → b ≡ true → (a && b) ≡ true
    joined true b ha hb = hb
    joined false b ha hb = absurd (false≢true ha)
