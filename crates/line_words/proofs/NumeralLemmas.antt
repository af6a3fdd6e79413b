-- The digits of a word, and the number that they write.
use Rattle.std.proofs.Common.{◌≡◌, ℕ, zero, suc, ◌+◌, ◌*◌, ◌-◌, ◌^◌, ◌<◌, ◌≤◌, ℤ, Result, Ok, Err, false, List, ◌∷◌, length, take, get_or, IsTrue, Option, None, sym, ap, ◌∙◌, subst, arith, rules}
use Rattle.std.specs.Result.{OkIff, result_ok}
use Rattle.std.specs.List.{list_all}
use Rattle.std.specs.Char.{digit_value}
use Rattle.std.specs.Int.{IsInRange}
use Rattle.std.specs.Fmt.{decimal}
use Rattle.std.specs.Str.Parse.{digits_value}
use Rattle.std.proofs.lemmas.Str.{digit_value_digit}
use Rattle.std.proofs.lemmas.Str.Parse.{IsNumeralModel, numerals_by_value, digits_value_short, digits_value-take-le, digit_at}
use Rattle.std.proofs.lemmas.Int.Digits.{digits_value_more}
use Rattle.std.proofs.lemmas.Fmt.{decimal_digit, digits_decimal, digits_value-decimal, decimal_nonempty, length-decimal-le, first_decimal, decimal-digits_value}
use Rattle.line_words.proofs.OptionLemmas.{IsAnswer, IsAnswer-None, IsAnswer-Some}
use Rattle.line_text.specs.Words.{HasNo}
use Rattle.line_text.proofs.WordLemmas.{HasNo-all}
use Rattle.bl_syntax.specs.Names.{is_digit}
use Rattle.bl_syntax.specs.declared.terms.NodeId.{NodeId}
use Rattle.bl_syntax.specs.declared.terms.TimePoint.TheVariants.{At}
use Rattle.bl_syntax.specs.TimeOrder.{IsMoment}
use Rattle.line_words.proofs.TimeLemmas.{same_read, time_in_range}
use Rattle.line_words.specs.Numerals.{IsPlain}
use Rattle.line_words.specs.Numbers.{IsSecond, IsNumberBelow, IsNumber, IsFile}

-- the words of digits, and what they write, in the words of std's lemmas
pub is_numeral_model : IsNumeralModel (λ ds. IsTrue (list_all is_digit ds)) (digits_value 10)
is_numeral_model = numerals_by_value _ (search rules)

-- one more digit
pub record IsNextDigit (ds : List ℕ) (i : ℕ) : Type 0 where
  pub low : 48 ≤ get_or ds i 0
  pub high : get_or ds i 0 ≤ 57
  pub more : digits_value 10 (take (i + 1) ds) ≡ digits_value 10 (take i ds) * 10 + (get_or ds i 0 - 48)
  pub fits : digits_value 10 (take (i + 1) ds) < 10 ^ 20

pub next_digit : (ds : List ℕ) (i : ℕ) → IsTrue (list_all is_digit ds) → length ds ≤ 20 → i < length ds → IsNextDigit ds i
next_digit ds i digits few inside =
    let here : IsInRange 48 57 (get_or ds i 0) = digit_at ds i (is_numeral_model.to ds digits) inside in
    let value : digit_value (get_or ds i 0) + 48 ≡ get_or ds i 0 = digit_value_digit (get_or ds i 0) here in
    record {
      low = here.0;
      high = here.1;
      more = omega (arith, digits_value_more 10 ds i inside, value, here.0);
      fits = omega (arith, digits_value_short is_numeral_model ds 20 digits few, digits_value-take-le 10 ds (i + 1) (omega arith));
    }

-- ---- numbers

-- what `decimal` writes of a number that fits
pub record IsWritten (word : List ℕ) (n : ℕ) : Type 0 where
  pub plain : IsPlain word
  pub value : digits_value 10 word ≡ n

first_is_zero : (n : ℕ) → n < 2 ^ 64 → get_or (decimal n) 0 0 ≡ 48 → length (decimal n) ≡ 1
first_is_zero zero fits zero_first = ap length (decimal_digit 0 (omega arith))
first_is_zero (suc n) fits zero_first = absurd (omega (arith, first_decimal (suc n) (omega arith) fits))

IsWritten-decimal : (n : ℕ) → n < 2 ^ 64 → IsWritten (decimal n) n
IsWritten-decimal n fits = record {
  plain = record {
    some = decimal_nonempty n fits;
    few = length-decimal-le 20 n (omega arith) (omega arith) fits;
    digits = digits_decimal is_numeral_model n fits;
    no_zero = first_is_zero n fits;
  };
  value = digits_value-decimal is_numeral_model n fits;
}

pub IsWritten-below : (limit : ℕ) → limit ≤ 2 ^ 64 → (word : List ℕ) (n : ℕ) → IsNumberBelow limit word n → IsWritten word n
IsWritten-below limit few word n h = subst (λ w. IsWritten w n) (sym h.decimal_is) (IsWritten-decimal n (omega (arith, few, h.fits)))

pub number_of : (limit : ℕ) (word : List ℕ) → limit ≤ 2 ^ 64 → IsPlain word → digits_value 10 word < limit → IsNumberBelow limit word (digits_value 10 word)
number_of limit word few h fits = record {
  decimal_is = sym (decimal-digits_value is_numeral_model word h.digits h.some h.no_zero (omega (arith, few, fits)));
  fits = fits;
}

by_result : {E : Type 0} (limit : ℕ) (word : List ℕ) (value : ℕ) (r : Result ℕ E) → limit ≤ 2 ^ 64 → value ≡ digits_value 10 word → IsPlain word → OkIff r (value < limit) value → IsAnswer (IsNumberBelow limit word) (result_ok r)
by_result limit word value (Ok n) few same h fits =
    let n_is : n ≡ digits_value 10 word = fits.1 ∙ same in
    let number : IsNumberBelow limit word (digits_value 10 word) = number_of limit word few h (omega (arith, fits.0, same)) in
    IsAnswer-Some (IsNumberBelow limit word) n (subst (IsNumberBelow limit word) (sym n_is) number) (λ m p. n_is ∙ (IsWritten-below limit few word m p).value)
by_result limit word value (Err e) few same h fits =
    IsAnswer-None (IsNumberBelow limit word) (λ n p. fits (omega (arith, p.fits, same, (IsWritten-below limit few word n p).value)))

-- what `try_from` and `ok` answer
pub IsAnswer-number : {E : Type 0} (limit : ℕ) (word : List ℕ) (value : ℕ) (r : Result ℕ E) (answer : Option ℕ) → limit ≤ 2 ^ 64 → value ≡ digits_value 10 word → IsPlain word → OkIff r (value < limit) value → answer ≡ result_ok r → IsAnswer (IsNumberBelow limit word) answer
IsAnswer-number limit word value r answer few same h fits is = subst (IsAnswer (IsNumberBelow limit word)) (sym is) (by_result limit word value r few same h fits)

-- other words are no numbers
pub IsAnswer-not_plain : (limit : ℕ) (word : List ℕ) → limit ≤ 2 ^ 64 → (IsPlain word → ⊥) → IsAnswer (IsNumberBelow limit word) None
IsAnswer-not_plain limit word few not_plain = IsAnswer-None (IsNumberBelow limit word) (λ n p. not_plain (IsWritten-below limit few word n p).plain)

-- ---- a word is read in one way

pub IsNumberBelow-unique : (limit : ℕ) → limit ≤ 2 ^ 64 → {word : List ℕ} {m n : ℕ} → IsNumberBelow limit word m → IsNumberBelow limit word n → m ≡ n
IsNumberBelow-unique limit few {word} {m} {n} h other = sym (IsWritten-below limit few word m h).value ∙ (IsWritten-below limit few word n other).value

pub IsNumber-unique : {word : List ℕ} {m n : ℕ} → IsNumber word m → IsNumber word n → m ≡ n
IsNumber-unique h other = IsNumberBelow-unique (2 ^ 32) (omega arith) h other

pub IsFile-unique : {word : List ℕ} {m n : NodeId} → IsFile word m → IsFile word n → m ≡ n
IsFile-unique h other =
    let digits : h.digits ≡ other.digits = let both : 35 ∷ h.digits ≡ 35 ∷ other.digits = sym h.word_is ∙ other.word_is in cc in
    ap (λ n. record { 0 = n }) (IsNumberBelow-unique (2 ^ 64) (omega arith) (subst (λ word. IsNumberBelow (2 ^ 64) word _) digits h.number) other.number)

pub HasNo-number : (stop : ℕ) → is_digit stop ≡ false → (word : List ℕ) (n : ℕ) → IsNumber word n → HasNo stop word
HasNo-number stop none word n h = HasNo-all is_digit stop none word (IsWritten-below (2 ^ 32) (omega arith) word n h).plain.digits

pub IsSecond-unique : (word : List ℕ) {m n : ℤ} → IsSecond word m → IsSecond word n → m ≡ n
IsSecond-unique word {m} {n} h other = let both : At m ≡ At n = same_read (At m) (At n) (sym h ∙ other) in cc

pub IsMoment-second : (word : List ℕ) {n : ℤ} → IsSecond word n → IsMoment n
IsMoment-second word {n} h = time_in_range word (At n) h
