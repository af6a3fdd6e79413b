-- The digits of a numeral, and the number that they write.
use Rattle.std.proofs.Common.{◌≡◌, ℕ, ◌+◌, ◌*◌, ◌-◌, ◌^◌, ◌<◌, ◌≤◌, List, length, take, get_or, IsTrue, arith, rules}
use Rattle.std.specs.List.{list_all}
use Rattle.std.specs.Char.{digit_value}
use Rattle.std.specs.Int.{IsInRange}
use Rattle.std.specs.Str.Parse.{digits_value}
use Rattle.std.proofs.lemmas.Str.{digit_value_digit}
use Rattle.std.proofs.lemmas.Str.Parse.{IsNumeralModel, numerals_by_value, digits_value_short, digits_value-take-le, digit_at}
use Rattle.std.proofs.lemmas.Int.Digits.{digits_value_more}
use Rattle.bl_syntax.specs.Names.{is_digit}

-- the words of digits, and what they write, in the words of std's lemmas
pub is_numeral_model : IsNumeralModel (λ ds. IsTrue (list_all is_digit ds)) (digits_value 10)
is_numeral_model = numerals_by_value _ (search rules)

pub digits_value-lt : (ds : List ℕ) → IsTrue (list_all is_digit ds) → length ds ≤ 18 → digits_value 10 ds < 10 ^ 18
digits_value-lt ds digits few = digits_value_short is_numeral_model ds 18 digits few

-- one more digit
pub record IsNextDigit (ds : List ℕ) (i : ℕ) : Type 0 where
  pub low : 48 ≤ get_or ds i 0
  pub high : get_or ds i 0 ≤ 57
  pub more : digits_value 10 (take (i + 1) ds) ≡ digits_value 10 (take i ds) * 10 + (get_or ds i 0 - 48)
  pub part : digits_value 10 (take (i + 1) ds) ≤ digits_value 10 ds

pub next_digit : (ds : List ℕ) (i : ℕ) → IsTrue (list_all is_digit ds) → i < length ds → IsNextDigit ds i
next_digit ds i digits inside =
    let here : IsInRange 48 57 (get_or ds i 0) = digit_at ds i (is_numeral_model.to ds digits) inside in
    let value : digit_value (get_or ds i 0) + 48 ≡ get_or ds i 0 = digit_value_digit (get_or ds i 0) here in
    record {
      low = here.0;
      high = here.1;
      more = omega (arith, digits_value_more 10 ds i inside, value, here.0);
      part = digits_value-take-le 10 ds (i + 1) (omega arith);
    }
