-- The parts of a date's form, and the date that the calendar has.
use Rattle.std.proofs.Common.{◌≡◌, ℕ, ◌≤◌, ℤ, pos, Bool, true, false, List, refl, ap, ◌∙◌, subst, IsTrue, arith, Some, None}
use Rattle.std.proofs.lemmas.Bool.{false≢true}
use Rattle.std.specs.Prelude.{◌&&◌, ◌*ℤ◌, nat_le, if◌then◌else◌}
use Rattle.std.proofs.lemmas.Int.{ints}
use Rattle.std.proofs.lemmas.Bool.Decides.{nat_tests}
use Rattle.jiff.specs.Words.{epoch_day, IsDate, IsYmd}
use Rattle.jiff_core.specs.Calendar.{days_in_month, days_from_civil}
use Rattle.jiff_core.specs.declared.civil.date.Date.{Date}
use Rattle.bl_tokens.specs.Dates.{has_two, has_date_front, has_time_of_day, is_date, date_second}

pub both_true : (a b : Bool) → IsTrue (a && b) → IsTrue a × IsTrue b
both_true true b h = (refl, h)
both_true false b h = absurd (false≢true h)

pub month_digits : (bytes : List ℕ) → IsTrue (has_date_front bytes) → IsTrue (has_two bytes 5)
month_digits bytes h = (both_true _ _ (both_true _ _ (both_true _ _ h).0).0).1

pub day_digits : (bytes : List ℕ) → IsTrue (has_date_front bytes) → IsTrue (has_two bytes 8)
day_digits bytes h = (both_true _ _ h).1

pub hour_digits : (bytes : List ℕ) → IsTrue (has_time_of_day bytes) → IsTrue (has_two bytes 11)
hour_digits bytes h = (both_true _ _ (both_true _ _ (both_true _ _ (both_true _ _ (both_true _ _ (both_true _ _ h).0).0).0).0).0).1

pub minute_digits : (bytes : List ℕ) → IsTrue (has_time_of_day bytes) → IsTrue (has_two bytes 14)
minute_digits bytes h = (both_true _ _ (both_true _ _ (both_true _ _ (both_true _ _ h).0).0).0).1

pub second_digits : (bytes : List ℕ) → IsTrue (has_time_of_day bytes) → IsTrue (has_two bytes 17)
second_digits bytes h = (both_true _ _ (both_true _ _ h).0).1

pub ruleset parts_of_forms = (month_digits, day_digits, hour_digits, minute_digits, second_digits)

and_true : (a b : Bool) → IsTrue a → IsTrue b → IsTrue (a && b)
and_true true b ha hb = hb
and_true false b ha hb = absurd (false≢true ha)

le_true : (m n : ℕ) → m ≤ n → IsTrue (nat_le m n)
le_true m n h = grind (arith, nat_tests)

is_date-true : (y m d : ℕ) → (y ≡ 0 → ⊥) → IsDate (pos y) (pos m) (pos d) → IsTrue (is_date y m d)
is_date-true y m d not_zero there =
    and_true _ _ (and_true _ _ (and_true _ _ (and_true _ _ (le_true 1 y (omega arith)) (le_true 1 m (omega (arith, ints, there.1.0)))) (le_true m 12 (omega (arith, ints, there.1.1)))) (le_true 1 d (omega (arith, ints, there.2.0)))) (le_true d (days_in_month (pos y) m) (omega (arith, ints, there.2.1)))

chosen : (b : Bool) (x : ℤ) → IsTrue b → Some x ≡ (if b then Some x else None)
chosen true x h = refl
chosen false x h = absurd (false≢true h)

same_second : (y m d : ℕ) (date : Date) → IsYmd (pos y) (pos m) (pos d) date → epoch_day date *ℤ pos 86_400 ≡ days_from_civil (pos y) m d *ℤ pos 86_400
same_second y m d date ymd =
    let year : date.year ≡ pos y = ymd.0 in
    let month : date.month ≡ m = cc ymd.1 in
    let day : date.day ≡ d = cc ymd.2 in
    rw (year, month, day)

pub date_second-from_date : (y m d : ℕ) (date : Date) → (y ≡ 0 → ⊥) → IsDate (pos y) (pos m) (pos d) → IsYmd (pos y) (pos m) (pos d) date → Some (epoch_day date *ℤ pos 86_400) ≡ date_second y m d
date_second-from_date y m d date not_zero there ymd =
    ap Some (same_second y m d date ymd) ∙ chosen (is_date y m d) (days_from_civil (pos y) m d *ℤ pos 86_400) (is_date-true y m d not_zero there)

-- the same of signed numbers
pub date_second-from_signed : (y m d : ℕ) (zy zm zd : ℤ) (date : Date) → zy ≡ pos y → zm ≡ pos m → zd ≡ pos d → (y ≡ 0 → ⊥) → IsDate zy zm zd → IsYmd zy zm zd date → Some (epoch_day date *ℤ pos 86_400) ≡ date_second y m d
date_second-from_signed y m d zy zm zd date year month day not_zero there ymd =
    let there_y = subst (λ (z : ℤ). IsDate z zm zd) year there in
    let there_m = subst (λ (z : ℤ). IsDate (pos y) z zd) month there_y in
    let there_d = subst (λ (z : ℤ). IsDate (pos y) (pos m) z) day there_m in
    date_second-from_date y m d date not_zero there_d (ymd.0 ∙ year, ymd.1 ∙ month, ymd.2 ∙ day)
