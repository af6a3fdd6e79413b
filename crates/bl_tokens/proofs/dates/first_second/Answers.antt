-- The distance in seconds from 1970-01-01, of which the day number is 0.
use Rattle.std.proofs.Common.{◌≡◌, ℤ, pos, ◌*ℤ◌, ◌-ℤ◌, ap, ◌∙◌, arith, rules, w64}
use Rattle.std.specs.Prelude.{int_div}
use Rattle.std.proofs.lemmas.Int.{ints, quot-rem, rem_below, to_z-of_z}
use Rattle.jiff.specs.Words.{epoch_day, IsYmd}
use Rattle.jiff_core.specs.Calendar.{days_from_civil}
use Rattle.jiff_core.specs.declared.civil.date.Date.{Date}
use Rattle.jiff_core.proofs.DateLemmas.{epoch_day_range}
use Rattle.bl_tokens.proofs.dates.first_second.Goals as goal

first_day : days_from_civil (pos 1970) 1 1 ≡ pos 0
unfolding days_from_civil
first_day = omega (arith, ints)

first_day_of : (date : Date) → IsYmd (pos 1970) (pos 1) (pos 1) date → epoch_day date ≡ pos 0
first_day_of date ymd =
    let year : date.year ≡ pos 1970 = ymd.0 in
    let month : date.month ≡ 1 = cc ymd.1 in
    let day : date.day ≡ 1 = cc ymd.2 in
    rw (year, month, day) first_day

seconds_of_days : (days : ℤ) → int_div (days *ℤ pos 86_400_000_000_000) (pos 1_000_000_000) ≡ days *ℤ pos 86_400
seconds_of_days days =
    let whole = quot-rem (days *ℤ pos 86_400_000_000_000) (pos 1_000_000_000) in
    let below = rem_below (days *ℤ pos 86_400_000_000_000) (pos 1_000_000_000) (omega arith) in
    omega (arith, ints)

seconds_from : (seconds nanos day first : ℤ) → first ≡ pos 0 → nanos ≡ (day -ℤ first) *ℤ pos 86_400_000_000_000 → seconds ≡ int_div nanos (pos 1_000_000_000) → seconds ≡ day *ℤ pos 86_400
seconds_from seconds nanos day first zero_day nanos_is seconds_is =
    let days : day -ℤ first ≡ day = omega (arith, ints) in
    seconds_is ∙ ap (λ (n : ℤ). int_div n (pos 1_000_000_000)) (nanos_is ∙ ap (λ (d : ℤ). d *ℤ pos 86_400_000_000_000) days) ∙ seconds_of_days day

pub returns-clause-value : goal.returns-clause-value
returns-clause-value c =
    let bits = to_z-of_z w64 c.as_secs.result (search rules) in
    bits ∙ seconds_from c.as_secs.result _ (epoch_day c.args.date) (epoch_day c.date-epoch.result) (first_day_of c.date-epoch.result c.date-epoch.ensures) c.duration_since-distance.ensures c.as_secs.ensures

pub returns-clause-range : goal.returns-clause-range
returns-clause-range c =
    let bits = to_z-of_z w64 c.as_secs.result (search rules) in
    let value : c.as_secs.result ≡ epoch_day c.args.date *ℤ pos 86_400 = seconds_from c.as_secs.result _ (epoch_day c.args.date) (epoch_day c.date-epoch.result) (first_day_of c.date-epoch.result c.date-epoch.ensures) c.duration_since-distance.ensures c.as_secs.ensures in
    let range = epoch_day_range c.args.date in
    (omega (arith, ints), omega (arith, ints))
