-- 18 digits write a number that fits.
use Rattle.std.proofs.Common.{◌≡◌, ℕ, ◌≤◌, ◌<◌, ◌^◌, List, length, Option, Some, None, IsTrue, ap, ◌∙◌, arith}
use Rattle.std.specs.Prelude.{IfSome}
use Rattle.std.specs.List.{list_all}
use Rattle.std.specs.Option.{SomeIff}
use Rattle.std.specs.Str.Parse.{digits_value}
use Rattle.std.proofs.lemmas.Bool.Decides.{nat_tests}
use Rattle.bl_syntax.specs.Names.{is_digit}
use Rattle.bl_tokens.specs.Tokens.{short_value}
use Rattle.bl_tokens.proofs.NumeralLemmas.{digits_value-lt}
use Rattle.bl_tokens.proofs.tokens.short_value.Goals as goal

value_is : (ds : List ℕ) (r : Option ℕ) → IsTrue (list_all is_digit ds) → length ds ≤ 18 → SomeIff r (digits_value 10 ds < 2 ^ 64) (digits_value 10 ds) → r ≡ Some (digits_value 10 ds)
value_is ds (Some n) digits few found = ap Some found.1
value_is ds None digits few none = absurd (none (omega (arith, digits_value-lt ds digits few)))

short_value_is : (ds : List ℕ) → 1 ≤ length ds → length ds ≤ 18 → Some (digits_value 10 ds) ≡ short_value ds
short_value_is ds some few = grind (arith, nat_tests)

fits : (ds : List ℕ) (r : Option ℕ) → IsTrue (list_all is_digit ds) → length ds ≤ 18 → r ≡ Some (digits_value 10 ds) → IfSome r (λ n. n < 10 ^ 18)
fits ds r digits few is = rw is (digits_value-lt ds digits few)

pub returns-then-digits-le18-clause-value : goal.returns-then-digits-le18-clause-value
returns-then-digits-le18-clause-value c =
    let ds = c.args.digits.now in
    value_is ds c.digits_value.result c.requires (omega arith) c.digits_value.ensures ∙ short_value_is ds (omega arith) (omega arith)

pub returns-then-digits-le18-clause-fits : goal.returns-then-digits-le18-clause-fits
returns-then-digits-le18-clause-fits c =
    let ds = c.args.digits.now in
    fits ds c.digits_value.result c.requires (omega arith) (value_is ds c.digits_value.result c.requires (omega arith) c.digits_value.ensures)
