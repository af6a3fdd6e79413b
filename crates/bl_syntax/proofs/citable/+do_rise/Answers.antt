use Rattle.std.proofs.Common.{ℕ, List, [], ◌∷◌, length, ◌<◌, refl, arith}
use Rattle.bl_syntax.specs.Citable.{DoRise}
use Rattle.bl_syntax.proofs.citable.+do_rise.Goals as goal

short_rises : (numbers : List ℕ) → length numbers < 2 → DoRise numbers
short_rises [] h = tt
short_rises (first ∷ []) h = tt
short_rises (first ∷ second ∷ others) h = absurd (omega (arith, h))

pub returns-in_default : goal.returns-in_default
returns-in_default t c = (λ _. short_rises c.args.numbers.now (omega (arith, c.in_default.len_below)), λ _. refl)
