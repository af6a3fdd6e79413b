-- Each digit of the word adds its place, and no part of the word writes more than the whole.
use Rattle.std.proofs.Common.{arith}
use Rattle.bl_tokens.proofs.NumeralLemmas.{next_digit}
use Rattle.bl_tokens.proofs.numerals.digits_value.Goals as goal

pub loop-byte-preserved : goal.loop-byte-preserved
loop-byte-preserved c =
    let next = next_digit c.args.digits.now c.loop-byte.byte-index c.requires c.loop-byte-test.true in
    let more = c.in-Some.ensures in
    (omega arith, omega arith)

pub returns-in-None : goal.returns-in-None
returns-in-None c = λ fits.
    let next = next_digit c.args.digits.now c.loop-byte.byte-index c.requires c.loop-byte-test.true in omega (arith, c.in-None.ensures (omega arith))
