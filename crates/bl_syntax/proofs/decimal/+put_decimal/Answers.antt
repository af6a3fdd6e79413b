-- The last digit stands after those of the number without it.
use Rattle.std.proofs.Common.{arith, append_assoc}
use Rattle.std.proofs.lemmas.Grind.{common_steps}
use Rattle.std.proofs.lemmas.Fmt.{decimal_step, decimal_digit}
use Rattle.bl_syntax.proofs.decimal.+put_decimal.Goals as goal
use Rattle.bl_syntax.proofs.decimal.+put_decimal.Goals.{then-number-ge10+in_ok-put_decimal, else-number-ge10}

pub returns-clause-ok : goal.returns-clause-ok
returns-clause-ok t c = elim c.if-number-ge10.branch [ then-number-ge10+in_ok-put_decimal w ↦ grind (arith, common_steps, decimal_step, append_assoc) | else-number-ge10 w ↦ grind (arith, common_steps, decimal_digit) ]
