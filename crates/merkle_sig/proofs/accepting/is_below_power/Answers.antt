use Rattle.std.proofs.Common.{◌∙◌, arith}
use Rattle.std.proofs.lemmas.Bool.{le-leb}
use Rattle.merkle_sig.proofs.StepLemmas.{high_power, shift_tells}
use Rattle.merkle_sig.proofs.accepting.is_below_power.Goals as goal

pub returns-then-power-ge32 : goal.returns-then-power-ge32
returns-then-power-ge32 c =
    le-leb 32 c.args.power c.if-power-ge32.true ∙ high_power c.args.number c.args.power (omega arith) c.if-power-ge32.true

pub returns-else-power-ge32 : goal.returns-else-power-ge32
returns-else-power-ge32 c = shift_tells c.args.number c.args.power
