use Rattle.bl_codec.proofs.FormulaCodec.{formula_codec}
use Rattle.bl_codec.proofs.laws.formulas_are_a_codec.Goals as goal

pub returns : goal.returns
returns c = formula_codec
