use Rattle.std.proofs.Common.{arith}
use Rattle.bl_syntax.specs.Formula.{formula_view}
use Rattle.bl_syntax.specs.FormulaSpelling.{IsSpellableFormula, formula_spelling}
use Rattle.bl_syntax.specs.FormulaReading.{whole_formula_at}
use Rattle.bl_syntax.proofs.CodecLemmas.{front_ok}
use Rattle.bl_syntax.proofs.ReportsFaultLemmas.{front_stops}
use Rattle.bl_codec.proofs.FormulaCodec.{formula_codec}
use Rattle.bl_codec.proofs.formula_reading.read_formula.Goals as goal

pub returns-in-Ok-clause-front : goal.returns-in-Ok-clause-front
returns-in-Ok-clause-front c =
    front_ok formula_view IsSpellableFormula formula_spelling whole_formula_at c.args.bytes.now c.in-Ok.rest.now c.in-Ok.f c.place.result formula_codec (λ i. omega (arith, c.type_inv.bytes i)) c.in-Ok.ensures c.place.ensures

pub returns-in-Err-clause-front : goal.returns-in-Err-clause-front
returns-in-Err-clause-front c =
    front_stops formula_view IsSpellableFormula formula_spelling whole_formula_at c.args.bytes.now c.in-Err.fault formula_codec (λ i. omega (arith, c.type_inv.bytes i)) c.in-Err.ensures
