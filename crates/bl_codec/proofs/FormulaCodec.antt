-- The spelling and the reading of formulas.
use Rattle.bl_syntax.specs.FormulaSpelling.{IsSpellableFormula, formula_spelling}
use Rattle.bl_syntax.specs.FormulaReading.{whole_formula_at}
use Rattle.bl_syntax.specs.Codec.{IsCodec}
use Rattle.bl_syntax.proofs.CodecLemmas.{codec}
use Rattle.bl_codec.proofs.FormulaLemmas.{whole_found}
use Rattle.bl_codec.proofs.FormulaRoundTrip.{whole_again}
use Rattle.bl_codec.proofs.FormulaMemory.{whole_memoryless}

pub formula_codec : IsCodec IsSpellableFormula formula_spelling whole_formula_at
formula_codec = codec IsSpellableFormula formula_spelling whole_formula_at whole_found whole_again whole_memoryless
