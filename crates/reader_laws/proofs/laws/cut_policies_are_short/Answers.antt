use Rattle.bl_syntax.specs.FormulaSpelling.{IsSpellableFormula, IsSpellableStatement, formula_spelling, statement_spelling}
use Rattle.bl_syntax.specs.FormulaReading.{whole_formula_at, statement_at}
use Rattle.bl_codec.proofs.FormulaCodec.{formula_codec}
use Rattle.bl_codec.proofs.StatementCodec.{statement_codec}
use Rattle.proof_term.proofs.CodecLemmas.{proofs_codec}
use Rattle.procap.specs.GrantSpelling.{grant_spelling, IsSpellableGrant}
use Rattle.procap.specs.GrantReading.{grant_at}
use Rattle.procap.specs.Procap.{procap_spelling, IsSpellableProcap, procap_at}
use Rattle.procap.proofs.GrantLemmas.{grant_codec}
use Rattle.procap.proofs.ProcapLemmas.{procap_codec}
use Rattle.reader_laws.proofs.CutLemmas.{cuts, cut_proofs}
use Rattle.reader_laws.proofs.FormulaLemmas.{formulas, statements}
use Rattle.reader_laws.proofs.GrantLemmas.{grants, procaps}
use Rattle.reader_laws.proofs.laws.cut_policies_are_short.Goals as goal

pub returns : goal.returns
returns c = record {
  formulas = cuts IsSpellableFormula formula_spelling whole_formula_at formula_codec formulas;
  statements = cuts IsSpellableStatement statement_spelling statement_at statement_codec statements;
  proofs = cut_proofs proofs_codec;
  grants = cuts IsSpellableGrant grant_spelling grant_at grant_codec grants;
  procaps = cuts IsSpellableProcap procap_spelling procap_at procap_codec procaps;
}
