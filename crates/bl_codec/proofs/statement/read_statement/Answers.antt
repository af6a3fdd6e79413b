use Rattle.std.proofs.Common.{arith}
use Rattle.bl_syntax.specs.FormulaSpelling.{IsSpellableStatement, statement_spelling}
use Rattle.bl_syntax.specs.FormulaReading.{statement_at}
use Rattle.bl_syntax.proofs.CodecLemmas.{front_ok}
use Rattle.bl_syntax.proofs.ReportsFaultLemmas.{front_stops}
use Rattle.bl_codec.proofs.StatementCodec.{statement_codec}
use Rattle.bl_codec.proofs.statement.read_statement.Goals as goal

pub returns-in-Ok-clause-front : goal.returns-in-Ok-clause-front
returns-in-Ok-clause-front c =
    front_ok (λ s. s) IsSpellableStatement statement_spelling statement_at c.args.bytes.now c.in-Ok.rest.now c.in-Ok.statement c.place.result statement_codec (λ i. omega (arith, c.type_inv.bytes i)) c.in-Ok.ensures c.place.ensures

pub returns-in-Err-clause-front : goal.returns-in-Err-clause-front
returns-in-Err-clause-front c =
    front_stops (λ s. s) IsSpellableStatement statement_spelling statement_at c.args.bytes.now c.in-Err.fault statement_codec (λ i. omega (arith, c.type_inv.bytes i)) c.in-Err.ensures
