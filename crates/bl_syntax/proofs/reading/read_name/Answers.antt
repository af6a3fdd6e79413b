use Rattle.std.proofs.Common.{arith, rules}
use Rattle.std.specs.Prelude.{IsTrue}
use Rattle.bl_syntax.specs.Names.{is_principal_name}
use Rattle.bl_syntax.specs.Spelling.{with_length}
use Rattle.bl_syntax.specs.Reading.{name_at}
use Rattle.bl_syntax.proofs.CodecLemmas.{front_exact, front_err, not_memory}
use Rattle.bl_syntax.proofs.FieldCodecs.{name_codec}
use Rattle.bl_syntax.proofs.reading.read_name.Goals as goal

pub returns-in-Ok-clause-front : goal.returns-in-Ok-clause-front
returns-in-Ok-clause-front c = front_exact (λ name. IsTrue (is_principal_name name)) with_length name_at c.args.bytes.now _ name_codec (λ i. omega (arith, c.type_inv.bytes i)) (search rules)

pub returns-in-Err-clause-front : goal.returns-in-Err-clause-front
returns-in-Err-clause-front c =
    front_err (λ name. name) (λ name. IsTrue (is_principal_name name)) with_length name_at c.args.bytes.now c.in-Err.fault name_codec (λ i. omega (arith, c.type_inv.bytes i)) c.in-Err.ensures

pub returns-in-Err-clause-memory : goal.returns-in-Err-clause-memory
returns-in-Err-clause-memory c = not_memory (λ name. IsTrue (is_principal_name name)) with_length name_at c.args.bytes.now c.in-Err.fault name_codec c.in-Err.ensures
