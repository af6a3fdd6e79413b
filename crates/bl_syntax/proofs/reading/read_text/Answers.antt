use Rattle.std.proofs.Common.{arith, rules}
use Rattle.std.specs.Prelude.{IsTrue}
use Rattle.bl_syntax.specs.Names.{is_text}
use Rattle.bl_syntax.specs.Spelling.{with_length}
use Rattle.bl_syntax.specs.Reading.{text_at}
use Rattle.bl_syntax.proofs.CodecLemmas.{front_exact, front_err, not_memory}
use Rattle.bl_syntax.proofs.FieldCodecs.{text_codec}
use Rattle.bl_syntax.proofs.reading.read_text.Goals as goal

pub returns-in-Ok-clause-front : goal.returns-in-Ok-clause-front
returns-in-Ok-clause-front c = front_exact (λ text. IsTrue (is_text text)) with_length text_at c.args.bytes.now _ text_codec (λ i. omega (arith, c.type_inv.bytes i)) (search rules)

pub returns-in-Err-clause-front : goal.returns-in-Err-clause-front
returns-in-Err-clause-front c =
    front_err (λ text. text) (λ text. IsTrue (is_text text)) with_length text_at c.args.bytes.now c.in-Err.fault text_codec (λ i. omega (arith, c.type_inv.bytes i)) c.in-Err.ensures

pub returns-in-Err-clause-memory : goal.returns-in-Err-clause-memory
returns-in-Err-clause-memory c = not_memory (λ text. IsTrue (is_text text)) with_length text_at c.args.bytes.now c.in-Err.fault text_codec c.in-Err.ensures
