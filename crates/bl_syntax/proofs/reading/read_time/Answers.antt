use Rattle.std.proofs.Common.{arith}
use Rattle.bl_syntax.specs.TimeOrder.{IsInRange}
use Rattle.bl_syntax.specs.Spelling.{time_spelling}
use Rattle.bl_syntax.specs.Reading.{time_at}
use Rattle.bl_syntax.proofs.CodecLemmas.{front_ok, front_err, not_memory}
use Rattle.bl_syntax.proofs.FieldCodecs.{time_codec}
use Rattle.bl_syntax.proofs.reading.read_time.Goals as goal

pub returns-in-Ok-clause-front : goal.returns-in-Ok-clause-front
returns-in-Ok-clause-front c =
    front_ok (λ point. point) IsInRange time_spelling time_at c.args.bytes.now c.in-Ok.rest.now c.in-Ok.point c.saturating_sub.result time_codec (λ i. omega (arith, c.type_inv.bytes i)) c.in-Ok.ensures c.saturating_sub.ensures

pub returns-in-Err-clause-front : goal.returns-in-Err-clause-front
returns-in-Err-clause-front c =
    front_err (λ point. point) IsInRange time_spelling time_at c.args.bytes.now c.in-Err.fault time_codec (λ i. omega (arith, c.type_inv.bytes i)) c.in-Err.ensures

pub returns-in-Err-clause-memory : goal.returns-in-Err-clause-memory
returns-in-Err-clause-memory c = not_memory IsInRange time_spelling time_at c.args.bytes.now c.in-Err.fault time_codec c.in-Err.ensures
