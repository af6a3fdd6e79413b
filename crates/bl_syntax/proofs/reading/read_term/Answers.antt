use Rattle.std.proofs.Common.{arith}
use Rattle.bl_syntax.specs.Spelling.{IsSpellable}
use Rattle.bl_syntax.specs.Spelling.{term_spelling}
use Rattle.bl_syntax.specs.Reading.{term_at}
use Rattle.bl_syntax.proofs.CodecLemmas.{front_ok, front_err, not_memory}
use Rattle.bl_syntax.proofs.TermLemmas.{term_codec}
use Rattle.bl_syntax.proofs.reading.read_term.Goals as goal

pub returns-in-Ok-clause-front : goal.returns-in-Ok-clause-front
returns-in-Ok-clause-front c =
    front_ok (λ t. t) IsSpellable term_spelling term_at c.args.bytes.now c.in-Ok.rest.now c.in-Ok.t c.saturating_sub.result term_codec (λ i. omega (arith, c.type_inv.bytes i)) c.in-Ok.ensures c.saturating_sub.ensures

pub returns-in-Err-clause-front : goal.returns-in-Err-clause-front
returns-in-Err-clause-front c =
    front_err (λ t. t) IsSpellable term_spelling term_at c.args.bytes.now c.in-Err.fault term_codec (λ i. omega (arith, c.type_inv.bytes i)) c.in-Err.ensures

pub returns-in-Err-clause-memory : goal.returns-in-Err-clause-memory
returns-in-Err-clause-memory c = not_memory IsSpellable term_spelling term_at c.args.bytes.now c.in-Err.fault term_codec c.in-Err.ensures
