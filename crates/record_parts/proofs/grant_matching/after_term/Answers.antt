use Rattle.std.proofs.Common.{arith}
use Rattle.bl_syntax.proofs.WordLemmas.{short_name}
use Rattle.record_parts.proofs.grant_matching.after_term.Goals as goal

pub overflow_cast-name : goal.overflow_cast-name
overflow_cast-name c = record { fits = omega (arith, (short_name c.bytes-name.result.now (rw c.bytes-name.ensures.same c.bytes-name.ensures.named)).not_above) }
