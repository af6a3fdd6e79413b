use Rattle.std.proofs.Common.{arith}
use Rattle.bl_syntax.proofs.WordLemmas.{short_predicate}
use Rattle.bl_codec.proofs.formula_writing.put_atom.Goals as goal

pub overflow_cast-bytes : goal.overflow_cast-bytes
overflow_cast-bytes c = record { fits = omega (arith, (short_predicate c.bytes-bytes.result.now (rw c.bytes-bytes.ensures.same c.bytes-bytes.ensures.named)).not_above) }
