-- A digit below 8.
use Rattle.std.proofs.Common.{arith}
use Rattle.mode_policy.proofs.LinePartLemmas.{octal_is}
use Rattle.mode_policy.proofs.lines.is_octal.Goals as goal

pub returns-then-byte-ge-ZERO : goal.returns-then-byte-ge-ZERO
returns-then-byte-ge-ZERO c = let low = c.if-byte-ge-ZERO.true in octal_is c.args.byte (omega (arith, low))
