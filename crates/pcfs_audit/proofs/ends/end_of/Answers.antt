-- The number 0 and one beyond the last have none.
use Rattle.std.proofs.Common.{arith}
use Rattle.pcfs_audit.proofs.EndsLemmas.{end_beyond, end_of_none, end_read}
use Rattle.pcfs_audit.proofs.ends.end_of.Goals as goal

pub returns-then-number-eq0 : goal.returns-then-number-eq0
returns-then-number-eq0 c = end_of_none c.args.ends.now c.args.number c.if-number-eq0.true

pub returns-then-ends-number : goal.returns-then-ends-number
returns-then-ends-number c = end_beyond c.args.ends.now c.args.number c.if-ends-number.true

pub returns : goal.returns
returns c = end_read c.args.ends.now c.args.number _ c.if-number-eq0.false (omega (arith, c.if-ends-number.false))
