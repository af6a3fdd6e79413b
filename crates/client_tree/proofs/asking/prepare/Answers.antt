-- The line is that of the operation, with a procap for each need.
use Rattle.std.proofs.Common.{arith}
use Rattle.client_tree.proofs.LineLemmas.{operation_is_asked}
use Rattle.client_tree.proofs.asking.prepare.Goals as goal

pub returns : goal.returns
returns g c = record {
  procaps = c.loop-need.procaps;
  line_is = operation_is_asked c.args.work.now.op c.in_ok-op.op c.loop-need.procaps _ c.in_ok-op.ensures c.in_ok-line.ensures;
  a_procap_each = omega arith;
  a_word_each = omega arith;
}
