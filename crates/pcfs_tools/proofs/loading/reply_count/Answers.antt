-- Each line is one reply.
use Rattle.std.proofs.Common.{arith}
use Rattle.line_text.specs.Lines.{lines_of}
use Rattle.pcfs_tools.proofs.LoadLemmas.{all_next, all_end}
use Rattle.pcfs_tools.proofs.loading.reply_count.Goals as goal

pub loop-others-preserved : goal.loop-others-preserved
loop-others-preserved c = (
  all_next _ (lines_of c.loop-others.rest.now) (lines_of c.in-Some.others.now) c.loop-others.count _ c.in-Some.ensures.lines c.loop-others.invariant.0,
  omega (arith, c.in-Some.ensures.shorter, c.loop-others.invariant.1),
)

pub returns : goal.returns
returns c = all_end c.loop-others.rest.now c.loop-others.count _ c.in_default.ensures.lines c.loop-others.invariant.0
