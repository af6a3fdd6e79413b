-- The line is not too long, so the others decide.
use Rattle.std.proofs.Common.{arith}
use Rattle.line_text.specs.Lines.{lines_of}
use Rattle.line_faults.proofs.LongLemmas.{long_later, long_rest}
use Rattle.line_faults.proofs.long_lines.has_long_line.Goals as goal

pub loop-line-preserved : goal.loop-line-preserved
loop-line-preserved c = (
  λ has. long_rest (lines_of c.loop-line.rest.now) c.in-Some.line.now (lines_of c.in-Some.others.now) c.in-Some.ensures.lines (omega (arith, c.if-line-gt-LONGEST_LINE.false)) (c.loop-line.invariant.0 has),
  λ has. c.loop-line.invariant.1 (long_later (lines_of c.loop-line.rest.now) c.in-Some.line.now (lines_of c.in-Some.others.now) c.in-Some.ensures.lines has),
)
