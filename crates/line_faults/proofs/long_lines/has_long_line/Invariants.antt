-- No line so far is too long.
use Rattle.std.proofs.Common.{length}
use Rattle.std.specs.Prelude.{◌↔◌}
use Rattle.line_text.specs.Lines.{lines_of}
use Rattle.line_faults.specs.LongLines.{HasLongLine}
use Rattle.line_faults.proofs.long_lines.has_long_line.Given as goal

abbrev pub invariant-loop-line : goal.invariant-loop-line
invariant-loop-line l = HasLongLine (lines_of l.fn.input) ↔ HasLongLine (lines_of l.rest)

abbrev pub decreases-loop-line : goal.decreases-loop-line
decreases-loop-line l = length l.rest
