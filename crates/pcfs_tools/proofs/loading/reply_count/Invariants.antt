-- The replies so far are counted.
use Rattle.std.proofs.Common.{◌≡◌, ◌≤◌, ◌+◌, length}
use Rattle.line_text.specs.Lines.{lines_of}
use Rattle.pcfs_tools.proofs.loading.reply_count.Given as goal

abbrev pub invariant-loop-others : goal.invariant-loop-others
invariant-loop-others l = (l.count + length (lines_of l.rest) ≡ length (lines_of l.fn.replies)) × (l.count + length l.rest ≤ length l.fn.replies)

abbrev pub decreases-loop-others : goal.decreases-loop-others
decreases-loop-others l = length l.rest
