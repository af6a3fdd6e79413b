-- The replies so far that begin with the word are counted.
use Rattle.std.proofs.Common.{◌≡◌, ◌≤◌, ◌+◌, length}
use Rattle.line_text.specs.Lines.{lines_of}
use Rattle.pcfs_tools.specs.Load.{count_of}
use Rattle.pcfs_tools.proofs.loading.count_of.Given as goal

abbrev pub invariant-loop-reply : goal.invariant-loop-reply
invariant-loop-reply l = (l.count + count_of l.fn.word (lines_of l.rest) ≡ count_of l.fn.word (lines_of l.fn.replies)) × (l.count + length l.rest ≤ length l.fn.replies)

abbrev pub decreases-loop-reply : goal.decreases-loop-reply
decreases-loop-reply l = length l.rest
