-- The lines so far, as statements.
use Rattle.std.proofs.Common.{length}
use Rattle.line_text.specs.Lines.{lines_of}
use Rattle.pcfs_inquiry.proofs.InquiryLemmas.{IsReading}
use Rattle.pcfs_inquiry.proofs.reading.read_inquiry.Given as goal

abbrev pub invariant-loop-line : goal.invariant-loop-line
invariant-loop-line l = IsReading (lines_of l.fn.input) l.cites.items l.rest

abbrev pub decreases-loop-line : goal.decreases-loop-line
decreases-loop-line l = length l.rest
