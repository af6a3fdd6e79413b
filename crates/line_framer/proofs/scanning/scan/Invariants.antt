use Rattle.std.proofs.Common.{◌≤◌, length}
use Rattle.line_framer.proofs.ScanningLemmas.{SoFar}
use Rattle.line_framer.proofs.scanning.scan.Given as goal

abbrev pub invariant-lines : goal.invariant-lines
invariant-lines l = (l.last_len ≤ 262144) × (length l.rest ≤ length l.piece) × SoFar l.fn.last_len l.piece l.rest l.last_len

abbrev pub decreases-lines : goal.decreases-lines
decreases-lines l = length l.rest
