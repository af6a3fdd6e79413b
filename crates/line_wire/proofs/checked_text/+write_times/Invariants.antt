use Rattle.std.proofs.Common.{length}
use Rattle.line_wire.proofs.checked_text.+write_times.Given as goal

-- one condition fewer is left
abbrev pub decreases-write_times : goal.decreases-write_times
decreases-write_times l = length l.times.now
