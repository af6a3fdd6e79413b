use Rattle.std.proofs.Common.{length}
use Rattle.line_wire.proofs.checked_text.+write_states.Given as goal

-- one condition fewer is left
abbrev pub decreases-write_states : goal.decreases-write_states
decreases-write_states l = length l.states.now
