-- The run ends, and its last line is written.
use Rattle.follow_run.proofs.StatusLemmas.{FollowsInput-told}
use Rattle.follow_run.proofs.following.follow_over.Goals as goal

pub returns : goal.returns
returns g c = FollowsInput-told g.D.Disk.clock g.D.Disk.left_since g.D.Disk.image g.D.Disk.faults _ _ _ _ _ _ _ _ _ _ _ _ _ _ c.read_pieces-end.ensures.ends c.write_end.ensures.untouched c.write_end.ensures.tells
