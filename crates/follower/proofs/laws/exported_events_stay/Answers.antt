use Rattle.follower.proofs.FollowsLemmas.{exported_stays}
use Rattle.follower.proofs.laws.exported_events_stay.Goals as goal

pub returns : goal.returns
returns g c = λ leader next pass clock request reply number payload answers exported. exported_stays g.D.Disk.faults leader pass clock request reply next number payload answers exported
