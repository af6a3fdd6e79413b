use Rattle.follower.proofs.FollowsLemmas.{nexts}
use Rattle.follower.proofs.laws.next_events_are_taken.Goals as goal

pub returns : goal.returns
returns g c = λ leader follower next number payload taken follows exported numbered takes. nexts g.D.Disk.faults g.E.Disk.faults leader follower next number payload taken follows exported numbered takes
