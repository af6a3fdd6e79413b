use Rattle.follower.proofs.FollowsLemmas.{prefixes}
use Rattle.follower.proofs.laws.followers_have_prefixes.Goals as goal

pub returns : goal.returns
returns g c = λ leader follower follows. prefixes g.D.Disk.faults g.E.Disk.faults leader follower follows
