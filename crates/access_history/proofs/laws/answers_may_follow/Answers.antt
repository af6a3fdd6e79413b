use Rattle.access_history.proofs.MayFollowLemmas.{MayFollow-answered}
use Rattle.access_history.proofs.laws.answers_may_follow.Goals as goal

pub returns : goal.returns
returns c = MayFollow-answered
