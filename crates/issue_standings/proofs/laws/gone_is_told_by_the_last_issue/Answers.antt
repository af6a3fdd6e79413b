use Rattle.issue_standings.proofs.StandingLemmas.{gone_exactly}
use Rattle.issue_standings.proofs.laws.gone_is_told_by_the_last_issue.Goals as goal

pub returns : goal.returns
returns c = gone_exactly
