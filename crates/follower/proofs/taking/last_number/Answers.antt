-- A lawful history has at most that many events.
use Rattle.std.proofs.Common.{arith}
use Rattle.access_history.proofs.ReplayLemmas.{count-replay}
use Rattle.follower.proofs.taking.last_number.Goals as goal

pub returns-clause-few : goal.returns-clause-few
returns-clause-few g c =
    let history = c.history-history.result.now in
    omega (arith, c.count.ensures, c.lemma_is_lawful.ensures.counted, count-replay history.base history.events)
