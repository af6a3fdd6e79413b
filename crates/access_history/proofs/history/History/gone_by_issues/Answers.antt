-- The index is that of the state's issues and statements.
use Rattle.access_history.proofs.HistoryLemmas.{gone_shown, knows_shown}
use Rattle.access_history.proofs.history.History.gone_by_issues.Goals as goal

pub gone_by-requires : goal.gone_by-requires
gone_by-requires c = knows_shown c.self.inside _ c.args.procap.now c.self.invariant c.self.view_is c.as_slice.result.now c.as_slice.ensures.value c.requires.genuine c.requires.unnamed

pub returns : goal.returns
returns c = gone_shown c.self.inside _ c.args.procap.now.grant c.as_slice.result.now c.gone_by.result c.self.invariant c.self.view_is c.as_slice.ensures.value c.gone_by.ensures
