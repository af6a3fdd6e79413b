-- What the registry has under the number is what stands there.
use Rattle.std.proofs.Common.{◌∙◌, ap}
use Rattle.access_history.specs.Base.{BaseView}
use Rattle.access_history.specs.History.{state_of}
use Rattle.access_history.proofs.HistoryLemmas.{live_told}
use Rattle.access_history.proofs.history.History.live.Goals as goal

pub returns : goal.returns
returns c =
    live_told (state_of c.args.self.now).statements c.self.inside.statements.entries c.args.number c.live.result (ap (λ (s : BaseView). s.statements) (c.self.invariant.state_is ∙ ap state_of c.self.view_is)) c.live.ensures
