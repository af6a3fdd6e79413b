-- A lawful history is one of which the headline holds, and the world that is kept is the one to which it leads.
use Rattle.std.proofs.Common.{sym, ap, subst}
use Rattle.file_world.specs.World.{World}
use Rattle.access_history.specs.Base.{BaseView}
use Rattle.access_history.specs.Headline.{Headline}
use Rattle.access_history.specs.History.{HistoryView, authority_of}
use Rattle.access_history.specs.HistoryParts.{kept_by}
use Rattle.access_history.proofs.HeadlineLemmas.{Headline-lawful}
use Rattle.access_history.proofs.history.History.headline.Goals as goal

pub returns : goal.returns
returns c =
    subst (λ (k : HistoryView). Headline (authority_of k) k.base k.events c.self.inside.world.world) c.self.view_is
    (subst (λ (w : World). Headline (authority_of (kept_by c.self.inside)) c.self.inside.base c.self.inside.events.items w) (sym (ap (λ (s : BaseView). s.world) c.self.invariant.state_is))
    (Headline-lawful (authority_of (kept_by c.self.inside)) c.self.inside.base c.self.inside.events.items c.self.invariant.lawful))
