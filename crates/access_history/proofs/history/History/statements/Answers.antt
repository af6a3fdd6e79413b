-- A lawful history has few statements.
use Rattle.std.proofs.Common.{length, ap, arith}
use Rattle.access_history.specs.Base.{BaseView}
use Rattle.access_history.specs.History.{authority_of}
use Rattle.access_history.specs.HistoryParts.{kept_by}
use Rattle.access_history.proofs.LawfulLemmas.{IsLawfulBase-lawful}
use Rattle.access_history.proofs.history.History.statements.Goals as goal

pub returns-clause-few : goal.returns-clause-few
returns-clause-few c =
    let lawful = IsLawfulBase-lawful (authority_of (kept_by c.self.inside)) c.self.inside.base c.self.inside.events.items c.self.invariant.lawful in
    let shown = ap (λ (s : BaseView). length s.statements) c.self.invariant.state_is in
    let same = ap length c.entries.ensures.same in
    omega (arith, lawful.statements_fit, shown, same)
