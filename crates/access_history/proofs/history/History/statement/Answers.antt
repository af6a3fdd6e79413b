-- The entry that was read is the one of that number.
use Rattle.std.proofs.Common.{◌∙◌, ap, subst, sym}
use Rattle.policy_statement.specs.Registry.{sayings}
use Rattle.access_history.specs.Base.{BaseView}
use Rattle.access_history.specs.History.{state_of}
use Rattle.access_history.specs.Numbered.{IsNumbered}
use Rattle.access_history.proofs.CitingLemmas.{said_numbered}
use Rattle.access_history.proofs.NumberedLemmas.{numbered_in}
use Rattle.access_history.proofs.history.History.statement.Goals as goal

pub returns : goal.returns
returns c =
    let entries = (state_of c.args.self.now).statements in
    let shown = c.entries-entries.ensures.same ∙ ap (λ (s : BaseView). s.statements) (c.self.invariant.state_is ∙ ap state_of c.self.view_is) in
    let numbered : IsNumbered entries c.args.number c.index-entries-number.result =
    numbered_in entries c.entries-entries.result.now c.args.number c.index-entries-number.result shown c.if-number-eq0.false c.if-entries-number.false c.index-entries-number.is in
    subst (IsNumbered (sayings entries) c.args.number) (sym c.statement.ensures) (said_numbered entries c.args.number c.index-entries-number.result numbered)
