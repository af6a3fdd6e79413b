-- A principal that is not there is added.
use Rattle.mode_policy.proofs.AddingLemmas.{adds_who}
use Rattle.mode_policy.proofs.table.ModeTable.add_principal.Goals as goal

pub returns-in_ok-add-in-None : goal.returns-in_ok-add-in-None
returns-in_ok-add-in-None c =
    let i = c.self.inside in
    adds_who i.who i.groups i.members i.files c.args.self.now c.self.view_is c.self.invariant c.args.who c.add.new.self c.in-None.ensures c.in_ok-add-in-None.ensures.ok.1
