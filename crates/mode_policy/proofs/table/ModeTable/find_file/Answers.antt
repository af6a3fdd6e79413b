-- A file stands where its number does.
use Rattle.mode_policy.proofs.AddingLemmas.{finds_file}
use Rattle.mode_policy.proofs.table.ModeTable.find_file.Goals as goal

pub returns : goal.returns
returns c =
    let i = c.self.inside in
    finds_file i.who i.groups i.members i.files c.args.self.now c.self.view_is c.self.invariant c.args.node c.find.result c.find.ensures
