-- A member is one by the places of its name and of the group's.
use Rattle.mode_policy.proofs.AddingLemmas.{member_tested, no_member_who, no_member_group}
use Rattle.mode_policy.proofs.table.ModeTable.is_member.Goals as goal

pub returns-in-Some-find : goal.returns-in-Some-find
returns-in-Some-find c =
    let i = c.self.inside in
    member_tested i.who i.groups i.members i.files c.args.self.now c.self.view_is c.self.invariant c.args.who.now c.args.group.now c.in-Some.place c.in-Some-find.group_place c.has.result
    c.in-Some.ensures c.in-Some-find.ensures c.has.ensures

pub returns-in-None-find : goal.returns-in-None-find
returns-in-None-find c =
    let i = c.self.inside in
    no_member_group i.who i.groups i.members i.files c.args.self.now c.self.view_is c.self.invariant c.args.who.now c.args.group.now c.in-None-find.ensures

pub returns-in-None : goal.returns-in-None
returns-in-None c =
    let i = c.self.inside in
    no_member_who i.who i.groups i.members i.files c.args.self.now c.self.view_is c.self.invariant c.args.who.now c.args.group.now c.in-None.ensures
