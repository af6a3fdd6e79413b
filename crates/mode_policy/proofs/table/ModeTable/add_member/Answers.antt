-- A membership of a principal that is there is added, if it is not there.
use Rattle.std.proofs.Common.{sym, ◌∙◌}
use Rattle.std.specs.Prelude.{Contains}
use Rattle.std.proofs.lemmas.Bool.{false≢true}
use Rattle.mode_policy.proofs.AddingLemmas.{member_twice, adds_member}
use Rattle.mode_policy.proofs.RowLemmas.{range_with_member}
use Rattle.mode_policy.proofs.table.ModeTable.add_member.Goals as goal

pub returns-then-has : goal.returns-then-has
returns-then-has c =
    let i = c.self.inside in
    member_twice i.who i.groups i.members i.files c.args.self.now c.self.view_is c.self.invariant c.place_of.new.names c.in_ok-group_place.ensures.0 c.args.m c.in-Some.place c.in_ok-group_place.group_place
    c.args.self.now c.in-Some.ensures c.in_ok-group_place.ensures.1 (c.has.ensures.0 c.if-has.true)

pub invariant_of-self-2 : goal.invariant_of-self-2
invariant_of-self-2 c =
    let i = c.self.inside in
    rw c.in_ok-add.ensures.ok
    (range_with_member i.who i.groups c.place_of.new.names c.in_ok-group_place.ensures.0 i.members i.files c.self.invariant c.args.m.who c.args.m.group c.in-Some.place c.in_ok-group_place.group_place
    c.in-Some.ensures c.in_ok-group_place.ensures.1)

pub returns : goal.returns
returns c =
    let i = c.self.inside in
    let new : Contains c.self.inside.members (c.in-Some.place, c.in_ok-group_place.group_place) → ⊥ = λ h. false≢true (sym c.if-has.false ∙ c.has.ensures.1 h) in
    adds_member i.who i.groups i.members i.files c.args.self.now c.self.view_is c.self.invariant c.place_of.new.names c.in_ok-group_place.ensures.0 c.args.m c.in-Some.place c.in_ok-group_place.group_place
    c.add.new.self c.in-Some.ensures c.in_ok-group_place.ensures.1 new c.in_ok-add.ensures.ok
