-- A file of a principal that is there is added, if it is not there.
use Rattle.std.proofs.Common.{map, sym, ◌∙◌}
use Rattle.std.specs.Prelude.{Contains}
use Rattle.mode_policy.specs.Rows.{number_of}
use Rattle.mode_policy.proofs.AddingLemmas.{file_twice, adds_file}
use Rattle.mode_policy.proofs.PlacesLemmas.{has_place}
use Rattle.mode_policy.proofs.RowLemmas.{range_with_file}
use Rattle.std.proofs.lemmas.Bool.{false≢true}
use Rattle.mode_policy.proofs.table.ModeTable.add_file.Goals as goal

pub returns-then-is_some : goal.returns-then-is_some
returns-then-is_some c =
    let i = c.self.inside in
    let known = (has_place (map number_of c.self.inside.files) c.args.f.node.0 c.find-2.result c.is_some.result c.is_some.ensures c.find-2.ensures).0 c.if-is_some.true in
    file_twice i.who i.groups i.members i.files c.args.self.now c.self.view_is c.self.invariant c.args.f c.in-Some.place c.args.self.now c.in-Some.ensures known

pub invariant_of-self-2 : goal.invariant_of-self-2
invariant_of-self-2 c =
    let i = c.self.inside in
    rw c.in_ok-add.ensures.ok
    (range_with_file i.who i.groups c.place_of.new.names c.in_ok-group.ensures.0 i.members i.files c.self.invariant c.args.f.node c.args.f.owner c.args.f.group c.args.f.modes c.in-Some.place c.in_ok-group.group
    c.in-Some.ensures c.in_ok-group.ensures.1)

pub returns : goal.returns
returns c =
    let i = c.self.inside in
    let new : Contains (map number_of c.self.inside.files) c.args.f.node.0 → ⊥ =
    λ h. false≢true (sym c.if-is_some.false ∙ (has_place (map number_of c.self.inside.files) c.args.f.node.0 c.find-2.result c.is_some.result c.is_some.ensures c.find-2.ensures).1 h) in
    adds_file i.who i.groups i.members i.files c.args.self.now c.self.view_is c.self.invariant c.place_of.new.names c.in_ok-group.ensures.0 c.args.f c.in-Some.place c.in_ok-group.group
    c.add.new.self c.in-Some.ensures c.in_ok-group.ensures.1 new c.in_ok-add.ensures.ok
