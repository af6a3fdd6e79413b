-- What is ready is for the operation.
use Rattle.std.proofs.Common.{◌≡◌, sym, ap, ◌∙◌, subst}
use Rattle.file_world.specs.Attributes.{AreMarks}
use Rattle.file_world.specs.AttributeEffect.{marks_after}
use Rattle.attr_state.specs.Index.{marks_of, marks_in}
use Rattle.attr_state.specs.State.{MetaView, IsMetaReady}
use Rattle.attr_state.proofs.ApplyLemmas.{applied}
use Rattle.attr_state.proofs.RowsLemmas.{AreMarks-changed}
use Rattle.attr_state.proofs.meta.Meta.apply.Goals as goal

pub change-requires : goal.change-requires
change-requires c =
    let inside = c.self.inside in
    (applied inside.marks.entries inside.ready c.args.op.now c.self.invariant.index (subst (λ (s : MetaView). IsMetaReady s c.args.op.now) (sym c.self.view_is) c.requires)).changeable

pub invariant_of-self : goal.invariant_of-self
invariant_of-self c =
    let inside = c.self.inside in
    let ready : IsMetaReady (record { marks = marks_in inside.ready inside.marks.entries; ready = inside.ready }) c.args.op.now = subst (λ (s : MetaView). IsMetaReady s c.args.op.now) (sym c.self.view_is) c.requires in
    let same : marks_of c.change.new.marks.entries ≡ marks_after (marks_in inside.ready inside.marks.entries) c.args.op.now =
    c.change.ensures.marks ∙ (applied inside.marks.entries inside.ready c.args.op.now c.self.invariant.index ready).same in
    record {
      index = record { ordered = c.change.ensures.ordered; prepared = tt };
      within = subst AreMarks (sym same) (AreMarks-changed (marks_in inside.ready inside.marks.entries) c.args.op.now c.self.invariant.within c.is_operation.ensures ready.free);
    }

pub returns-clause-marks : goal.returns-clause-marks
returns-clause-marks c =
    let inside = c.self.inside in
    c.change.ensures.marks
    ∙ ((applied inside.marks.entries inside.ready c.args.op.now c.self.invariant.index (subst (λ (s : MetaView). IsMetaReady s c.args.op.now) (sym c.self.view_is) c.requires)).same
    ∙ ap (λ (s : MetaView). marks_after s.marks c.args.op.now) c.self.view_is)
