-- Each end of a step says its clauses.
use Rattle.std.proofs.Common.{sym, ◌∙◌, to_z, of_z}
use Rattle.std.specs.Int.{w64}
use Rattle.std.proofs.lemmas.Int.{to_z-of_z}
use Rattle.pcfs_store.proofs.EndLemmas.{stopped_end, answered_end, undecided_end, kept_end, kept_keeps, full_end, unrecorded_end, failed_end}
use Rattle.pcfs_store.proofs.store.Store.step.Goals as goal

pub invariant_of-self-in-Ok : goal.invariant_of-self-in-Ok
invariant_of-self-in-Ok g c =
    kept_keeps g.D.Disk.clock g.D.Disk.left_since g.D.Disk.image g.D.Disk.faults c.self.inside.active c.self.inside.other c.self.inside.second_active c.self.inside.generation c.self.inside.opened.value c.self.inside.gate c.self.inside.checkpoints.items c.self.inside.stop c.self.invariant
    c.args.self.now c.self.view_is c.args.pass (to_z w64 (of_z w64 c.args.clock)) c.args.clock (to_z-of_z w64 c.args.clock c.ranges.clock) c.args.request
    (sym c.is_some.ensures ∙ c.if-is_some.false) c.decide.new.self c.decide.ensures.key c.decide.ensures.ring c.decide.ensures.base c.decide.ensures.events
    c.in-Keep.reply c.in-Keep.ensures.answer c.keep_pending.new.area c.keep_pending.new.gate c.in-Ok.ensures

pub returns-then-is_some-clause-answer : goal.returns-then-is_some-clause-answer
returns-then-is_some-clause-answer g c =
    (stopped_end g.D.Disk.clock g.D.Disk.left_since g.D.Disk.image g.D.Disk.faults c.self.inside.active c.self.inside.other c.self.inside.second_active c.self.inside.generation c.self.inside.opened.value c.self.inside.gate c.self.inside.checkpoints.items c.self.inside.stop c.self.invariant
    c.args.self.now c.self.view_is c.args.pass (to_z w64 (of_z w64 c.args.clock)) c.args.clock (to_z-of_z w64 c.args.clock c.ranges.clock) c.args.request
    (sym c.is_some.ensures ∙ c.if-is_some.true)).answer

pub returns-then-is_some-clause-ready : goal.returns-then-is_some-clause-ready
returns-then-is_some-clause-ready g c =
    (stopped_end g.D.Disk.clock g.D.Disk.left_since g.D.Disk.image g.D.Disk.faults c.self.inside.active c.self.inside.other c.self.inside.second_active c.self.inside.generation c.self.inside.opened.value c.self.inside.gate c.self.inside.checkpoints.items c.self.inside.stop c.self.invariant
    c.args.self.now c.self.view_is c.args.pass (to_z w64 (of_z w64 c.args.clock)) c.args.clock (to_z-of_z w64 c.args.clock c.ranges.clock) c.args.request
    (sym c.is_some.ensures ∙ c.if-is_some.true)).stays_ready

pub returns-then-is_some-clause-keeps : goal.returns-then-is_some-clause-keeps
returns-then-is_some-clause-keeps g c =
    (stopped_end g.D.Disk.clock g.D.Disk.left_since g.D.Disk.image g.D.Disk.faults c.self.inside.active c.self.inside.other c.self.inside.second_active c.self.inside.generation c.self.inside.opened.value c.self.inside.gate c.self.inside.checkpoints.items c.self.inside.stop c.self.invariant
    c.args.self.now c.self.view_is c.args.pass (to_z w64 (of_z w64 c.args.clock)) c.args.clock (to_z-of_z w64 c.args.clock c.ranges.clock) c.args.request
    (sym c.is_some.ensures ∙ c.if-is_some.true)).stays_kept

pub returns-then-is_some-clause-current : goal.returns-then-is_some-clause-current
returns-then-is_some-clause-current g c =
    (stopped_end g.D.Disk.clock g.D.Disk.left_since g.D.Disk.image g.D.Disk.faults c.self.inside.active c.self.inside.other c.self.inside.second_active c.self.inside.generation c.self.inside.opened.value c.self.inside.gate c.self.inside.checkpoints.items c.self.inside.stop c.self.invariant
    c.args.self.now c.self.view_is c.args.pass (to_z w64 (of_z w64 c.args.clock)) c.args.clock (to_z-of_z w64 c.args.clock c.ranges.clock) c.args.request
    (sym c.is_some.ensures ∙ c.if-is_some.true)).stays_current

pub returns-then-is_some-clause-makes_ready : goal.returns-then-is_some-clause-makes_ready
returns-then-is_some-clause-makes_ready g c =
    (stopped_end g.D.Disk.clock g.D.Disk.left_since g.D.Disk.image g.D.Disk.faults c.self.inside.active c.self.inside.other c.self.inside.second_active c.self.inside.generation c.self.inside.opened.value c.self.inside.gate c.self.inside.checkpoints.items c.self.inside.stop c.self.invariant
    c.args.self.now c.self.view_is c.args.pass (to_z w64 (of_z w64 c.args.clock)) c.args.clock (to_z-of_z w64 c.args.clock c.ranges.clock) c.args.request
    (sym c.is_some.ensures ∙ c.if-is_some.true)).makes_ready

pub returns-then-is_some-clause-any_moment : goal.returns-then-is_some-clause-any_moment
returns-then-is_some-clause-any_moment g c =
    (stopped_end g.D.Disk.clock g.D.Disk.left_since g.D.Disk.image g.D.Disk.faults c.self.inside.active c.self.inside.other c.self.inside.second_active c.self.inside.generation c.self.inside.opened.value c.self.inside.gate c.self.inside.checkpoints.items c.self.inside.stop c.self.invariant
    c.args.self.now c.self.view_is c.args.pass (to_z w64 (of_z w64 c.args.clock)) c.args.clock (to_z-of_z w64 c.args.clock c.ranges.clock) c.args.request
    (sym c.is_some.ensures ∙ c.if-is_some.true)).any_moment

pub returns-then-is_some-clause-met : goal.returns-then-is_some-clause-met
returns-then-is_some-clause-met g c =
    (stopped_end g.D.Disk.clock g.D.Disk.left_since g.D.Disk.image g.D.Disk.faults c.self.inside.active c.self.inside.other c.self.inside.second_active c.self.inside.generation c.self.inside.opened.value c.self.inside.gate c.self.inside.checkpoints.items c.self.inside.stop c.self.invariant
    c.args.self.now c.self.view_is c.args.pass (to_z w64 (of_z w64 c.args.clock)) c.args.clock (to_z-of_z w64 c.args.clock c.ranges.clock) c.args.request
    (sym c.is_some.ensures ∙ c.if-is_some.true)).met

pub returns-then-is_some-clause-met_at_rest : goal.returns-then-is_some-clause-met_at_rest
returns-then-is_some-clause-met_at_rest g c =
    (stopped_end g.D.Disk.clock g.D.Disk.left_since g.D.Disk.image g.D.Disk.faults c.self.inside.active c.self.inside.other c.self.inside.second_active c.self.inside.generation c.self.inside.opened.value c.self.inside.gate c.self.inside.checkpoints.items c.self.inside.stop c.self.invariant
    c.args.self.now c.self.view_is c.args.pass (to_z w64 (of_z w64 c.args.clock)) c.args.clock (to_z-of_z w64 c.args.clock c.ranges.clock) c.args.request
    (sym c.is_some.ensures ∙ c.if-is_some.true)).met_at_rest

pub returns-then-is_some-clause-first_told : goal.returns-then-is_some-clause-first_told
returns-then-is_some-clause-first_told g c =
    (stopped_end g.D.Disk.clock g.D.Disk.left_since g.D.Disk.image g.D.Disk.faults c.self.inside.active c.self.inside.other c.self.inside.second_active c.self.inside.generation c.self.inside.opened.value c.self.inside.gate c.self.inside.checkpoints.items c.self.inside.stop c.self.invariant
    c.args.self.now c.self.view_is c.args.pass (to_z w64 (of_z w64 c.args.clock)) c.args.clock (to_z-of_z w64 c.args.clock c.ranges.clock) c.args.request
    (sym c.is_some.ensures ∙ c.if-is_some.true)).first_told

pub returns-then-is_some-clause-second_told : goal.returns-then-is_some-clause-second_told
returns-then-is_some-clause-second_told g c =
    (stopped_end g.D.Disk.clock g.D.Disk.left_since g.D.Disk.image g.D.Disk.faults c.self.inside.active c.self.inside.other c.self.inside.second_active c.self.inside.generation c.self.inside.opened.value c.self.inside.gate c.self.inside.checkpoints.items c.self.inside.stop c.self.invariant
    c.args.self.now c.self.view_is c.args.pass (to_z w64 (of_z w64 c.args.clock)) c.args.clock (to_z-of_z w64 c.args.clock c.ranges.clock) c.args.request
    (sym c.is_some.ensures ∙ c.if-is_some.true)).second_told

pub returns-then-is_some-clause-first_never_falls : goal.returns-then-is_some-clause-first_never_falls
returns-then-is_some-clause-first_never_falls g c =
    (stopped_end g.D.Disk.clock g.D.Disk.left_since g.D.Disk.image g.D.Disk.faults c.self.inside.active c.self.inside.other c.self.inside.second_active c.self.inside.generation c.self.inside.opened.value c.self.inside.gate c.self.inside.checkpoints.items c.self.inside.stop c.self.invariant
    c.args.self.now c.self.view_is c.args.pass (to_z w64 (of_z w64 c.args.clock)) c.args.clock (to_z-of_z w64 c.args.clock c.ranges.clock) c.args.request
    (sym c.is_some.ensures ∙ c.if-is_some.true)).first_never_falls

pub returns-then-is_some-clause-second_never_falls : goal.returns-then-is_some-clause-second_never_falls
returns-then-is_some-clause-second_never_falls g c =
    (stopped_end g.D.Disk.clock g.D.Disk.left_since g.D.Disk.image g.D.Disk.faults c.self.inside.active c.self.inside.other c.self.inside.second_active c.self.inside.generation c.self.inside.opened.value c.self.inside.gate c.self.inside.checkpoints.items c.self.inside.stop c.self.invariant
    c.args.self.now c.self.view_is c.args.pass (to_z w64 (of_z w64 c.args.clock)) c.args.clock (to_z-of_z w64 c.args.clock c.ranges.clock) c.args.request
    (sym c.is_some.ensures ∙ c.if-is_some.true)).second_never_falls

pub returns-in-Answer-clause-answer : goal.returns-in-Answer-clause-answer
returns-in-Answer-clause-answer g c =
    (answered_end g.D.Disk.clock g.D.Disk.left_since g.D.Disk.image g.D.Disk.faults c.self.inside.active c.self.inside.other c.self.inside.second_active c.self.inside.generation c.self.inside.opened.value c.self.inside.gate c.self.inside.checkpoints.items c.self.inside.stop c.self.invariant
    c.args.self.now c.self.view_is c.args.pass (to_z w64 (of_z w64 c.args.clock)) c.args.clock (to_z-of_z w64 c.args.clock c.ranges.clock) c.args.request
    (sym c.is_some.ensures ∙ c.if-is_some.false) c.decide.new.self c.decide.ensures.key c.decide.ensures.ring c.decide.ensures.base c.decide.ensures.events c.in-Answer.reply c.in-Answer.ensures.answer.0 c.in-Answer.ensures.answer.1).answer

pub returns-in-Answer-clause-ready : goal.returns-in-Answer-clause-ready
returns-in-Answer-clause-ready g c =
    (answered_end g.D.Disk.clock g.D.Disk.left_since g.D.Disk.image g.D.Disk.faults c.self.inside.active c.self.inside.other c.self.inside.second_active c.self.inside.generation c.self.inside.opened.value c.self.inside.gate c.self.inside.checkpoints.items c.self.inside.stop c.self.invariant
    c.args.self.now c.self.view_is c.args.pass (to_z w64 (of_z w64 c.args.clock)) c.args.clock (to_z-of_z w64 c.args.clock c.ranges.clock) c.args.request
    (sym c.is_some.ensures ∙ c.if-is_some.false) c.decide.new.self c.decide.ensures.key c.decide.ensures.ring c.decide.ensures.base c.decide.ensures.events c.in-Answer.reply c.in-Answer.ensures.answer.0 c.in-Answer.ensures.answer.1).stays_ready

pub returns-in-Answer-clause-keeps : goal.returns-in-Answer-clause-keeps
returns-in-Answer-clause-keeps g c =
    (answered_end g.D.Disk.clock g.D.Disk.left_since g.D.Disk.image g.D.Disk.faults c.self.inside.active c.self.inside.other c.self.inside.second_active c.self.inside.generation c.self.inside.opened.value c.self.inside.gate c.self.inside.checkpoints.items c.self.inside.stop c.self.invariant
    c.args.self.now c.self.view_is c.args.pass (to_z w64 (of_z w64 c.args.clock)) c.args.clock (to_z-of_z w64 c.args.clock c.ranges.clock) c.args.request
    (sym c.is_some.ensures ∙ c.if-is_some.false) c.decide.new.self c.decide.ensures.key c.decide.ensures.ring c.decide.ensures.base c.decide.ensures.events c.in-Answer.reply c.in-Answer.ensures.answer.0 c.in-Answer.ensures.answer.1).stays_kept

pub returns-in-Answer-clause-current : goal.returns-in-Answer-clause-current
returns-in-Answer-clause-current g c =
    (answered_end g.D.Disk.clock g.D.Disk.left_since g.D.Disk.image g.D.Disk.faults c.self.inside.active c.self.inside.other c.self.inside.second_active c.self.inside.generation c.self.inside.opened.value c.self.inside.gate c.self.inside.checkpoints.items c.self.inside.stop c.self.invariant
    c.args.self.now c.self.view_is c.args.pass (to_z w64 (of_z w64 c.args.clock)) c.args.clock (to_z-of_z w64 c.args.clock c.ranges.clock) c.args.request
    (sym c.is_some.ensures ∙ c.if-is_some.false) c.decide.new.self c.decide.ensures.key c.decide.ensures.ring c.decide.ensures.base c.decide.ensures.events c.in-Answer.reply c.in-Answer.ensures.answer.0 c.in-Answer.ensures.answer.1).stays_current

pub returns-in-Answer-clause-makes_ready : goal.returns-in-Answer-clause-makes_ready
returns-in-Answer-clause-makes_ready g c =
    (answered_end g.D.Disk.clock g.D.Disk.left_since g.D.Disk.image g.D.Disk.faults c.self.inside.active c.self.inside.other c.self.inside.second_active c.self.inside.generation c.self.inside.opened.value c.self.inside.gate c.self.inside.checkpoints.items c.self.inside.stop c.self.invariant
    c.args.self.now c.self.view_is c.args.pass (to_z w64 (of_z w64 c.args.clock)) c.args.clock (to_z-of_z w64 c.args.clock c.ranges.clock) c.args.request
    (sym c.is_some.ensures ∙ c.if-is_some.false) c.decide.new.self c.decide.ensures.key c.decide.ensures.ring c.decide.ensures.base c.decide.ensures.events c.in-Answer.reply c.in-Answer.ensures.answer.0 c.in-Answer.ensures.answer.1).makes_ready

pub returns-in-Answer-clause-any_moment : goal.returns-in-Answer-clause-any_moment
returns-in-Answer-clause-any_moment g c =
    (answered_end g.D.Disk.clock g.D.Disk.left_since g.D.Disk.image g.D.Disk.faults c.self.inside.active c.self.inside.other c.self.inside.second_active c.self.inside.generation c.self.inside.opened.value c.self.inside.gate c.self.inside.checkpoints.items c.self.inside.stop c.self.invariant
    c.args.self.now c.self.view_is c.args.pass (to_z w64 (of_z w64 c.args.clock)) c.args.clock (to_z-of_z w64 c.args.clock c.ranges.clock) c.args.request
    (sym c.is_some.ensures ∙ c.if-is_some.false) c.decide.new.self c.decide.ensures.key c.decide.ensures.ring c.decide.ensures.base c.decide.ensures.events c.in-Answer.reply c.in-Answer.ensures.answer.0 c.in-Answer.ensures.answer.1).any_moment

pub returns-in-Answer-clause-met : goal.returns-in-Answer-clause-met
returns-in-Answer-clause-met g c =
    (answered_end g.D.Disk.clock g.D.Disk.left_since g.D.Disk.image g.D.Disk.faults c.self.inside.active c.self.inside.other c.self.inside.second_active c.self.inside.generation c.self.inside.opened.value c.self.inside.gate c.self.inside.checkpoints.items c.self.inside.stop c.self.invariant
    c.args.self.now c.self.view_is c.args.pass (to_z w64 (of_z w64 c.args.clock)) c.args.clock (to_z-of_z w64 c.args.clock c.ranges.clock) c.args.request
    (sym c.is_some.ensures ∙ c.if-is_some.false) c.decide.new.self c.decide.ensures.key c.decide.ensures.ring c.decide.ensures.base c.decide.ensures.events c.in-Answer.reply c.in-Answer.ensures.answer.0 c.in-Answer.ensures.answer.1).met

pub returns-in-Answer-clause-met_at_rest : goal.returns-in-Answer-clause-met_at_rest
returns-in-Answer-clause-met_at_rest g c =
    (answered_end g.D.Disk.clock g.D.Disk.left_since g.D.Disk.image g.D.Disk.faults c.self.inside.active c.self.inside.other c.self.inside.second_active c.self.inside.generation c.self.inside.opened.value c.self.inside.gate c.self.inside.checkpoints.items c.self.inside.stop c.self.invariant
    c.args.self.now c.self.view_is c.args.pass (to_z w64 (of_z w64 c.args.clock)) c.args.clock (to_z-of_z w64 c.args.clock c.ranges.clock) c.args.request
    (sym c.is_some.ensures ∙ c.if-is_some.false) c.decide.new.self c.decide.ensures.key c.decide.ensures.ring c.decide.ensures.base c.decide.ensures.events c.in-Answer.reply c.in-Answer.ensures.answer.0 c.in-Answer.ensures.answer.1).met_at_rest

pub returns-in-Answer-clause-first_told : goal.returns-in-Answer-clause-first_told
returns-in-Answer-clause-first_told g c =
    (answered_end g.D.Disk.clock g.D.Disk.left_since g.D.Disk.image g.D.Disk.faults c.self.inside.active c.self.inside.other c.self.inside.second_active c.self.inside.generation c.self.inside.opened.value c.self.inside.gate c.self.inside.checkpoints.items c.self.inside.stop c.self.invariant
    c.args.self.now c.self.view_is c.args.pass (to_z w64 (of_z w64 c.args.clock)) c.args.clock (to_z-of_z w64 c.args.clock c.ranges.clock) c.args.request
    (sym c.is_some.ensures ∙ c.if-is_some.false) c.decide.new.self c.decide.ensures.key c.decide.ensures.ring c.decide.ensures.base c.decide.ensures.events c.in-Answer.reply c.in-Answer.ensures.answer.0 c.in-Answer.ensures.answer.1).first_told

pub returns-in-Answer-clause-second_told : goal.returns-in-Answer-clause-second_told
returns-in-Answer-clause-second_told g c =
    (answered_end g.D.Disk.clock g.D.Disk.left_since g.D.Disk.image g.D.Disk.faults c.self.inside.active c.self.inside.other c.self.inside.second_active c.self.inside.generation c.self.inside.opened.value c.self.inside.gate c.self.inside.checkpoints.items c.self.inside.stop c.self.invariant
    c.args.self.now c.self.view_is c.args.pass (to_z w64 (of_z w64 c.args.clock)) c.args.clock (to_z-of_z w64 c.args.clock c.ranges.clock) c.args.request
    (sym c.is_some.ensures ∙ c.if-is_some.false) c.decide.new.self c.decide.ensures.key c.decide.ensures.ring c.decide.ensures.base c.decide.ensures.events c.in-Answer.reply c.in-Answer.ensures.answer.0 c.in-Answer.ensures.answer.1).second_told

pub returns-in-Answer-clause-first_never_falls : goal.returns-in-Answer-clause-first_never_falls
returns-in-Answer-clause-first_never_falls g c =
    (answered_end g.D.Disk.clock g.D.Disk.left_since g.D.Disk.image g.D.Disk.faults c.self.inside.active c.self.inside.other c.self.inside.second_active c.self.inside.generation c.self.inside.opened.value c.self.inside.gate c.self.inside.checkpoints.items c.self.inside.stop c.self.invariant
    c.args.self.now c.self.view_is c.args.pass (to_z w64 (of_z w64 c.args.clock)) c.args.clock (to_z-of_z w64 c.args.clock c.ranges.clock) c.args.request
    (sym c.is_some.ensures ∙ c.if-is_some.false) c.decide.new.self c.decide.ensures.key c.decide.ensures.ring c.decide.ensures.base c.decide.ensures.events c.in-Answer.reply c.in-Answer.ensures.answer.0 c.in-Answer.ensures.answer.1).first_never_falls

pub returns-in-Answer-clause-second_never_falls : goal.returns-in-Answer-clause-second_never_falls
returns-in-Answer-clause-second_never_falls g c =
    (answered_end g.D.Disk.clock g.D.Disk.left_since g.D.Disk.image g.D.Disk.faults c.self.inside.active c.self.inside.other c.self.inside.second_active c.self.inside.generation c.self.inside.opened.value c.self.inside.gate c.self.inside.checkpoints.items c.self.inside.stop c.self.invariant
    c.args.self.now c.self.view_is c.args.pass (to_z w64 (of_z w64 c.args.clock)) c.args.clock (to_z-of_z w64 c.args.clock c.ranges.clock) c.args.request
    (sym c.is_some.ensures ∙ c.if-is_some.false) c.decide.new.self c.decide.ensures.key c.decide.ensures.ring c.decide.ensures.base c.decide.ensures.events c.in-Answer.reply c.in-Answer.ensures.answer.0 c.in-Answer.ensures.answer.1).second_never_falls

pub returns-in-Ok-clause-answer : goal.returns-in-Ok-clause-answer
returns-in-Ok-clause-answer g c =
    (kept_end g.D.Disk.clock g.D.Disk.left_since g.D.Disk.image g.D.Disk.faults c.self.inside.active c.self.inside.other c.self.inside.second_active c.self.inside.generation c.self.inside.opened.value c.self.inside.gate c.self.inside.checkpoints.items c.self.inside.stop c.self.invariant
    c.args.self.now c.self.view_is c.args.pass (to_z w64 (of_z w64 c.args.clock)) c.args.clock (to_z-of_z w64 c.args.clock c.ranges.clock) c.args.request
    (sym c.is_some.ensures ∙ c.if-is_some.false) c.decide.new.self c.decide.ensures.key c.decide.ensures.ring c.decide.ensures.base c.decide.ensures.events
    c.in-Keep.reply c.in-Keep.ensures.answer c.keep_pending.new.area c.keep_pending.new.gate c.in-Ok.ensures).answer

pub returns-in-Ok-clause-ready : goal.returns-in-Ok-clause-ready
returns-in-Ok-clause-ready g c =
    (kept_end g.D.Disk.clock g.D.Disk.left_since g.D.Disk.image g.D.Disk.faults c.self.inside.active c.self.inside.other c.self.inside.second_active c.self.inside.generation c.self.inside.opened.value c.self.inside.gate c.self.inside.checkpoints.items c.self.inside.stop c.self.invariant
    c.args.self.now c.self.view_is c.args.pass (to_z w64 (of_z w64 c.args.clock)) c.args.clock (to_z-of_z w64 c.args.clock c.ranges.clock) c.args.request
    (sym c.is_some.ensures ∙ c.if-is_some.false) c.decide.new.self c.decide.ensures.key c.decide.ensures.ring c.decide.ensures.base c.decide.ensures.events
    c.in-Keep.reply c.in-Keep.ensures.answer c.keep_pending.new.area c.keep_pending.new.gate c.in-Ok.ensures).stays_ready

pub returns-in-Ok-clause-keeps : goal.returns-in-Ok-clause-keeps
returns-in-Ok-clause-keeps g c =
    (kept_end g.D.Disk.clock g.D.Disk.left_since g.D.Disk.image g.D.Disk.faults c.self.inside.active c.self.inside.other c.self.inside.second_active c.self.inside.generation c.self.inside.opened.value c.self.inside.gate c.self.inside.checkpoints.items c.self.inside.stop c.self.invariant
    c.args.self.now c.self.view_is c.args.pass (to_z w64 (of_z w64 c.args.clock)) c.args.clock (to_z-of_z w64 c.args.clock c.ranges.clock) c.args.request
    (sym c.is_some.ensures ∙ c.if-is_some.false) c.decide.new.self c.decide.ensures.key c.decide.ensures.ring c.decide.ensures.base c.decide.ensures.events
    c.in-Keep.reply c.in-Keep.ensures.answer c.keep_pending.new.area c.keep_pending.new.gate c.in-Ok.ensures).stays_kept

pub returns-in-Ok-clause-current : goal.returns-in-Ok-clause-current
returns-in-Ok-clause-current g c =
    (kept_end g.D.Disk.clock g.D.Disk.left_since g.D.Disk.image g.D.Disk.faults c.self.inside.active c.self.inside.other c.self.inside.second_active c.self.inside.generation c.self.inside.opened.value c.self.inside.gate c.self.inside.checkpoints.items c.self.inside.stop c.self.invariant
    c.args.self.now c.self.view_is c.args.pass (to_z w64 (of_z w64 c.args.clock)) c.args.clock (to_z-of_z w64 c.args.clock c.ranges.clock) c.args.request
    (sym c.is_some.ensures ∙ c.if-is_some.false) c.decide.new.self c.decide.ensures.key c.decide.ensures.ring c.decide.ensures.base c.decide.ensures.events
    c.in-Keep.reply c.in-Keep.ensures.answer c.keep_pending.new.area c.keep_pending.new.gate c.in-Ok.ensures).stays_current

pub returns-in-Ok-clause-makes_ready : goal.returns-in-Ok-clause-makes_ready
returns-in-Ok-clause-makes_ready g c =
    (kept_end g.D.Disk.clock g.D.Disk.left_since g.D.Disk.image g.D.Disk.faults c.self.inside.active c.self.inside.other c.self.inside.second_active c.self.inside.generation c.self.inside.opened.value c.self.inside.gate c.self.inside.checkpoints.items c.self.inside.stop c.self.invariant
    c.args.self.now c.self.view_is c.args.pass (to_z w64 (of_z w64 c.args.clock)) c.args.clock (to_z-of_z w64 c.args.clock c.ranges.clock) c.args.request
    (sym c.is_some.ensures ∙ c.if-is_some.false) c.decide.new.self c.decide.ensures.key c.decide.ensures.ring c.decide.ensures.base c.decide.ensures.events
    c.in-Keep.reply c.in-Keep.ensures.answer c.keep_pending.new.area c.keep_pending.new.gate c.in-Ok.ensures).makes_ready

pub returns-in-Ok-clause-any_moment : goal.returns-in-Ok-clause-any_moment
returns-in-Ok-clause-any_moment g c =
    (kept_end g.D.Disk.clock g.D.Disk.left_since g.D.Disk.image g.D.Disk.faults c.self.inside.active c.self.inside.other c.self.inside.second_active c.self.inside.generation c.self.inside.opened.value c.self.inside.gate c.self.inside.checkpoints.items c.self.inside.stop c.self.invariant
    c.args.self.now c.self.view_is c.args.pass (to_z w64 (of_z w64 c.args.clock)) c.args.clock (to_z-of_z w64 c.args.clock c.ranges.clock) c.args.request
    (sym c.is_some.ensures ∙ c.if-is_some.false) c.decide.new.self c.decide.ensures.key c.decide.ensures.ring c.decide.ensures.base c.decide.ensures.events
    c.in-Keep.reply c.in-Keep.ensures.answer c.keep_pending.new.area c.keep_pending.new.gate c.in-Ok.ensures).any_moment

pub returns-in-Ok-clause-met : goal.returns-in-Ok-clause-met
returns-in-Ok-clause-met g c =
    (kept_end g.D.Disk.clock g.D.Disk.left_since g.D.Disk.image g.D.Disk.faults c.self.inside.active c.self.inside.other c.self.inside.second_active c.self.inside.generation c.self.inside.opened.value c.self.inside.gate c.self.inside.checkpoints.items c.self.inside.stop c.self.invariant
    c.args.self.now c.self.view_is c.args.pass (to_z w64 (of_z w64 c.args.clock)) c.args.clock (to_z-of_z w64 c.args.clock c.ranges.clock) c.args.request
    (sym c.is_some.ensures ∙ c.if-is_some.false) c.decide.new.self c.decide.ensures.key c.decide.ensures.ring c.decide.ensures.base c.decide.ensures.events
    c.in-Keep.reply c.in-Keep.ensures.answer c.keep_pending.new.area c.keep_pending.new.gate c.in-Ok.ensures).met

pub returns-in-Ok-clause-met_at_rest : goal.returns-in-Ok-clause-met_at_rest
returns-in-Ok-clause-met_at_rest g c =
    (kept_end g.D.Disk.clock g.D.Disk.left_since g.D.Disk.image g.D.Disk.faults c.self.inside.active c.self.inside.other c.self.inside.second_active c.self.inside.generation c.self.inside.opened.value c.self.inside.gate c.self.inside.checkpoints.items c.self.inside.stop c.self.invariant
    c.args.self.now c.self.view_is c.args.pass (to_z w64 (of_z w64 c.args.clock)) c.args.clock (to_z-of_z w64 c.args.clock c.ranges.clock) c.args.request
    (sym c.is_some.ensures ∙ c.if-is_some.false) c.decide.new.self c.decide.ensures.key c.decide.ensures.ring c.decide.ensures.base c.decide.ensures.events
    c.in-Keep.reply c.in-Keep.ensures.answer c.keep_pending.new.area c.keep_pending.new.gate c.in-Ok.ensures).met_at_rest

pub returns-in-Ok-clause-first_told : goal.returns-in-Ok-clause-first_told
returns-in-Ok-clause-first_told g c =
    (kept_end g.D.Disk.clock g.D.Disk.left_since g.D.Disk.image g.D.Disk.faults c.self.inside.active c.self.inside.other c.self.inside.second_active c.self.inside.generation c.self.inside.opened.value c.self.inside.gate c.self.inside.checkpoints.items c.self.inside.stop c.self.invariant
    c.args.self.now c.self.view_is c.args.pass (to_z w64 (of_z w64 c.args.clock)) c.args.clock (to_z-of_z w64 c.args.clock c.ranges.clock) c.args.request
    (sym c.is_some.ensures ∙ c.if-is_some.false) c.decide.new.self c.decide.ensures.key c.decide.ensures.ring c.decide.ensures.base c.decide.ensures.events
    c.in-Keep.reply c.in-Keep.ensures.answer c.keep_pending.new.area c.keep_pending.new.gate c.in-Ok.ensures).first_told

pub returns-in-Ok-clause-second_told : goal.returns-in-Ok-clause-second_told
returns-in-Ok-clause-second_told g c =
    (kept_end g.D.Disk.clock g.D.Disk.left_since g.D.Disk.image g.D.Disk.faults c.self.inside.active c.self.inside.other c.self.inside.second_active c.self.inside.generation c.self.inside.opened.value c.self.inside.gate c.self.inside.checkpoints.items c.self.inside.stop c.self.invariant
    c.args.self.now c.self.view_is c.args.pass (to_z w64 (of_z w64 c.args.clock)) c.args.clock (to_z-of_z w64 c.args.clock c.ranges.clock) c.args.request
    (sym c.is_some.ensures ∙ c.if-is_some.false) c.decide.new.self c.decide.ensures.key c.decide.ensures.ring c.decide.ensures.base c.decide.ensures.events
    c.in-Keep.reply c.in-Keep.ensures.answer c.keep_pending.new.area c.keep_pending.new.gate c.in-Ok.ensures).second_told

pub returns-in-Ok-clause-first_never_falls : goal.returns-in-Ok-clause-first_never_falls
returns-in-Ok-clause-first_never_falls g c =
    (kept_end g.D.Disk.clock g.D.Disk.left_since g.D.Disk.image g.D.Disk.faults c.self.inside.active c.self.inside.other c.self.inside.second_active c.self.inside.generation c.self.inside.opened.value c.self.inside.gate c.self.inside.checkpoints.items c.self.inside.stop c.self.invariant
    c.args.self.now c.self.view_is c.args.pass (to_z w64 (of_z w64 c.args.clock)) c.args.clock (to_z-of_z w64 c.args.clock c.ranges.clock) c.args.request
    (sym c.is_some.ensures ∙ c.if-is_some.false) c.decide.new.self c.decide.ensures.key c.decide.ensures.ring c.decide.ensures.base c.decide.ensures.events
    c.in-Keep.reply c.in-Keep.ensures.answer c.keep_pending.new.area c.keep_pending.new.gate c.in-Ok.ensures).first_never_falls

pub returns-in-Ok-clause-second_never_falls : goal.returns-in-Ok-clause-second_never_falls
returns-in-Ok-clause-second_never_falls g c =
    (kept_end g.D.Disk.clock g.D.Disk.left_since g.D.Disk.image g.D.Disk.faults c.self.inside.active c.self.inside.other c.self.inside.second_active c.self.inside.generation c.self.inside.opened.value c.self.inside.gate c.self.inside.checkpoints.items c.self.inside.stop c.self.invariant
    c.args.self.now c.self.view_is c.args.pass (to_z w64 (of_z w64 c.args.clock)) c.args.clock (to_z-of_z w64 c.args.clock c.ranges.clock) c.args.request
    (sym c.is_some.ensures ∙ c.if-is_some.false) c.decide.new.self c.decide.ensures.key c.decide.ensures.ring c.decide.ensures.base c.decide.ensures.events
    c.in-Keep.reply c.in-Keep.ensures.answer c.keep_pending.new.area c.keep_pending.new.gate c.in-Ok.ensures).second_never_falls

pub returns-in-Err-AreaFull-clause-answer : goal.returns-in-Err-AreaFull-clause-answer
returns-in-Err-AreaFull-clause-answer g c =
    (full_end g.D.Disk.clock g.D.Disk.left_since g.D.Disk.image g.D.Disk.faults c.self.inside.active c.self.inside.other c.self.inside.second_active c.self.inside.generation c.self.inside.opened.value c.self.inside.gate c.self.inside.checkpoints.items c.self.inside.stop c.self.invariant
    c.args.self.now c.self.view_is c.args.pass (to_z w64 (of_z w64 c.args.clock)) c.args.clock (to_z-of_z w64 c.args.clock c.ranges.clock) c.args.request
    (sym c.is_some.ensures ∙ c.if-is_some.false) c.decide.new.self c.decide.ensures.key c.decide.ensures.ring c.decide.ensures.base c.decide.ensures.events
    c.in-Keep.reply c.in-Keep.ensures.answer c.keep_pending.new.area c.keep_pending.new.gate c.in-Err-AreaFull.field-0 c.in-Err-AreaFull.field-0-is c.in-Err-AreaFull.ensures).answer

pub returns-in-Err-AreaFull-clause-ready : goal.returns-in-Err-AreaFull-clause-ready
returns-in-Err-AreaFull-clause-ready g c =
    (full_end g.D.Disk.clock g.D.Disk.left_since g.D.Disk.image g.D.Disk.faults c.self.inside.active c.self.inside.other c.self.inside.second_active c.self.inside.generation c.self.inside.opened.value c.self.inside.gate c.self.inside.checkpoints.items c.self.inside.stop c.self.invariant
    c.args.self.now c.self.view_is c.args.pass (to_z w64 (of_z w64 c.args.clock)) c.args.clock (to_z-of_z w64 c.args.clock c.ranges.clock) c.args.request
    (sym c.is_some.ensures ∙ c.if-is_some.false) c.decide.new.self c.decide.ensures.key c.decide.ensures.ring c.decide.ensures.base c.decide.ensures.events
    c.in-Keep.reply c.in-Keep.ensures.answer c.keep_pending.new.area c.keep_pending.new.gate c.in-Err-AreaFull.field-0 c.in-Err-AreaFull.field-0-is c.in-Err-AreaFull.ensures).stays_ready

pub returns-in-Err-AreaFull-clause-keeps : goal.returns-in-Err-AreaFull-clause-keeps
returns-in-Err-AreaFull-clause-keeps g c =
    (full_end g.D.Disk.clock g.D.Disk.left_since g.D.Disk.image g.D.Disk.faults c.self.inside.active c.self.inside.other c.self.inside.second_active c.self.inside.generation c.self.inside.opened.value c.self.inside.gate c.self.inside.checkpoints.items c.self.inside.stop c.self.invariant
    c.args.self.now c.self.view_is c.args.pass (to_z w64 (of_z w64 c.args.clock)) c.args.clock (to_z-of_z w64 c.args.clock c.ranges.clock) c.args.request
    (sym c.is_some.ensures ∙ c.if-is_some.false) c.decide.new.self c.decide.ensures.key c.decide.ensures.ring c.decide.ensures.base c.decide.ensures.events
    c.in-Keep.reply c.in-Keep.ensures.answer c.keep_pending.new.area c.keep_pending.new.gate c.in-Err-AreaFull.field-0 c.in-Err-AreaFull.field-0-is c.in-Err-AreaFull.ensures).stays_kept

pub returns-in-Err-AreaFull-clause-current : goal.returns-in-Err-AreaFull-clause-current
returns-in-Err-AreaFull-clause-current g c =
    (full_end g.D.Disk.clock g.D.Disk.left_since g.D.Disk.image g.D.Disk.faults c.self.inside.active c.self.inside.other c.self.inside.second_active c.self.inside.generation c.self.inside.opened.value c.self.inside.gate c.self.inside.checkpoints.items c.self.inside.stop c.self.invariant
    c.args.self.now c.self.view_is c.args.pass (to_z w64 (of_z w64 c.args.clock)) c.args.clock (to_z-of_z w64 c.args.clock c.ranges.clock) c.args.request
    (sym c.is_some.ensures ∙ c.if-is_some.false) c.decide.new.self c.decide.ensures.key c.decide.ensures.ring c.decide.ensures.base c.decide.ensures.events
    c.in-Keep.reply c.in-Keep.ensures.answer c.keep_pending.new.area c.keep_pending.new.gate c.in-Err-AreaFull.field-0 c.in-Err-AreaFull.field-0-is c.in-Err-AreaFull.ensures).stays_current

pub returns-in-Err-AreaFull-clause-makes_ready : goal.returns-in-Err-AreaFull-clause-makes_ready
returns-in-Err-AreaFull-clause-makes_ready g c =
    (full_end g.D.Disk.clock g.D.Disk.left_since g.D.Disk.image g.D.Disk.faults c.self.inside.active c.self.inside.other c.self.inside.second_active c.self.inside.generation c.self.inside.opened.value c.self.inside.gate c.self.inside.checkpoints.items c.self.inside.stop c.self.invariant
    c.args.self.now c.self.view_is c.args.pass (to_z w64 (of_z w64 c.args.clock)) c.args.clock (to_z-of_z w64 c.args.clock c.ranges.clock) c.args.request
    (sym c.is_some.ensures ∙ c.if-is_some.false) c.decide.new.self c.decide.ensures.key c.decide.ensures.ring c.decide.ensures.base c.decide.ensures.events
    c.in-Keep.reply c.in-Keep.ensures.answer c.keep_pending.new.area c.keep_pending.new.gate c.in-Err-AreaFull.field-0 c.in-Err-AreaFull.field-0-is c.in-Err-AreaFull.ensures).makes_ready

pub returns-in-Err-AreaFull-clause-any_moment : goal.returns-in-Err-AreaFull-clause-any_moment
returns-in-Err-AreaFull-clause-any_moment g c =
    (full_end g.D.Disk.clock g.D.Disk.left_since g.D.Disk.image g.D.Disk.faults c.self.inside.active c.self.inside.other c.self.inside.second_active c.self.inside.generation c.self.inside.opened.value c.self.inside.gate c.self.inside.checkpoints.items c.self.inside.stop c.self.invariant
    c.args.self.now c.self.view_is c.args.pass (to_z w64 (of_z w64 c.args.clock)) c.args.clock (to_z-of_z w64 c.args.clock c.ranges.clock) c.args.request
    (sym c.is_some.ensures ∙ c.if-is_some.false) c.decide.new.self c.decide.ensures.key c.decide.ensures.ring c.decide.ensures.base c.decide.ensures.events
    c.in-Keep.reply c.in-Keep.ensures.answer c.keep_pending.new.area c.keep_pending.new.gate c.in-Err-AreaFull.field-0 c.in-Err-AreaFull.field-0-is c.in-Err-AreaFull.ensures).any_moment

pub returns-in-Err-AreaFull-clause-met : goal.returns-in-Err-AreaFull-clause-met
returns-in-Err-AreaFull-clause-met g c =
    (full_end g.D.Disk.clock g.D.Disk.left_since g.D.Disk.image g.D.Disk.faults c.self.inside.active c.self.inside.other c.self.inside.second_active c.self.inside.generation c.self.inside.opened.value c.self.inside.gate c.self.inside.checkpoints.items c.self.inside.stop c.self.invariant
    c.args.self.now c.self.view_is c.args.pass (to_z w64 (of_z w64 c.args.clock)) c.args.clock (to_z-of_z w64 c.args.clock c.ranges.clock) c.args.request
    (sym c.is_some.ensures ∙ c.if-is_some.false) c.decide.new.self c.decide.ensures.key c.decide.ensures.ring c.decide.ensures.base c.decide.ensures.events
    c.in-Keep.reply c.in-Keep.ensures.answer c.keep_pending.new.area c.keep_pending.new.gate c.in-Err-AreaFull.field-0 c.in-Err-AreaFull.field-0-is c.in-Err-AreaFull.ensures).met

pub returns-in-Err-AreaFull-clause-met_at_rest : goal.returns-in-Err-AreaFull-clause-met_at_rest
returns-in-Err-AreaFull-clause-met_at_rest g c =
    (full_end g.D.Disk.clock g.D.Disk.left_since g.D.Disk.image g.D.Disk.faults c.self.inside.active c.self.inside.other c.self.inside.second_active c.self.inside.generation c.self.inside.opened.value c.self.inside.gate c.self.inside.checkpoints.items c.self.inside.stop c.self.invariant
    c.args.self.now c.self.view_is c.args.pass (to_z w64 (of_z w64 c.args.clock)) c.args.clock (to_z-of_z w64 c.args.clock c.ranges.clock) c.args.request
    (sym c.is_some.ensures ∙ c.if-is_some.false) c.decide.new.self c.decide.ensures.key c.decide.ensures.ring c.decide.ensures.base c.decide.ensures.events
    c.in-Keep.reply c.in-Keep.ensures.answer c.keep_pending.new.area c.keep_pending.new.gate c.in-Err-AreaFull.field-0 c.in-Err-AreaFull.field-0-is c.in-Err-AreaFull.ensures).met_at_rest

pub returns-in-Err-AreaFull-clause-first_told : goal.returns-in-Err-AreaFull-clause-first_told
returns-in-Err-AreaFull-clause-first_told g c =
    (full_end g.D.Disk.clock g.D.Disk.left_since g.D.Disk.image g.D.Disk.faults c.self.inside.active c.self.inside.other c.self.inside.second_active c.self.inside.generation c.self.inside.opened.value c.self.inside.gate c.self.inside.checkpoints.items c.self.inside.stop c.self.invariant
    c.args.self.now c.self.view_is c.args.pass (to_z w64 (of_z w64 c.args.clock)) c.args.clock (to_z-of_z w64 c.args.clock c.ranges.clock) c.args.request
    (sym c.is_some.ensures ∙ c.if-is_some.false) c.decide.new.self c.decide.ensures.key c.decide.ensures.ring c.decide.ensures.base c.decide.ensures.events
    c.in-Keep.reply c.in-Keep.ensures.answer c.keep_pending.new.area c.keep_pending.new.gate c.in-Err-AreaFull.field-0 c.in-Err-AreaFull.field-0-is c.in-Err-AreaFull.ensures).first_told

pub returns-in-Err-AreaFull-clause-second_told : goal.returns-in-Err-AreaFull-clause-second_told
returns-in-Err-AreaFull-clause-second_told g c =
    (full_end g.D.Disk.clock g.D.Disk.left_since g.D.Disk.image g.D.Disk.faults c.self.inside.active c.self.inside.other c.self.inside.second_active c.self.inside.generation c.self.inside.opened.value c.self.inside.gate c.self.inside.checkpoints.items c.self.inside.stop c.self.invariant
    c.args.self.now c.self.view_is c.args.pass (to_z w64 (of_z w64 c.args.clock)) c.args.clock (to_z-of_z w64 c.args.clock c.ranges.clock) c.args.request
    (sym c.is_some.ensures ∙ c.if-is_some.false) c.decide.new.self c.decide.ensures.key c.decide.ensures.ring c.decide.ensures.base c.decide.ensures.events
    c.in-Keep.reply c.in-Keep.ensures.answer c.keep_pending.new.area c.keep_pending.new.gate c.in-Err-AreaFull.field-0 c.in-Err-AreaFull.field-0-is c.in-Err-AreaFull.ensures).second_told

pub returns-in-Err-AreaFull-clause-first_never_falls : goal.returns-in-Err-AreaFull-clause-first_never_falls
returns-in-Err-AreaFull-clause-first_never_falls g c =
    (full_end g.D.Disk.clock g.D.Disk.left_since g.D.Disk.image g.D.Disk.faults c.self.inside.active c.self.inside.other c.self.inside.second_active c.self.inside.generation c.self.inside.opened.value c.self.inside.gate c.self.inside.checkpoints.items c.self.inside.stop c.self.invariant
    c.args.self.now c.self.view_is c.args.pass (to_z w64 (of_z w64 c.args.clock)) c.args.clock (to_z-of_z w64 c.args.clock c.ranges.clock) c.args.request
    (sym c.is_some.ensures ∙ c.if-is_some.false) c.decide.new.self c.decide.ensures.key c.decide.ensures.ring c.decide.ensures.base c.decide.ensures.events
    c.in-Keep.reply c.in-Keep.ensures.answer c.keep_pending.new.area c.keep_pending.new.gate c.in-Err-AreaFull.field-0 c.in-Err-AreaFull.field-0-is c.in-Err-AreaFull.ensures).first_never_falls

pub returns-in-Err-AreaFull-clause-second_never_falls : goal.returns-in-Err-AreaFull-clause-second_never_falls
returns-in-Err-AreaFull-clause-second_never_falls g c =
    (full_end g.D.Disk.clock g.D.Disk.left_since g.D.Disk.image g.D.Disk.faults c.self.inside.active c.self.inside.other c.self.inside.second_active c.self.inside.generation c.self.inside.opened.value c.self.inside.gate c.self.inside.checkpoints.items c.self.inside.stop c.self.invariant
    c.args.self.now c.self.view_is c.args.pass (to_z w64 (of_z w64 c.args.clock)) c.args.clock (to_z-of_z w64 c.args.clock c.ranges.clock) c.args.request
    (sym c.is_some.ensures ∙ c.if-is_some.false) c.decide.new.self c.decide.ensures.key c.decide.ensures.ring c.decide.ensures.base c.decide.ensures.events
    c.in-Keep.reply c.in-Keep.ensures.answer c.keep_pending.new.area c.keep_pending.new.gate c.in-Err-AreaFull.field-0 c.in-Err-AreaFull.field-0-is c.in-Err-AreaFull.ensures).second_never_falls

pub returns-in-Err-NoMemory-clause-answer : goal.returns-in-Err-NoMemory-clause-answer
returns-in-Err-NoMemory-clause-answer g c =
    (unrecorded_end g.D.Disk.clock g.D.Disk.left_since g.D.Disk.image g.D.Disk.faults c.self.inside.active c.self.inside.other c.self.inside.second_active c.self.inside.generation c.self.inside.opened.value c.self.inside.gate c.self.inside.checkpoints.items c.self.inside.stop c.self.invariant
    c.args.self.now c.self.view_is c.args.pass (to_z w64 (of_z w64 c.args.clock)) c.args.clock (to_z-of_z w64 c.args.clock c.ranges.clock) c.args.request
    (sym c.is_some.ensures ∙ c.if-is_some.false) c.decide.new.self c.decide.ensures.key c.decide.ensures.ring c.decide.ensures.base c.decide.ensures.events
    c.in-Keep.reply c.in-Keep.ensures.answer c.keep_pending.new.area c.keep_pending.new.gate c.in-Err-NoMemory.field-0 c.in-Err-NoMemory.field-0-is c.in-Err-NoMemory.ensures).answer

pub returns-in-Err-NoMemory-clause-ready : goal.returns-in-Err-NoMemory-clause-ready
returns-in-Err-NoMemory-clause-ready g c =
    (unrecorded_end g.D.Disk.clock g.D.Disk.left_since g.D.Disk.image g.D.Disk.faults c.self.inside.active c.self.inside.other c.self.inside.second_active c.self.inside.generation c.self.inside.opened.value c.self.inside.gate c.self.inside.checkpoints.items c.self.inside.stop c.self.invariant
    c.args.self.now c.self.view_is c.args.pass (to_z w64 (of_z w64 c.args.clock)) c.args.clock (to_z-of_z w64 c.args.clock c.ranges.clock) c.args.request
    (sym c.is_some.ensures ∙ c.if-is_some.false) c.decide.new.self c.decide.ensures.key c.decide.ensures.ring c.decide.ensures.base c.decide.ensures.events
    c.in-Keep.reply c.in-Keep.ensures.answer c.keep_pending.new.area c.keep_pending.new.gate c.in-Err-NoMemory.field-0 c.in-Err-NoMemory.field-0-is c.in-Err-NoMemory.ensures).stays_ready

pub returns-in-Err-NoMemory-clause-keeps : goal.returns-in-Err-NoMemory-clause-keeps
returns-in-Err-NoMemory-clause-keeps g c =
    (unrecorded_end g.D.Disk.clock g.D.Disk.left_since g.D.Disk.image g.D.Disk.faults c.self.inside.active c.self.inside.other c.self.inside.second_active c.self.inside.generation c.self.inside.opened.value c.self.inside.gate c.self.inside.checkpoints.items c.self.inside.stop c.self.invariant
    c.args.self.now c.self.view_is c.args.pass (to_z w64 (of_z w64 c.args.clock)) c.args.clock (to_z-of_z w64 c.args.clock c.ranges.clock) c.args.request
    (sym c.is_some.ensures ∙ c.if-is_some.false) c.decide.new.self c.decide.ensures.key c.decide.ensures.ring c.decide.ensures.base c.decide.ensures.events
    c.in-Keep.reply c.in-Keep.ensures.answer c.keep_pending.new.area c.keep_pending.new.gate c.in-Err-NoMemory.field-0 c.in-Err-NoMemory.field-0-is c.in-Err-NoMemory.ensures).stays_kept

pub returns-in-Err-NoMemory-clause-current : goal.returns-in-Err-NoMemory-clause-current
returns-in-Err-NoMemory-clause-current g c =
    (unrecorded_end g.D.Disk.clock g.D.Disk.left_since g.D.Disk.image g.D.Disk.faults c.self.inside.active c.self.inside.other c.self.inside.second_active c.self.inside.generation c.self.inside.opened.value c.self.inside.gate c.self.inside.checkpoints.items c.self.inside.stop c.self.invariant
    c.args.self.now c.self.view_is c.args.pass (to_z w64 (of_z w64 c.args.clock)) c.args.clock (to_z-of_z w64 c.args.clock c.ranges.clock) c.args.request
    (sym c.is_some.ensures ∙ c.if-is_some.false) c.decide.new.self c.decide.ensures.key c.decide.ensures.ring c.decide.ensures.base c.decide.ensures.events
    c.in-Keep.reply c.in-Keep.ensures.answer c.keep_pending.new.area c.keep_pending.new.gate c.in-Err-NoMemory.field-0 c.in-Err-NoMemory.field-0-is c.in-Err-NoMemory.ensures).stays_current

pub returns-in-Err-NoMemory-clause-makes_ready : goal.returns-in-Err-NoMemory-clause-makes_ready
returns-in-Err-NoMemory-clause-makes_ready g c =
    (unrecorded_end g.D.Disk.clock g.D.Disk.left_since g.D.Disk.image g.D.Disk.faults c.self.inside.active c.self.inside.other c.self.inside.second_active c.self.inside.generation c.self.inside.opened.value c.self.inside.gate c.self.inside.checkpoints.items c.self.inside.stop c.self.invariant
    c.args.self.now c.self.view_is c.args.pass (to_z w64 (of_z w64 c.args.clock)) c.args.clock (to_z-of_z w64 c.args.clock c.ranges.clock) c.args.request
    (sym c.is_some.ensures ∙ c.if-is_some.false) c.decide.new.self c.decide.ensures.key c.decide.ensures.ring c.decide.ensures.base c.decide.ensures.events
    c.in-Keep.reply c.in-Keep.ensures.answer c.keep_pending.new.area c.keep_pending.new.gate c.in-Err-NoMemory.field-0 c.in-Err-NoMemory.field-0-is c.in-Err-NoMemory.ensures).makes_ready

pub returns-in-Err-NoMemory-clause-any_moment : goal.returns-in-Err-NoMemory-clause-any_moment
returns-in-Err-NoMemory-clause-any_moment g c =
    (unrecorded_end g.D.Disk.clock g.D.Disk.left_since g.D.Disk.image g.D.Disk.faults c.self.inside.active c.self.inside.other c.self.inside.second_active c.self.inside.generation c.self.inside.opened.value c.self.inside.gate c.self.inside.checkpoints.items c.self.inside.stop c.self.invariant
    c.args.self.now c.self.view_is c.args.pass (to_z w64 (of_z w64 c.args.clock)) c.args.clock (to_z-of_z w64 c.args.clock c.ranges.clock) c.args.request
    (sym c.is_some.ensures ∙ c.if-is_some.false) c.decide.new.self c.decide.ensures.key c.decide.ensures.ring c.decide.ensures.base c.decide.ensures.events
    c.in-Keep.reply c.in-Keep.ensures.answer c.keep_pending.new.area c.keep_pending.new.gate c.in-Err-NoMemory.field-0 c.in-Err-NoMemory.field-0-is c.in-Err-NoMemory.ensures).any_moment

pub returns-in-Err-NoMemory-clause-met : goal.returns-in-Err-NoMemory-clause-met
returns-in-Err-NoMemory-clause-met g c =
    (unrecorded_end g.D.Disk.clock g.D.Disk.left_since g.D.Disk.image g.D.Disk.faults c.self.inside.active c.self.inside.other c.self.inside.second_active c.self.inside.generation c.self.inside.opened.value c.self.inside.gate c.self.inside.checkpoints.items c.self.inside.stop c.self.invariant
    c.args.self.now c.self.view_is c.args.pass (to_z w64 (of_z w64 c.args.clock)) c.args.clock (to_z-of_z w64 c.args.clock c.ranges.clock) c.args.request
    (sym c.is_some.ensures ∙ c.if-is_some.false) c.decide.new.self c.decide.ensures.key c.decide.ensures.ring c.decide.ensures.base c.decide.ensures.events
    c.in-Keep.reply c.in-Keep.ensures.answer c.keep_pending.new.area c.keep_pending.new.gate c.in-Err-NoMemory.field-0 c.in-Err-NoMemory.field-0-is c.in-Err-NoMemory.ensures).met

pub returns-in-Err-NoMemory-clause-met_at_rest : goal.returns-in-Err-NoMemory-clause-met_at_rest
returns-in-Err-NoMemory-clause-met_at_rest g c =
    (unrecorded_end g.D.Disk.clock g.D.Disk.left_since g.D.Disk.image g.D.Disk.faults c.self.inside.active c.self.inside.other c.self.inside.second_active c.self.inside.generation c.self.inside.opened.value c.self.inside.gate c.self.inside.checkpoints.items c.self.inside.stop c.self.invariant
    c.args.self.now c.self.view_is c.args.pass (to_z w64 (of_z w64 c.args.clock)) c.args.clock (to_z-of_z w64 c.args.clock c.ranges.clock) c.args.request
    (sym c.is_some.ensures ∙ c.if-is_some.false) c.decide.new.self c.decide.ensures.key c.decide.ensures.ring c.decide.ensures.base c.decide.ensures.events
    c.in-Keep.reply c.in-Keep.ensures.answer c.keep_pending.new.area c.keep_pending.new.gate c.in-Err-NoMemory.field-0 c.in-Err-NoMemory.field-0-is c.in-Err-NoMemory.ensures).met_at_rest

pub returns-in-Err-NoMemory-clause-first_told : goal.returns-in-Err-NoMemory-clause-first_told
returns-in-Err-NoMemory-clause-first_told g c =
    (unrecorded_end g.D.Disk.clock g.D.Disk.left_since g.D.Disk.image g.D.Disk.faults c.self.inside.active c.self.inside.other c.self.inside.second_active c.self.inside.generation c.self.inside.opened.value c.self.inside.gate c.self.inside.checkpoints.items c.self.inside.stop c.self.invariant
    c.args.self.now c.self.view_is c.args.pass (to_z w64 (of_z w64 c.args.clock)) c.args.clock (to_z-of_z w64 c.args.clock c.ranges.clock) c.args.request
    (sym c.is_some.ensures ∙ c.if-is_some.false) c.decide.new.self c.decide.ensures.key c.decide.ensures.ring c.decide.ensures.base c.decide.ensures.events
    c.in-Keep.reply c.in-Keep.ensures.answer c.keep_pending.new.area c.keep_pending.new.gate c.in-Err-NoMemory.field-0 c.in-Err-NoMemory.field-0-is c.in-Err-NoMemory.ensures).first_told

pub returns-in-Err-NoMemory-clause-second_told : goal.returns-in-Err-NoMemory-clause-second_told
returns-in-Err-NoMemory-clause-second_told g c =
    (unrecorded_end g.D.Disk.clock g.D.Disk.left_since g.D.Disk.image g.D.Disk.faults c.self.inside.active c.self.inside.other c.self.inside.second_active c.self.inside.generation c.self.inside.opened.value c.self.inside.gate c.self.inside.checkpoints.items c.self.inside.stop c.self.invariant
    c.args.self.now c.self.view_is c.args.pass (to_z w64 (of_z w64 c.args.clock)) c.args.clock (to_z-of_z w64 c.args.clock c.ranges.clock) c.args.request
    (sym c.is_some.ensures ∙ c.if-is_some.false) c.decide.new.self c.decide.ensures.key c.decide.ensures.ring c.decide.ensures.base c.decide.ensures.events
    c.in-Keep.reply c.in-Keep.ensures.answer c.keep_pending.new.area c.keep_pending.new.gate c.in-Err-NoMemory.field-0 c.in-Err-NoMemory.field-0-is c.in-Err-NoMemory.ensures).second_told

pub returns-in-Err-NoMemory-clause-first_never_falls : goal.returns-in-Err-NoMemory-clause-first_never_falls
returns-in-Err-NoMemory-clause-first_never_falls g c =
    (unrecorded_end g.D.Disk.clock g.D.Disk.left_since g.D.Disk.image g.D.Disk.faults c.self.inside.active c.self.inside.other c.self.inside.second_active c.self.inside.generation c.self.inside.opened.value c.self.inside.gate c.self.inside.checkpoints.items c.self.inside.stop c.self.invariant
    c.args.self.now c.self.view_is c.args.pass (to_z w64 (of_z w64 c.args.clock)) c.args.clock (to_z-of_z w64 c.args.clock c.ranges.clock) c.args.request
    (sym c.is_some.ensures ∙ c.if-is_some.false) c.decide.new.self c.decide.ensures.key c.decide.ensures.ring c.decide.ensures.base c.decide.ensures.events
    c.in-Keep.reply c.in-Keep.ensures.answer c.keep_pending.new.area c.keep_pending.new.gate c.in-Err-NoMemory.field-0 c.in-Err-NoMemory.field-0-is c.in-Err-NoMemory.ensures).first_never_falls

pub returns-in-Err-NoMemory-clause-second_never_falls : goal.returns-in-Err-NoMemory-clause-second_never_falls
returns-in-Err-NoMemory-clause-second_never_falls g c =
    (unrecorded_end g.D.Disk.clock g.D.Disk.left_since g.D.Disk.image g.D.Disk.faults c.self.inside.active c.self.inside.other c.self.inside.second_active c.self.inside.generation c.self.inside.opened.value c.self.inside.gate c.self.inside.checkpoints.items c.self.inside.stop c.self.invariant
    c.args.self.now c.self.view_is c.args.pass (to_z w64 (of_z w64 c.args.clock)) c.args.clock (to_z-of_z w64 c.args.clock c.ranges.clock) c.args.request
    (sym c.is_some.ensures ∙ c.if-is_some.false) c.decide.new.self c.decide.ensures.key c.decide.ensures.ring c.decide.ensures.base c.decide.ensures.events
    c.in-Keep.reply c.in-Keep.ensures.answer c.keep_pending.new.area c.keep_pending.new.gate c.in-Err-NoMemory.field-0 c.in-Err-NoMemory.field-0-is c.in-Err-NoMemory.ensures).second_never_falls

pub returns-in-Keep-clause-answer : goal.returns-in-Keep-clause-answer
returns-in-Keep-clause-answer g c =
    (failed_end g.D.Disk.clock g.D.Disk.left_since g.D.Disk.image g.D.Disk.faults c.self.inside.active c.self.inside.other c.self.inside.second_active c.self.inside.generation c.self.inside.opened.value c.self.inside.gate c.self.inside.checkpoints.items c.self.inside.stop c.self.invariant
    c.args.self.now c.self.view_is c.args.pass (to_z w64 (of_z w64 c.args.clock)) c.args.clock (to_z-of_z w64 c.args.clock c.ranges.clock) c.args.request
    (sym c.is_some.ensures ∙ c.if-is_some.false) c.decide.new.self c.decide.ensures.key c.decide.ensures.ring c.decide.ensures.base c.decide.ensures.events
    c.in-Keep.reply c.in-Keep.ensures.answer c.keep_pending.new.area c.keep_pending.new.gate (λ disk t u b le left. g.met.D.Disk.since_earlier disk t u b le left) c.in-Err-Disk.field-0 c.in-Err-Disk.field-0-is c.in-Err-Disk.ensures).answer

pub returns-in-Keep-clause-ready : goal.returns-in-Keep-clause-ready
returns-in-Keep-clause-ready g c =
    (failed_end g.D.Disk.clock g.D.Disk.left_since g.D.Disk.image g.D.Disk.faults c.self.inside.active c.self.inside.other c.self.inside.second_active c.self.inside.generation c.self.inside.opened.value c.self.inside.gate c.self.inside.checkpoints.items c.self.inside.stop c.self.invariant
    c.args.self.now c.self.view_is c.args.pass (to_z w64 (of_z w64 c.args.clock)) c.args.clock (to_z-of_z w64 c.args.clock c.ranges.clock) c.args.request
    (sym c.is_some.ensures ∙ c.if-is_some.false) c.decide.new.self c.decide.ensures.key c.decide.ensures.ring c.decide.ensures.base c.decide.ensures.events
    c.in-Keep.reply c.in-Keep.ensures.answer c.keep_pending.new.area c.keep_pending.new.gate (λ disk t u b le left. g.met.D.Disk.since_earlier disk t u b le left) c.in-Err-Disk.field-0 c.in-Err-Disk.field-0-is c.in-Err-Disk.ensures).stays_ready

pub returns-in-Keep-clause-keeps : goal.returns-in-Keep-clause-keeps
returns-in-Keep-clause-keeps g c =
    (failed_end g.D.Disk.clock g.D.Disk.left_since g.D.Disk.image g.D.Disk.faults c.self.inside.active c.self.inside.other c.self.inside.second_active c.self.inside.generation c.self.inside.opened.value c.self.inside.gate c.self.inside.checkpoints.items c.self.inside.stop c.self.invariant
    c.args.self.now c.self.view_is c.args.pass (to_z w64 (of_z w64 c.args.clock)) c.args.clock (to_z-of_z w64 c.args.clock c.ranges.clock) c.args.request
    (sym c.is_some.ensures ∙ c.if-is_some.false) c.decide.new.self c.decide.ensures.key c.decide.ensures.ring c.decide.ensures.base c.decide.ensures.events
    c.in-Keep.reply c.in-Keep.ensures.answer c.keep_pending.new.area c.keep_pending.new.gate (λ disk t u b le left. g.met.D.Disk.since_earlier disk t u b le left) c.in-Err-Disk.field-0 c.in-Err-Disk.field-0-is c.in-Err-Disk.ensures).stays_kept

pub returns-in-Keep-clause-current : goal.returns-in-Keep-clause-current
returns-in-Keep-clause-current g c =
    (failed_end g.D.Disk.clock g.D.Disk.left_since g.D.Disk.image g.D.Disk.faults c.self.inside.active c.self.inside.other c.self.inside.second_active c.self.inside.generation c.self.inside.opened.value c.self.inside.gate c.self.inside.checkpoints.items c.self.inside.stop c.self.invariant
    c.args.self.now c.self.view_is c.args.pass (to_z w64 (of_z w64 c.args.clock)) c.args.clock (to_z-of_z w64 c.args.clock c.ranges.clock) c.args.request
    (sym c.is_some.ensures ∙ c.if-is_some.false) c.decide.new.self c.decide.ensures.key c.decide.ensures.ring c.decide.ensures.base c.decide.ensures.events
    c.in-Keep.reply c.in-Keep.ensures.answer c.keep_pending.new.area c.keep_pending.new.gate (λ disk t u b le left. g.met.D.Disk.since_earlier disk t u b le left) c.in-Err-Disk.field-0 c.in-Err-Disk.field-0-is c.in-Err-Disk.ensures).stays_current

pub returns-in-Keep-clause-makes_ready : goal.returns-in-Keep-clause-makes_ready
returns-in-Keep-clause-makes_ready g c =
    (failed_end g.D.Disk.clock g.D.Disk.left_since g.D.Disk.image g.D.Disk.faults c.self.inside.active c.self.inside.other c.self.inside.second_active c.self.inside.generation c.self.inside.opened.value c.self.inside.gate c.self.inside.checkpoints.items c.self.inside.stop c.self.invariant
    c.args.self.now c.self.view_is c.args.pass (to_z w64 (of_z w64 c.args.clock)) c.args.clock (to_z-of_z w64 c.args.clock c.ranges.clock) c.args.request
    (sym c.is_some.ensures ∙ c.if-is_some.false) c.decide.new.self c.decide.ensures.key c.decide.ensures.ring c.decide.ensures.base c.decide.ensures.events
    c.in-Keep.reply c.in-Keep.ensures.answer c.keep_pending.new.area c.keep_pending.new.gate (λ disk t u b le left. g.met.D.Disk.since_earlier disk t u b le left) c.in-Err-Disk.field-0 c.in-Err-Disk.field-0-is c.in-Err-Disk.ensures).makes_ready

pub returns-in-Keep-clause-any_moment : goal.returns-in-Keep-clause-any_moment
returns-in-Keep-clause-any_moment g c =
    (failed_end g.D.Disk.clock g.D.Disk.left_since g.D.Disk.image g.D.Disk.faults c.self.inside.active c.self.inside.other c.self.inside.second_active c.self.inside.generation c.self.inside.opened.value c.self.inside.gate c.self.inside.checkpoints.items c.self.inside.stop c.self.invariant
    c.args.self.now c.self.view_is c.args.pass (to_z w64 (of_z w64 c.args.clock)) c.args.clock (to_z-of_z w64 c.args.clock c.ranges.clock) c.args.request
    (sym c.is_some.ensures ∙ c.if-is_some.false) c.decide.new.self c.decide.ensures.key c.decide.ensures.ring c.decide.ensures.base c.decide.ensures.events
    c.in-Keep.reply c.in-Keep.ensures.answer c.keep_pending.new.area c.keep_pending.new.gate (λ disk t u b le left. g.met.D.Disk.since_earlier disk t u b le left) c.in-Err-Disk.field-0 c.in-Err-Disk.field-0-is c.in-Err-Disk.ensures).any_moment

pub returns-in-Keep-clause-met : goal.returns-in-Keep-clause-met
returns-in-Keep-clause-met g c =
    (failed_end g.D.Disk.clock g.D.Disk.left_since g.D.Disk.image g.D.Disk.faults c.self.inside.active c.self.inside.other c.self.inside.second_active c.self.inside.generation c.self.inside.opened.value c.self.inside.gate c.self.inside.checkpoints.items c.self.inside.stop c.self.invariant
    c.args.self.now c.self.view_is c.args.pass (to_z w64 (of_z w64 c.args.clock)) c.args.clock (to_z-of_z w64 c.args.clock c.ranges.clock) c.args.request
    (sym c.is_some.ensures ∙ c.if-is_some.false) c.decide.new.self c.decide.ensures.key c.decide.ensures.ring c.decide.ensures.base c.decide.ensures.events
    c.in-Keep.reply c.in-Keep.ensures.answer c.keep_pending.new.area c.keep_pending.new.gate (λ disk t u b le left. g.met.D.Disk.since_earlier disk t u b le left) c.in-Err-Disk.field-0 c.in-Err-Disk.field-0-is c.in-Err-Disk.ensures).met

pub returns-in-Keep-clause-met_at_rest : goal.returns-in-Keep-clause-met_at_rest
returns-in-Keep-clause-met_at_rest g c =
    (failed_end g.D.Disk.clock g.D.Disk.left_since g.D.Disk.image g.D.Disk.faults c.self.inside.active c.self.inside.other c.self.inside.second_active c.self.inside.generation c.self.inside.opened.value c.self.inside.gate c.self.inside.checkpoints.items c.self.inside.stop c.self.invariant
    c.args.self.now c.self.view_is c.args.pass (to_z w64 (of_z w64 c.args.clock)) c.args.clock (to_z-of_z w64 c.args.clock c.ranges.clock) c.args.request
    (sym c.is_some.ensures ∙ c.if-is_some.false) c.decide.new.self c.decide.ensures.key c.decide.ensures.ring c.decide.ensures.base c.decide.ensures.events
    c.in-Keep.reply c.in-Keep.ensures.answer c.keep_pending.new.area c.keep_pending.new.gate (λ disk t u b le left. g.met.D.Disk.since_earlier disk t u b le left) c.in-Err-Disk.field-0 c.in-Err-Disk.field-0-is c.in-Err-Disk.ensures).met_at_rest

pub returns-in-Keep-clause-first_told : goal.returns-in-Keep-clause-first_told
returns-in-Keep-clause-first_told g c =
    (failed_end g.D.Disk.clock g.D.Disk.left_since g.D.Disk.image g.D.Disk.faults c.self.inside.active c.self.inside.other c.self.inside.second_active c.self.inside.generation c.self.inside.opened.value c.self.inside.gate c.self.inside.checkpoints.items c.self.inside.stop c.self.invariant
    c.args.self.now c.self.view_is c.args.pass (to_z w64 (of_z w64 c.args.clock)) c.args.clock (to_z-of_z w64 c.args.clock c.ranges.clock) c.args.request
    (sym c.is_some.ensures ∙ c.if-is_some.false) c.decide.new.self c.decide.ensures.key c.decide.ensures.ring c.decide.ensures.base c.decide.ensures.events
    c.in-Keep.reply c.in-Keep.ensures.answer c.keep_pending.new.area c.keep_pending.new.gate (λ disk t u b le left. g.met.D.Disk.since_earlier disk t u b le left) c.in-Err-Disk.field-0 c.in-Err-Disk.field-0-is c.in-Err-Disk.ensures).first_told

pub returns-in-Keep-clause-second_told : goal.returns-in-Keep-clause-second_told
returns-in-Keep-clause-second_told g c =
    (failed_end g.D.Disk.clock g.D.Disk.left_since g.D.Disk.image g.D.Disk.faults c.self.inside.active c.self.inside.other c.self.inside.second_active c.self.inside.generation c.self.inside.opened.value c.self.inside.gate c.self.inside.checkpoints.items c.self.inside.stop c.self.invariant
    c.args.self.now c.self.view_is c.args.pass (to_z w64 (of_z w64 c.args.clock)) c.args.clock (to_z-of_z w64 c.args.clock c.ranges.clock) c.args.request
    (sym c.is_some.ensures ∙ c.if-is_some.false) c.decide.new.self c.decide.ensures.key c.decide.ensures.ring c.decide.ensures.base c.decide.ensures.events
    c.in-Keep.reply c.in-Keep.ensures.answer c.keep_pending.new.area c.keep_pending.new.gate (λ disk t u b le left. g.met.D.Disk.since_earlier disk t u b le left) c.in-Err-Disk.field-0 c.in-Err-Disk.field-0-is c.in-Err-Disk.ensures).second_told

pub returns-in-Keep-clause-first_never_falls : goal.returns-in-Keep-clause-first_never_falls
returns-in-Keep-clause-first_never_falls g c =
    (failed_end g.D.Disk.clock g.D.Disk.left_since g.D.Disk.image g.D.Disk.faults c.self.inside.active c.self.inside.other c.self.inside.second_active c.self.inside.generation c.self.inside.opened.value c.self.inside.gate c.self.inside.checkpoints.items c.self.inside.stop c.self.invariant
    c.args.self.now c.self.view_is c.args.pass (to_z w64 (of_z w64 c.args.clock)) c.args.clock (to_z-of_z w64 c.args.clock c.ranges.clock) c.args.request
    (sym c.is_some.ensures ∙ c.if-is_some.false) c.decide.new.self c.decide.ensures.key c.decide.ensures.ring c.decide.ensures.base c.decide.ensures.events
    c.in-Keep.reply c.in-Keep.ensures.answer c.keep_pending.new.area c.keep_pending.new.gate (λ disk t u b le left. g.met.D.Disk.since_earlier disk t u b le left) c.in-Err-Disk.field-0 c.in-Err-Disk.field-0-is c.in-Err-Disk.ensures).first_never_falls

pub returns-in-Keep-clause-second_never_falls : goal.returns-in-Keep-clause-second_never_falls
returns-in-Keep-clause-second_never_falls g c =
    (failed_end g.D.Disk.clock g.D.Disk.left_since g.D.Disk.image g.D.Disk.faults c.self.inside.active c.self.inside.other c.self.inside.second_active c.self.inside.generation c.self.inside.opened.value c.self.inside.gate c.self.inside.checkpoints.items c.self.inside.stop c.self.invariant
    c.args.self.now c.self.view_is c.args.pass (to_z w64 (of_z w64 c.args.clock)) c.args.clock (to_z-of_z w64 c.args.clock c.ranges.clock) c.args.request
    (sym c.is_some.ensures ∙ c.if-is_some.false) c.decide.new.self c.decide.ensures.key c.decide.ensures.ring c.decide.ensures.base c.decide.ensures.events
    c.in-Keep.reply c.in-Keep.ensures.answer c.keep_pending.new.area c.keep_pending.new.gate (λ disk t u b le left. g.met.D.Disk.since_earlier disk t u b le left) c.in-Err-Disk.field-0 c.in-Err-Disk.field-0-is c.in-Err-Disk.ensures).second_never_falls

pub returns-clause-answer : goal.returns-clause-answer
returns-clause-answer g c =
    (undecided_end g.D.Disk.clock g.D.Disk.left_since g.D.Disk.image g.D.Disk.faults c.self.inside.active c.self.inside.other c.self.inside.second_active c.self.inside.generation c.self.inside.opened.value c.self.inside.gate c.self.inside.checkpoints.items c.self.inside.stop c.self.invariant
    c.args.self.now c.self.view_is c.args.pass (to_z w64 (of_z w64 c.args.clock)) c.args.clock (to_z-of_z w64 c.args.clock c.ranges.clock) c.args.request
    (sym c.is_some.ensures ∙ c.if-is_some.false) c.decide.new.self c.decide.ensures.key c.decide.ensures.ring c.decide.ensures.base c.decide.ensures.events c.in-NoMemory.ensures.answer).answer

pub returns-clause-ready : goal.returns-clause-ready
returns-clause-ready g c =
    (undecided_end g.D.Disk.clock g.D.Disk.left_since g.D.Disk.image g.D.Disk.faults c.self.inside.active c.self.inside.other c.self.inside.second_active c.self.inside.generation c.self.inside.opened.value c.self.inside.gate c.self.inside.checkpoints.items c.self.inside.stop c.self.invariant
    c.args.self.now c.self.view_is c.args.pass (to_z w64 (of_z w64 c.args.clock)) c.args.clock (to_z-of_z w64 c.args.clock c.ranges.clock) c.args.request
    (sym c.is_some.ensures ∙ c.if-is_some.false) c.decide.new.self c.decide.ensures.key c.decide.ensures.ring c.decide.ensures.base c.decide.ensures.events c.in-NoMemory.ensures.answer).stays_ready

pub returns-clause-keeps : goal.returns-clause-keeps
returns-clause-keeps g c =
    (undecided_end g.D.Disk.clock g.D.Disk.left_since g.D.Disk.image g.D.Disk.faults c.self.inside.active c.self.inside.other c.self.inside.second_active c.self.inside.generation c.self.inside.opened.value c.self.inside.gate c.self.inside.checkpoints.items c.self.inside.stop c.self.invariant
    c.args.self.now c.self.view_is c.args.pass (to_z w64 (of_z w64 c.args.clock)) c.args.clock (to_z-of_z w64 c.args.clock c.ranges.clock) c.args.request
    (sym c.is_some.ensures ∙ c.if-is_some.false) c.decide.new.self c.decide.ensures.key c.decide.ensures.ring c.decide.ensures.base c.decide.ensures.events c.in-NoMemory.ensures.answer).stays_kept

pub returns-clause-current : goal.returns-clause-current
returns-clause-current g c =
    (undecided_end g.D.Disk.clock g.D.Disk.left_since g.D.Disk.image g.D.Disk.faults c.self.inside.active c.self.inside.other c.self.inside.second_active c.self.inside.generation c.self.inside.opened.value c.self.inside.gate c.self.inside.checkpoints.items c.self.inside.stop c.self.invariant
    c.args.self.now c.self.view_is c.args.pass (to_z w64 (of_z w64 c.args.clock)) c.args.clock (to_z-of_z w64 c.args.clock c.ranges.clock) c.args.request
    (sym c.is_some.ensures ∙ c.if-is_some.false) c.decide.new.self c.decide.ensures.key c.decide.ensures.ring c.decide.ensures.base c.decide.ensures.events c.in-NoMemory.ensures.answer).stays_current

pub returns-clause-makes_ready : goal.returns-clause-makes_ready
returns-clause-makes_ready g c =
    (undecided_end g.D.Disk.clock g.D.Disk.left_since g.D.Disk.image g.D.Disk.faults c.self.inside.active c.self.inside.other c.self.inside.second_active c.self.inside.generation c.self.inside.opened.value c.self.inside.gate c.self.inside.checkpoints.items c.self.inside.stop c.self.invariant
    c.args.self.now c.self.view_is c.args.pass (to_z w64 (of_z w64 c.args.clock)) c.args.clock (to_z-of_z w64 c.args.clock c.ranges.clock) c.args.request
    (sym c.is_some.ensures ∙ c.if-is_some.false) c.decide.new.self c.decide.ensures.key c.decide.ensures.ring c.decide.ensures.base c.decide.ensures.events c.in-NoMemory.ensures.answer).makes_ready

pub returns-clause-any_moment : goal.returns-clause-any_moment
returns-clause-any_moment g c =
    (undecided_end g.D.Disk.clock g.D.Disk.left_since g.D.Disk.image g.D.Disk.faults c.self.inside.active c.self.inside.other c.self.inside.second_active c.self.inside.generation c.self.inside.opened.value c.self.inside.gate c.self.inside.checkpoints.items c.self.inside.stop c.self.invariant
    c.args.self.now c.self.view_is c.args.pass (to_z w64 (of_z w64 c.args.clock)) c.args.clock (to_z-of_z w64 c.args.clock c.ranges.clock) c.args.request
    (sym c.is_some.ensures ∙ c.if-is_some.false) c.decide.new.self c.decide.ensures.key c.decide.ensures.ring c.decide.ensures.base c.decide.ensures.events c.in-NoMemory.ensures.answer).any_moment

pub returns-clause-met : goal.returns-clause-met
returns-clause-met g c =
    (undecided_end g.D.Disk.clock g.D.Disk.left_since g.D.Disk.image g.D.Disk.faults c.self.inside.active c.self.inside.other c.self.inside.second_active c.self.inside.generation c.self.inside.opened.value c.self.inside.gate c.self.inside.checkpoints.items c.self.inside.stop c.self.invariant
    c.args.self.now c.self.view_is c.args.pass (to_z w64 (of_z w64 c.args.clock)) c.args.clock (to_z-of_z w64 c.args.clock c.ranges.clock) c.args.request
    (sym c.is_some.ensures ∙ c.if-is_some.false) c.decide.new.self c.decide.ensures.key c.decide.ensures.ring c.decide.ensures.base c.decide.ensures.events c.in-NoMemory.ensures.answer).met

pub returns-clause-met_at_rest : goal.returns-clause-met_at_rest
returns-clause-met_at_rest g c =
    (undecided_end g.D.Disk.clock g.D.Disk.left_since g.D.Disk.image g.D.Disk.faults c.self.inside.active c.self.inside.other c.self.inside.second_active c.self.inside.generation c.self.inside.opened.value c.self.inside.gate c.self.inside.checkpoints.items c.self.inside.stop c.self.invariant
    c.args.self.now c.self.view_is c.args.pass (to_z w64 (of_z w64 c.args.clock)) c.args.clock (to_z-of_z w64 c.args.clock c.ranges.clock) c.args.request
    (sym c.is_some.ensures ∙ c.if-is_some.false) c.decide.new.self c.decide.ensures.key c.decide.ensures.ring c.decide.ensures.base c.decide.ensures.events c.in-NoMemory.ensures.answer).met_at_rest

pub returns-clause-first_told : goal.returns-clause-first_told
returns-clause-first_told g c =
    (undecided_end g.D.Disk.clock g.D.Disk.left_since g.D.Disk.image g.D.Disk.faults c.self.inside.active c.self.inside.other c.self.inside.second_active c.self.inside.generation c.self.inside.opened.value c.self.inside.gate c.self.inside.checkpoints.items c.self.inside.stop c.self.invariant
    c.args.self.now c.self.view_is c.args.pass (to_z w64 (of_z w64 c.args.clock)) c.args.clock (to_z-of_z w64 c.args.clock c.ranges.clock) c.args.request
    (sym c.is_some.ensures ∙ c.if-is_some.false) c.decide.new.self c.decide.ensures.key c.decide.ensures.ring c.decide.ensures.base c.decide.ensures.events c.in-NoMemory.ensures.answer).first_told

pub returns-clause-second_told : goal.returns-clause-second_told
returns-clause-second_told g c =
    (undecided_end g.D.Disk.clock g.D.Disk.left_since g.D.Disk.image g.D.Disk.faults c.self.inside.active c.self.inside.other c.self.inside.second_active c.self.inside.generation c.self.inside.opened.value c.self.inside.gate c.self.inside.checkpoints.items c.self.inside.stop c.self.invariant
    c.args.self.now c.self.view_is c.args.pass (to_z w64 (of_z w64 c.args.clock)) c.args.clock (to_z-of_z w64 c.args.clock c.ranges.clock) c.args.request
    (sym c.is_some.ensures ∙ c.if-is_some.false) c.decide.new.self c.decide.ensures.key c.decide.ensures.ring c.decide.ensures.base c.decide.ensures.events c.in-NoMemory.ensures.answer).second_told

pub returns-clause-first_never_falls : goal.returns-clause-first_never_falls
returns-clause-first_never_falls g c =
    (undecided_end g.D.Disk.clock g.D.Disk.left_since g.D.Disk.image g.D.Disk.faults c.self.inside.active c.self.inside.other c.self.inside.second_active c.self.inside.generation c.self.inside.opened.value c.self.inside.gate c.self.inside.checkpoints.items c.self.inside.stop c.self.invariant
    c.args.self.now c.self.view_is c.args.pass (to_z w64 (of_z w64 c.args.clock)) c.args.clock (to_z-of_z w64 c.args.clock c.ranges.clock) c.args.request
    (sym c.is_some.ensures ∙ c.if-is_some.false) c.decide.new.self c.decide.ensures.key c.decide.ensures.ring c.decide.ensures.base c.decide.ensures.events c.in-NoMemory.ensures.answer).first_never_falls

pub returns-clause-second_never_falls : goal.returns-clause-second_never_falls
returns-clause-second_never_falls g c =
    (undecided_end g.D.Disk.clock g.D.Disk.left_since g.D.Disk.image g.D.Disk.faults c.self.inside.active c.self.inside.other c.self.inside.second_active c.self.inside.generation c.self.inside.opened.value c.self.inside.gate c.self.inside.checkpoints.items c.self.inside.stop c.self.invariant
    c.args.self.now c.self.view_is c.args.pass (to_z w64 (of_z w64 c.args.clock)) c.args.clock (to_z-of_z w64 c.args.clock c.ranges.clock) c.args.request
    (sym c.is_some.ensures ∙ c.if-is_some.false) c.decide.new.self c.decide.ensures.key c.decide.ensures.ring c.decide.ensures.base c.decide.ensures.events c.in-NoMemory.ensures.answer).second_never_falls
