-- Each end of the admission of an event says its clauses.
use Rattle.std.proofs.Common.{sym, ◌∙◌}
use Rattle.pcfs_store.proofs.AdmittingLemmas.{stopped_end, unprepared_end, kept_end, kept_keeps, full_end, unrecorded_end, failed_end}
use Rattle.pcfs_store.proofs.store.Store.try_admit.Goals as goal

pub invariant_of-self : goal.invariant_of-self
invariant_of-self g c =
    kept_keeps g.D.Disk.clock g.D.Disk.left_since g.D.Disk.image g.D.Disk.faults c.self.inside.active c.self.inside.other c.self.inside.second_active c.self.inside.generation c.self.inside.opened.value c.self.inside.gate c.self.inside.checkpoints.items c.self.inside.stop c.self.invariant
    c.args.self.now c.self.view_is c.args.event
    (sym c.is_some.ensures ∙ c.if-is_some.false) c.prepare.new.self c.prepare.ensures.key c.prepare.ensures.ring c.prepare.ensures.base c.prepare.ensures.events
    c.in-Ok.ensures.answer c.in-Ok.ensures.pending c.keep_pending.new.area c.keep_pending.new.gate c.in-Ok-keep_pending.ensures

pub returns-then-is_some : goal.returns-then-is_some
returns-then-is_some g c =
    stopped_end g.D.Disk.clock g.D.Disk.left_since g.D.Disk.image g.D.Disk.faults c.self.inside.active c.self.inside.other c.self.inside.second_active c.self.inside.generation c.self.inside.opened.value c.self.inside.gate c.self.inside.checkpoints.items c.self.inside.stop c.self.invariant
    c.args.self.now c.self.view_is c.args.event
    (sym c.is_some.ensures ∙ c.if-is_some.true)

pub returns-in-Ok-keep_pending : goal.returns-in-Ok-keep_pending
returns-in-Ok-keep_pending g c =
    kept_end g.D.Disk.clock g.D.Disk.left_since g.D.Disk.image g.D.Disk.faults c.self.inside.active c.self.inside.other c.self.inside.second_active c.self.inside.generation c.self.inside.opened.value c.self.inside.gate c.self.inside.checkpoints.items c.self.inside.stop c.self.invariant
    c.args.self.now c.self.view_is c.args.event
    (sym c.is_some.ensures ∙ c.if-is_some.false) c.prepare.new.self c.prepare.ensures.key c.prepare.ensures.ring c.prepare.ensures.base c.prepare.ensures.events
    c.in-Ok.ensures.answer c.in-Ok.ensures.pending c.keep_pending.new.area c.keep_pending.new.gate c.in-Ok-keep_pending.ensures

pub returns-in-Err-AreaFull : goal.returns-in-Err-AreaFull
returns-in-Err-AreaFull g c =
    full_end g.D.Disk.clock g.D.Disk.left_since g.D.Disk.image g.D.Disk.faults c.self.inside.active c.self.inside.other c.self.inside.second_active c.self.inside.generation c.self.inside.opened.value c.self.inside.gate c.self.inside.checkpoints.items c.self.inside.stop c.self.invariant
    c.args.self.now c.self.view_is c.args.event
    (sym c.is_some.ensures ∙ c.if-is_some.false) c.prepare.new.self c.prepare.ensures.key c.prepare.ensures.ring c.prepare.ensures.base c.prepare.ensures.events
    c.in-Ok.ensures.answer c.in-Ok.ensures.pending c.keep_pending.new.area c.keep_pending.new.gate c.in-Err-AreaFull.field-0 c.in-Err-AreaFull.field-0-is c.in-Err-AreaFull.ensures

pub returns-in-Err-NoMemory : goal.returns-in-Err-NoMemory
returns-in-Err-NoMemory g c =
    unrecorded_end g.D.Disk.clock g.D.Disk.left_since g.D.Disk.image g.D.Disk.faults c.self.inside.active c.self.inside.other c.self.inside.second_active c.self.inside.generation c.self.inside.opened.value c.self.inside.gate c.self.inside.checkpoints.items c.self.inside.stop c.self.invariant
    c.args.self.now c.self.view_is c.args.event
    (sym c.is_some.ensures ∙ c.if-is_some.false) c.prepare.new.self c.prepare.ensures.key c.prepare.ensures.ring c.prepare.ensures.base c.prepare.ensures.events
    c.in-Ok.ensures.answer c.in-Ok.ensures.pending c.keep_pending.new.area c.keep_pending.new.gate c.in-Err-NoMemory.field-0 c.in-Err-NoMemory.field-0-is c.in-Err-NoMemory.ensures

pub returns-in-Err-Disk : goal.returns-in-Err-Disk
returns-in-Err-Disk g c =
    failed_end g.D.Disk.clock g.D.Disk.left_since g.D.Disk.image g.D.Disk.faults c.self.inside.active c.self.inside.other c.self.inside.second_active c.self.inside.generation c.self.inside.opened.value c.self.inside.gate c.self.inside.checkpoints.items c.self.inside.stop c.self.invariant
    c.args.self.now c.self.view_is c.args.event
    (sym c.is_some.ensures ∙ c.if-is_some.false) c.prepare.new.self c.prepare.ensures.key c.prepare.ensures.ring c.prepare.ensures.base c.prepare.ensures.events
    c.in-Ok.ensures.answer c.in-Ok.ensures.pending c.keep_pending.new.area c.keep_pending.new.gate (λ disk t u b le left. g.met.D.Disk.since_earlier disk t u b le left) c.pass-of_event.result c.pass-of_event.ensures c.in-Err-Disk.field-0 c.in-Err-Disk.field-0-is c.in-Err-Disk.ensures

pub returns-in-Err : goal.returns-in-Err
returns-in-Err g c =
    unprepared_end g.D.Disk.clock g.D.Disk.left_since g.D.Disk.image g.D.Disk.faults c.self.inside.active c.self.inside.other c.self.inside.second_active c.self.inside.generation c.self.inside.opened.value c.self.inside.gate c.self.inside.checkpoints.items c.self.inside.stop c.self.invariant
    c.args.self.now c.self.view_is c.args.event
    (sym c.is_some.ensures ∙ c.if-is_some.false) c.prepare.new.self c.prepare.ensures.key c.prepare.ensures.ring c.prepare.ensures.base c.prepare.ensures.events
    c.in-Err.fault c.unprepared.result c.unprepared.ensures c.in-Err.ensures.answer c.in-Err.ensures.none_pending
