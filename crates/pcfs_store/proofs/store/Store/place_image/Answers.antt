-- Each end of the placing of an image says its clauses.
use Rattle.std.proofs.Common.{◌+◌, List, length, refl, ◌∙◌, ap}
use Rattle.std.specs.Prelude.{not}
use Rattle.journal_records.specs.declared.event.Event.{Event}
use Rattle.pcfs_store.proofs.PlacingLemmas.{made_keeps, made_end, full_end, unplaced_end, failed_end}
use Rattle.pcfs_store.proofs.store.Store.place_image.Goals as goal

pub invariant_of-self : goal.invariant_of-self
invariant_of-self g c =
    made_keeps g.D.Disk.clock g.D.Disk.left_since g.D.Disk.image g.D.Disk.faults c.self.inside.active c.self.inside.other c.self.inside.second_active c.self.inside.generation c.self.inside.opened.value c.self.inside.gate c.self.inside.checkpoints.items c.self.inside.stop c.self.invariant
    c.args.self.now c.self.view_is c.args.pass c.args.image.now c.requires.running c.requires.numbered c.requires.image
    (c.self.inside.generation + 1) refl (record { after = length c.events.result.now; pass = c.args.pass }) (ap (λ (events : List Event). record { after = length events; pass = c.args.pass }) (c.events.ensures ∙ c.history.ensures.events)) c.move_area.new.area c.move_area.new.other
    c.in-Ok.ensures.moves (not c.self.inside.second_active) refl (c.self.inside.generation + 1) refl c.move_area.new.checkpoints.items c.in-Ok.ensures.added

pub returns-in-Ok : goal.returns-in-Ok
returns-in-Ok g c =
    made_end g.D.Disk.clock g.D.Disk.left_since g.D.Disk.image g.D.Disk.faults c.self.inside.active c.self.inside.other c.self.inside.second_active c.self.inside.generation c.self.inside.opened.value c.self.inside.gate c.self.inside.checkpoints.items c.self.inside.stop c.self.invariant
    c.args.self.now c.self.view_is c.args.pass c.args.image.now c.requires.running c.requires.numbered c.requires.image
    (c.self.inside.generation + 1) refl (record { after = length c.events.result.now; pass = c.args.pass }) (ap (λ (events : List Event). record { after = length events; pass = c.args.pass }) (c.events.ensures ∙ c.history.ensures.events)) c.move_area.new.area c.move_area.new.other
    c.in-Ok.ensures.moves (not c.self.inside.second_active) refl (c.self.inside.generation + 1) refl c.move_area.new.checkpoints.items c.in-Ok.ensures.added

pub returns-in-Err-AreaFull : goal.returns-in-Err-AreaFull
returns-in-Err-AreaFull g c =
    full_end g.D.Disk.clock g.D.Disk.left_since g.D.Disk.image g.D.Disk.faults c.self.inside.active c.self.inside.other c.self.inside.second_active c.self.inside.generation c.self.inside.opened.value c.self.inside.gate c.self.inside.checkpoints.items c.self.inside.stop c.self.invariant
    c.args.self.now c.self.view_is c.args.pass c.args.image.now c.requires.running c.requires.numbered c.requires.image
    (c.self.inside.generation + 1) refl (record { after = length c.events.result.now; pass = c.args.pass }) (ap (λ (events : List Event). record { after = length events; pass = c.args.pass }) (c.events.ensures ∙ c.history.ensures.events)) c.move_area.new.area c.move_area.new.other
    c.move_area.new.checkpoints.items c.in-Err-AreaFull.ensures.not_added c.in-Err-AreaFull.field-0 c.in-Err-AreaFull.field-0-is c.in-Err-AreaFull.ensures.moves

pub returns-in-Err-NoMemory : goal.returns-in-Err-NoMemory
returns-in-Err-NoMemory g c =
    unplaced_end g.D.Disk.clock g.D.Disk.left_since g.D.Disk.image g.D.Disk.faults c.self.inside.active c.self.inside.other c.self.inside.second_active c.self.inside.generation c.self.inside.opened.value c.self.inside.gate c.self.inside.checkpoints.items c.self.inside.stop c.self.invariant
    c.args.self.now c.self.view_is c.args.pass c.args.image.now c.requires.running c.requires.numbered c.requires.image
    (c.self.inside.generation + 1) refl (record { after = length c.events.result.now; pass = c.args.pass }) (ap (λ (events : List Event). record { after = length events; pass = c.args.pass }) (c.events.ensures ∙ c.history.ensures.events)) c.move_area.new.area c.move_area.new.other
    c.move_area.new.checkpoints.items c.in-Err-NoMemory.ensures.not_added c.in-Err-NoMemory.field-0 c.in-Err-NoMemory.field-0-is c.in-Err-NoMemory.ensures.moves

pub returns-in-Err-Disk : goal.returns-in-Err-Disk
returns-in-Err-Disk g c =
    failed_end g.D.Disk.clock g.D.Disk.left_since g.D.Disk.image g.D.Disk.faults c.self.inside.active c.self.inside.other c.self.inside.second_active c.self.inside.generation c.self.inside.opened.value c.self.inside.gate c.self.inside.checkpoints.items c.self.inside.stop c.self.invariant
    c.args.self.now c.self.view_is c.args.pass c.args.image.now c.requires.running c.requires.numbered c.requires.image
    (c.self.inside.generation + 1) refl (record { after = length c.events.result.now; pass = c.args.pass }) (ap (λ (events : List Event). record { after = length events; pass = c.args.pass }) (c.events.ensures ∙ c.history.ensures.events)) c.move_area.new.area c.move_area.new.other
    c.move_area.new.checkpoints.items c.in-Err-Disk.ensures.not_added (λ disk t u left le at. g.met.D.Disk.since_earlier disk t u left le at) c.in-Err-Disk.field-0 c.in-Err-Disk.field-0-is c.in-Err-Disk.ensures.moves
