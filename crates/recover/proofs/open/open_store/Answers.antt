-- One of the areas counts, and holds a history or is damaged; or none does; or a disk failed.
use Rattle.std.proofs.Common.{◌≡◌, ℕ, List, sym, subst, Some, IfSome}
use Rattle.std.specs.Prelude.{Option, Bool, true, false}
use Rattle.journal_core.specs.Area.{generation_of}
use Rattle.pcfs_store.specs.Newest.{newer}
use Rattle.pcfs_store.specs.StoredHistory.{payloads_of}
use Rattle.pcfs_store.specs.StoreView.{StoreView}
use Rattle.recover.specs.Opening.{IsOpened}
use Rattle.recover.proofs.DiskLemmas.{was_read, handled}
use Rattle.recover.proofs.OpeningLemmas.{held_as, area_as, opened_first, opened_second, not_opened_first, not_opened_second, not_opened_failed}
use Rattle.recover.proofs.open.open_store.Goals as goal

-- whether the second of two disks with these bytes counts
Counts : Option (List ℕ) → Option (List ℕ) → Option Bool → Type 0
Counts first second which = IfSome first (λ x. IfSome second (λ y. which ≡ newer (generation_of x) (generation_of y)))

pub from_scan-requires-clause-image : goal.from_scan-requires-clause-image
from_scan-requires-clause-image g c = (held_as c.generation.ensures c.image.ensures c.in-Ok.ensures.holds).image_is

pub from_scan-requires-clause-used : goal.from_scan-requires-clause-used
from_scan-requires-clause-used g c = (held_as c.generation.ensures c.image.ensures c.in-Ok.ensures.holds).end_is

pub from_scan-requires-in-Ok-open_area-clause-image : goal.from_scan-requires-in-Ok-open_area-clause-image
from_scan-requires-in-Ok-open_area-clause-image g c = (held_as c.generation-in-Ok-open_area.ensures c.image-in-Ok-open_area.ensures c.in-Ok-open_area.ensures.holds).image_is

pub from_scan-requires-in-Ok-open_area-clause-used : goal.from_scan-requires-in-Ok-open_area-clause-used
from_scan-requires-in-Ok-open_area-clause-used g c = (held_as c.generation-in-Ok-open_area.ensures c.image-in-Ok-open_area.ensures c.in-Ok-open_area.ensures.holds).end_is

pub returns-in-Ok-clause-ok : goal.returns-in-Ok-clause-ok
unfolding Counts
returns-in-Ok-clause-ok g c =
    let clock = g.D.Disk.clock in
    let left = g.D.Disk.left_since in
    let image = g.D.Disk.image in
    let faults = g.D.Disk.faults in
    let a1 = c.find_newest.new.a in
    let b1 = c.find_newest.new.b in
    let found = c.in-Ok-Some-true.ensures in
    let opened = c.in-Ok.ensures in
    let is : c.in-Ok-Some-true.field-0 ≡ Some true = cc in
    subst (λ (s : StoreView g.row.D.Denot). IsOpened clock left image faults c.args.a c.args.b c.args.key.now c.args.ring s) (sym c.from_scan.ensures)
    (opened_second clock left image faults (λ disk t u b le before. g.met.D.Disk.since_earlier disk t u b le before) (λ disk b told. g.met.D.Disk.image_may_stay disk b told)
    c.args.a c.args.b a1 b1 c.args.key.now c.args.ring
    (was_read clock left image faults (λ disk t u b le before. g.met.D.Disk.since_earlier disk t u b le before) (λ disk b told. g.met.D.Disk.image_may_stay disk b told) c.args.a a1 found.a_told found.a_time found.a_never_falls found.a_same found.a_pinned found.a_no_fault)
    (was_read clock left image faults (λ disk t u b le before. g.met.D.Disk.since_earlier disk t u b le before) (λ disk b told. g.met.D.Disk.image_may_stay disk b told) c.args.b b1 found.b_told found.b_time found.b_never_falls found.b_same found.b_pinned found.b_no_fault)
    c.in-Ok.area.disk
    (was_read clock left image faults (λ disk t u b le before. g.met.D.Disk.since_earlier disk t u b le before) (λ disk b told. g.met.D.Disk.image_may_stay disk b told) b1 c.in-Ok.area.disk opened.told opened.time opened.never_falls opened.same opened.pinned opened.no_fault)
    c.in-Ok.area.end c.generation.result c.image.result.now c.in-Ok.gate (held_as c.generation.ensures c.image.ensures opened.holds)
    (subst (Counts (image c.args.a) (image c.args.b)) is found.ok)
    (area_as (image b1) c.generation.result c.in-Ok.scan.generation c.image.result.now c.in-Ok.scan.image (payloads_of c.in-Ok.gate.events) c.generation.ensures c.image.ensures opened.area))

pub returns-in-Ok-open_area-clause-ok : goal.returns-in-Ok-open_area-clause-ok
unfolding Counts
returns-in-Ok-open_area-clause-ok g c =
    let clock = g.D.Disk.clock in
    let left = g.D.Disk.left_since in
    let image = g.D.Disk.image in
    let faults = g.D.Disk.faults in
    let a1 = c.find_newest.new.a in
    let b1 = c.find_newest.new.b in
    let found = c.in-Ok-Some-false.ensures in
    let opened = c.in-Ok-open_area.ensures in
    let is : c.in-Ok-Some-false.field-0 ≡ Some false = cc in
    subst (λ (s : StoreView g.row.D.Denot). IsOpened clock left image faults c.args.a c.args.b c.args.key.now c.args.ring s) (sym c.from_scan-in-Ok-open_area.ensures)
    (opened_first clock left image faults (λ disk t u b le before. g.met.D.Disk.since_earlier disk t u b le before) (λ disk b told. g.met.D.Disk.image_may_stay disk b told)
    c.args.a c.args.b a1 b1 c.args.key.now c.args.ring
    (was_read clock left image faults (λ disk t u b le before. g.met.D.Disk.since_earlier disk t u b le before) (λ disk b told. g.met.D.Disk.image_may_stay disk b told) c.args.a a1 found.a_told found.a_time found.a_never_falls found.a_same found.a_pinned found.a_no_fault)
    (was_read clock left image faults (λ disk t u b le before. g.met.D.Disk.since_earlier disk t u b le before) (λ disk b told. g.met.D.Disk.image_may_stay disk b told) c.args.b b1 found.b_told found.b_time found.b_never_falls found.b_same found.b_pinned found.b_no_fault)
    c.in-Ok-open_area.area.disk
    (was_read clock left image faults (λ disk t u b le before. g.met.D.Disk.since_earlier disk t u b le before) (λ disk b told. g.met.D.Disk.image_may_stay disk b told) a1 c.in-Ok-open_area.area.disk opened.told opened.time opened.never_falls opened.same opened.pinned opened.no_fault)
    c.in-Ok-open_area.area.end c.generation-in-Ok-open_area.result c.image-in-Ok-open_area.result.now c.in-Ok-open_area.gate (held_as c.generation-in-Ok-open_area.ensures c.image-in-Ok-open_area.ensures opened.holds)
    (subst (Counts (image c.args.a) (image c.args.b)) is found.ok)
    (area_as (image a1) c.generation-in-Ok-open_area.result c.in-Ok-open_area.scan.generation c.image-in-Ok-open_area.result.now c.in-Ok-open_area.scan.image (payloads_of c.in-Ok-open_area.gate.events)
    c.generation-in-Ok-open_area.ensures c.image-in-Ok-open_area.ensures opened.area))

pub returns-in-Err-open_area-clause-err : goal.returns-in-Err-open_area-clause-err
unfolding Counts
returns-in-Err-open_area-clause-err g c =
    let clock = g.D.Disk.clock in
    let left = g.D.Disk.left_since in
    let image = g.D.Disk.image in
    let faults = g.D.Disk.faults in
    let a1 = c.find_newest.new.a in
    let b1 = c.find_newest.new.b in
    let found = c.in-Ok-Some-true.ensures in
    let failed = c.in-Err-open_area.ensures in
    let is : c.in-Ok-Some-true.field-0 ≡ Some true = cc in
    not_opened_second clock left image faults (λ disk t u b le before. g.met.D.Disk.since_earlier disk t u b le before) (λ disk b told. g.met.D.Disk.image_may_stay disk b told)
    c.args.a c.args.b a1 b1 c.args.key.now c.args.ring
    (was_read clock left image faults (λ disk t u b le before. g.met.D.Disk.since_earlier disk t u b le before) (λ disk b told. g.met.D.Disk.image_may_stay disk b told) c.args.a a1 found.a_told found.a_time found.a_never_falls found.a_same found.a_pinned found.a_no_fault)
    (was_read clock left image faults (λ disk t u b le before. g.met.D.Disk.since_earlier disk t u b le before) (λ disk b told. g.met.D.Disk.image_may_stay disk b told) c.args.b b1 found.b_told found.b_time found.b_never_falls found.b_same found.b_pinned found.b_no_fault)
    c.in-Err-open_area.b c.in-Err-open_area.fault (subst (Counts (image c.args.a) (image c.args.b)) is found.ok) failed.why failed.risen
    (handled clock left image faults (λ disk t u b le before. g.met.D.Disk.since_earlier disk t u b le before) (λ disk b told. g.met.D.Disk.image_may_stay disk b told) b1 c.in-Err-open_area.b failed.told failed.time failed.never_falls) failed.same failed.no_fault

pub returns-in-Err-open_area-2-clause-err : goal.returns-in-Err-open_area-2-clause-err
unfolding Counts
returns-in-Err-open_area-2-clause-err g c =
    let clock = g.D.Disk.clock in
    let left = g.D.Disk.left_since in
    let image = g.D.Disk.image in
    let faults = g.D.Disk.faults in
    let a1 = c.find_newest.new.a in
    let b1 = c.find_newest.new.b in
    let found = c.in-Ok-Some-false.ensures in
    let failed = c.in-Err-open_area-2.ensures in
    let is : c.in-Ok-Some-false.field-0 ≡ Some false = cc in
    not_opened_first clock left image faults (λ disk t u b le before. g.met.D.Disk.since_earlier disk t u b le before) (λ disk b told. g.met.D.Disk.image_may_stay disk b told)
    c.args.a c.args.b a1 b1 c.args.key.now c.args.ring
    (was_read clock left image faults (λ disk t u b le before. g.met.D.Disk.since_earlier disk t u b le before) (λ disk b told. g.met.D.Disk.image_may_stay disk b told) c.args.a a1 found.a_told found.a_time found.a_never_falls found.a_same found.a_pinned found.a_no_fault)
    (was_read clock left image faults (λ disk t u b le before. g.met.D.Disk.since_earlier disk t u b le before) (λ disk b told. g.met.D.Disk.image_may_stay disk b told) c.args.b b1 found.b_told found.b_time found.b_never_falls found.b_same found.b_pinned found.b_no_fault)
    c.in-Err-open_area-2.a c.in-Err-open_area-2.fault (subst (Counts (image c.args.a) (image c.args.b)) is found.ok) failed.why failed.risen
    (handled clock left image faults (λ disk t u b le before. g.met.D.Disk.since_earlier disk t u b le before) (λ disk b told. g.met.D.Disk.image_may_stay disk b told) a1 c.in-Err-open_area-2.a failed.told failed.time failed.never_falls) failed.same failed.no_fault

pub returns-in-Err-clause-err : goal.returns-in-Err-clause-err
returns-in-Err-clause-err g c =
    let clock = g.D.Disk.clock in
    let left = g.D.Disk.left_since in
    let image = g.D.Disk.image in
    let faults = g.D.Disk.faults in
    let a1 = c.find_newest.new.a in
    let b1 = c.find_newest.new.b in
    let failed = c.in-Err.ensures in
    not_opened_failed clock left image faults c.args.a c.args.b a1 b1 c.args.key.now c.args.ring failed.risen
    (handled clock left image faults (λ disk t u b le before. g.met.D.Disk.since_earlier disk t u b le before) (λ disk b told. g.met.D.Disk.image_may_stay disk b told) c.args.a a1 failed.a_told failed.a_time failed.a_never_falls)
    (handled clock left image faults (λ disk t u b le before. g.met.D.Disk.since_earlier disk t u b le before) (λ disk b told. g.met.D.Disk.image_may_stay disk b told) c.args.b b1 failed.b_told failed.b_time failed.b_never_falls)
