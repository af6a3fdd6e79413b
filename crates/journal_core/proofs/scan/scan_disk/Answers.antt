use Rattle.std.proofs.Common.{◌≡◌, ◌≢◌, ◌<◌, ℕ, List, length, take, IfSome, Err, ap, subst, ◌∙◌}
use Rattle.std.proofs.lemmas.Result.{IfOk-weaker, IfErr-weaker}
use Rattle.journal_core.specs.Area.{area_limit, area_bytes, IsGeneration, IsArea}
use Rattle.journal_core.specs.Faults.{IsReported}
use Rattle.journal_core.specs.declared.scan.ScanFault.{ScanFault}
use Rattle.journal_core.specs.declared.scan.ScanFault.TheVariants.{Disk}
use Rattle.journal_core.proofs.RestsLemmas.{if_told, at_told, idle_pinned}
use Rattle.journal_core.proofs.RecordLemmas.{area_past, reported_past}
use Rattle.journal_core.proofs.scan.scan_disk.Goals as goal

pub returns-in-Err-clause-pinned : goal.returns-in-Err-clause-pinned
returns-in-Err-clause-pinned g c not_disk =
    idle_pinned g.D.Disk.clock g.D.Disk.left_since g.D.Disk.image c.sync.new.self c.read_area.new.disk
    (λ disk t u b le left. g.met.D.Disk.since_earlier disk t u b le left)
    c.in_ok-sync.ensures.ok c.read_area.ensures.time (c.in-Err.ensures.same (λ e. not_disk (let is : c.in-Err.fault ≡ Disk = cc in ap (λ (fault : ScanFault). Err fault) is)))

pub returns-in-Ok-clause-pinned : goal.returns-in-Ok-clause-pinned
returns-in-Ok-clause-pinned g c not_disk =
    idle_pinned g.D.Disk.clock g.D.Disk.left_since g.D.Disk.image c.sync.new.self c.read_area.new.disk
    (λ disk t u b le left. g.met.D.Disk.since_earlier disk t u b le left)
    c.in_ok-sync.ensures.ok c.read_area.ensures.time (c.in-Ok.ensures.same (λ e. cc))

pub returns-in-Ok-clause-ok : goal.returns-in-Ok-clause-ok
returns-in-Ok-clause-ok g c =
    let bytes = c.in-Ok.bytes in
    let told = g.D.Disk.image c.args.disk.now in
    IfOk-weaker c.find_contents.result
    (λ found. IsArea bytes found.0.generation found.0.image found.0.payloads)
    (λ found. IfSome told (λ b. IsArea b found.0.generation found.0.image found.0.payloads))
    (λ found area. if_told told (λ b. IsArea b found.0.generation found.0.image found.0.payloads) (λ b is.
    let cut : bytes ≡ take area_limit b = at_told (g.D.Disk.image c.sync.new.self) (λ image. bytes ≡ take area_limit image) b (c.in_ok-sync.ensures.same ∙ is) c.in-Ok.ensures.ok in
    area_past b found.0.generation found.0.image found.0.payloads
    (subst (λ (bs : List ℕ). IsArea bs found.0.generation found.0.image found.0.payloads) cut area)))
    c.find_contents.ensures.ok

pub returns-in-Ok-clause-reported : goal.returns-in-Ok-clause-reported
returns-in-Ok-clause-reported g c =
    let bytes = c.in-Ok.bytes in
    let told = g.D.Disk.image c.args.disk.now in
    IfErr-weaker c.find_contents.result
    (λ fault. IsReported fault bytes)
    (λ fault. fault ≢ Disk → IfSome told (IsReported fault))
    (λ fault report not_disk. if_told told (IsReported fault) (λ b is.
    let cut : bytes ≡ take area_limit b = at_told (g.D.Disk.image c.sync.new.self) (λ image. bytes ≡ take area_limit image) b (c.in_ok-sync.ensures.same ∙ is) c.in-Ok.ensures.ok in
    reported_past b fault (subst (λ (bs : List ℕ). IsReported fault bs) cut report)))
    c.find_contents.ensures.err

pub returns-in-Ok-clause-generated : goal.returns-in-Ok-clause-generated
returns-in-Ok-clause-generated g c =
    let bytes = c.in-Ok.bytes in
    IfOk-weaker c.find_contents.result
    (λ found. IsArea bytes found.0.generation found.0.image found.0.payloads)
    (λ found. IsGeneration found.0.generation)
    (λ found area. area.generated)
    c.find_contents.ensures.ok

pub returns-in-Ok-clause-fits : goal.returns-in-Ok-clause-fits
returns-in-Ok-clause-fits g c =
    let bytes = c.in-Ok.bytes in
    IfOk-weaker c.find_contents.result
    (λ found. IsArea bytes found.0.generation found.0.image found.0.payloads)
    (λ found. length (area_bytes found.0.generation found.0.image found.0.payloads) < area_limit)
    (λ found area. area.fits)
    c.find_contents.ensures.ok
