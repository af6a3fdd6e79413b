use Rattle.std.proofs.Common.{◌≡◌, ◌≢◌, ℕ, List, take, IfSome, Err, ap, subst, ◌∙◌}
use Rattle.std.proofs.lemmas.Result.{IfOk-weaker, IfErr-weaker}
use Rattle.journal_core.specs.Area.{area_limit, IsFront}
use Rattle.journal_core.specs.Faults.{IsFrontReported}
use Rattle.journal_core.specs.declared.scan.ScanFault.{ScanFault}
use Rattle.journal_core.specs.declared.scan.ScanFault.TheVariants.{Disk}
use Rattle.journal_core.proofs.RestsLemmas.{if_told, at_told, idle_pinned}
use Rattle.journal_core.proofs.RecordLemmas.{front_past, front_reported_past}
use Rattle.journal_core.proofs.scan.scan_front.Goals as goal

pub returns-in-Err-clause-pinned : goal.returns-in-Err-clause-pinned
returns-in-Err-clause-pinned g c not_disk =
    idle_pinned g.D.Disk.clock g.D.Disk.left_since g.D.Disk.image c.sync.new.self c.read_area.new.disk
    (λ disk t u b le left. g.met.D.Disk.since_earlier disk t u b le left)
    c.in_ok-sync.ensures.ok c.read_area.ensures.time (c.in-Err.ensures.same (λ e. not_disk (let is : c.in-Err.fault ≡ Disk = cc in ap (λ (fault : ScanFault). Err fault) is)))

pub returns-in-Ok-clause-pinned : goal.returns-in-Ok-clause-pinned
returns-in-Ok-clause-pinned g c not_disk =
    idle_pinned g.D.Disk.clock g.D.Disk.left_since g.D.Disk.image c.sync.new.self c.read_area.new.disk
    (λ disk t u b le left. g.met.D.Disk.since_earlier disk t u b le left)
    c.in_ok-sync.ensures.ok c.read_area.ensures.time (c.in-Ok.ensures.same (λ e. cc))

pub returns-in-Ok-clause-ok : goal.returns-in-Ok-clause-ok
returns-in-Ok-clause-ok g c =
    let bytes = c.in-Ok.bytes in
    let told = g.D.Disk.image c.args.disk.now in
    IfOk-weaker c.find_front.result
    (λ found. IsFront bytes found.generation found.image found.payloads)
    (λ found. IfSome told (λ b. IsFront b found.generation found.image found.payloads))
    (λ found front. if_told told (λ b. IsFront b found.generation found.image found.payloads) (λ b is.
    let cut : bytes ≡ take area_limit b = at_told (g.D.Disk.image c.sync.new.self) (λ image. bytes ≡ take area_limit image) b (c.in_ok-sync.ensures.same ∙ is) c.in-Ok.ensures.ok in
    front_past b found.generation found.image found.payloads
    (subst (λ (bs : List ℕ). IsFront bs found.generation found.image found.payloads) cut front)))
    c.find_front.ensures.ok

pub returns-in-Ok-clause-reported : goal.returns-in-Ok-clause-reported
returns-in-Ok-clause-reported g c =
    let bytes = c.in-Ok.bytes in
    let told = g.D.Disk.image c.args.disk.now in
    IfErr-weaker c.find_front.result
    (λ fault. IsFrontReported fault bytes)
    (λ fault. fault ≢ Disk → IfSome told (IsFrontReported fault))
    (λ fault report not_disk. if_told told (IsFrontReported fault) (λ b is.
    let cut : bytes ≡ take area_limit b = at_told (g.D.Disk.image c.sync.new.self) (λ image. bytes ≡ take area_limit image) b (c.in_ok-sync.ensures.same ∙ is) c.in-Ok.ensures.ok in
    front_reported_past b fault (subst (λ (bs : List ℕ). IsFrontReported fault bs) cut report)))
    c.find_front.ensures.err
