-- What a scan found is read, or why it found nothing is looked for.
use Rattle.journal_core.specs.Area.{IsArea}
use Rattle.journal_core.proofs.ReadingLemmas.{area_front}
use Rattle.journal_core.proofs.RestsLemmas.{if_told, at_told}
use Rattle.access_history.specs.History.{authority_with}
use Rattle.pcfs_store.specs.StoredHistory.{payloads_of}
use Rattle.recover.specs.Opening.{IsWhy}
use Rattle.recover.proofs.AreaDamageLemmas.{why_front}
use Rattle.recover.proofs.OpeningLemmas.{area_read, area_why, holds_area, scanned}
use Rattle.recover.proofs.open.open_area.Goals as goal

pub returns-in-Ok-read_history-clause-holds : goal.returns-in-Ok-read_history-clause-holds
returns-in-Ok-read_history-clause-holds g c =
    let scan = c.in-Ok.scan in
    holds_area c.args.key.now c.args.ring c.in-Ok.area.end scan.generation scan.image scan.payloads c.in-Ok-read_history.gate c.in-Ok.ensures.generated c.in-Ok.ensures.end c.in-Ok-read_history.ensures.ok

pub returns-in-Ok-read_history-clause-area : goal.returns-in-Ok-read_history-clause-area
returns-in-Ok-read_history-clause-area g c =
    let told = g.D.Disk.image c.args.disk in
    let scan = c.in-Ok.scan in
    let gate = c.in-Ok-read_history.gate in
    if_told told (λ bytes. IsArea bytes scan.generation scan.image (payloads_of gate.events)) (λ bytes is.
    area_read c.args.key.now c.args.ring bytes scan.generation scan.image scan.payloads gate c.in-Ok-read_history.ensures.ok
    (at_told told (λ bytes. IsArea bytes scan.generation scan.image scan.payloads) bytes is c.in-Ok.ensures.ok))

pub returns-in-Err-read_history-clause-why : goal.returns-in-Err-read_history-clause-why
returns-in-Err-read_history-clause-why g c =
    let told = g.D.Disk.image c.args.disk in
    let authority = authority_with c.args.key.now c.args.ring in
    let scan = c.in-Ok.scan in
    if_told told (λ bytes. IsWhy authority bytes c.in-Err-read_history.fault) (λ bytes is.
    why_front authority bytes scan.generation scan.image scan.payloads c.in-Err-read_history.fault
    (area_front bytes scan.generation scan.image scan.payloads (at_told told (λ bytes. IsArea bytes scan.generation scan.image scan.payloads) bytes is c.in-Ok.ensures.ok))
    c.in-Err-read_history.ensures.err)

pub returns-in-Err-clause-why : goal.returns-in-Err-clause-why
returns-in-Err-clause-why g c =
    let told = g.D.Disk.image c.args.disk in
    area_why (authority_with c.args.key.now c.args.ring) c.in-Err.fault c.why-fault.result told (g.D.Disk.image c.in-Err.disk) c.in-Err.ensures.same c.why-fault.ensures.disk
    (scanned c.in-Err.fault told c.in-Err.ensures.closed c.in-Err.ensures.broken) c.why-fault.ensures.why
