-- A payload before the break is damaged, or the record that breaks is cut.
use Rattle.std.proofs.Common.{sym, subst, arith}
use Rattle.journal_core.specs.Area.{IsBroken, IsFront}
use Rattle.journal_core.proofs.RestsLemmas.{if_told, at_told}
use Rattle.access_history.specs.History.{authority_with}
use Rattle.op_gate.specs.declared.damage.Damage.TheVariants.{Shape}
use Rattle.recover.specs.declared.fault.OpenFault.{OpenFault}
use Rattle.recover.specs.declared.fault.OpenFault.TheVariants.{Damaged}
use Rattle.recover.specs.Opening.{IsWhy, front_fault}
use Rattle.recover.proofs.AreaDamageLemmas.{why_front, why_broken, why_no_front}
use Rattle.recover.proofs.open.damage_before_break.Goals as goal

pub returns-in-Ok-read_history-clause-why : goal.returns-in-Ok-read_history-clause-why
returns-in-Ok-read_history-clause-why g c = λ number.
    let told = g.D.Disk.image c.args.disk.now in
    let authority = authority_with c.args.key.now c.args.ring in
    let scan = c.in-Ok.scan in
    let holds = c.in-Ok-read_history.ensures.ok in
    if_told told (λ bytes. IsBroken number bytes → IsWhy authority bytes (Damaged c.saturating_add.result Shape)) (λ bytes is broken.
    why_broken authority bytes number scan.generation scan.image c.in-Ok-read_history.field-0.base scan.payloads c.saturating_add.result
    (at_told told (λ bytes. IsFront bytes scan.generation scan.image scan.payloads) bytes is c.in-Ok.ensures.ok) broken holds.image_is
    (record { events = c.in-Ok-read_history.field-0.events; read = holds.read; lawful = holds.lawful })
    (λ few. omega (arith, few, c.saturating_add.ensures, c.count.ensures)))

pub returns-in-Ok-clause-why : goal.returns-in-Ok-clause-why
returns-in-Ok-clause-why g c = λ number.
    let told = g.D.Disk.image c.args.disk.now in
    let authority = authority_with c.args.key.now c.args.ring in
    let scan = c.in-Ok.scan in
    if_told told (λ bytes. IsBroken number bytes → IsWhy authority bytes c.in-Err-read_history.fault) (λ bytes is broken.
    why_front authority bytes scan.generation scan.image scan.payloads c.in-Err-read_history.fault
    (at_told told (λ bytes. IsFront bytes scan.generation scan.image scan.payloads) bytes is c.in-Ok.ensures.ok) c.in-Err-read_history.ensures.err)

pub returns-clause-why : goal.returns-clause-why
returns-clause-why g c = λ number.
    let told = g.D.Disk.image c.args.disk.now in
    let authority = authority_with c.args.key.now c.args.ring in
    if_told told (λ bytes. IsBroken number bytes → IsWhy authority bytes c.front_fault.result) (λ bytes is broken.
    subst (λ (f : OpenFault). IsWhy authority bytes f) (sym c.front_fault.ensures)
    (at_told told (λ bytes. IsWhy authority bytes (front_fault c.in-Err.fault)) bytes is (why_no_front authority c.in-Err.fault told c.in-Err.ensures.reported)))
