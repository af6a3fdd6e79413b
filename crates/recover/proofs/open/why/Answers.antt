-- What breaks was looked at up to its break.
use Rattle.std.proofs.Common.{subst}
use Rattle.journal_core.specs.Area.{IsBroken}
use Rattle.journal_core.specs.declared.scan.ScanFault.{ScanFault}
use Rattle.journal_core.proofs.RestsLemmas.{if_told, at_told}
use Rattle.access_history.specs.History.{authority_with}
use Rattle.recover.specs.Opening.{IsScanned, IsWhy}
use Rattle.recover.proofs.open.why.Goals as goal

pub returns-in-Broken-clause-why : goal.returns-in-Broken-clause-why
returns-in-Broken-clause-why g c =
    let told = g.D.Disk.image c.args.disk.now in
    let authority = authority_with c.args.key.now c.args.ring in
    let number = c.in-Broken.field-0 in
    let result = c.damage_before_break.result in
    if_told told (λ bytes. IsScanned c.args.fault bytes → IsWhy authority bytes result) (λ bytes is scanned.
    at_told told (λ bytes. IsBroken number bytes → IsWhy authority bytes result) bytes is (c.damage_before_break.ensures.why number)
    (subst (λ (f : ScanFault). IsScanned f bytes) c.in-Broken.is scanned))
