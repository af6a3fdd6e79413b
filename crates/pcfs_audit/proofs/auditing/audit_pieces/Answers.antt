-- The report is that of the dossier.
use Rattle.std.proofs.Common.{List, subst, sym, ◌∙◌, ℕ}
use Rattle.journal_records.specs.declared.event.Event.{Event}
use Rattle.access_history.specs.Base.{BaseView}
use Rattle.rayon.proofs.ListFacts.{IfOk-then}
use Rattle.pcfs_audit.specs.declared.credentials.Credentials.{Credentials}
use Rattle.pcfs_audit.specs.Credentials.{AreCredentials}
use Rattle.pcfs_audit.specs.Report.{IsReport, authority_by}
use Rattle.pcfs_audit.proofs.auditing.audit_pieces.Goals as goal

pub returns : goal.returns
returns g c =
    let accepts = g.S.Signatures.accepted c.args.ring.now in
    let dossier = c.in_ok-dossier.dossier in
    let all = subst (λ (cs : List Credentials). AreCredentials (authority_by dossier.key accepts) dossier.base.now dossier.events.now cs) (sym c.as_slice-3.ensures.value) c.in_ok-all.ensures in
    IfOk-then c.report_on.result _ _ c.report_on.ensures (λ report tells.
    subst (λ (k : List ℕ). IsReport (authority_by k accepts) c.args.base.now c.args.events.now report) (c.in_ok-dossier.ensures.key ∙ c.new-key.ensures)
    (subst (λ (b : BaseView). IsReport (authority_by dossier.key accepts) b c.args.events.now report) c.in_ok-dossier.ensures.base
    (subst (λ (es : List Event). IsReport (authority_by dossier.key accepts) dossier.base.now es report) c.in_ok-dossier.ensures.events (tells accepts all))))
