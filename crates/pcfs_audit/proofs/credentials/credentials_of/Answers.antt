-- By the kind of the event.
use Rattle.std.proofs.Common.{Bool, List, subst, sym, take, ℕ}
use Rattle.std.specs.Prelude.{IsTrue, ◌↔◌}
use Rattle.std.specs.List.{AllByRecursion}
use Rattle.policy_statement.specs.Messages.{statement_message}
use Rattle.procap.specs.Genuine.{IsGenuine}
use Rattle.procap.specs.declared.procap.Procap.{Procap}
use Rattle.journal_records.specs.declared.event.Event.{Event}
use Rattle.policy_statement.specs.Registry.{CanRegister}
use Rattle.access_history.specs.Citing.{MayBeIssued}
use Rattle.pcfs_audit.specs.Credentials.{HasCredentials, IsOfIssues}
use Rattle.pcfs_audit.specs.Ends.{CouldBeWithdrawn}
use Rattle.pcfs_audit.specs.Papers.{shown}
use Rattle.pcfs_audit.specs.Report.{authority_by}
use Rattle.pcfs_audit.proofs.CredentialLemmas.{acted_credentials, issued_credentials, registered_credentials, withdrawn_credentials}
use Rattle.pcfs_audit.proofs.credentials.credentials_of.Goals as goal

pub returns-in-Ok : goal.returns-in-Ok
returns-in-Ok g c state told =
    let said_in = take c.args.before.statements (shown c.args.dossier.now.papers.statements.items) in
    let key = c.args.dossier.now.key in
    let accepts = g.S.Signatures.accepted c.args.ring.now in
    let statement = c.in-Registered.statement in
    let signed = subst (λ (signature : List ℕ). IsTrue c.in-Ok.genuine ↔ (IsTrue (accepts statement.who (statement_message statement) signature) × CanRegister said_in statement)) c.as_slice-signature.ensures c.in-Ok.ensures in
    let genuine = subst (λ (b : Bool). IsTrue b ↔ (IsTrue (accepts statement.who (statement_message statement) c.in-Registered.signature) × CanRegister said_in statement)) (sym c.without_issues.ensures.genuine) signed in
    subst (λ (e : Event). HasCredentials (authority_by key accepts) state e c.without_issues.result) (sym c.in-Registered.is)
    (registered_credentials key accepts state c.in-Registered.pass statement c.in-Registered.signature said_in c.without_issues.result told.said genuine c.without_issues.ensures.issued)

pub returns-in-Ok-could_be_withdrawn : goal.returns-in-Ok-could_be_withdrawn
returns-in-Ok-could_be_withdrawn g c state told =
    let said_in = take c.args.before.statements (shown c.args.dossier.now.papers.statements.items) in
    let ends = c.args.dossier.now.papers.ends.items in
    let key = c.args.dossier.now.key in
    let accepts = g.S.Signatures.accepted c.args.ring.now in
    let signed = subst (λ (signature : List ℕ). IsTrue c.in-Ok-could_be_withdrawn.genuine ↔ CouldBeWithdrawn accepts said_in ends c.args.place c.in-Withdrawn.number signature) c.as_slice.ensures c.in-Ok-could_be_withdrawn.ensures in
    let genuine = subst (λ (b : Bool). IsTrue b ↔ CouldBeWithdrawn accepts said_in ends c.args.place c.in-Withdrawn.number c.in-Withdrawn.signature) (sym c.without_issues-in-Ok-could_be_withdrawn.ensures.genuine) signed in
    subst (λ (e : Event). HasCredentials (authority_by key accepts) state e c.without_issues-in-Ok-could_be_withdrawn.result) (sym c.in-Withdrawn.is)
    (withdrawn_credentials state ends c.args.place told.ended key accepts c.in-Withdrawn.pass c.in-Withdrawn.number c.in-Withdrawn.signature said_in c.without_issues-in-Ok-could_be_withdrawn.result told.said genuine c.without_issues-in-Ok-could_be_withdrawn.ensures.issued)

pub returns-in-Ok-may_be_issued : goal.returns-in-Ok-may_be_issued
returns-in-Ok-may_be_issued g c state told =
    let key = c.args.dossier.now.key in
    let accepts = g.S.Signatures.accepted c.args.ring.now in
    let may = c.in-Ok-may_be_issued.ensures state told in
    let cited = subst (λ (ns : List ℕ). IsTrue c.in-Ok-may_be_issued.genuine ↔ MayBeIssued state (record { cited = ns; proof = c.in-Issued.proof; grant = c.in-Issued.grant })) c.as_slice-cited.ensures may in
    let genuine = subst (λ (b : Bool). IsTrue b ↔ MayBeIssued state (record { cited = c.in-Issued.cited; proof = c.in-Issued.proof; grant = c.in-Issued.grant })) (sym c.without_issues-in-Ok-may_be_issued.ensures.genuine) cited in
    subst (λ (e : Event). HasCredentials (authority_by key accepts) state e c.without_issues-in-Ok-may_be_issued.result) (sym c.in-Issued.is)
    (issued_credentials key accepts state c.in-Issued.pass c.in-Issued.cited c.in-Issued.proof c.in-Issued.grant c.without_issues-in-Ok-may_be_issued.result genuine c.without_issues-in-Ok-may_be_issued.ensures.issued)

pub returns-in-Acted : goal.returns-in-Acted
returns-in-Acted g c state told =
    let items = c.args.dossier.now.papers.grants.items in
    let key = c.args.dossier.now.key in
    let accepts = g.S.Signatures.accepted c.args.ring.now in
    let genuine = subst (λ (ps : List Procap). IsTrue c.all_credentials.result.genuine ↔ AllByRecursion (IsGenuine key) ps) c.as_slice-in-Acted.ensures c.all_credentials.ensures.genuine in
    let issued = subst (λ (ps : List Procap). IsTrue c.all_credentials.result.issued ↔ AllByRecursion (IsOfIssues (take c.args.before.issues (shown items))) ps) c.as_slice-in-Acted.ensures c.all_credentials.ensures.issued in
    subst (λ (e : Event). HasCredentials (authority_by key accepts) state e c.all_credentials.result) (sym c.in-Acted.is)
    (acted_credentials key accepts state c.in-Acted.pass c.in-Acted.caller c.in-Acted.op c.in-Acted.procaps c.in-Acted.moment (take c.args.before.issues (shown items)) c.all_credentials.result told.granted genuine issued)
