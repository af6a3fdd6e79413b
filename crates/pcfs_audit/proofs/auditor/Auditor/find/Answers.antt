-- By the kind of the event.
use Rattle.std.proofs.Common.{List, ap, refl, rules, subst, sym, ◌≡◌, ◌∙◌}
use Rattle.std.specs.Prelude.{ℤ}
use Rattle.std.specs.Int.{w64}
use mir.Val.{to_z, of_z}
use Rattle.std.proofs.lemmas.Int.{to_z-of_z}
use Rattle.procap.specs.declared.procap.Procap.{Procap}
use Rattle.journal_records.specs.declared.event.Event.TheVariants.{Acted}
use Rattle.journal_records.specs.declared.event.Event.{Event}
use Rattle.rayon.proofs.ListFacts.{IfOk-then}
use Rattle.pcfs_audit.specs.Credentials.{HasCredentials}
use Rattle.pcfs_audit.specs.Following.{Follows}
use Rattle.pcfs_audit.proofs.FollowingLemmas.{issued_followed, registered_followed, withdrawn_followed}
use Rattle.pcfs_audit.proofs.auditor.Auditor.find.Goals as goal

pub returns-in-Registered-clause-found : goal.returns-in-Registered-clause-found
returns-in-Registered-clause-found c authority state is stands told has =
    subst (λ (e : Event). Follows authority state e c.unless.result c.args.self.now) (sym c.in-Registered.is)
    (registered_followed authority state c.args.self.now c.args.self.now c.args.credentials c.unless.result stands refl c.in-Registered.pass c.in-Registered.statement c.in-Registered.signature
    (subst (λ (e : Event). HasCredentials authority state e c.args.credentials) c.in-Registered.is has) c.unless.ensures.none c.unless.ensures.some)

pub returns-in-Withdrawn-clause-found : goal.returns-in-Withdrawn-clause-found
returns-in-Withdrawn-clause-found c authority state is stands told has =
    subst (λ (e : Event). Follows authority state e c.unless-in-Withdrawn.result c.args.self.now) (sym c.in-Withdrawn.is)
    (withdrawn_followed authority state c.args.self.now c.args.self.now c.args.credentials c.unless-in-Withdrawn.result stands refl c.in-Withdrawn.pass c.in-Withdrawn.number c.in-Withdrawn.signature
    (subst (λ (e : Event). HasCredentials authority state e c.args.credentials) c.in-Withdrawn.is has) c.unless-in-Withdrawn.ensures.none c.unless-in-Withdrawn.ensures.some)

pub returns-in-Issued-clause-found : goal.returns-in-Issued-clause-found
returns-in-Issued-clause-found c authority state is stands told has =
    subst (λ (e : Event). Follows authority state e c.unless-in-Issued.result c.args.self.now) (sym c.in-Issued.is)
    (issued_followed authority state c.args.self.now c.args.self.now c.args.credentials c.unless-in-Issued.result stands refl c.in-Issued.pass c.in-Issued.cited c.in-Issued.proof c.in-Issued.grant
    (subst (λ (e : Event). HasCredentials authority state e c.args.credentials) c.in-Issued.is has) c.unless-in-Issued.ensures.none c.unless-in-Issued.ensures.some)

pub returns-in-Acted-clause-found : goal.returns-in-Acted-clause-found
returns-in-Acted-clause-found c =
    let same : to_z w64 (of_z w64 c.in-Acted.moment) ≡ c.in-Acted.moment = to_z-of_z w64 c.in-Acted.moment (search rules) in
    IfOk-then c.act.result _ _ c.act.ensures.found (λ found tells authority state is stands told has.
    let moved : List Procap → ℤ → Event = λ (procaps : List Procap) (moment : ℤ). Acted c.in-Acted.pass c.in-Acted.caller c.in-Acted.op procaps moment in
    let event : moved c.as_slice.result.now (to_z w64 (of_z w64 c.in-Acted.moment)) ≡ c.args.event.now = ap (λ (ps : List Procap). moved ps (to_z w64 (of_z w64 c.in-Acted.moment))) c.as_slice.ensures ∙ ap (λ (m : ℤ). moved c.in-Acted.procaps m) same ∙ sym c.in-Acted.is in
    subst (λ (e : Event). Follows authority state e found c.act.new.self) event (tells c.in-Acted.pass authority state is stands told (subst (λ (e : Event). HasCredentials authority state e c.args.credentials) (sym event) has)))
