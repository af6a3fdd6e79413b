-- What the papers tell of the state before the event.
use Rattle.std.proofs.Common.{ap, arith, get_or, length, subst, sym, take, ◌∙◌}
use Rattle.std.proofs.lemmas.Option.{same_Some}
use Rattle.journal_records.specs.declared.event.Event.{Event}
use Rattle.access_history.specs.Replay.{replay}
use Rattle.rayon.proofs.ListFacts.{IfOk-then}
use Rattle.pcfs_audit.specs.Credentials.{HasCredentials}
use Rattle.pcfs_audit.specs.Report.{authority_by}
use Rattle.pcfs_audit.proofs.PapersLemmas.{counted, slice_get_at, tells_at}
use Rattle.pcfs_audit.proofs.credentials.credentials_at.Goals as goal

pub bounds-before-place : goal.bounds-before-place
bounds-before-place g c = omega (arith, counted c.args.dossier.now.base.now c.args.dossier.now.events.now c.args.dossier.now.papers c.requires.dossier.papers_are, c.requires.within, ap length c.as_slice-before.ensures.value)

pub credentials_of-requires-clause-statements_within : goal.credentials_of-requires-clause-statements_within
credentials_of-requires-clause-statements_within g c =
    (tells_at c.args.dossier.now.base.now c.args.dossier.now.events.now c.args.dossier.now.papers c.args.place c.as_slice-before.result.now _ c.requires.dossier.papers_are c.requires.within c.as_slice-before.ensures.value).statements_within

pub credentials_of-requires-clause-grants_within : goal.credentials_of-requires-clause-grants_within
credentials_of-requires-clause-grants_within g c =
    (tells_at c.args.dossier.now.base.now c.args.dossier.now.events.now c.args.dossier.now.papers c.args.place c.as_slice-before.result.now _ c.requires.dossier.papers_are c.requires.within c.as_slice-before.ensures.value).grants_within

pub returns : goal.returns
returns g c =
    let base = c.args.dossier.now.base.now in
    let events = c.args.dossier.now.events.now in
    let told = tells_at base events c.args.dossier.now.papers c.args.place c.as_slice-before.result.now _ c.requires.dossier.papers_are c.requires.within c.as_slice-before.ensures.value in
    IfOk-then c.credentials_of.result _ _ c.credentials_of.ensures (λ credentials tells event found.
    let same = same_Some (get_or events c.args.place c.index-dossier-place.result) event (sym (slice_get_at events c.args.place c.index-dossier-place.result c.requires.within) ∙ found) in
    subst (λ (e : Event). HasCredentials (authority_by c.args.dossier.now.key (g.S.Signatures.accepted c.args.ring.now)) (replay base (take c.args.place events)) e credentials) same
    (tells (replay base (take c.args.place events)) (record { said = told.statements_are; granted = told.grants_are; ended = told.ended_are })))
