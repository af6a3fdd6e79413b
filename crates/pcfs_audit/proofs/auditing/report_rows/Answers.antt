-- The auditor follows the events up to the first that is wrong.
use Rattle.std.proofs.Common.{Bool, List, [], arith, length, refl, subst, take, true, ◌++◌, ◌∷◌}
use Rattle.std.proofs.lemmas.List.{take_all}
use Rattle.std.proofs.lemmas.Option.{slice_get_read}
use Rattle.journal_records.specs.declared.event.Event.{Event}
use Rattle.access_history.specs.Replay.{replay}
use Rattle.pcfs_audit.specs.Following.{Audits}
use Rattle.pcfs_audit.specs.Papers.{counts_in}
use Rattle.pcfs_audit.specs.Report.{AreRows, authority_by}
use Rattle.pcfs_audit.proofs.FollowingLemmas.{audited_more, ended_rows}
use Rattle.pcfs_audit.proofs.PapersLemmas.{slice_get_at, tells_at}
use Rattle.pcfs_audit.proofs.SupportsLemmas.{followed_more, tells_gone}
use Rattle.pcfs_audit.proofs.auditing.report_rows.Goals as goal

pub loop-place-init : goal.loop-place-init
loop-place-init c = record {
  place_is = c.in_ok-supports.ensures.place;
  follow = c.in_ok-supports.ensures.follow;
  count_is = (c.in_ok-auditor.ensures (authority_by c.args.dossier.now.key (λ who message signature. true))).count_is;
  audited = λ authority key all. c.in_ok-auditor.ensures authority;
}

pub returns-then-not-goes_on : goal.returns-then-not-goes_on
returns-then-not-goes_on c accepts all =
    let base = c.args.dossier.now.base.now in
    let events = c.args.dossier.now.events.now in
    let place = c.loop-place.place in
    let authority = authority_by c.args.dossier.now.key accepts in
    let event = c.index-events-place.result in
    let has = all.each place _ (slice_get_at c.args.all.now place _ (omega (arith, c.loop-place-test.true, c.requires.all))) event (slice_get_read events (length events) place event refl c.loop-place-test.true c.index-events-place.is) in
    let before = tells_at base events c.args.dossier.now.papers place c.args.dossier.now.papers.before.items (counts_in base) c.requires.dossier.papers_are c.loop-place-test.true refl in
    let told = tells_gone c.args.dossier.now c.loop-place.supports base events place _ c.loop-place.invariant.follow c.loop-place.invariant.place_is before in
    let audits = c.in_ok-goes_on.ensures.audits authority base (take place events) refl (c.loop-place.invariant.audited authority refl all) told has in
    ended_rows authority base events place event c.audit_event.new.self.rows c.loop-place-test.true c.index-events-place.is
    (subst (λ (b : Bool). Audits authority base (take place events ++ event ∷ []) b c.audit_event.new.self) c.if-not-goes_on.true audits)

pub follow-requires-clause-sized : goal.follow-requires-clause-sized
follow-requires-clause-sized c = c.loop-place.invariant.follow.sized

pub follow-requires-clause-within : goal.follow-requires-clause-within
follow-requires-clause-within c = omega (arith, c.loop-place.invariant.place_is, c.loop-place-test.true)

pub loop-place-preserved : goal.loop-place-preserved
loop-place-preserved c = record {
  count_is = omega (arith, c.in_ok-goes_on.ensures.count, c.loop-place.invariant.count_is);
  place_is = omega (arith, c.follow.ensures.place, c.loop-place.invariant.place_is);
  follow =
      let base = c.args.dossier.now.base.now in
      let events = c.args.dossier.now.events.now in
      let place = c.loop-place.place in
      followed_more c.args.dossier.now c.follow.new.self base events place c.index-events-place.result c.loop-place-test.true c.index-events-place.is
      (c.follow.ensures.follow (replay base (take place events)) c.loop-place.invariant.follow);
  audited = λ authority key all.
      let base = c.args.dossier.now.base.now in
      let events = c.args.dossier.now.events.now in
      let place = c.loop-place.place in
      let event = c.index-events-place.result in
      let has = all.each place _ (slice_get_at c.args.all.now place _ (omega (arith, c.loop-place-test.true, c.requires.all))) event (slice_get_read events (length events) place event refl c.loop-place-test.true c.index-events-place.is) in
      let before = tells_at base events c.args.dossier.now.papers place c.args.dossier.now.papers.before.items (counts_in base) c.requires.dossier.papers_are c.loop-place-test.true refl in
      let told = tells_gone c.args.dossier.now c.loop-place.supports base events place _ c.loop-place.invariant.follow c.loop-place.invariant.place_is before in
      let audits = c.in_ok-goes_on.ensures.audits authority base (take place events) key (c.loop-place.invariant.audited authority key all) told has in
      audited_more authority base events place event c.audit_event.new.self c.loop-place-test.true c.index-events-place.is
      (subst (λ (b : Bool). Audits authority base (take place events ++ event ∷ []) b c.audit_event.new.self) c.if-not-goes_on.false audits);
}

pub returns : goal.returns
returns c accepts all =
    let base = c.args.dossier.now.base.now in
    let events = c.args.dossier.now.events.now in
    let authority = authority_by c.args.dossier.now.key accepts in
    subst (λ (es : List Event). AreRows authority base es c.loop-place.auditor.rows) (take_all c.loop-place.place events (omega (arith, c.loop-place-test.false))) (c.loop-place.invariant.audited authority refl all).rows_are
