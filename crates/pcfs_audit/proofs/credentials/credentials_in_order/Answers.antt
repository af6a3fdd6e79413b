-- The credentials of one event more.
use Rattle.std.proofs.Common.{[], ap, arith, length, ◌∷◌}
use Rattle.std.proofs.lemmas.List.{length-append}
use Rattle.pcfs_audit.specs.Report.{authority_by}
use Rattle.pcfs_audit.proofs.CredentialLemmas.{each_more}
use Rattle.pcfs_audit.proofs.credentials.credentials_in_order.Goals as goal

pub loop-place-preserved : goal.loop-place-preserved
loop-place-preserved g c = record {
  counted = omega (arith, c.loop-place.invariant.counted, ap length c.in_ok-push.ensures.items, length-append c.loop-place.all.items (c.in_ok-credentials_at.field-0 ∷ []));
  each = each_more (authority_by c.args.dossier.now.key (g.S.Signatures.accepted c.args.ring.now)) c.args.dossier.now.base.now c.args.dossier.now.events.now c.loop-place.all.items c.push.new.self.items c.loop-place.place c.in_ok-credentials_at.field-0
      c.loop-place.invariant.counted c.in_ok-push.ensures.items c.loop-place.invariant.each c.in_ok-credentials_at.ensures;
}
