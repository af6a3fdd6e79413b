-- One procap more.
use Rattle.procap.specs.Genuine.{IsGenuine}
use Rattle.std.proofs.Common.{take}
use Rattle.pcfs_audit.specs.Credentials.{IsOfIssues}
use Rattle.pcfs_audit.specs.Papers.{shown}
use Rattle.pcfs_audit.proofs.CredentialLemmas.{all_more}
use Rattle.pcfs_audit.proofs.credentials.all_credentials.Goals as goal

pub loop-procap-preserved : goal.loop-procap-preserved
loop-procap-preserved c = record {
  genuine = all_more (IsGenuine c.args.dossier.now.key) c.args.procaps.now c.loop-procap.procap-index c.procap-item.result _ _ _ c.loop-procap-test.true c.procap-item.is c.loop-procap.invariant.genuine c.procap_credentials.ensures.genuine c.both-all.ensures.genuine;
  issued = all_more (IsOfIssues (take c.args.earlier (shown c.args.dossier.now.papers.grants.items))) c.args.procaps.now c.loop-procap.procap-index c.procap-item.result _ _ _ c.loop-procap-test.true c.procap-item.is c.loop-procap.invariant.issued c.procap_credentials.ensures.issued c.both-all.ensures.issued;
}
