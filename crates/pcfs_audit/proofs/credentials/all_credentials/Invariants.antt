-- What all procaps so far have.
use Rattle.std.proofs.Common.{take}
use Rattle.std.specs.Prelude.{IsTrue, ◌↔◌}
use Rattle.std.specs.List.{AllByRecursion}
use Rattle.procap.specs.Genuine.{IsGenuine}
use Rattle.pcfs_audit.specs.Credentials.{IsOfIssues}
use Rattle.pcfs_audit.specs.Papers.{shown}
use Rattle.pcfs_audit.proofs.credentials.all_credentials.Given as goal

abbrev pub invariant-loop-procap : goal.invariant-loop-procap
invariant-loop-procap l = record {
  genuine : IsTrue l.all.genuine ↔ AllByRecursion (IsGenuine l.dossier.key) (take l.procap-index l.procaps);
  issued : IsTrue l.all.issued ↔ AllByRecursion (IsOfIssues (take l.earlier (shown l.dossier.papers.grants.items))) (take l.procap-index l.procaps);
}
