-- Where the auditor stands after the events so far.
use Rattle.std.proofs.Common.{◌≡◌, ◌+◌, take}
use Rattle.access_history.specs.Authority.{Authority}
use Rattle.access_history.specs.Replay.{replay}
use Rattle.pcfs_audit.specs.Credentials.{AreCredentials}
use Rattle.pcfs_audit.specs.Following.{HasAudited}
use Rattle.pcfs_audit.specs.Supports.{FollowIssues}
use Rattle.pcfs_audit.proofs.auditing.report_rows.Given as goal

abbrev pub invariant-loop-place : goal.invariant-loop-place
invariant-loop-place l = record {
  count_is : l.auditor.count ≡ l.dossier.base.now.count + l.place;
  place_is : l.supports.place ≡ l.place;
  follow : FollowIssues l.dossier (replay l.dossier.base.now (take l.place l.dossier.events.now)).issues l.supports;
  audited : (authority : Authority) → authority.key ≡ l.dossier.key → AreCredentials authority l.dossier.base.now l.dossier.events.now l.all → HasAudited authority l.dossier.base.now (take l.place l.dossier.events.now) l.auditor;
}
