-- A history under audit, with its papers and where equal ones are found (this project's own).
use Rattle.std.specs.Prelude.{map}
use Rattle.policy_statement.specs.Digest.{digest_of}
use Rattle.pcfs_audit.specs.declared.dossier.Dossier.{Dossier}
use Rattle.pcfs_audit.specs.Firsts.{AreFirsts, grant_digests}
use Rattle.pcfs_audit.specs.Papers.{ArePapers, shown}

-- its papers are those of its base and events, and of each statement and each grant the first equal
-- one is found
pub record IsDossier (dossier : Dossier) : Type 0 where
  pub papers_are : ArePapers dossier.base.now dossier.events.now dossier.papers
  pub statements_found : AreFirsts (map digest_of (shown dossier.papers.statements.items)) dossier.statement_firsts.entries
  pub grants_found : AreFirsts (grant_digests dossier.key (shown dossier.papers.grants.items)) dossier.grant_firsts.entries
