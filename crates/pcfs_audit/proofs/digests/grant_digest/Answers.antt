-- The digest is that of the tag.
use Rattle.std.proofs.Common.{ap, ◌∙◌}
use Rattle.issue_standings.specs.Index.{front_of}
use Rattle.pcfs_audit.proofs.digests.grant_digest.Goals as goal

pub returns : goal.returns
returns c = c.front_of.ensures ∙ ap front_of c.tag-tag.ensures.same
