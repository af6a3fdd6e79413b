-- What a binary search does not find is not there.
use Rattle.policy_statement.proofs.DigestLemmas.{missing_unless_found}
use Rattle.policy_statement.proofs.digests.has_digest.Goals as goal

pub returns : goal.returns
returns c = missing_unless_found c.args.rising.now c.args.digest c.binary_search.result c.is_ok.result c.is_ok.ensures.value c.binary_search.ensures.position c.requires
