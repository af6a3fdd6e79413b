-- The bytes are those of the grant if nothing is after these.
use Rattle.procap.specs.GrantSpelling.{grant_spelling}
use Rattle.record_parts.proofs.FrontLemmas.{is_all, not_all}
use Rattle.record_parts.proofs.grant_matching.is_grant_spelling.Goals as goal

pub returns-in-None-clause-same : goal.returns-in-None-clause-same
returns-in-None-clause-same c = not_all (grant_spelling c.args.grant.now) c.args.bytes.now c.in-None.ensures.rest

pub returns-in-Some-clause-same : goal.returns-in-Some-clause-same
returns-in-Some-clause-same c = is_all (grant_spelling c.args.grant.now) c.args.bytes.now c.in-Some.rest.now c.is_empty.result c.in-Some.ensures.rest c.is_empty.ensures
