-- The place of an equal digest, or that between the lower ones and the higher ones.
use Rattle.policy_statement.proofs.DigestLemmas.{IsPlace-found, IsPlace-free}
use Rattle.policy_statement.proofs.digests.insertion_place.Goals as goal

pub returns-in-Ok : goal.returns-in-Ok
returns-in-Ok c = IsPlace-found c.args.rising.now c.args.digest c.in-Ok.place c.in-Ok.ensures.position c.requires

pub returns-in-Err : goal.returns-in-Err
returns-in-Err c = IsPlace-free c.args.rising.now c.args.digest c.in-Err.place c.in-Err.ensures.position c.requires
