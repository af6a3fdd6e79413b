-- A goal without conditions is a grant.
use Rattle.bl_syntax.proofs.GrantLemmas.{IsGrant-new}
use Rattle.bl_syntax.proofs.grant.Grant.new.Goals as goal

pub invariant_of-result : goal.invariant_of-result
invariant_of-result c = IsGrant-new c.args.goal c.new.result c.new-2.result c.new-3.result c.new.ensures c.new-2.ensures c.new-3.ensures
