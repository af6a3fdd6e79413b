-- The numbers alone are others.
use Rattle.bl_syntax.proofs.GrantLemmas.{IsGrant-naming, granted}
use Rattle.bl_syntax.proofs.grant.Grant.naming.Goals as goal

pub invariant_of-result : goal.invariant_of-result
invariant_of-result c =
    let g = c.self.inside in
    IsGrant-naming (granted g.goal g.times g.states g.cited) c.args.numbers c.self.invariant c.requires
