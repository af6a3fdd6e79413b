-- The new condition stands after the others, or they are as before.
use Rattle.bl_syntax.specs.Grant.{IsGrant}
use Rattle.bl_syntax.proofs.GrantLemmas.{IsGrant-push_time, after_growth, granted}
use Rattle.bl_syntax.proofs.grant.Grant.push_time.Goals as goal

pub invariant_of-self : goal.invariant_of-self
invariant_of-self c =
    let g = c.self.inside in
    let required = rw (← c.self.view_is) at c.requires in
    after_growth (λ times. IsGrant (granted g.goal times g.states g.cited)) _ _ _ c.extend.result c.extend.ensures.ok c.extend.ensures.err
    (IsGrant-push_time (granted g.goal g.times g.states g.cited) c.args.c c.self.invariant required.condition required.new required.room)
    c.self.invariant
