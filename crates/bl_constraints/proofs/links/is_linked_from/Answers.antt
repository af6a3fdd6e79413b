-- A constant is linked to constants that are no earlier, and to other terms where it is the first.
use Rattle.bl_constraints.proofs.LinkLemmas.{link_to_time, link_to_other}
use Rattle.bl_constraints.proofs.links.is_linked_from.Goals as goal

pub returns-in-Time : goal.returns-in-Time
returns-in-Time c =
    let link = link_to_time c.args.first c.in-Time.second c.args.v.now c.in-Time.is in
    (λ t. link.1 (c.is_up_to.ensures.0 t), λ l. c.is_up_to.ensures.1 (link.0 l))

pub returns-in_default : goal.returns-in_default
returns-in_default c =
    let link = link_to_other c.args.first c.args.v.now c.in_default.not-Time in
    let order = c.is_up_to-in_default.ensures in
    (λ t. link.1 (order.0 t), λ l. order.1 (link.0 l))
