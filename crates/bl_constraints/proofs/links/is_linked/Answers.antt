-- A term that is no constant is linked to itself and to the last constant.
use Rattle.std.proofs.lemmas.Bool.{false≢true}
use Rattle.bl_constraints.proofs.LinkLemmas.{link_to_last, link_from_other}
use Rattle.bl_constraints.proofs.links.is_linked.Goals as goal

pub returns-then-is_last : goal.returns-then-is_last
returns-then-is_last c = (
  λ t. link_to_last c.args.u.now c.args.v.now (c.is_last.ensures.0 t),
  λ l. c.if-is_last.true,
)

pub returns-else-is_last : goal.returns-else-is_last
returns-else-is_last c =
    let link = link_from_other c.args.u.now c.args.v.now c.in_default.not-Time (λ e. absurd (false≢true (c.if-is_last.ensures.1 e))) in
    (λ t. link.1 (c.is_same.ensures.0 t), λ l. c.is_same.ensures.1 (link.0 l))
