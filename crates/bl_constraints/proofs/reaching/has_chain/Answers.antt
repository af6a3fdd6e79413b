use Rattle.std.proofs.Common.{◌∙◌, sym}
use Rattle.std.proofs.lemmas.Bool.{false≢true}
use Rattle.bl_syntax.specs.Entailment.{link}
use Rattle.bl_constraints.specs.Reached.{constraints_of}
use Rattle.bl_constraints.proofs.LinkLemmas.{link_in}
use Rattle.bl_constraints.proofs.ReachedLemmas.{onward_chain, chain_onward}
use Rattle.bl_constraints.proofs.reaching.has_chain.Goals as goal

pub returns-then-is_linked : goal.returns-then-is_linked
returns-then-is_linked c = (λ t. link c.args.u.now c.args.v.now (link_in (constraints_of c.args.items.now) (c.is_linked.ensures.0 t)), λ p. c.if-is_linked.true)

pub returns-else-is_linked : goal.returns-else-is_linked
returns-else-is_linked c =
    let psi = constraints_of c.args.items.now in
    let u = c.args.u.now in
    let v = c.args.v.now in
    let words = c.places_after.result.words in (
      λ t. onward_chain psi u v words c.places_after.ensures (c.is_linked_from.ensures.0 t),
      λ p. c.is_linked_from.ensures.1 (chain_onward psi u v words c.places_after.ensures (λ l. absurd (false≢true (sym c.if-is_linked.false ∙ c.is_linked.ensures.1 l))) p),
    )
