-- The proof that is made of a rule and the proofs of its premises.
use Rattle.proof_term.specs.declared.rule.Parts.{Parts}
use Rattle.proof_term.specs.declared.rule.Parts.TheVariants as parts
use Rattle.proof_term.specs.Proof.{ProofView, proof_view}
use Rattle.proof_term.specs.Rules.{by_axiom, by_one, by_two}

abbrev pub join_parts : Parts → ProofView
join_parts (parts.Axiom a) = by_axiom a
join_parts (parts.One r p) = by_one r (proof_view p.now)
join_parts (parts.Two r p q) = by_two r (proof_view p.now) (proof_view q.now)
