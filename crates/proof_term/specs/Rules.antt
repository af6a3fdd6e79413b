-- Rules with what they name, apart from the proofs of their premises, and what is made of a proof
-- from its rules.
use Rattle.proof_term.specs.declared.rule.Axiom.{Axiom}
use Rattle.proof_term.specs.declared.rule.Axiom.TheVariants as axioms
use Rattle.proof_term.specs.declared.rule.OnePremise.{OnePremise}
use Rattle.proof_term.specs.declared.rule.OnePremise.TheVariants as one
use Rattle.proof_term.specs.declared.rule.TwoPremises.{TwoPremises}
use Rattle.proof_term.specs.declared.rule.TwoPremises.TheVariants as two
use Rattle.proof_term.specs.Proof.{ProofView, init, cons_r, inter_r, and_r, or_r1, or_r2, true_r, imp_r, forall_r, exists_r, says_r, at_r, cons_l, inter_l, and_l, or_l, false_l, imp_l, forall_l, exists_l, says_l, claim, at_l}

-- the proof by a rule without premises
abbrev pub by_axiom : Axiom → ProofView
by_axiom (axioms.Init h) = init h
by_axiom axioms.ConsR = cons_r
by_axiom axioms.InterR = inter_r
by_axiom axioms.TrueR = true_r
by_axiom (axioms.FalseL h) = false_l h

-- the proof by a rule from the proof of its premise
abbrev pub by_one : OnePremise → ProofView → ProofView
by_one one.OrR1 p = or_r1 p
by_one one.OrR2 p = or_r2 p
by_one one.ImpR p = imp_r p
by_one one.ForallR p = forall_r p
by_one (one.ExistsR t) p = exists_r t p
by_one one.SaysR p = says_r p
by_one one.AtR p = at_r p
by_one (one.ConsL h) p = cons_l h p
by_one (one.InterL h) p = inter_l h p
by_one (one.AndL h) p = and_l h p
by_one (one.ForallL h t) p = forall_l h t p
by_one (one.ExistsL h) p = exists_l h p
by_one (one.SaysL h) p = says_l h p
by_one (one.Claim h) p = claim h p
by_one (one.AtL h) p = at_l h p

-- the proof by a rule from the proofs of its premises
abbrev pub by_two : TwoPremises → ProofView → ProofView → ProofView
by_two two.AndR p q = and_r p q
by_two (two.OrL h) p q = or_l h p q
by_two (two.ImpL h t1 t2) p q = imp_l h t1 t2 p q

-- what is made of a proof: of its rule, and of what is made of its premises
abbrev pub fold_proof {ℓ} : {A : Type ℓ} → (Axiom → A) → (OnePremise → A → A) →
    (TwoPremises → A → A → A) → ProofView → A
fold_proof a f g (init h) = a (axioms.Init h)
fold_proof a f g cons_r = a axioms.ConsR
fold_proof a f g inter_r = a axioms.InterR
fold_proof a f g (and_r p q) = g two.AndR (fold_proof a f g p) (fold_proof a f g q)
fold_proof a f g (or_r1 p) = f one.OrR1 (fold_proof a f g p)
fold_proof a f g (or_r2 p) = f one.OrR2 (fold_proof a f g p)
fold_proof a f g true_r = a axioms.TrueR
fold_proof a f g (imp_r p) = f one.ImpR (fold_proof a f g p)
fold_proof a f g (forall_r p) = f one.ForallR (fold_proof a f g p)
fold_proof a f g (exists_r t p) = f (one.ExistsR t) (fold_proof a f g p)
fold_proof a f g (says_r p) = f one.SaysR (fold_proof a f g p)
fold_proof a f g (at_r p) = f one.AtR (fold_proof a f g p)
fold_proof a f g (cons_l h p) = f (one.ConsL h) (fold_proof a f g p)
fold_proof a f g (inter_l h p) = f (one.InterL h) (fold_proof a f g p)
fold_proof a f g (and_l h p) = f (one.AndL h) (fold_proof a f g p)
fold_proof a f g (or_l h p q) = g (two.OrL h) (fold_proof a f g p) (fold_proof a f g q)
fold_proof a f g (false_l h) = a (axioms.FalseL h)
fold_proof a f g (imp_l h t1 t2 p q) = g (two.ImpL h t1 t2) (fold_proof a f g p) (fold_proof a f g q)
fold_proof a f g (forall_l h t p) = f (one.ForallL h t) (fold_proof a f g p)
fold_proof a f g (exists_l h p) = f (one.ExistsL h) (fold_proof a f g p)
fold_proof a f g (says_l h p) = f (one.SaysL h) (fold_proof a f g p)
fold_proof a f g (claim h p) = f (one.Claim h) (fold_proof a f g p)
fold_proof a f g (at_l h p) = f (one.AtL h) (fold_proof a f g p)
