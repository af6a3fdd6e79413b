-- What is known of proofs by the number of premises at their root.
use Rattle.std.proofs.Common.{◌≡◌, ◌+◌, refl}
use Rattle.std.specs.Prelude.{max}
use Rattle.proof_term.specs.declared.rule.Axiom.{Axiom}
use Rattle.proof_term.specs.declared.rule.Axiom.TheVariants as axioms
use Rattle.proof_term.specs.declared.rule.OnePremise.{OnePremise}
use Rattle.proof_term.specs.declared.rule.OnePremise.TheVariants as one
use Rattle.proof_term.specs.declared.rule.TwoPremises.{TwoPremises}
use Rattle.proof_term.specs.declared.rule.TwoPremises.TheVariants as two
use Rattle.proof_term.specs.Proof.{ProofView, init, cons_r, inter_r, and_r, or_r1, or_r2, true_r, imp_r, forall_r, exists_r, says_r, at_r, cons_l, inter_l, and_l, or_l, false_l, imp_l, forall_l, exists_l, says_l, claim, at_l}
use Rattle.proof_term.specs.Limits.{size, depth}
use Rattle.proof_term.specs.Rules.{by_axiom, by_one, by_two, fold_proof}

pub folded_axiom {ℓ} : {A : Type ℓ} (a : Axiom → A) (f : OnePremise → A → A) (g : TwoPremises → A → A → A) (r : Axiom) → fold_proof a f g (by_axiom r) ≡ a r
folded_axiom a f g (axioms.Init h) = refl
folded_axiom a f g axioms.ConsR = refl
folded_axiom a f g axioms.InterR = refl
folded_axiom a f g axioms.TrueR = refl
folded_axiom a f g (axioms.FalseL h) = refl

pub folded_one {ℓ} : {A : Type ℓ} (a : Axiom → A) (f : OnePremise → A → A) (g : TwoPremises → A → A → A) (r : OnePremise) (p : ProofView) → fold_proof a f g (by_one r p) ≡ f r (fold_proof a f g p)
folded_one a f g one.OrR1 p = refl
folded_one a f g one.OrR2 p = refl
folded_one a f g one.ImpR p = refl
folded_one a f g one.ForallR p = refl
folded_one a f g (one.ExistsR t) p = refl
folded_one a f g one.SaysR p = refl
folded_one a f g one.AtR p = refl
folded_one a f g (one.ConsL h) p = refl
folded_one a f g (one.InterL h) p = refl
folded_one a f g (one.AndL h) p = refl
folded_one a f g (one.ForallL h t) p = refl
folded_one a f g (one.ExistsL h) p = refl
folded_one a f g (one.SaysL h) p = refl
folded_one a f g (one.Claim h) p = refl
folded_one a f g (one.AtL h) p = refl

pub folded_two {ℓ} : {A : Type ℓ} (a : Axiom → A) (f : OnePremise → A → A) (g : TwoPremises → A → A → A) (r : TwoPremises) (p q : ProofView) → fold_proof a f g (by_two r p q) ≡ g r (fold_proof a f g p) (fold_proof a f g q)
folded_two a f g two.AndR p q = refl
folded_two a f g (two.OrL h) p q = refl
folded_two a f g (two.ImpL h t1 t2) p q = refl

pub size_axiom : (r : Axiom) → size (by_axiom r) ≡ 1
size_axiom (axioms.Init h) = refl
size_axiom axioms.ConsR = refl
size_axiom axioms.InterR = refl
size_axiom axioms.TrueR = refl
size_axiom (axioms.FalseL h) = refl

pub size_one : (r : OnePremise) (p : ProofView) → size (by_one r p) ≡ 1 + size p
size_one one.OrR1 p = refl
size_one one.OrR2 p = refl
size_one one.ImpR p = refl
size_one one.ForallR p = refl
size_one (one.ExistsR t) p = refl
size_one one.SaysR p = refl
size_one one.AtR p = refl
size_one (one.ConsL h) p = refl
size_one (one.InterL h) p = refl
size_one (one.AndL h) p = refl
size_one (one.ForallL h t) p = refl
size_one (one.ExistsL h) p = refl
size_one (one.SaysL h) p = refl
size_one (one.Claim h) p = refl
size_one (one.AtL h) p = refl

pub size_two : (r : TwoPremises) (p q : ProofView) → size (by_two r p q) ≡ 1 + size p + size q
size_two two.AndR p q = refl
size_two (two.OrL h) p q = refl
size_two (two.ImpL h t1 t2) p q = refl

pub depth_axiom : (r : Axiom) → depth (by_axiom r) ≡ 1
depth_axiom (axioms.Init h) = refl
depth_axiom axioms.ConsR = refl
depth_axiom axioms.InterR = refl
depth_axiom axioms.TrueR = refl
depth_axiom (axioms.FalseL h) = refl

pub depth_one : (r : OnePremise) (p : ProofView) → depth (by_one r p) ≡ 1 + depth p
depth_one one.OrR1 p = refl
depth_one one.OrR2 p = refl
depth_one one.ImpR p = refl
depth_one one.ForallR p = refl
depth_one (one.ExistsR t) p = refl
depth_one one.SaysR p = refl
depth_one one.AtR p = refl
depth_one (one.ConsL h) p = refl
depth_one (one.InterL h) p = refl
depth_one (one.AndL h) p = refl
depth_one (one.ForallL h t) p = refl
depth_one (one.ExistsL h) p = refl
depth_one (one.SaysL h) p = refl
depth_one (one.Claim h) p = refl
depth_one (one.AtL h) p = refl

pub depth_two : (r : TwoPremises) (p q : ProofView) → depth (by_two r p q) ≡ 1 + max (depth p) (depth q)
depth_two two.AndR p q = refl
depth_two (two.OrL h) p q = refl
depth_two (two.ImpL h t1 t2) p q = refl

-- induction by the number of premises
pub by_premises : (P : ProofView → Type 0) → ((r : Axiom) → P (by_axiom r)) → ((r : OnePremise) (p : ProofView) → P p → P (by_one r p)) → ((r : TwoPremises) (p q : ProofView) → P p → P q → P (by_two r p q)) → (d : ProofView) → P d
by_premises P a f g (init h) = a (axioms.Init h)
by_premises P a f g cons_r = a axioms.ConsR
by_premises P a f g inter_r = a axioms.InterR
by_premises P a f g (and_r p q) = g two.AndR p q (by_premises P a f g p) (by_premises P a f g q)
by_premises P a f g (or_r1 p) = f one.OrR1 p (by_premises P a f g p)
by_premises P a f g (or_r2 p) = f one.OrR2 p (by_premises P a f g p)
by_premises P a f g true_r = a axioms.TrueR
by_premises P a f g (imp_r p) = f one.ImpR p (by_premises P a f g p)
by_premises P a f g (forall_r p) = f one.ForallR p (by_premises P a f g p)
by_premises P a f g (exists_r t p) = f (one.ExistsR t) p (by_premises P a f g p)
by_premises P a f g (says_r p) = f one.SaysR p (by_premises P a f g p)
by_premises P a f g (at_r p) = f one.AtR p (by_premises P a f g p)
by_premises P a f g (cons_l h p) = f (one.ConsL h) p (by_premises P a f g p)
by_premises P a f g (inter_l h p) = f (one.InterL h) p (by_premises P a f g p)
by_premises P a f g (and_l h p) = f (one.AndL h) p (by_premises P a f g p)
by_premises P a f g (or_l h p q) = g (two.OrL h) p q (by_premises P a f g p) (by_premises P a f g q)
by_premises P a f g (false_l h) = a (axioms.FalseL h)
by_premises P a f g (imp_l h t1 t2 p q) = g (two.ImpL h t1 t2) p q (by_premises P a f g p) (by_premises P a f g q)
by_premises P a f g (forall_l h t p) = f (one.ForallL h t) p (by_premises P a f g p)
by_premises P a f g (exists_l h p) = f (one.ExistsL h) p (by_premises P a f g p)
by_premises P a f g (says_l h p) = f (one.SaysL h) p (by_premises P a f g p)
by_premises P a f g (claim h p) = f (one.Claim h) p (by_premises P a f g p)
by_premises P a f g (at_l h p) = f (one.AtL h) p (by_premises P a f g p)
