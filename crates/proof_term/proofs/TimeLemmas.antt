-- The times of a proof by the number of premises at its root, and those of a proof that has a spelling.
use Rattle.std.proofs.Common.{◌≡◌, subst, sym}
use Rattle.bl_syntax.proofs.TermLemmas.{HasTimeInRange-from_spellable}
use Rattle.proof_term.specs.declared.rule.Axiom.{Axiom}
use Rattle.proof_term.specs.declared.rule.Axiom.TheVariants as axioms
use Rattle.proof_term.specs.declared.rule.OnePremise.{OnePremise}
use Rattle.proof_term.specs.declared.rule.OnePremise.TheVariants as one
use Rattle.proof_term.specs.declared.rule.TwoPremises.{TwoPremises}
use Rattle.proof_term.specs.declared.rule.TwoPremises.TheVariants as two
use Rattle.proof_term.specs.Proof.{ProofView}
use Rattle.proof_term.specs.Limits.{HasTimesInRange, IsKeptProof}
use Rattle.proof_term.specs.Rules.{by_axiom, by_one, by_two}
use Rattle.proof_term.specs.RuleTimes.{IsOneInRange, IsTwoInRange}
use Rattle.proof_term.specs.ProofSpelling.{IsSpellableOne, IsSpellableTwo, NamesSpellable, IsSpellableProof}
use Rattle.proof_term.proofs.ShapeLemmas.{by_premises}
use Rattle.proof_term.proofs.ProofLemmas.{same, names_one, names_two}

-- the times of a rule and of its premises are those of the proof
one_parts : (r : OnePremise) (p : ProofView) → HasTimesInRange (by_one r p) → IsOneInRange r × HasTimesInRange p
one_parts one.OrR1 p h = (tt, h)
one_parts one.OrR2 p h = (tt, h)
one_parts one.ImpR p h = (tt, h)
one_parts one.ForallR p h = (tt, h)
one_parts (one.ExistsR t) p h = h
one_parts one.SaysR p h = (tt, h)
one_parts one.AtR p h = (tt, h)
one_parts (one.ConsL n) p h = (tt, h)
one_parts (one.InterL n) p h = (tt, h)
one_parts (one.AndL n) p h = (tt, h)
one_parts (one.ForallL n t) p h = h
one_parts (one.ExistsL n) p h = (tt, h)
one_parts (one.SaysL n) p h = (tt, h)
one_parts (one.Claim n) p h = (tt, h)
one_parts (one.AtL n) p h = (tt, h)

two_parts : (r : TwoPremises) (p q : ProofView) → HasTimesInRange (by_two r p q) → IsTwoInRange r × (HasTimesInRange p × HasTimesInRange q)
two_parts two.AndR p q h = (tt, h)
two_parts (two.OrL h) p q k = (tt, k)
two_parts (two.ImpL h t1 t2) p q k = k

pub times_of_one : (r : OnePremise) (p d : ProofView) → by_one r p ≡ d → HasTimesInRange d → IsOneInRange r × HasTimesInRange p
times_of_one r p d e h = one_parts r p (subst HasTimesInRange (sym e) h)

pub times_of_two : (r : TwoPremises) (p q d : ProofView) → by_two r p q ≡ d → HasTimesInRange d → IsTwoInRange r × (HasTimesInRange p × HasTimesInRange q)
times_of_two r p q d e h = two_parts r p q (subst HasTimesInRange (sym e) h)

-- a rule whose own times are in range, over premises whose times are
pub times_axiom : (r : Axiom) → HasTimesInRange (by_axiom r)
times_axiom (axioms.Init h) = tt
times_axiom axioms.ConsR = tt
times_axiom axioms.InterR = tt
times_axiom axioms.TrueR = tt
times_axiom (axioms.FalseL h) = tt

pub times_one : (r : OnePremise) (p : ProofView) → IsOneInRange r → HasTimesInRange p → HasTimesInRange (by_one r p)
times_one one.OrR1 p s h = h
times_one one.OrR2 p s h = h
times_one one.ImpR p s h = h
times_one one.ForallR p s h = h
times_one (one.ExistsR t) p s h = (s, h)
times_one one.SaysR p s h = h
times_one one.AtR p s h = h
times_one (one.ConsL n) p s h = h
times_one (one.InterL n) p s h = h
times_one (one.AndL n) p s h = h
times_one (one.ForallL n t) p s h = (s, h)
times_one (one.ExistsL n) p s h = h
times_one (one.SaysL n) p s h = h
times_one (one.Claim n) p s h = h
times_one (one.AtL n) p s h = h

pub times_two : (r : TwoPremises) (p q : ProofView) → IsTwoInRange r → HasTimesInRange p → HasTimesInRange q → HasTimesInRange (by_two r p q)
times_two two.AndR p q s h k = (h, k)
times_two (two.OrL n) p q s h k = (h, k)
times_two (two.ImpL n t1 t2) p q s h k = (s, (h, k))

-- a rule that has a spelling has its own times in range
one_in_range : (r : OnePremise) → IsSpellableOne r → IsOneInRange r
one_in_range one.OrR1 s = tt
one_in_range one.OrR2 s = tt
one_in_range one.ImpR s = tt
one_in_range one.ForallR s = tt
one_in_range (one.ExistsR t) s = HasTimeInRange-from_spellable t s
one_in_range one.SaysR s = tt
one_in_range one.AtR s = tt
one_in_range (one.ConsL n) s = tt
one_in_range (one.InterL n) s = tt
one_in_range (one.AndL n) s = tt
one_in_range (one.ForallL n t) s = HasTimeInRange-from_spellable t s.1
one_in_range (one.ExistsL n) s = tt
one_in_range (one.SaysL n) s = tt
one_in_range (one.Claim n) s = tt
one_in_range (one.AtL n) s = tt

two_in_range : (r : TwoPremises) → IsSpellableTwo r → IsTwoInRange r
two_in_range two.AndR s = tt
two_in_range (two.OrL n) s = tt
two_in_range (two.ImpL n t1 t2) s = (HasTimeInRange-from_spellable t1 s.1.0, HasTimeInRange-from_spellable t2 s.1.1)

abbrev Timed : ProofView → Type 0
Timed d = NamesSpellable d → HasTimesInRange d

names_times : (d : ProofView) → Timed d
names_times d = by_premises Timed
    (λ r s. times_axiom r)
    (λ r p h s. let parts = same (names_one r p) s in times_one r p (one_in_range r parts.0) (h parts.1))
    (λ r p q h k s. let parts = same (names_two r p q) s in times_two r p q (two_in_range r parts.0) (h parts.1.0) (k parts.1.1))
    d

pub IsKept-from_spellable : (d : ProofView) → IsSpellableProof d → IsKeptProof d
IsKept-from_spellable d h = record { within_limits = h.within_limits; times_in_range = names_times d h.names }
