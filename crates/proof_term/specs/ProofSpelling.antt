-- Canonical bytes of proofs: the one spelling of each proof. The format is this project's own. Its
-- numbers are big-endian.
-- A rule has a tag and then its hypothesis and its terms; the spellings of its premises follow in
-- order.
use Rattle.std.specs.Prelude.{◌<◌, ◌^◌, ℕ, List, [], ◌∷◌, ◌++◌}
use Rattle.std.specs.Int.{w16, to_be_bytes}
use Rattle.bl_syntax.specs.Spelling.{IsSpellable, term_spelling}
use Rattle.proof_term.specs.declared.rule.Axiom.{Axiom}
use Rattle.proof_term.specs.declared.rule.Axiom.TheVariants.{Init, ConsR, InterR, TrueR, FalseL}
use Rattle.proof_term.specs.declared.rule.OnePremise.{OnePremise}
use Rattle.proof_term.specs.declared.rule.OnePremise.TheVariants.{OrR1, OrR2, ImpR, ForallR, ExistsR, SaysR, AtR, ConsL, InterL, AndL, ForallL, ExistsL, SaysL, Claim, AtL}
use Rattle.proof_term.specs.declared.rule.TwoPremises.{TwoPremises}
use Rattle.proof_term.specs.declared.rule.TwoPremises.TheVariants.{AndR, OrL, ImpL}
use Rattle.proof_term.specs.Proof.{ProofView}
use Rattle.proof_term.specs.Limits.{IsProofWithinLimits}
use Rattle.proof_term.specs.Rules.{fold_proof}

-- the number of a hypothesis
abbrev pub hypothesis : ℕ → List ℕ
hypothesis h = to_be_bytes w16 h

unfoldable pub axiom_spelling : Axiom → List ℕ
axiom_spelling (Init h) = 0x01 ∷ hypothesis h
axiom_spelling ConsR = 0x02 ∷ []
axiom_spelling InterR = 0x03 ∷ []
axiom_spelling TrueR = 0x07 ∷ []
axiom_spelling (FalseL h) = 0x15 ∷ hypothesis h

unfoldable pub one_spelling : OnePremise → List ℕ
one_spelling OrR1 = 0x05 ∷ []
one_spelling OrR2 = 0x06 ∷ []
one_spelling ImpR = 0x08 ∷ []
one_spelling ForallR = 0x09 ∷ []
one_spelling (ExistsR t) = 0x0a ∷ term_spelling t
one_spelling SaysR = 0x0b ∷ []
one_spelling AtR = 0x0c ∷ []
one_spelling (ConsL h) = 0x11 ∷ hypothesis h
one_spelling (InterL h) = 0x12 ∷ hypothesis h
one_spelling (AndL h) = 0x13 ∷ hypothesis h
one_spelling (ForallL h t) = 0x17 ∷ hypothesis h ++ term_spelling t
one_spelling (ExistsL h) = 0x18 ∷ hypothesis h
one_spelling (SaysL h) = 0x19 ∷ hypothesis h
one_spelling (Claim h) = 0x1a ∷ hypothesis h
one_spelling (AtL h) = 0x1b ∷ hypothesis h

unfoldable pub two_spelling : TwoPremises → List ℕ
two_spelling AndR = 0x04 ∷ []
two_spelling (OrL h) = 0x14 ∷ hypothesis h
two_spelling (ImpL h t1 t2) = 0x16 ∷ hypothesis h ++ (term_spelling t1 ++ term_spelling t2)

-- the rule at the root, and then the premises
abbrev pub proof_spelling : ProofView → List ℕ
proof_spelling d = fold_proof axiom_spelling (λ r p. one_spelling r ++ p) (λ r p q. two_spelling r ++ (p ++ q)) d

-- what the rule names has a spelling: a hypothesis whose number fits two bytes, and terms that have
-- one
abbrev pub IsSpellableHypothesis : ℕ → Type 0
IsSpellableHypothesis h = h < 2 ^ 16

abbrev pub IsSpellableAxiom : Axiom → Type 0
IsSpellableAxiom (Init h) = IsSpellableHypothesis h
IsSpellableAxiom ConsR = Unit {0}
IsSpellableAxiom InterR = Unit {0}
IsSpellableAxiom TrueR = Unit {0}
IsSpellableAxiom (FalseL h) = IsSpellableHypothesis h

abbrev pub IsSpellableOne : OnePremise → Type 0
IsSpellableOne OrR1 = Unit {0}
IsSpellableOne OrR2 = Unit {0}
IsSpellableOne ImpR = Unit {0}
IsSpellableOne ForallR = Unit {0}
IsSpellableOne (ExistsR t) = IsSpellable t
IsSpellableOne SaysR = Unit {0}
IsSpellableOne AtR = Unit {0}
IsSpellableOne (ConsL h) = IsSpellableHypothesis h
IsSpellableOne (InterL h) = IsSpellableHypothesis h
IsSpellableOne (AndL h) = IsSpellableHypothesis h
IsSpellableOne (ForallL h t) = IsSpellableHypothesis h × IsSpellable t
IsSpellableOne (ExistsL h) = IsSpellableHypothesis h
IsSpellableOne (SaysL h) = IsSpellableHypothesis h
IsSpellableOne (Claim h) = IsSpellableHypothesis h
IsSpellableOne (AtL h) = IsSpellableHypothesis h

abbrev pub IsSpellableTwo : TwoPremises → Type 0
IsSpellableTwo AndR = Unit {0}
IsSpellableTwo (OrL h) = IsSpellableHypothesis h
IsSpellableTwo (ImpL h t1 t2) = IsSpellableHypothesis h × (IsSpellable t1 × IsSpellable t2)

-- what all rules of the proof name has a spelling
abbrev pub NamesSpellable : ProofView → Type 0
NamesSpellable d = fold_proof IsSpellableAxiom (λ r P. IsSpellableOne r × P) (λ r P Q. IsSpellableTwo r × (P × Q)) d

-- the proof has a spelling: it is within the limits, and what it names has one
pub record IsSpellableProof (d : ProofView) : Type 0 where
  pub within_limits : IsProofWithinLimits d
  pub names : NamesSpellable d
