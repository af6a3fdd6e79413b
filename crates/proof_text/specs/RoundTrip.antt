-- The proofs that a text can say (this project's own).
use Rattle.std.specs.Prelude.{ℕ, ◌<◌, ◌^◌}
use Rattle.bl_syntax.specs.declared.terms.Term.{Term}
use Rattle.bl_syntax.specs.declared.terms.Term.TheVariants.{Prin, File, Perm, Time, Text, Ctime, Param, Bound}
use Rattle.bl_syntax.specs.Spelling.{IsSpellable}
use Rattle.proof_term.specs.declared.rule.Axiom.{Axiom}
use Rattle.proof_term.specs.declared.rule.Axiom.TheVariants.{Init, ConsR, InterR, TrueR, FalseL}
use Rattle.proof_term.specs.declared.rule.OnePremise.{OnePremise}
use Rattle.proof_term.specs.declared.rule.OnePremise.TheVariants.{OrR1, OrR2, ImpR, ForallR, ExistsR, SaysR, AtR, ConsL, InterL, AndL, ForallL, ExistsL, SaysL, Claim, AtL}
use Rattle.proof_term.specs.declared.rule.TwoPremises.{TwoPremises}
use Rattle.proof_term.specs.declared.rule.TwoPremises.TheVariants.{AndR, OrL, ImpL}
use Rattle.proof_term.specs.Proof.{ProofView}
use Rattle.proof_term.specs.Limits.{IsProofWithinLimits}
use Rattle.proof_term.specs.Rules.{fold_proof}

-- a term that is no variable
abbrev pub IsClosedTerm : Term → Type 0
IsClosedTerm (Prin name) = Unit {0}
IsClosedTerm (File number) = Unit {0}
IsClosedTerm (Perm permission) = Unit {0}
IsClosedTerm (Time point) = Unit {0}
IsClosedTerm (Text constant) = Unit {0}
IsClosedTerm Ctime = Unit {0}
IsClosedTerm (Param n) = Unit {0}
IsClosedTerm (Bound n) = ⊥

-- a time, the current time or a parameter
abbrev pub IsTimeTerm : Term → Type 0
IsTimeTerm (Prin name) = ⊥
IsTimeTerm (File number) = ⊥
IsTimeTerm (Perm permission) = ⊥
IsTimeTerm (Time point) = Unit {0}
IsTimeTerm (Text constant) = ⊥
IsTimeTerm Ctime = Unit {0}
IsTimeTerm (Param n) = Unit {0}
IsTimeTerm (Bound n) = ⊥

-- the number of a hypothesis
abbrev pub IsHypothesisNumber : ℕ → Type 0
IsHypothesisNumber h = h < 2 ^ 16

-- a text can say what the rule names
abbrev pub IsSayableAxiom : Axiom → Type 0
IsSayableAxiom (Init h) = IsHypothesisNumber h
IsSayableAxiom ConsR = Unit {0}
IsSayableAxiom InterR = Unit {0}
IsSayableAxiom TrueR = Unit {0}
IsSayableAxiom (FalseL h) = IsHypothesisNumber h

abbrev pub IsSayableOne : OnePremise → Type 0
IsSayableOne OrR1 = Unit {0}
IsSayableOne OrR2 = Unit {0}
IsSayableOne ImpR = Unit {0}
IsSayableOne ForallR = Unit {0}
IsSayableOne (ExistsR t) = IsSpellable t × IsClosedTerm t
IsSayableOne SaysR = Unit {0}
IsSayableOne AtR = Unit {0}
IsSayableOne (ConsL h) = IsHypothesisNumber h
IsSayableOne (InterL h) = IsHypothesisNumber h
IsSayableOne (AndL h) = IsHypothesisNumber h
IsSayableOne (ForallL h t) = IsHypothesisNumber h × (IsSpellable t × IsClosedTerm t)
IsSayableOne (ExistsL h) = IsHypothesisNumber h
IsSayableOne (SaysL h) = IsHypothesisNumber h
IsSayableOne (Claim h) = IsHypothesisNumber h
IsSayableOne (AtL h) = IsHypothesisNumber h

abbrev pub IsSayableTwo : TwoPremises → Type 0
IsSayableTwo AndR = Unit {0}
IsSayableTwo (OrL h) = IsHypothesisNumber h
IsSayableTwo (ImpL h t1 t2) = IsHypothesisNumber h ×
    ((IsSpellable t1 × IsTimeTerm t1) × (IsSpellable t2 × IsTimeTerm t2))

-- a text can say what all rules of the proof name
abbrev pub NamesSayable : ProofView → Type 0
NamesSayable d = fold_proof IsSayableAxiom (λ r P. IsSayableOne r × P) (λ r P Q. IsSayableTwo r × (P × Q)) d

-- a text can say the proof: it is within the limits, its terms have a spelling and are no
-- variables, and those of an implication are times
pub record IsPrintableProof (d : ProofView) : Type 0 where
  pub within_limits : IsProofWithinLimits d
  pub names : NamesSayable d
