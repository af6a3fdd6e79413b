-- The proofs of a rule's premises, in order, and what they add up to.
use Rattle.std.specs.Prelude.{ℕ, ◌+◌, max, List, [], ◌∷◌}
use Rattle.proof_term.specs.Proof.{ProofView, proof_view}
use Rattle.proof_term.specs.Limits.{size, depth}
use Rattle.proof_term.specs.declared.premises.Premises.{Premises}
use Rattle.proof_term.specs.declared.premises.Premises.TheVariants.{Nothing, One, Two}

abbrev pub premises_found : Premises → List ProofView
premises_found Nothing = []
premises_found (One p) = proof_view p.now ∷ []
premises_found (Two p q) = proof_view p.now ∷ proof_view q.now ∷ []

-- all their nodes
abbrev pub sizes : List ProofView → ℕ
sizes [] = 0
sizes (p ∷ rest) = size p + sizes rest

-- the depth of the deepest
abbrev pub greatest_depth : List ProofView → ℕ
greatest_depth [] = 0
greatest_depth (p ∷ rest) = max (depth p) (greatest_depth rest)
