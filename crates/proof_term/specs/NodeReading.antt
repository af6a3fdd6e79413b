-- The reading of a proof after the tag of its root.
use Rattle.std.specs.Prelude.{ℕ, List}
use Rattle.proof_term.specs.ProofReading.{◌>>=◌, ProofReading, rule_at, premises_at}

-- what the rule with this tag names, and then its premises, which are read by at
unfoldable pub behind_tag : (ℕ → List ℕ → ProofReading) → ℕ → ℕ → ℕ → ℕ → List ℕ → ProofReading
behind_tag at nodes input start tag rest = rule_at input start tag rest >>= λ rule. premises_at at rule.0 nodes rule.1
