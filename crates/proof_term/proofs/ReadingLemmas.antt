-- The reading of a proof, one level at a time.
use Rattle.std.proofs.Common.{◌≡◌, ◌<◌, ◌-◌, ℕ, zero, suc, List, Ok, Err, ap, sym, ◌∙◌, arith}
use Rattle.bl_syntax.specs.Reading.{place}
use Rattle.proof_term.specs.declared.fault.ProofFault.{ProofFault}
use Rattle.proof_term.specs.declared.fault.ProofFault.TheVariants.{Short, BadTag, TooLarge, TooDeep, BadTerm, NoMemory}
use Rattle.proof_term.specs.declared.rule.Rule.{Rule}
use Rattle.proof_term.specs.ProofReading.{◌>>=◌, RuleReading, ProofReading, rule_at, rule_within, premises_at, proof_at, ReportsProofFault}
use Rattle.proof_term.specs.NodeReading.{behind_tag}

-- a fault at the root
proof_at-err : (levels nodes input : ℕ) (bytes : List ℕ) (fault : ProofFault) → rule_within levels nodes input bytes ≡ Err fault → proof_at levels nodes input bytes ≡ Err fault
unfolding proof_at
proof_at-err zero nodes input bytes fault e = ap (λ (r : RuleReading). r >>= λ rule. Err Short) e
proof_at-err (suc levels) nodes input bytes fault e =
    ap (λ (r : RuleReading). r >>= λ rule. premises_at (λ left rest. proof_at levels left input rest) rule.0 (nodes - 1) rule.1) e

pub Fails-root : (levels nodes input : ℕ) (bytes : List ℕ) (fault : ProofFault) → ReportsProofFault fault (rule_within levels nodes input bytes) → ReportsProofFault fault (proof_at levels nodes input bytes)
Fails-root levels nodes input bytes Short e = proof_at-err levels nodes input bytes Short e
Fails-root levels nodes input bytes (BadTag at) e = proof_at-err levels nodes input bytes (BadTag at) e
Fails-root levels nodes input bytes (TooLarge at) e = proof_at-err levels nodes input bytes (TooLarge at) e
Fails-root levels nodes input bytes (TooDeep at) e = proof_at-err levels nodes input bytes (TooDeep at) e
Fails-root levels nodes input bytes (BadTerm fault) e = proof_at-err levels nodes input bytes (BadTerm fault) e
Fails-root levels nodes input bytes NoMemory e = tt

-- the premises after the rule at the root
pub proof_at-ok : (levels nodes input : ℕ) (bytes rest : List ℕ) (rule : Rule) → 0 < levels → rule_within levels nodes input bytes ≡ Ok (rule, rest)
    → proof_at levels nodes input bytes ≡ premises_at (λ left more. proof_at (levels - 1) left input more) rule (nodes - 1) rest
unfolding proof_at
proof_at-ok zero nodes input bytes rest rule h e = absurd (omega arith)
proof_at-ok (suc levels) nodes input bytes rest rule h e =
    let below : levels ≡ suc levels - 1 = omega arith in
    ap (λ (r : RuleReading). r >>= λ rule. premises_at (λ left more. proof_at levels left input more) rule.0 (nodes - 1) rule.1) e
    ∙ ap (λ (k : ℕ). premises_at (λ left more. proof_at k left input more) rule (nodes - 1) rest) below

-- the premises after a rule that was read
pub behind-ok : (at : ℕ → List ℕ → ProofReading) (nodes input start tag : ℕ) (bytes rest : List ℕ) (rule : Rule) → rule_at input start tag bytes ≡ Ok (rule, rest)
    → behind_tag at nodes input start tag bytes ≡ premises_at at rule nodes rest
unfolding behind_tag
behind-ok at nodes input start tag bytes rest rule e = ap (λ (r : RuleReading). r >>= λ rule. premises_at at rule.0 nodes rule.1) e

-- a fault of a rule
behind-err : (at : ℕ → List ℕ → ProofReading) (nodes input start tag : ℕ) (bytes : List ℕ) (fault : ProofFault) → rule_at input start tag bytes ≡ Err fault
    → behind_tag at nodes input start tag bytes ≡ Err fault
unfolding behind_tag
behind-err at nodes input start tag bytes fault e = ap (λ (r : RuleReading). r >>= λ rule. premises_at at rule.0 nodes rule.1) e

pub Fails-behind : (at : ℕ → List ℕ → ProofReading) (nodes input start tag : ℕ) (bytes : List ℕ) (fault : ProofFault) → ReportsProofFault fault (rule_at input start tag bytes)
    → ReportsProofFault fault (behind_tag at nodes input start tag bytes)
Fails-behind at nodes input start tag bytes Short e = behind-err at nodes input start tag bytes Short e
Fails-behind at nodes input start tag bytes (BadTag place) e = behind-err at nodes input start tag bytes (BadTag place) e
Fails-behind at nodes input start tag bytes (TooLarge place) e = behind-err at nodes input start tag bytes (TooLarge place) e
Fails-behind at nodes input start tag bytes (TooDeep place) e = behind-err at nodes input start tag bytes (TooDeep place) e
Fails-behind at nodes input start tag bytes (BadTerm fault) e = behind-err at nodes input start tag bytes (BadTerm fault) e
Fails-behind at nodes input start tag bytes NoMemory e = tt

-- what stands after the tag at the root
pub proof_at-is : (levels nodes input start tag : ℕ) (bytes rest : List ℕ) → 0 < levels → start ≡ place input bytes
    → rule_within levels nodes input bytes ≡ rule_at input (place input bytes) tag rest
    → proof_at levels nodes input bytes ≡ behind_tag (λ left more. proof_at (levels - 1) left input more) (nodes - 1) input start tag rest
unfolding proof_at behind_tag
proof_at-is zero nodes input start tag bytes rest h at e = absurd (omega arith)
proof_at-is (suc levels) nodes input start tag bytes rest h at e =
    let below : levels ≡ suc levels - 1 = omega arith in
    ap (λ (r : RuleReading). r >>= λ rule. premises_at (λ left more. proof_at levels left input more) rule.0 (nodes - 1) rule.1) (e ∙ ap (λ (s : ℕ). rule_at input s tag rest) (sym at))
    ∙ ap (λ (k : ℕ). rule_at input start tag rest >>= λ rule. premises_at (λ left more. proof_at k left input more) rule.0 (nodes - 1) rule.1) below
