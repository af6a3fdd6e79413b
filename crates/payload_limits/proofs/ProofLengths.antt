-- How long proofs are: 133 bytes for each node are more than enough, and 130 are left over.
use Rattle.std.proofs.Common.{ℕ, ◌+◌, ◌*◌, ◌≤◌, List, ◌++◌, length, arith}
use Rattle.std.proofs.lemmas.List.{length-append}
use Rattle.bl_syntax.specs.Spelling.{term_spelling}
use Rattle.proof_term.specs.declared.rule.Axiom.{Axiom}
use Rattle.proof_term.specs.declared.rule.Axiom.TheVariants as axioms
use Rattle.proof_term.specs.declared.rule.OnePremise.{OnePremise}
use Rattle.proof_term.specs.declared.rule.OnePremise.TheVariants as one
use Rattle.proof_term.specs.declared.rule.TwoPremises.{TwoPremises}
use Rattle.proof_term.specs.declared.rule.TwoPremises.TheVariants as two
use Rattle.proof_term.specs.Proof.{ProofView, init, cons_r, inter_r, and_r, or_r1, or_r2, true_r, imp_r, forall_r, exists_r, says_r, at_r, cons_l, inter_l, and_l, or_l, false_l, imp_l, forall_l, exists_l, says_l, claim, at_l}
use Rattle.proof_term.specs.Limits.{size}
use Rattle.proof_term.specs.ProofSpelling.{axiom_spelling, one_spelling, two_spelling, proof_spelling, IsSpellableOne, IsSpellableTwo, NamesSpellable, IsSpellableProof}
use Rattle.payload_limits.proofs.TermLengths.{term_length}

axiom_length : (r : Axiom) → length (axiom_spelling r) + 130 ≤ 133
unfolding axiom_spelling
axiom_length (axioms.Init h) = omega arith
axiom_length axioms.ConsR = omega arith
axiom_length axioms.InterR = omega arith
axiom_length axioms.TrueR = omega arith
axiom_length (axioms.FalseL h) = omega arith

one_length : (r : OnePremise) → IsSpellableOne r → length (one_spelling r) ≤ 133
unfolding one_spelling
one_length one.OrR1 h = omega arith
one_length one.OrR2 h = omega arith
one_length one.ImpR h = omega arith
one_length one.ForallR h = omega arith
one_length (one.ExistsR t) h = omega (arith, term_length t h)
one_length one.SaysR h = omega arith
one_length one.AtR h = omega arith
one_length (one.ConsL k) h = omega arith
one_length (one.InterL k) h = omega arith
one_length (one.AndL k) h = omega arith
one_length (one.ForallL k t) h = omega (arith, term_length t h.1)
one_length (one.ExistsL k) h = omega arith
one_length (one.SaysL k) h = omega arith
one_length (one.Claim k) h = omega arith
one_length (one.AtL k) h = omega arith

two_length : (r : TwoPremises) → IsSpellableTwo r → length (two_spelling r) ≤ 263
unfolding two_spelling
two_length two.AndR h = omega arith
two_length (two.OrL k) h = omega arith
two_length (two.ImpL k t1 t2) h = omega (arith, term_length t1 h.1.0, term_length t2 h.1.1, length-append (term_spelling t1) (term_spelling t2))

-- a rule and the proof of its premise
with_one : (r : OnePremise) (bytes : List ℕ) (nodes : ℕ) → IsSpellableOne r → length bytes + 130 ≤ 133 * nodes → length (one_spelling r ++ bytes) + 130 ≤ 133 * (1 + nodes)
with_one r bytes nodes h short = omega (arith, one_length r h, length-append (one_spelling r) bytes, short)

-- a rule and the proofs of its premises
with_two : (r : TwoPremises) (first second : List ℕ) (nodes others : ℕ) → IsSpellableTwo r → length first + 130 ≤ 133 * nodes → length second + 130 ≤ 133 * others
    → length (two_spelling r ++ (first ++ second)) + 130 ≤ 133 * (1 + nodes + others)
with_two r first second nodes others h short shorter = omega (arith, two_length r h, length-append (two_spelling r) (first ++ second), length-append first second, short, shorter)

node_length : (d : ProofView) → NamesSpellable d → length (proof_spelling d) + 130 ≤ 133 * size d
node_length (init h) n = axiom_length (axioms.Init h)
node_length cons_r n = axiom_length axioms.ConsR
node_length inter_r n = axiom_length axioms.InterR
node_length (and_r p q) n = with_two two.AndR (proof_spelling p) (proof_spelling q) (size p) (size q) n.0 (node_length p n.1.0) (node_length q n.1.1)
node_length (or_r1 p) n = with_one one.OrR1 (proof_spelling p) (size p) n.0 (node_length p n.1)
node_length (or_r2 p) n = with_one one.OrR2 (proof_spelling p) (size p) n.0 (node_length p n.1)
node_length true_r n = axiom_length axioms.TrueR
node_length (imp_r p) n = with_one one.ImpR (proof_spelling p) (size p) n.0 (node_length p n.1)
node_length (forall_r p) n = with_one one.ForallR (proof_spelling p) (size p) n.0 (node_length p n.1)
node_length (exists_r t p) n = with_one (one.ExistsR t) (proof_spelling p) (size p) n.0 (node_length p n.1)
node_length (says_r p) n = with_one one.SaysR (proof_spelling p) (size p) n.0 (node_length p n.1)
node_length (at_r p) n = with_one one.AtR (proof_spelling p) (size p) n.0 (node_length p n.1)
node_length (cons_l h p) n = with_one (one.ConsL h) (proof_spelling p) (size p) n.0 (node_length p n.1)
node_length (inter_l h p) n = with_one (one.InterL h) (proof_spelling p) (size p) n.0 (node_length p n.1)
node_length (and_l h p) n = with_one (one.AndL h) (proof_spelling p) (size p) n.0 (node_length p n.1)
node_length (or_l h p q) n = with_two (two.OrL h) (proof_spelling p) (proof_spelling q) (size p) (size q) n.0 (node_length p n.1.0) (node_length q n.1.1)
node_length (false_l h) n = axiom_length (axioms.FalseL h)
node_length (imp_l h t1 t2 p q) n = with_two (two.ImpL h t1 t2) (proof_spelling p) (proof_spelling q) (size p) (size q) n.0 (node_length p n.1.0) (node_length q n.1.1)
node_length (forall_l h t p) n = with_one (one.ForallL h t) (proof_spelling p) (size p) n.0 (node_length p n.1)
node_length (exists_l h p) n = with_one (one.ExistsL h) (proof_spelling p) (size p) n.0 (node_length p n.1)
node_length (says_l h p) n = with_one (one.SaysL h) (proof_spelling p) (size p) n.0 (node_length p n.1)
node_length (claim h p) n = with_one (one.Claim h) (proof_spelling p) (size p) n.0 (node_length p n.1)
node_length (at_l h p) n = with_one (one.AtL h) (proof_spelling p) (size p) n.0 (node_length p n.1)

pub proof_length : (d : ProofView) → IsSpellableProof d → length (proof_spelling d) ≤ 544768
proof_length d is = omega (arith, node_length d is.names, is.within_limits.nodes)
