-- What the loop over a proof's nodes has still before it.
use Rattle.std.proofs.Common.{◌<◌, ℕ, arith}
use Rattle.std.specs.Borrow.{Bor}
use Rattle.proof_term.specs.declared.proof.Proof.{Proof}
use Rattle.proof_term.specs.Proof.{ProofView, proof_view, init, cons_r, inter_r, and_r, or_r1, or_r2, true_r, imp_r, forall_r, exists_r, says_r, at_r, cons_l, inter_l, and_l, or_l, false_l, imp_l, forall_l, exists_l, says_l, claim, at_l}
use Rattle.proof_term.specs.Limits.{size}

-- the nodes of a proof that is lent
abbrev pub nodes_of : Bor Proof → ℕ
nodes_of p = size (proof_view p.now)

-- a proof has a node, its root
pub size-pos : (d : ProofView) → 0 < size d
size-pos (init h) = omega arith
size-pos cons_r = omega arith
size-pos inter_r = omega arith
size-pos (and_r p q) = omega arith
size-pos (or_r1 p) = omega arith
size-pos (or_r2 p) = omega arith
size-pos true_r = omega arith
size-pos (imp_r p) = omega arith
size-pos (forall_r p) = omega arith
size-pos (exists_r t p) = omega arith
size-pos (says_r p) = omega arith
size-pos (at_r p) = omega arith
size-pos (cons_l h p) = omega arith
size-pos (inter_l h p) = omega arith
size-pos (and_l h p) = omega arith
size-pos (or_l h p q) = omega arith
size-pos (false_l h) = omega arith
size-pos (imp_l h t1 t2 p q) = omega arith
size-pos (forall_l h t p) = omega arith
size-pos (exists_l h p) = omega arith
size-pos (says_l h p) = omega arith
size-pos (claim h p) = omega arith
size-pos (at_l h p) = omega arith
