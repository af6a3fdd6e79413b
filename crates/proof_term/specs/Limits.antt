-- The size of a proof, and which proofs are kept. The limits are this project's own.
use Rattle.std.specs.Prelude.{◌≡◌, ℕ, ◌+◌, ◌≤◌, max}
use Rattle.bl_syntax.specs.declared.limits.TheConstants.{MOST_PROOF_NODES, MOST_PROOF_LEVELS}
use Rattle.bl_syntax.specs.Terms.{HasTimeInRange}
use Rattle.proof_term.specs.Proof.{ProofView, init, cons_r, inter_r, and_r, or_r1, or_r2, true_r, imp_r, forall_r, exists_r, says_r, at_r, cons_l, inter_l, and_l, or_l, false_l, imp_l, forall_l, exists_l, says_l, claim, at_l}

-- the number of its nodes: one for each use of a rule
abbrev pub size : ProofView → ℕ
size (init h) = 1
size cons_r = 1
size inter_r = 1
size (and_r p q) = 1 + size p + size q
size (or_r1 p) = 1 + size p
size (or_r2 p) = 1 + size p
size true_r = 1
size (imp_r p) = 1 + size p
size (forall_r p) = 1 + size p
size (exists_r t p) = 1 + size p
size (says_r p) = 1 + size p
size (at_r p) = 1 + size p
size (cons_l h p) = 1 + size p
size (inter_l h p) = 1 + size p
size (and_l h p) = 1 + size p
size (or_l h p q) = 1 + size p + size q
size (false_l h) = 1
size (imp_l h t1 t2 p q) = 1 + size p + size q
size (forall_l h t p) = 1 + size p
size (exists_l h p) = 1 + size p
size (says_l h p) = 1 + size p
size (claim h p) = 1 + size p
size (at_l h p) = 1 + size p

-- the number of nodes from the root down to the farthest node, both counted: a rule without
-- premises has depth 1
abbrev pub depth : ProofView → ℕ
depth (init h) = 1
depth cons_r = 1
depth inter_r = 1
depth (and_r p q) = 1 + max (depth p) (depth q)
depth (or_r1 p) = 1 + depth p
depth (or_r2 p) = 1 + depth p
depth true_r = 1
depth (imp_r p) = 1 + depth p
depth (forall_r p) = 1 + depth p
depth (exists_r t p) = 1 + depth p
depth (says_r p) = 1 + depth p
depth (at_r p) = 1 + depth p
depth (cons_l h p) = 1 + depth p
depth (inter_l h p) = 1 + depth p
depth (and_l h p) = 1 + depth p
depth (or_l h p q) = 1 + max (depth p) (depth q)
depth (false_l h) = 1
depth (imp_l h t1 t2 p q) = 1 + max (depth p) (depth q)
depth (forall_l h t p) = 1 + depth p
depth (exists_l h p) = 1 + depth p
depth (says_l h p) = 1 + depth p
depth (claim h p) = 1 + depth p
depth (at_l h p) = 1 + depth p

-- the times that its terms name lie in the range of moments
abbrev pub HasTimesInRange : ProofView → Type 0
HasTimesInRange (init h) = Unit {0}
HasTimesInRange cons_r = Unit {0}
HasTimesInRange inter_r = Unit {0}
HasTimesInRange (and_r p q) = HasTimesInRange p × HasTimesInRange q
HasTimesInRange (or_r1 p) = HasTimesInRange p
HasTimesInRange (or_r2 p) = HasTimesInRange p
HasTimesInRange true_r = Unit {0}
HasTimesInRange (imp_r p) = HasTimesInRange p
HasTimesInRange (forall_r p) = HasTimesInRange p
HasTimesInRange (exists_r t p) = HasTimeInRange t × HasTimesInRange p
HasTimesInRange (says_r p) = HasTimesInRange p
HasTimesInRange (at_r p) = HasTimesInRange p
HasTimesInRange (cons_l h p) = HasTimesInRange p
HasTimesInRange (inter_l h p) = HasTimesInRange p
HasTimesInRange (and_l h p) = HasTimesInRange p
HasTimesInRange (or_l h p q) = HasTimesInRange p × HasTimesInRange q
HasTimesInRange (false_l h) = Unit {0}
HasTimesInRange (imp_l h t1 t2 p q) = (HasTimeInRange t1 × HasTimeInRange t2) ×
    (HasTimesInRange p × HasTimesInRange q)
HasTimesInRange (forall_l h t p) = HasTimeInRange t × HasTimesInRange p
HasTimesInRange (exists_l h p) = HasTimesInRange p
HasTimesInRange (says_l h p) = HasTimesInRange p
HasTimesInRange (claim h p) = HasTimesInRange p
HasTimesInRange (at_l h p) = HasTimesInRange p

-- at most 4,096 nodes, and a depth of at most 200
pub record IsProofWithinLimits (d : ProofView) : Type 0 where
  pub nodes : size d ≤ MOST_PROOF_NODES
  pub levels : depth d ≤ MOST_PROOF_LEVELS

-- a proof that is kept: within the limits, with all times in the range of moments
pub record IsKeptProof (d : ProofView) : Type 0 where
  pub within_limits : IsProofWithinLimits d
  pub times_in_range : HasTimesInRange d

-- it has so many nodes, and this depth
pub record HasMeasure (d : ProofView) (nodes levels : ℕ) : Type 0 where
  pub nodes_are : nodes ≡ size d
  pub levels_are : levels ≡ depth d
