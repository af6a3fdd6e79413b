-- All nodes of a tree in one list: the root at 1, and under the node at n those at 2 n and 2 n + 1.
use Rattle.std.specs.Prelude.{◌≡◌, ◌<◌, ◌≤◌, ℕ, ◌+◌, ◌-◌, ◌*◌, ◌^◌, List, [], length, slice_index_or}
use Rattle.merkle_sig.specs.HashTree.{node, parent}

-- the first n leaves of a seed stand from `width` on
abbrev pub AreLeaves : List ℕ → ℕ → List (List ℕ) → ℕ → Type 0
AreLeaves seed width nodes n = (k : ℕ) → k < n → slice_index_or nodes (width + k) [] ≡ node seed 0 k

-- between `from` and `width` each node is over the two under it
abbrev pub AreParents : ℕ → ℕ → List (List ℕ) → Type 0
AreParents width from nodes = (n : ℕ) → from < n → n < width
    → slice_index_or nodes n [] ≡ parent (slice_index_or nodes (2 * n) []) (slice_index_or nodes (2 * n + 1) [])

-- each node of the tree stands at its place
pub record IsTree (seed : List ℕ) (height : ℕ) (nodes : List (List ℕ)) : Type 0 where
  pub whole : length nodes ≡ 512
  pub at : (level place : ℕ) → level ≤ height → place < 2 ^ (height - level)
      → slice_index_or nodes (2 ^ (height - level) + place) [] ≡ node seed level place
