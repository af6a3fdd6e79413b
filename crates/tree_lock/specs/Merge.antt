-- Merges, also called shuffles or interleavings: each list's elements in their order, and all of
-- them.
use Rattle.std.specs.Prelude.{◌≡◌, ℕ, List, [], ◌∷◌, ◌++◌, map, Some, slice_get, slice_set}
use Rattle.std.specs.List.{AllByRecursion}
use Rattle.tree_lock.specs.Seen.{Retired}

-- The merge begins with the first element of one of the lists, and what follows is a merge of what
-- is left of them.
pub data Merges {A : Type 0} : List (List A) → List A → Type 0 where
  ends : {lists : List (List A)} → AllByRecursion (λ l. l ≡ []) lists → Merges lists []
  takes : {lists : List (List A)} {x : A} {xs ys : List A} (k : ℕ) →
      slice_get lists k ≡ Some (x ∷ xs) → Merges (slice_set lists k xs) ys → Merges lists (x ∷ ys)

-- The history is the opening entries, and then a merge of the passes' own entries.
pub record IsMerge {E : Type 0} (opening : List (ℕ × E)) (retired : List (Retired E)) (history : List (ℕ × E)) : Type 0 where
  pub rest : List (ℕ × E)
  pub is : history ≡ opening ++ rest
  pub merged : Merges (map (λ r. r.1) retired) rest
