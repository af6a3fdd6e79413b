-- Numbers that passes note. This project's own.
use Rattle.std.specs.Prelude.{◌≡◌, ℕ, zero, suc, List, [], ◌∷◌, ◌++◌, Bool, true, MatchBool}
use Rattle.std.specs.List.{AllByRecursion}
use Rattle.atomic_table.specs.Seated.{TableId}
use Rattle.tree_lock.specs.Seen.{PassView, Retired}

-- a number was noted, or there was no memory
abbrev pub Noted : ℕ → ℕ → List (ℕ × ℕ) → List (ℕ × ℕ) → Bool → Type 0
Noted pass number before after result = MatchBool result (after ≡ before ++ (pass, number) ∷ []) (after ≡ before)

-- what a pass notes that counts so far, from 0 on
abbrev pub count_so_far : ℕ → ℕ → List (ℕ × ℕ)
count_so_far pass zero = []
count_so_far pass (suc n) = count_so_far pass n ++ (pass, n) ∷ []

-- the pass is of this lock, and has had no turn
abbrev pub IsNewPass : TableId → PassView ℕ → Type 0
IsNewPass lock pass = (pass.lock ≡ lock) × (pass.own ≡ [])

-- the pass is of this lock, and has counted, if there was memory
abbrev pub HasCounted : TableId → ℕ → PassView ℕ × Bool → Type 0
HasCounted lock count turned = (turned.0.lock ≡ lock) ×
    (turned.1 ≡ true → turned.0.own ≡ count_so_far turned.0.number count)

-- the passes that were taken in have counted
abbrev pub HaveCounted : ℕ → List (Retired ℕ) → Type 0
HaveCounted count retired = AllByRecursion (λ r. r.1 ≡ count_so_far r.0 count) retired
