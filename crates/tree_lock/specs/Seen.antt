-- What contracts see of a pass and of a doorman. This project's own.
use Rattle.std.specs.Prelude.{◌≡◌, ℕ, ◌+◌, ◌-◌, ◌^◌, ◌≤◌, min, List, map, eqb}
use Rattle.std.specs.List.{AllByRecursion, IsDistinct}
use Rattle.atomic_table.specs.Seated.{TableId}
use Rattle.tree_lock.specs.Entries.{of_number}

pub record PassView (E : Type 0) : Type 0 where
  -- the lock that made it
  pub lock : TableId
  pub number : ℕ
  -- a beginning of the history
  pub seen : List (ℕ × E)
  -- the entries that its own jobs appended
  pub own : List (ℕ × E)
  -- how many turns it took, up to 2 ^ 64 - 1
  pub turns : ℕ

-- one turn more
abbrev pub one_more : ℕ → ℕ
one_more turns = min (turns + 1) (2 ^ 64 - 1)

-- a pass's number, and the entries that its own jobs appended
abbrev pub Retired : Type 0 → Type 0
Retired E = ℕ × List (ℕ × E)

pub record DoormanView (E : Type 0) : Type 0 where
  -- the lock whose doorman it is
  pub lock : TableId
  -- a beginning of the history
  pub seen : List (ℕ × E)
  -- the entries that the value had at first
  pub opening : List (ℕ × E)
  -- how many numbers were made
  pub made : ℕ
  -- how many passes were made and not retired
  pub out : ℕ
  -- the passes that were retired, the last one first
  pub retired : List (Retired E)

module _ {E : Type 0} where
  -- the numbers of retired passes differ, and are from 1 to the count of those that were made
  pub record AreNumbers (made : ℕ) (retired : List (Retired E)) : Type 0 where
    pub distinct : IsDistinct eqb (map (λ r. r.0) retired)
    pub within : AllByRecursion (λ r. (1 ≤ r.0) × (r.0 ≤ made)) retired

  -- of each retired pass, the entries under its number are those that its own jobs appended
  abbrev pub AreOwn : List (ℕ × E) → List (Retired E) → Type 0
  AreOwn history retired = AllByRecursion (λ r. of_number r.0 history ≡ r.1) retired
