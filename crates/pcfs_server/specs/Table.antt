-- The table of the threads that attend. This project's own.
use Rattle.std.specs.Prelude.{◌≡◌, ℕ, Some}
use Rattle.slab.specs.Slab.{Slab, get}

-- each value of the table has this
abbrev pub AllHave : {T : Type 0} → (T → Type 0) → Slab T → Type 0
AllHave P table = (key : ℕ) (value : _) → get table key ≡ Some value → P value
