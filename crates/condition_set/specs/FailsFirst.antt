-- The place of the first condition that fails (this project's own).
use Rattle.std.specs.Prelude.{ℕ, List}
use Rattle.bl_syntax.specs.FirstFailing.{IsFirstFailing}

-- the item at that place, from 0, lacks the property, and each one before it has it
abbrev pub FailsFirst : {A : Type 0} → (A → Type 0) → List A → ℕ → Type 0
FailsFirst {A} P items place = (item : A) × IsFirstFailing P items place item
