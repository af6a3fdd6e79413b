-- The tests of the names in a procap, and the first test that fails (this project's own).
use Rattle.std.specs.Prelude.{ℕ, List, [], ◌∷◌}
use Rattle.bl_syntax.specs.FirstFailing.{IsFirstFailing}
use Rattle.access_history.specs.declared.reply.DenialCause.{DenialCause}
use Rattle.access_history.specs.declared.reply.DenialCause.TheVariants as causes

-- the item is the first of these that lacks the property, wherever it stands
abbrev pub FailsAt : {A : Type 0} → (A → Type 0) → List A → A → Type 0
FailsAt P items item = (place : ℕ) × IsFirstFailing P items place item

-- the tests of the names in a grant
abbrev pub name_checks : List DenialCause
name_checks = causes.Principal ∷ causes.File ∷ causes.Permission ∷ []
