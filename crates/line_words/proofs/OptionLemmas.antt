-- The one value that has a property, or none where nothing has it.
use Rattle.std.proofs.Common.{◌≡◌, Option, Some, None, MatchOption, ap}

pub record IsAnswer {A : Type 0} (P : A → Type 0) (answer : Option A) : Type 0 where
  pub found : MatchOption answer ((x : A) → P x → ⊥) P
  pub only : (x : A) → P x → answer ≡ Some x

pub IsAnswer-None : {A : Type 0} (P : A → Type 0) → ((x : A) → P x → ⊥) → IsAnswer P None
IsAnswer-None P none = record { found = none; only = λ x p. absurd (none x p) }

pub IsAnswer-Some : {A : Type 0} (P : A → Type 0) (x : A) → P x → ((y : A) → P y → x ≡ y) → IsAnswer P (Some x)
IsAnswer-Some P x p unique = record { found = p; only = λ y q. ap Some (unique y q) }
