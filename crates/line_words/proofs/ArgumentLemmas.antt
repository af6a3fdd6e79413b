-- A value that was read goes to its field; without one the word is not of the kind.
use Rattle.std.proofs.Common.{◌≡◌, Bool, true, false, Option, Some, None, MatchOption, IsTrue, sym, subst, ◌∙◌}
use Rattle.std.specs.Prelude.{IfSome, IfNone}
use Rattle.std.proofs.lemmas.Bool.{false≢true}

pub put_found : {A : Type 0} (P : A → Type 0) (value : Option A) (done : Bool) (field : A) → MatchOption value ((x : A) → P x → ⊥) P → IfSome value (λ x. (done ≡ true) × (field ≡ x)) → IfNone value (done ≡ false)
    → IsTrue done → P field
put_found P None done field none found outside fits = absurd (false≢true (sym outside ∙ fits))
put_found P (Some x) done field is found outside fits = subst P (sym found.1) is

pub put_outside : {A : Type 0} (P : A → Type 0) (value : Option A) (done : Bool) (field : A) → MatchOption value ((x : A) → P x → ⊥) P → IfSome value (λ x. (done ≡ true) × (field ≡ x)) → IfNone value (done ≡ false)
    → done ≡ false → (x : A) → P x → ⊥
put_outside P None done field none found outside not_done = none
put_outside P (Some x) done field is found outside not_done = absurd (false≢true (sym not_done ∙ found.0))
