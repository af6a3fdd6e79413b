-- Lists whose items are the same at each place.
use Rattle.std.proofs.Common.{◌≡◌, ℕ, suc, List, [], ◌∷◌, length, refl, sym, ap, ◌∙◌, arith, Some}
use Rattle.std.specs.List.{slice_get}
use Rattle.std.proofs.lemmas.Option.{same_Some}

pub same_items : {A : Type 0} (items all : List A) → length all ≡ length items → ((place : ℕ) (item : A) → slice_get all place ≡ Some item → slice_get items place ≡ Some item) → all ≡ items
same_items [] [] counted each = refl
same_items [] (one ∷ all) counted each = absurd (omega (arith, counted))
same_items (item ∷ items) [] counted each = absurd (omega (arith, counted))
same_items {A} (item ∷ items) (one ∷ all) counted each =
    let more : length all ≡ length items = omega (arith, counted) in
    ap (λ (a : A). a ∷ all) (sym (same_Some item one (each 0 one refl))) ∙ ap (λ (rest : List A). item ∷ rest) (same_items items all more (λ place it found. each (suc place) it found))
