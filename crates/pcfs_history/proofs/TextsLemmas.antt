-- The texts of items, one after the other.
use Rattle.std.proofs.Common.{◌≡◌, ◌<◌, ◌≤◌, ℕ, zero, suc, List, [], ◌∷◌, ◌++◌, length, take, get_or, refl, sym, ap, subst, ◌∙◌, append_assoc, arith, Option, Some}
use Rattle.std.specs.List.{flat_map, slice_get}
use Rattle.std.proofs.lemmas.List.{append-nil, take_all}
use Rattle.std.proofs.lemmas.Option.{none-some, same_Some, slice_get_read}
use Rattle.pcfs_ports.specs.Observable.{HoldsSome}
use Rattle.pcfs_history.specs.Outbox.{GoesOut}
use Rattle.pcfs_history.proofs.OutboxLemmas.{GoesOut-more, GoesOut-part, GoesOut-some, HoldsSome-of}

module _ {A : Type 0} (text : A → List ℕ) where
  texts_next : (items : List A) (place : ℕ) (item : A) → slice_get items place ≡ Some item → flat_map text (take (suc place) items) ≡ flat_map text (take place items) ++ text item
  texts_next [] place item found = absurd (none-some _ found)
  texts_next (first ∷ items) zero item found = append-nil (text first) ∙ ap text (same_Some _ _ found)
  texts_next (first ∷ items) (suc place) item found =
      ap (λ (rest : List ℕ). text first ++ rest) (texts_next items place item found) ∙ sym (append_assoc (text first) (flat_map text (take place items)) (text item))

  -- the texts begin with those of the first items
  texts_parts : (items : List A) (place : ℕ) → (rest : List ℕ) × (flat_map text items ≡ flat_map text (take place items) ++ rest)
  texts_parts [] zero = ([], refl)
  texts_parts [] (suc place) = ([], refl)
  texts_parts (first ∷ items) zero = (flat_map text (first ∷ items), refl)
  texts_parts (first ∷ items) (suc place) =
      let parts = texts_parts items place in
      (parts.0, ap (λ (texts : List ℕ). text first ++ texts) parts.1 ∙ sym (append_assoc (text first) (flat_map text (take place items)) parts.0))

  module _ (items : List A) (start : Option (List ℕ)) where
    -- what is on its way after one item more
    pub texts_written : (held new : Option (List ℕ)) (place next : ℕ) (item : A) (made after : List ℕ) → place < length items → next ≡ suc place → item ≡ get_or items place item →
        GoesOut start (flat_map text (take place items)) held made → GoesOut held (made ++ text item) new after → GoesOut start (flat_map text (take next items)) new after
    texts_written held new place next item made after below next_is read so_far more =
        let found : slice_get items place ≡ Some item = slice_get_read items (length items) place item refl below read in
        subst (λ (n : ℕ). GoesOut start (flat_map text (take n items)) new after) (sym next_is)
        (subst (λ (bytes : List ℕ). GoesOut start bytes new after) (sym (texts_next items place item found)) (GoesOut-more start held new (flat_map text (take place items)) made (text item) after so_far more))

    -- the next text was cut
    pub texts_cut : (held new : Option (List ℕ)) (place : ℕ) (item : A) (made : List ℕ) → place < length items → item ≡ get_or items place item →
        GoesOut start (flat_map text (take place items)) held made → HoldsSome held new (made ++ text item) → HoldsSome start new (flat_map text items)
    texts_cut held new place item made below read so_far some =
        let found : slice_get items place ≡ Some item = slice_get_read items (length items) place item refl below read in
        let parts = texts_parts items (suc place) in
        HoldsSome-of start new (flat_map text (take place items) ++ text item) parts.0 (flat_map text items) (parts.1 ∙ ap (λ (bytes : List ℕ). bytes ++ parts.0) (texts_next items place item found))
        (GoesOut-some start held new (flat_map text (take place items)) made (text item) so_far some)

    -- at last some first part of what was left is out
    pub texts_part : (held new : Option (List ℕ)) (place : ℕ) (made : List ℕ) → length items ≤ place → GoesOut start (flat_map text (take place items)) held made → HoldsSome held new made → HoldsSome start new (flat_map text items)
    texts_part held new place made past so_far some =
        subst (λ (xs : List A). HoldsSome start new (flat_map text xs)) (take_all place items past) (GoesOut-part start held new (flat_map text (take place items)) made so_far some)

-- an item that was read with something else for what is not there
pub read_again : {A : Type 0} (items : List A) (place : ℕ) (other : A) → place < length items → get_or items place other ≡ get_or items place (get_or items place other)
read_again [] place other below = absurd (omega (arith, below))
read_again (item ∷ items) zero other below = refl
read_again (item ∷ items) (suc place) other below = read_again items place other (omega (arith, below))
