-- Items by their numbers, and the first item that lacks a property.
use Rattle.std.proofs.Common.{◌≡◌, ◌≤◌, ◌<◌, ◌-◌, ℕ, zero, suc, Some, List, [], ◌∷◌, ◌++◌, length, get_or, refl, sym, ◌∙◌, ap, subst, arith}
use Rattle.std.specs.Prelude.{Contains}
use Rattle.std.specs.List.{AllByRecursion, slice_get}
use Rattle.std.proofs.lemmas.List.Elements.{Contains-append_right}
use Rattle.std.proofs.lemmas.Option.{slice_get_read, slice_get_within, get_or_from_slice_get}
use Rattle.bl_syntax.specs.FirstFailing.{IsFirstFailing}
use Rattle.bl_syntax.specs.Grant.{AreDistinct}
use Rattle.access_history.specs.Numbered.{IsNumbered, HasNone, HasNumber}
use Rattle.bl_syntax.proofs.GrantLemmas.{Contains-head}
use Rattle.access_history.proofs.ListLemmas.{AllByRecursion-contains}

Contains-from_get : {A : Type 0} (items : List A) (place : ℕ) (item : A) → slice_get items place ≡ Some item → Contains items item
Contains-from_get items place item found = (place, slice_get_within items place item found, get_or_from_slice_get items place item item found)

pub Contains-numbered : {A : Type 0} (items : List A) (number : ℕ) (item : A) → IsNumbered items number item → Contains items item
Contains-numbered items number item numbered = Contains-from_get items numbered.place item numbered.found

-- an item's number is one that the list has
pub HasNumber-item : {A : Type 0} (items : List A) (number : ℕ) (item : A) → IsNumbered items number item → HasNumber items number
HasNumber-item items number item numbered =
    let within = slice_get_within items numbered.place item numbered.found in
    (omega (arith, numbered.from_one), omega (arith, within, numbered.from_one))

-- the item before the place of that number
pub numbered_at : {A : Type 0} (items : List A) (number : ℕ) (item : A) → (number ≡ 0 → ⊥) → slice_get items (number - 1) ≡ Some item → IsNumbered items number item
numbered_at items number item some found = record { place = number - 1; from_one = omega (arith, some); found = found }

-- no item has the number 0
pub no_zero : {A : Type 0} (items : List A) (number : ℕ) → number ≡ 0 → HasNumber items number → ⊥
no_zero items number none has = omega (arith, none, has.0)

-- no item has a number beyond the last
pub none_beyond : {A : Type 0} (items shown : List A) (number : ℕ) → shown ≡ items → length shown < number → HasNumber items number → ⊥
none_beyond items shown number same more has = omega (arith, more, has.1, ap length same)

-- the item that was read
pub numbered_in : {A : Type 0} (items shown : List A) (number : ℕ) (item : A) → shown ≡ items → (number ≡ 0 → ⊥) → number ≤ length shown → item ≡ get_or shown (number - 1) item → IsNumbered items number item
numbered_in {A} items shown number item same some within at =
    numbered_at items number item some (subst (λ (xs : List A). slice_get xs (number - 1) ≡ Some item) same (slice_get_read shown (length shown) (number - 1) item refl (omega (arith, some, within)) at))

-- a number that the list has not has no item
pub none_of_number : {A : Type 0} (items : List A) (number : ℕ) → (HasNumber items number → ⊥) → HasNone items number
none_of_number items number none item numbered = none (HasNumber-item items number item numbered)

-- a number has one item
pub numbered_item : {A : Type 0} (items : List A) (number : ℕ) (first second : A) → IsNumbered items number first → IsNumbered items number second → first ≡ second
numbered_item items number first second one other =
    let place : one.place ≡ other.place = omega (arith, one.from_one, other.from_one) in
    let found : Some first ≡ Some second = sym one.found ∙ (ap (slice_get items) place ∙ other.found) in
    cc

distinct_place : {A : Type 0} (items : List A) (i j : ℕ) (item : A) → AreDistinct items → slice_get items i ≡ Some item → slice_get items j ≡ Some item → i ≡ j
distinct_place [] i j item distinct one other = cc
distinct_place (x ∷ xs) zero zero item distinct one other = refl
distinct_place (x ∷ xs) zero (suc j) item distinct one other =
    let same : item ≡ x = cc in absurd (distinct.0 (subst (Contains xs) same (Contains-from_get xs j item other)))
distinct_place (x ∷ xs) (suc i) zero item distinct one other =
    let same : item ≡ x = cc in absurd (distinct.0 (subst (Contains xs) same (Contains-from_get xs i item one)))
distinct_place (x ∷ xs) (suc i) (suc j) item distinct one other = ap suc (distinct_place xs i j item distinct.1 one other)

-- if no two items are the same, an item has one number
pub distinct_number : {A : Type 0} (items : List A) (first second : ℕ) (item : A) → AreDistinct items → IsNumbered items first item → IsNumbered items second item → first ≡ second
distinct_number items first second item distinct one other =
    let place : one.place ≡ other.place = distinct_place items one.place other.place item distinct one.found other.found in
    omega (arith, one.from_one, other.from_one)

-- the first item that lacks the property is one of the list
pub Contains-failing : {A : Type 0} (P : A → Type 0) (items : List A) (place : ℕ) (item : A) → IsFirstFailing P items place item → Contains items item
Contains-failing P items place item first = rw first.parts (Contains-append_right first.before (item ∷ first.behind) item (Contains-head item item first.behind refl))

-- if each item has the property, there is no first one that lacks it
pub none_fails : {A : Type 0} (P : A → Type 0) (items : List A) (place : ℕ) (item : A) → AllByRecursion P items → IsFirstFailing P items place item → ⊥
none_fails P items place item all first = first.fails (AllByRecursion-contains P items item all (Contains-failing P items place item first))

same_split : {A : Type 0} (P : A → Type 0) (before before' : List A) (x y : A) (behind behind' : List A)
    → before ++ x ∷ behind ≡ before' ++ y ∷ behind' → AllByRecursion P before → AllByRecursion P before' → (P x → ⊥) → (P y → ⊥)
    → (length before ≡ length before') × (x ≡ y)
same_split P [] [] x y behind behind' same all all' fails fails' = (refl, cc)
same_split P [] (w ∷ ws) x y behind behind' same all all' fails fails' =
    let head : w ≡ x = cc in absurd (fails (subst P head all'.0))
same_split P (z ∷ zs) [] x y behind behind' same all all' fails fails' =
    let head : z ≡ y = cc in absurd (fails' (subst P head all.0))
same_split P (z ∷ zs) (w ∷ ws) x y behind behind' same all all' fails fails' =
    let tails : zs ++ x ∷ behind ≡ ws ++ y ∷ behind' = cc in
    let rest = same_split P zs ws x y behind behind' tails all.1 all'.1 fails fails' in
    (ap suc rest.0, rest.1)

-- there is one first item that lacks the property
pub first_failing : {A : Type 0} (P : A → Type 0) (items : List A) (i j : ℕ) (x y : A) → IsFirstFailing P items i x → IsFirstFailing P items j y → (i ≡ j) × (x ≡ y)
first_failing P items i j x y one other =
    let same = same_split P one.before other.before x y one.behind other.behind (sym one.parts ∙ other.parts) one.holds_before other.holds_before one.fails other.fails in
    (one.place_is ∙ (same.0 ∙ sym other.place_is), same.1)
