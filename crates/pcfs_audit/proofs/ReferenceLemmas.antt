-- What references point to, item by item.
use Rattle.std.proofs.Common.{◌≡◌, ◌<◌, ◌≤◌, ◌+◌, ℕ, List, [], ◌∷◌, ◌++◌, length, take, get_or, map, refl, sym, ap, subst, ◌∙◌, ⊎_elim, arith, Some}
use Rattle.std.specs.Prelude.{Contains}
use Rattle.std.specs.Borrow.{Bor}
use Rattle.std.specs.List.{slice_get}
use Rattle.std.proofs.lemmas.List.{get_or-map, get_or-take, length-map, length-take, map_more, map_push, take-map, take_all}
use Rattle.std.proofs.lemmas.List.Elements.{Contains-push_cases}
use Rattle.std.proofs.lemmas.Option.{slice_get_read}
use Rattle.pcfs_audit.specs.Papers.{shown}

-- an item that is read at a place is one of the list
pub Contains-read : {A : Type 0} (items : List A) (place : ℕ) (item : A) → place < length items → item ≡ get_or items place item → Contains items item
Contains-read items place item within read = (place, within, sym read)

-- an item of a list stands at some place
pub placed_item : {A : Type 0} (items : List A) (item : A) (here : Contains items item) → slice_get items here.0 ≡ Some item
placed_item items item here = slice_get_read items (length items) here.0 item refl here.1 (sym here.2)

-- there are as many of them as references
pub length-shown : {A : Type 0} (references : List (Bor A)) → length (shown references) ≡ length references
length-shown {A} references = length-map references (λ (r : Bor A). r.now)

-- one reference more
pub shown_push : {A : Type 0} (references : List (Bor A)) (reference : Bor A) → shown (references ++ reference ∷ []) ≡ shown references ++ reference.now ∷ []
shown_push {A} references reference = map_push (λ (r : Bor A). r.now) references reference

-- the first ones
pub shown_take : {A : Type 0} (references : List (Bor A)) (count : ℕ) → shown (take count references) ≡ take count (shown references)
shown_take {A} references count = sym (take-map (λ (r : Bor A). r.now) count references)

-- what a reference points to that is read at a place
pub shown_read : {A : Type 0} (references : List (Bor A)) (place : ℕ) (reference : Bor A) → place < length references → reference ≡ get_or references place reference → reference.now ≡ get_or (shown references) place reference.now
shown_read {A} references place reference within read =
    ap (λ (r : Bor A). r.now) read ∙ sym (get_or-map (λ (r : Bor A). r.now) references place reference reference.now within)

pub Contains-shown : {A : Type 0} (references : List (Bor A)) (place : ℕ) (reference : Bor A) → place < length references → reference ≡ get_or references place reference → Contains (shown references) reference.now
Contains-shown references place reference within read =
    Contains-read (shown references) place reference.now (omega (arith, within, length-shown references)) (shown_read references place reference within read)

-- it is among the first ones if its place is
pub Contains-front : {A : Type 0} (references : List (Bor A)) (count place : ℕ) (reference : Bor A) → place < length references → place < count → reference ≡ get_or references place reference → Contains (take count (shown references)) reference.now
Contains-front {A} references count place reference within before read =
    let there : place < length (take count (shown references)) = omega (arith, within, before, length-take count (shown references), length-shown references) in
    Contains-read (take count (shown references)) place reference.now there
    (shown_read references place reference within read ∙ sym (get_or-take count (shown references) place reference.now before))

-- ---- one after the other

pub among_none : {A : Type 0} (references : List (Bor A)) (item : A) → Contains (shown (take 0 references)) item → ⊥
among_none references item here = omega (arith, here.1)

pub among_more : {A : Type 0} (references : List (Bor A)) (place : ℕ) (reference : Bor A) (item : A) → place < length references → reference ≡ get_or references place reference → (reference.now ≡ item → ⊥) → (Contains (shown (take place references)) item → ⊥) →
    Contains (shown (take (place + 1) references)) item → ⊥
among_more {A} references place reference item within read other none here =
    let more : shown (take (place + 1) references) ≡ shown (take place references) ++ reference.now ∷ [] =
    map_more (λ (r : Bor A). r.now) references place reference within ∙ ap (λ (r : Bor A). shown (take place references) ++ r.now ∷ []) (sym read) in
    ⊎_elim none other (Contains-push_cases (shown (take place references)) reference.now item (subst (λ (xs : List A). Contains xs item) more here))

pub among_all : {A : Type 0} (references : List (Bor A)) (place : ℕ) (item : A) → length references ≤ place → (Contains (shown (take place references)) item → ⊥) → Contains (shown references) item → ⊥
among_all {A} references place item all none here = none (subst (λ (rs : List (Bor A)). Contains (shown rs) item) (sym (take_all place references all)) here)

-- ---- items at places

pub slice_get_front : {A : Type 0} (items : List A) (count place : ℕ) (item : A) → place < count → place < length items → get_or (take count items) place item ≡ item → slice_get items place ≡ Some item
slice_get_front items count place item before within at = slice_get_read items (length items) place item refl within (sym (sym (get_or-take count items place item before) ∙ at))

-- an item of the first ones stands at a place among them
pub record IsPlacedBefore {A : Type 0} (items : List A) (count : ℕ) (item : A) : Type 0 where
  pub place : ℕ
  pub before : place < count
  pub found : slice_get items place ≡ Some item

pub placed_before : {A : Type 0} (items : List A) (count : ℕ) (item : A) → Contains (take count items) item → IsPlacedBefore items count item
placed_before items count item here =
    let bound = length-take count items in
    let before : here.0 < count = omega (arith, here.1, bound) in
    let within : here.0 < length items = omega (arith, here.1, bound) in
    record { place = here.0; before = before; found = slice_get_front items count here.0 item before within here.2 }

-- ---- lists that a loop fills

-- references to what a function gives of the items
pub pushed_more : {A B : Type 0} (f : A → B) (items : List A) (place : ℕ) (item : A) (so_far new : List (Bor B)) (reference : Bor B) → place < length items → item ≡ get_or items place item → reference.now ≡ f item →
    shown so_far ≡ map f (take place items) → new ≡ so_far ++ reference ∷ [] → shown new ≡ map f (take (place + 1) items)
pushed_more {A} {B} f items place item so_far new reference within read points before is =
    ap shown is ∙ shown_push so_far reference ∙ ap (λ (xs : List B). xs ++ reference.now ∷ []) before ∙ ap (λ (x : B). map f (take place items) ++ x ∷ []) (points ∙ ap f read) ∙ sym (map_more f items place item within)

pub pushed_all : {A B : Type 0} (f : A → B) (items whole : List A) (place : ℕ) (so_far : List (Bor B)) → length items ≤ place → items ≡ whole → shown so_far ≡ map f (take place items) → shown so_far ≡ map f whole
pushed_all {A} f items whole place so_far all same is = is ∙ ap (λ (xs : List A). map f xs) (take_all place items all ∙ same)

-- what a function gives of what references point to
pub values_more : {A B : Type 0} (f : A → B) (references : List (Bor A)) (place : ℕ) (reference : Bor A) (so_far new : List B) (value : B) → place < length references → reference ≡ get_or references place reference → value ≡ f reference.now →
    so_far ≡ map f (shown (take place references)) → new ≡ so_far ++ value ∷ [] → new ≡ map f (shown (take (place + 1) references))
values_more {A} {B} f references place reference so_far new value within read is before pushed =
    let more : shown (take (place + 1) references) ≡ shown (take place references) ++ reference.now ∷ [] =
    map_more (λ (r : Bor A). r.now) references place reference within ∙ ap (λ (r : Bor A). shown (take place references) ++ r.now ∷ []) (sym read) in
    pushed ∙ ap (λ (xs : List B). xs ++ value ∷ []) before ∙ ap (λ (x : B). map f (shown (take place references)) ++ x ∷ []) is
    ∙ sym (ap (map f) more ∙ map_push f (shown (take place references)) reference.now)

pub values_all : {A B : Type 0} (f : A → B) (references : List (Bor A)) (place : ℕ) (so_far : List B) → length references ≤ place → so_far ≡ map f (shown (take place references)) → so_far ≡ map f (shown references)
values_all {A} f references place so_far all is = is ∙ ap (λ (rs : List (Bor A)). map f (shown rs)) (take_all place references all)

-- what a function gives of the items
pub mapped_more : {A B : Type 0} (f : A → B) (items : List A) (place : ℕ) (item : A) (so_far new : List B) (value : B) → place < length items → item ≡ get_or items place item → value ≡ f item →
    so_far ≡ map f (take place items) → new ≡ so_far ++ value ∷ [] → new ≡ map f (take (place + 1) items)
mapped_more {A} {B} f items place item so_far new value within read is before pushed =
    pushed ∙ ap (λ (xs : List B). xs ++ value ∷ []) before ∙ ap (λ (x : B). map f (take place items) ++ x ∷ []) (is ∙ ap f read) ∙ sym (map_more f items place item within)

pub mapped_all : {A B : Type 0} (f : A → B) (items whole : List A) (place : ℕ) (so_far : List B) → length items ≤ place → items ≡ whole → so_far ≡ map f (take place items) → so_far ≡ map f whole
mapped_all {A} f items whole place so_far all same is = is ∙ ap (λ (xs : List A). map f xs) (take_all place items all ∙ same)

-- one reference at the end shows one item more
pub shown_more : {A : Type 0} (references new : List (Bor A)) (reference : Bor A) (item : A) → new ≡ references ++ reference ∷ [] → reference.now ≡ item → shown new ≡ shown references ++ item ∷ []
shown_more {A} references new reference item is points = ap shown is ∙ shown_push references reference ∙ ap (λ (x : A). shown references ++ x ∷ []) points

-- a function of what references point to
pub map-shown : {A B : Type 0} (f : A → B) (references : List (Bor A)) → map (λ (r : Bor A). f r.now) references ≡ map f (shown references)
map-shown f [] = refl
map-shown {A} {B} f (reference ∷ references) = ap (λ (ys : List B). f reference.now ∷ ys) (map-shown f references)
