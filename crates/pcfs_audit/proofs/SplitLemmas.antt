-- Where a list is parted in two ways.
use Rattle.std.proofs.Common.{◌≡◌, ◌⊎◌, List, [], ◌∷◌, ◌++◌, length, refl, sym, ap, ◌∙◌, inl, inr, ⊎_elim, arith}
use Rattle.std.proofs.lemmas.List.{append-nil, length-append}

-- the item stands in the first part
pub record IsWithin {A : Type 0} (earlier : List A) (item : A) (rest first second : List A) : Type 0 where
  pub more : List A
  pub first_is : first ≡ earlier ++ item ∷ more
  pub rest_is : rest ≡ more ++ second

-- the item stands in the second part
pub record IsPast {A : Type 0} (earlier : List A) (item : A) (rest first second : List A) : Type 0 where
  pub more : List A
  pub earlier_is : earlier ≡ first ++ more
  pub second_is : second ≡ more ++ item ∷ rest

-- an item of two parts stands in one of them
pub parted : {A : Type 0} (earlier : List A) (item : A) (rest first second : List A) → earlier ++ item ∷ rest ≡ first ++ second → IsWithin earlier item rest first second ⊎ IsPast earlier item rest first second
parted {A} [] item rest [] second same = inr (record { more = []; earlier_is = refl; second_is = sym same })
parted {A} [] item rest (x ∷ first) second same =
    let head : item ≡ x = cc in
    let tail : rest ≡ first ++ second = cc in
    inl (record { more = first; first_is = ap (λ (y : A). y ∷ first) (sym head); rest_is = tail })
parted {A} (x ∷ earlier) item rest [] second same = inr (record { more = x ∷ earlier; earlier_is = refl; second_is = sym same })
parted {A} (x ∷ earlier) item rest (y ∷ first) second same =
    let head : x ≡ y = cc in
    let tails : earlier ++ item ∷ rest ≡ first ++ second = cc in
    ⊎_elim
    (λ within.
    inl (record { more = within.more; first_is = ap (λ (z : A). z ∷ first) (sym head) ∙ ap (λ (zs : List A). x ∷ zs) within.first_is; rest_is = within.rest_is }))
    (λ past. inr (record { more = past.more; earlier_is = ap (λ (z : A). z ∷ earlier) head ∙ ap (λ (zs : List A). y ∷ zs) past.earlier_is; second_is = past.second_is }))
    (parted earlier item rest first second tails)

-- no item is in an empty list
pub nothing_parted : {A : Type 0} (earlier : List A) (item : A) (later : List A) → [] ≡ earlier ++ item ∷ later → ⊥
nothing_parted earlier item later same = omega (arith, ap length same, length-append earlier (item ∷ later))

only : {A : Type 0} (earlier : List A) (item : A) (rest first : List A) (last : A) (more : List A) → earlier ≡ first ++ more → last ∷ [] ≡ more ++ item ∷ rest → (earlier ≡ first) × (item ≡ last)
only earlier item rest first last [] earlier_is second_is = let head : item ≡ last = cc in (earlier_is ∙ append-nil first, head)
only earlier item rest first last (x ∷ more) earlier_is second_is = let tail : [] ≡ more ++ item ∷ rest = cc in absurd (nothing_parted more item rest tail)

-- the second part has one item, and it is this one
pub past_one : {A : Type 0} (earlier : List A) (item : A) (rest first : List A) (last : A) → IsPast earlier item rest first (last ∷ []) → (earlier ≡ first) × (item ≡ last)
past_one earlier item rest first last past = only earlier item rest first last past.more past.earlier_is past.second_is
