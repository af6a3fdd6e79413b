-- What holds of each item of a list, and what a list contains.
use Rattle.std.proofs.Common.{◌≡◌, List, [], ◌∷◌, ◌++◌, refl, ap, ◌⊎◌, inl, inr, ⊎_elim, map, arith}
use Rattle.std.specs.Prelude.{Contains}
use Rattle.std.specs.List.{AllByRecursion}
use Rattle.std.proofs.lemmas.List.Elements.{All-from_recursion, All-contains, Contains-append_cases, Contains-append_right, Contains-push_cases}
use Rattle.bl_syntax.proofs.GrantLemmas.{Contains-head}

pub AllByRecursion-weaker : {X : Type 0} (P Q : X → Type 0) (xs : List X) → ((x : X) → P x → Q x) → AllByRecursion P xs → AllByRecursion Q xs
AllByRecursion-weaker P Q [] weaker all = tt
AllByRecursion-weaker P Q (x ∷ xs) weaker all = (weaker x all.0, AllByRecursion-weaker P Q xs weaker all.1)

pub AllByRecursion-contains : {X : Type 0} (P : X → Type 0) (xs : List X) (x : X) → AllByRecursion P xs → Contains xs x → P x
AllByRecursion-contains P xs x all = All-contains P xs x (All-from_recursion P xs all)

-- what a list contains is its head or in its tail
pub Contains-cons_cases : {X : Type 0} (x : X) (xs : List X) (y : X) → Contains (x ∷ xs) y → (x ≡ y) ⊎ Contains xs y
Contains-cons_cases x xs y here =
    ⊎_elim (λ front. ⊎_elim (λ none. absurd (omega (arith, none.1))) (λ same. inl same) (Contains-push_cases [] x y front)) (λ behind. inr behind) (Contains-append_cases (x ∷ []) xs y here)

-- what holds of each item of two lists holds of the items of either
pub AllByRecursion-parts : {X : Type 0} (P : X → Type 0) (xs ys : List X) → AllByRecursion P (xs ++ ys) → AllByRecursion P xs × AllByRecursion P ys
AllByRecursion-parts P [] ys all = (tt, all)
AllByRecursion-parts P (x ∷ xs) ys all = let rest = AllByRecursion-parts P xs ys all.1 in ((all.0, rest.0), rest.1)

-- an item of a list whose image is this
pub record IsImage {X Y : Type 0} (f : X → Y) (xs : List X) (y : Y) : Type 0 where
  pub item : X
  pub contained : Contains xs item
  pub same : f item ≡ y

pub IsImage-from_map : {X Y : Type 0} (f : X → Y) (xs : List X) (y : Y) → Contains (map f xs) y → IsImage f xs y
IsImage-from_map f [] y here = absurd (omega (arith, here.1))
IsImage-from_map f (x ∷ xs) y here =
    ⊎_elim (λ same. record { item = x; contained = Contains-head x x xs refl; same = same })
    (λ behind. let image = IsImage-from_map f xs y behind in record { item = image.item; contained = Contains-append_right (x ∷ []) xs image.item image.contained; same = image.same })
    (Contains-cons_cases (f x) (map f xs) y here)

-- the image of an item is one of the images
pub Contains-image : {X Y : Type 0} (f : X → Y) (xs : List X) (x : X) → Contains xs x → Contains (map f xs) (f x)
Contains-image f [] x here = absurd (omega (arith, here.1))
Contains-image f (y ∷ xs) x here =
    ⊎_elim (λ same. Contains-head (f x) (f y) (map f xs) (ap f same)) (λ behind. Contains-append_right (f y ∷ []) (map f xs) (f x) (Contains-image f xs x behind)) (Contains-cons_cases y xs x here)
