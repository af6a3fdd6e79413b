-- A list with one thing more, and the map of the places of its things.
use Rattle.std.proofs.Common.{◌≡◌, ◌⊎◌, inl, inr, ℕ, zero, suc, Bool, true, false, cond, Option, Some, None, MatchOption, List, [], ◌∷◌, ◌++◌, length, IsTrue, is_some, refl, sym, ap, ◌∙◌, subst, ⊎_elim, arith}
use Rattle.std.specs.Prelude.{Contains}
use Rattle.std.specs.List.{slice_get}
use Rattle.std.specs.Map.{lookup}
use Rattle.std.specs.BTreeMap.{is_at}
use Rattle.std.specs.Cmp.{IsTotalOrder}
use Rattle.std.specs.declared.cmp.Ordering.{Ordering}
use Rattle.std.specs.Ordering.{is_eq}
use Rattle.std.specs.declared.cmp.Ordering.TheVariants.{Less, Equal, Greater}
use Rattle.std.proofs.lemmas.Bool.{false≢true}
use Rattle.std.proofs.lemmas.Cmp.{tied_itself}
use Rattle.std.proofs.lemmas.Map.Lookups.{CmpEqualImpliesEq}
use Rattle.std.proofs.lemmas.Option.{slice_get_within, slice_get_read, get_or_from_slice_get}
use Rattle.std.proofs.lemmas.List.Elements.{Contains-push_cases}
use Rattle.mode_policy.specs.Places.{IsPlaceOf, ArePlacesOf}

pub get-push : {X : Type 0} (xs : List X) (x : X) → slice_get (xs ++ x ∷ []) (length xs) ≡ Some x
get-push [] x = refl
get-push (y ∷ ys) x = get-push ys x

pub get-push_old : {X : Type 0} (xs : List X) (x y : X) (i : ℕ) → slice_get xs i ≡ Some y → slice_get (xs ++ x ∷ []) i ≡ Some y
get-push_old [] x y i h = absurd (let none : None ≡ Some y = h in cc)
get-push_old (z ∷ zs) x y zero h = h
get-push_old (z ∷ zs) x y (suc i) h = get-push_old zs x y i h

pub get-push_cases : {X : Type 0} (xs : List X) (x y : X) (i : ℕ) → slice_get (xs ++ x ∷ []) i ≡ Some y → (slice_get xs i ≡ Some y) ⊎ ((i ≡ length xs) × (x ≡ y))
get-push_cases [] x y zero h = inr (refl, cc)
get-push_cases [] x y (suc i) h = absurd (let none : None ≡ Some y = h in cc)
get-push_cases (z ∷ zs) x y zero h = inl h
get-push_cases (z ∷ zs) x y (suc i) h = ⊎_elim inl (λ last. inr (ap suc last.0, last.1)) (get-push_cases zs x y i h)

pub Contains-get : {X : Type 0} (xs : List X) (i : ℕ) (x : X) → slice_get xs i ≡ Some x → Contains xs x
Contains-get xs i x h = (i, slice_get_within xs i x h, get_or_from_slice_get xs i x x h)

pub get-Contains : {X : Type 0} (xs : List X) (x : X) (h : Contains xs x) → slice_get xs h.0 ≡ Some x
get-Contains xs x h = slice_get_read xs (length xs) h.0 x refl h.1 (sym h.2)

pub ArePlacesOf-none : {X : Type 0} (cmp : X → X → Ordering) → ArePlacesOf cmp [] []
ArePlacesOf-none cmp x = λ h. omega (arith, h.1)

equal : (o : Ordering) → is_eq o ≡ true → o ≡ Equal
equal Less h = absurd (false≢true h)
equal Equal h = refl
equal Greater h = absurd (false≢true h)

-- a new thing is at the end alone
pub IsPlaceOf-push : {X : Type 0} (things : List X) (x : X) → (Contains things x → ⊥) → IsPlaceOf (things ++ x ∷ []) x (length things)
IsPlaceOf-push things x none = record {
  here = get-push things x;
  only = λ other h. ⊎_elim (λ old. absurd (none (Contains-get things other x old))) (λ last. last.0) (get-push_cases things x x other h);
}

module _ {X : Type 0} (cmp : X → X → Ordering) (total : IsTotalOrder cmp) (exact : CmpEqualImpliesEq cmp) (things : List X) (x : X) where
  -- another thing is where it was
  where_it_was : (q : X) (place : ℕ) → (x ≡ q → ⊥) → IsPlaceOf things q place → IsPlaceOf (things ++ x ∷ []) q place
  where_it_was q place apart at = record {
    here = get-push_old things x q place at.here;
    only = λ other h. ⊎_elim (λ old. at.only other old) (λ last. absurd (apart last.1)) (get-push_cases things x q other h);
  }

  apart_from : (q : X) → is_at (cmp x) q ≡ false → x ≡ q → ⊥
  apart_from q h same = false≢true (sym h ∙ ap (λ (y : X). is_at (cmp x) y) (sym same) ∙ ap is_eq (tied_itself total x))

  was : (q : X) (old : Option ℕ) → (x ≡ q → ⊥) → MatchOption old (Contains things q → ⊥) (IsPlaceOf things q) → MatchOption old (Contains (things ++ x ∷ []) q → ⊥) (IsPlaceOf (things ++ x ∷ []) q)
  was q None apart none = λ h. ⊎_elim none apart (Contains-push_cases things x q h)
  was q (Some place) apart at = where_it_was q place apart at

  found : (q : X) (hit : Bool) (old new : Option ℕ) → is_at (cmp x) q ≡ hit → new ≡ cond hit (Some (length things)) old → (Contains things x → ⊥)
      → MatchOption old (Contains things q → ⊥) (IsPlaceOf things q) → MatchOption new (Contains (things ++ x ∷ []) q → ⊥) (IsPlaceOf (things ++ x ∷ []) q)
  found q true old new hit new_is none h =
      let same : x ≡ q = exact x q (equal (cmp x q) hit) in
      let at : IsPlaceOf (things ++ x ∷ []) q (length things) = subst (λ (y : X). IsPlaceOf (things ++ x ∷ []) y (length things)) same (IsPlaceOf-push things x none) in
      subst (λ (o : Option ℕ). MatchOption o (Contains (things ++ x ∷ []) q → ⊥) (IsPlaceOf (things ++ x ∷ []) q)) (sym new_is) at
  found q false old new miss new_is none h =
      subst (λ (o : Option ℕ). MatchOption o (Contains (things ++ x ∷ []) q → ⊥) (IsPlaceOf (things ++ x ∷ []) q)) (sym new_is) (was q old (apart_from q miss) h)

  pub ArePlacesOf-push : (entries more : List (X × ℕ)) → (Contains things x → ⊥) → ((q : X) → lookup (is_at (cmp q)) more ≡ cond (is_at (cmp x) q) (Some (length things)) (lookup (is_at (cmp q)) entries))
      → ArePlacesOf cmp entries things → ArePlacesOf cmp more (things ++ x ∷ [])
  ArePlacesOf-push entries more none updates places q = found q (is_at (cmp x) q) (lookup (is_at (cmp q)) entries) (lookup (is_at (cmp q)) more) refl (updates q) none (places q)

-- whether a thing is there, by the map
pub has_place : {X : Type 0} (things : List X) (x : X) (found : Option ℕ) (r : Bool) → r ≡ is_some found → MatchOption found (Contains things x → ⊥) (IsPlaceOf things x)
    → (IsTrue r → Contains things x) × (Contains things x → IsTrue r)
has_place things x None r r_is none = (λ h. absurd (false≢true (sym r_is ∙ h)), λ h. absurd (none h))
has_place things x (Some place) r r_is at = (λ _. Contains-get things place x at.here, λ _. r_is)

-- the things of a list with places differ
pub places_differ : {X : Type 0} (things : List X) (x : X) (found : Option ℕ) (i j : ℕ) → MatchOption found (Contains things x → ⊥) (IsPlaceOf things x) → slice_get things i ≡ Some x → slice_get things j ≡ Some x → i ≡ j
places_differ things x None i j none h k = absurd (none (Contains-get things i x h))
places_differ things x (Some place) i j at h k = at.only i h ∙ sym (at.only j k)
