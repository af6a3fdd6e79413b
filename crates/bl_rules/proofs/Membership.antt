-- What is in a list, and which hypotheses are claims.
use Rattle.std.proofs.Common.{◌≡◌, ◌⊎◌, inl, inr, List, [], ◌∷◌, ◌++◌, map, refl, ap, sym, subst, ⊎_elim, arith}
use Rattle.std.specs.Prelude.{Contains}
use Rattle.std.proofs.lemmas.List.Elements.{Contains-append_right, Contains-append_left, Contains-append_cases, Contains-push, Contains-push_cases}
use Rattle.bl_rules.specs.Richer.{Includes}
use Rattle.bl_rules.specs.Sequent.{Hypothesis, holds, claims, claims_among}

pub Contains-nothing : {X : Type 0} (x : X) → Contains [] x → ⊥
Contains-nothing x h = omega (arith, h.1)

pub Contains-head : {X : Type 0} (x y : X) (ys : List X) → y ≡ x → Contains (y ∷ ys) x
Contains-head x y ys same = (0, omega arith, same)

pub Contains-tail : {X : Type 0} (x y : X) (ys : List X) → Contains ys x → Contains (y ∷ ys) x
Contains-tail x y ys h = Contains-append_right (y ∷ []) ys x h

pub Contains-cons_cases : {X : Type 0} (x y : X) (ys : List X) → Contains (y ∷ ys) x → (y ≡ x) ⊎ Contains ys x
Contains-cons_cases x y ys h =
    ⊎_elim (λ one. ⊎_elim (λ none. absurd (Contains-nothing x none)) inl (Contains-push_cases [] y x one)) inr (Contains-append_cases (y ∷ []) ys x h)

pub Contains-map : {X Y : Type 0} (f : X → Y) (xs : List X) (x : X) → Contains xs x → Contains (map f xs) (f x)
Contains-map f [] x h = absurd (Contains-nothing x h)
Contains-map f (y ∷ ys) x h = ⊎_elim
    (λ same. Contains-head (f x) (f y) (map f ys) (ap f same))
    (λ later. Contains-tail (f x) (f y) (map f ys) (Contains-map f ys x later))
    (Contains-cons_cases x y ys h)

-- what is in a list that was changed item by item was an item of the old one
pub Contains-map_cases : {X Y : Type 0} (f : X → Y) (xs : List X) (y : Y) → Contains (map f xs) y → (x : X) × Contains xs x × (f x ≡ y)
Contains-map_cases f [] y h = absurd (Contains-nothing y h)
Contains-map_cases f (x ∷ xs) y h = ⊎_elim
    (λ same. (x, Contains-head x x xs refl, same))
    (λ later. let rest = Contains-map_cases f xs y later in (rest.0, Contains-tail rest.0 x xs rest.1, rest.2))
    (Contains-cons_cases y (f x) (map f xs) h)

pub Includes-push : {X : Type 0} (larger smaller : List X) (x : X) → Includes larger smaller → Includes (larger ++ x ∷ []) (smaller ++ x ∷ [])
Includes-push larger smaller x includes y h = ⊎_elim
    (λ (old : Contains smaller y). Contains-append_left larger (x ∷ []) y (includes y old))
    (λ (new : x ≡ y). subst (λ z. Contains (larger ++ x ∷ []) z) new (Contains-push larger x))
    (Contains-push_cases smaller x y h)

abbrev pub IsClaim : Hypothesis → Type 0
IsClaim (holds a u v) = ⊥
IsClaim (claims k a u v) = Unit {0}

pub Contains-claims_among : (hypotheses : List Hypothesis) (h : Hypothesis) → IsClaim h → Contains hypotheses h → Contains (claims_among hypotheses) h
Contains-claims_among [] h is_claim among = among
Contains-claims_among (holds a u v ∷ others) h is_claim among = ⊎_elim
    (λ same. absurd (subst IsClaim (sym same) is_claim))
    (λ later. Contains-claims_among others h is_claim later)
    (Contains-cons_cases h (holds a u v) others among)
Contains-claims_among (claims k a u v ∷ others) h is_claim among = ⊎_elim
    (λ same. Contains-head h (claims k a u v) (claims_among others) same)
    (λ later. Contains-tail h (claims k a u v) (claims_among others) (Contains-claims_among others h is_claim later))
    (Contains-cons_cases h (claims k a u v) others among)

-- what is left where the truths are struck out was there, and is a claim
pub claims_among-Contains : (hypotheses : List Hypothesis) (h : Hypothesis) → Contains (claims_among hypotheses) h → Contains hypotheses h × IsClaim h
claims_among-Contains [] h among = absurd (Contains-nothing h among)
claims_among-Contains (holds a u v ∷ others) h among =
    let rest = claims_among-Contains others h among in
    (Contains-tail h (holds a u v) others rest.0, rest.1)
claims_among-Contains (claims k a u v ∷ others) h among = ⊎_elim
    (λ same. (Contains-head h (claims k a u v) others same, subst IsClaim same tt))
    (λ later. let rest = claims_among-Contains others h later in (Contains-tail h (claims k a u v) others rest.0, rest.1))
    (Contains-cons_cases h (claims k a u v) (claims_among others) among)

pub Includes-claims_among : (larger smaller : List Hypothesis) → Includes larger smaller → Includes (claims_among larger) (claims_among smaller)
Includes-claims_among larger smaller includes h among =
    let was = claims_among-Contains smaller h among in
    Contains-claims_among larger h was.1 (includes h was.0)
