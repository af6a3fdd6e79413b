-- Seats: their tickets, and what each is known to be after one of them changes.
use Rattle.std.proofs.Common.{◌≡◌, ◌≢◌, ◌⊎◌, ℕ, zero, suc, ◌+◌, ◌<◌, ◌≤◌, List, [], ◌∷◌, ◌++◌, length, get_or, set, refl, sym, ap, subst, ⊎_elim, arith, inl, inr}
use mathlib.Core.Option.{some, some-injective, some-ne-none}
use lib.ListN.{get_elem?}
use Rattle.atomic_table.proofs.Lists.{at_set}
use Rattle.tree_lock.specs.declared.view.Knowledge.{Knowledge}
use Rattle.tree_lock.specs.declared.view.Stage.{Stage}
use Rattle.tree_lock.specs.declared.view.Stage.TheVariants.{Idle, Waiting, Holding}
use Rattle.tree_lock.specs.Knowledge.{tickets_at, tickets_out}

module _ {A : Type 0} where
  -- a fact of each seat still holds if it holds of the one that changed
  pub each_set : (F : ℕ → A → Type 0) (views : List A) (id : ℕ) (w : A) → ((j : ℕ) (u : A) → j ≢ id → get_elem? views j ≡ some u → F j u) → F id w
      → (j : ℕ) (u : A) → get_elem? (set views id w) j ≡ some u → F j u
  each_set F views id w others mine j u e =
      ⊎_elim
      (λ (x : (j ≡ id) × (w ≡ u)). subst (λ (y : ℕ × A). F y.0 y.1) (λ i. (sym x.0 i, x.1 i)) mine)
      (λ (x : (j ≢ id) × (get_elem? views j ≡ some u)). others j u x.0 x.1)
      (at_set views id j w u e)

  pub at_default : (l : List A) (i : ℕ) (d : A) → i < length l → get_elem? l i ≡ some (get_or l i d)
  at_default [] i d h = absurd (omega arith)
  at_default (x ∷ xs) zero d h = refl
  at_default (x ∷ xs) (suc i) d h = at_default xs i d (omega arith)

  pub at_within : (views : List A) (id : ℕ) (v : A) → get_elem? views id ≡ some v → id < length views
  at_within [] id v e = absurd (some-ne-none v (sym e))
  at_within (x ∷ xs) zero v e = omega arith
  at_within (x ∷ xs) (suc id) v e = let r = at_within xs id v e in omega arith

  pub length-set : (views : List A) (id : ℕ) (w : A) → length (set views id w) ≡ length views
  length-set [] id w = refl
  length-set (x ∷ xs) zero w = refl
  length-set (x ∷ xs) (suc id) w = ap suc (length-set xs id w)

  pub length-snoc : (views : List A) (w : A) → length (views ++ w ∷ []) ≡ length views + 1
  length-snoc [] w = refl
  length-snoc (x ∷ xs) w = let r = length-snoc xs w in omega arith

  -- the last place of a longer list
  pub at_end : (views : List A) (w : A) (j : ℕ) (u : A) → get_elem? (views ++ w ∷ []) j ≡ some u → (get_elem? views j ≡ some u) ⊎ ((j ≡ length views) × (w ≡ u))
  at_end [] w zero u e = inr (refl, some-injective w u e)
  at_end [] w (suc j) u e = absurd (some-ne-none u (sym e))
  at_end (x ∷ xs) w zero u e = inl e
  at_end (x ∷ xs) w (suc j) u e = ⊎_elim inl (λ (t : (j ≡ length xs) × (w ≡ u)). inr (ap suc t.0, t.1)) (at_end xs w j u e)

  pub each_snoc : (F : ℕ → A → Type 0) (views : List A) (w : A) → ((j : ℕ) (u : A) → get_elem? views j ≡ some u → F j u) → F (length views) w
      → (j : ℕ) (u : A) → get_elem? (views ++ w ∷ []) j ≡ some u → F j u
  each_snoc F views w others mine j u e =
      ⊎_elim (others j u) (λ (x : (j ≡ length views) × (w ≡ u)). subst (λ (y : ℕ × A). F y.0 y.1) (λ i. (sym x.0 i, x.1 i)) mine) (at_end views w j u e)

pub tickets_at-le : (stage : Stage) → tickets_at stage ≤ 1
tickets_at-le Idle = omega arith
tickets_at-le (Waiting t) = omega arith
tickets_at-le (Holding t) = omega arith

module _ {E : Type 0} where
  pub tickets_out-set : (views : List (Knowledge E)) (id : ℕ) (v w : Knowledge E) → get_elem? views id ≡ some v → tickets_out (set views id w) + tickets_at v.stage ≡ tickets_out views + tickets_at w.stage
  tickets_out-set [] id v w e = absurd (some-ne-none v (sym e))
  tickets_out-set (x ∷ xs) zero v w e = let is : tickets_at x.stage ≡ tickets_at v.stage = ap (λ (y : Knowledge E). tickets_at y.stage) (some-injective x v e) in omega arith
  tickets_out-set (x ∷ xs) (suc id) v w e = let r = tickets_out-set xs id v w e in omega arith

  pub tickets_out-snoc : (views : List (Knowledge E)) (w : Knowledge E) → tickets_out (views ++ w ∷ []) ≡ tickets_out views + tickets_at w.stage
  tickets_out-snoc [] w = omega arith
  tickets_out-snoc (x ∷ xs) w = let r = tickets_out-snoc xs w in omega arith

  pub tickets_out-le : (views : List (Knowledge E)) → tickets_out views ≤ length views
  tickets_out-le [] = omega arith
  tickets_out-le (x ∷ xs) = let r = tickets_out-le xs in let one = tickets_at-le x.stage in omega arith
