-- What is derivable is so by a derivation of some height, and the other way round.
use Rattle.std.proofs.Common.{◌↔◌, ◌≤◌, inl, inr, ℕ, zero, suc, max, ⊎_elim, arith}
use Rattle.bl_syntax.specs.declared.terms.Term.{Term}
use Rattle.bl_syntax.specs.Formula.{FormulaView, atom, compare, state, both, either, implies, truth, falsity, forall_, exists_, says, on}
use Rattle.bl_rules.specs.Sequent.{holds, Known}
use Rattle.bl_rules.specs.Derivable.{Assumes, Derivable, init, cons_r, inter_r, and_r, or_r1, or_r2, true_r, imp_r, forall_r, exists_r, says_r, at_r, cons_l, inter_l, and_l, or_l, false_l, imp_l, forall_l, exists_l, says_l, claim, at_l}
use Rattle.bl_rules.specs.Height.{Shown, ByGoal, FromTruth, ByTruth, ByClaim, Derives}

-- what is shown in one way is shown in the other
abbrev IsWithin : Shown → Shown → Type 0
IsWithin P Q = (known : Known) (goal : FormulaView) (u v : Term) → P known goal u v → Q known goal u v

module _ (P Q : Shown) (within : IsWithin P Q) where
  ByGoal-within : IsWithin (ByGoal P) (ByGoal Q)
  ByGoal-within known (atom name terms) u v h = h
  ByGoal-within known (compare c) u v h = h
  ByGoal-within known (state s) u v h = h
  ByGoal-within known (both a b) u v h = (within _ _ _ _ h.0, within _ _ _ _ h.1)
  ByGoal-within known (either a b) u v h = ⊎_elim (λ left. inl (within _ _ _ _ left)) (λ right. inr (within _ _ _ _ right)) h
  ByGoal-within known (implies a b) u v h = within _ _ _ _ h
  ByGoal-within known truth u v h = h
  ByGoal-within known falsity u v h = h
  ByGoal-within known (forall_ s a) u v h = within _ _ _ _ h
  ByGoal-within known (exists_ s a) u v h = (h.0, h.1, within _ _ _ _ h.2)
  ByGoal-within known (says k a) u v h = within _ _ _ _ h
  ByGoal-within known (on a x y) u v h = within _ _ _ _ h

  FromTruth-within : (known : Known) (a : FormulaView) (from to : Term) (goal : FormulaView) (u v : Term) → FromTruth P known a from to goal u v → FromTruth Q known a from to goal u v
  FromTruth-within known (atom name terms) from to goal u v h = h
  FromTruth-within known (compare c) from to goal u v h = within _ _ _ _ h
  FromTruth-within known (state s) from to goal u v h = within _ _ _ _ h
  FromTruth-within known (both a b) from to goal u v h = within _ _ _ _ h
  FromTruth-within known (either a b) from to goal u v h = (within _ _ _ _ h.0, within _ _ _ _ h.1)
  FromTruth-within known (implies a b) from to goal u v h = (h.0, h.1, h.2, h.3, h.4, h.5, within _ _ _ _ h.6, within _ _ _ _ h.7)
  FromTruth-within known truth from to goal u v h = h
  FromTruth-within known falsity from to goal u v h = h
  FromTruth-within known (forall_ s a) from to goal u v h = (h.0, h.1, within _ _ _ _ h.2)
  FromTruth-within known (exists_ s a) from to goal u v h = within _ _ _ _ h
  FromTruth-within known (says k a) from to goal u v h = within _ _ _ _ h
  FromTruth-within known (on a x y) from to goal u v h = within _ _ _ _ h

  ByTruth-within : IsWithin (ByTruth P) (ByTruth Q)
  ByTruth-within known goal u v h = (h.0, h.1, h.2, h.3, FromTruth-within known h.0 h.1 h.2 goal u v h.4)

  ByClaim-within : IsWithin (ByClaim P) (ByClaim Q)
  ByClaim-within known goal u v h = (h.0, h.1, h.2, h.3, h.4, h.5, h.6, h.7, within _ _ _ _ h.8)

-- a greater height derives no less
higher : (n m : ℕ) → n ≤ m → IsWithin (Derives n) (Derives m)
higher zero m le known goal u v h = absurd h
higher (suc n) zero le known goal u v h = omega (arith, le)
higher (suc n) (suc m) le known goal u v h =
    let within : IsWithin (Derives n) (Derives m) = higher n m (omega (arith, le)) in
    ⊎_elim (λ by_goal. inl (ByGoal-within (Derives n) (Derives m) within known goal u v by_goal))
    (⊎_elim (λ by_truth. inr (inl (ByTruth-within (Derives n) (Derives m) within known goal u v by_truth)))
    (λ by_claim. inr (inr (ByClaim-within (Derives n) (Derives m) within known goal u v by_claim))))
    h

-- it is derivable by some height
abbrev DerivesSomehow : Shown
DerivesSomehow known goal u v = (n : ℕ) × Derives n known goal u v

to_left : (n m : ℕ) → IsWithin (Derives n) (Derives (max n m))
to_left n m = higher n (max n m) (omega arith)

to_right : (n m : ℕ) → IsWithin (Derives m) (Derives (max n m))
to_right n m = higher m (max n m) (omega arith)

somehow : {known : Known} {goal : FormulaView} {u v : Term} → Derivable known goal u v → DerivesSomehow known goal u v
somehow (init from to among begins ends) = (1, inl (from, to, among, begins, ends))
somehow (cons_r entailed) = (1, inl entailed)
somehow (inter_r among) = (1, inl among)
somehow (and_r left right) =
    let l = somehow left in
    let r = somehow right in
    (suc (max l.0 r.0), inl (to_left l.0 r.0 _ _ _ _ l.1, to_right l.0 r.0 _ _ _ _ r.1))
somehow (or_r1 left) = let l = somehow left in (suc l.0, inl (inl l.1))
somehow (or_r2 right) = let r = somehow right in (suc r.0, inl (inr r.1))
somehow true_r = (1, inl tt)
somehow (imp_r premise) = let p = somehow premise in (suc p.0, inl p.1)
somehow (forall_r premise) = let p = somehow premise in (suc p.0, inl p.1)
somehow (exists_r t sorted premise) = let p = somehow premise in (suc p.0, inl (t, sorted, p.1))
somehow (says_r premise) = let p = somehow premise in (suc p.0, inl p.1)
somehow (at_r premise) = let p = somehow premise in (suc p.0, inl p.1)
somehow (cons_l c from to among premise) = let p = somehow premise in (suc p.0, inr (inl (compare c, from, to, among, p.1)))
somehow (inter_l s from to among premise) = let p = somehow premise in (suc p.0, inr (inl (state s, from, to, among, p.1)))
somehow (and_l a b from to among premise) = let p = somehow premise in (suc p.0, inr (inl (both a b, from, to, among, p.1)))
somehow (or_l a b from to among left right) =
    let l = somehow left in
    let r = somehow right in
    (suc (max l.0 r.0), inr (inl (either a b, from, to, among, (to_left l.0 r.0 _ _ _ _ l.1, to_right l.0 r.0 _ _ _ _ r.1))))
somehow (false_l from to among) = (1, inr (inl (falsity, from, to, among, tt)))
somehow (imp_l a b from to x y among x_time y_time begins ends left right) =
    let l = somehow left in
    let r = somehow right in
    (suc (max l.0 r.0), inr (inl (implies a b, from, to, among, (x, y, x_time, y_time, begins, ends, to_left l.0 r.0 _ _ _ _ l.1, to_right l.0 r.0 _ _ _ _ r.1))))
somehow (forall_l s a from to t among sorted premise) = let p = somehow premise in (suc p.0, inr (inl (forall_ s a, from, to, among, (t, sorted, p.1))))
somehow (exists_l s a from to among premise) = let p = somehow premise in (suc p.0, inr (inl (exists_ s a, from, to, among, p.1)))
somehow (says_l k a from to among premise) = let p = somehow premise in (suc p.0, inr (inl (says k a, from, to, among, p.1)))
somehow (claim k a from to among strong begins ends premise) = let p = somehow premise in (suc p.0, inr (inr (k, a, from, to, among, strong, begins, ends, p.1)))
somehow (at_l a x y from to among premise) = let p = somehow premise in (suc p.0, inr (inl (on a x y, from, to, among, p.1)))

module _ (P : Shown) (derivable : IsWithin P (λ known goal u v. Derivable known goal u v)) where
  ByGoal-derivable : (known : Known) (goal : FormulaView) (u v : Term) → ByGoal P known goal u v → Derivable known goal u v
  ByGoal-derivable known (atom name terms) u v h = init h.0 h.1 h.2 h.3 h.4
  ByGoal-derivable known (compare c) u v h = cons_r h
  ByGoal-derivable known (state s) u v h = inter_r h
  ByGoal-derivable known (both a b) u v h = and_r (derivable _ _ _ _ h.0) (derivable _ _ _ _ h.1)
  ByGoal-derivable known (either a b) u v h = ⊎_elim (λ left. or_r1 (derivable _ _ _ _ left)) (λ right. or_r2 (derivable _ _ _ _ right)) h
  ByGoal-derivable known (implies a b) u v h = imp_r (derivable _ _ _ _ h)
  ByGoal-derivable known truth u v h = true_r
  ByGoal-derivable known falsity u v h = absurd h
  ByGoal-derivable known (forall_ s a) u v h = forall_r (derivable _ _ _ _ h)
  ByGoal-derivable known (exists_ s a) u v h = exists_r h.0 h.1 (derivable _ _ _ _ h.2)
  ByGoal-derivable known (says k a) u v h = says_r (derivable _ _ _ _ h)
  ByGoal-derivable known (on a x y) u v h = at_r (derivable _ _ _ _ h)

  FromTruth-derivable : (known : Known) (a : FormulaView) (from to : Term) (goal : FormulaView) (u v : Term)
      → Assumes known (holds a from to) → FromTruth P known a from to goal u v → Derivable known goal u v
  FromTruth-derivable known (atom name terms) from to goal u v among h = absurd h
  FromTruth-derivable known (compare c) from to goal u v among h = cons_l c from to among (derivable _ _ _ _ h)
  FromTruth-derivable known (state s) from to goal u v among h = inter_l s from to among (derivable _ _ _ _ h)
  FromTruth-derivable known (both a b) from to goal u v among h = and_l a b from to among (derivable _ _ _ _ h)
  FromTruth-derivable known (either a b) from to goal u v among h = or_l a b from to among (derivable _ _ _ _ h.0) (derivable _ _ _ _ h.1)
  FromTruth-derivable known (implies a b) from to goal u v among h =
      imp_l a b from to h.0 h.1 among h.2 h.3 h.4 h.5 (derivable _ _ _ _ h.6) (derivable _ _ _ _ h.7)
  FromTruth-derivable known truth from to goal u v among h = absurd h
  FromTruth-derivable known falsity from to goal u v among h = false_l from to among
  FromTruth-derivable known (forall_ s a) from to goal u v among h = forall_l s a from to h.0 among h.1 (derivable _ _ _ _ h.2)
  FromTruth-derivable known (exists_ s a) from to goal u v among h = exists_l s a from to among (derivable _ _ _ _ h)
  FromTruth-derivable known (says k a) from to goal u v among h = says_l k a from to among (derivable _ _ _ _ h)
  FromTruth-derivable known (on a x y) from to goal u v among h = at_l a x y from to among (derivable _ _ _ _ h)

  ByClaim-derivable : (known : Known) (goal : FormulaView) (u v : Term) → ByClaim P known goal u v → Derivable known goal u v
  ByClaim-derivable known goal u v h = claim h.0 h.1 h.2 h.3 h.4 h.5 h.6 h.7 (derivable _ _ _ _ h.8)

Derives-derivable : (n : ℕ) (known : Known) (goal : FormulaView) (u v : Term) → Derives n known goal u v → Derivable known goal u v
Derives-derivable zero known goal u v h = absurd h
Derives-derivable (suc n) known goal u v h =
    let derivable = Derives-derivable n in
    ⊎_elim (ByGoal-derivable (Derives n) derivable known goal u v)
    (⊎_elim (λ by_truth. FromTruth-derivable (Derives n) derivable known by_truth.0 by_truth.1 by_truth.2 goal u v by_truth.3 by_truth.4)
    (ByClaim-derivable (Derives n) derivable known goal u v))
    h

-- the two accounts derive the same
pub Derivable-by_height : (known : Known) (goal : FormulaView) (u v : Term) → Derivable known goal u v ↔ ((n : ℕ) × Derives n known goal u v)
Derivable-by_height known goal u v = (λ derivable. somehow derivable, λ h. Derives-derivable h.0 known goal u v h.1)
