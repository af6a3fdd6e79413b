-- Links that need no constraint.
use Rattle.std.proofs.Common.{◌≡◌, ◌⊎◌, inl, inr, List, [], refl, sym, subst, arith}
use Rattle.std.specs.Prelude.{◌↔◌, Contains}
use Rattle.bl_syntax.specs.declared.terms.TimePoint.{TimePoint}
use Rattle.bl_syntax.specs.declared.terms.TimePoint.TheVariants.{NegInf, At, PosInf}
use Rattle.bl_syntax.specs.declared.terms.Term.{Term}
use Rattle.bl_syntax.specs.declared.terms.Term.TheVariants.{Time}
use Rattle.bl_syntax.specs.declared.terms.Constraint.{Constraint}
use Rattle.bl_syntax.specs.TimeOrder.{IsUpTo}
use Rattle.bl_syntax.specs.Terms.{AreInOrder, in_order}
use Rattle.bl_syntax.specs.Entailment.{IsLink, same, constants, from_the_start, to_the_end, constrained}
use Rattle.bl_syntax.proofs.EntailmentLemmas.{IsUpTo-itself, IsUpTo-PosInf, IsUpTo-transitive}

-- two constants in order, the first at the start, the second at the end, or the same term
pub data IsFree : Term → Term → Type 0 where
  of_times : (a b : TimePoint) → IsUpTo a b → IsFree (Time a) (Time b)
  of_start : (v : Term) → IsFree (Time NegInf) v
  of_end : (u : Term) → IsFree u (Time PosInf)
  of_same : (t : Term) → IsFree t t

free_in_order : {u v : Term} → AreInOrder u v → IsFree u v
free_in_order (in_order {u = a} {v = b} h) = of_times a b h

none_among : (c : Constraint) → Contains [] c → ⊥
none_among c h = absurd (omega (arith, h.1))

pub free_from_link : {u v : Term} → IsLink [] u v → IsFree u v
free_from_link (same t) = of_same t
free_from_link (constants u v h) = free_in_order h
free_from_link (from_the_start v) = of_start v
free_from_link (to_the_end u) = of_end u
free_from_link (constrained c among) = absurd (none_among c among)

pub link_from_free : (psi : List Constraint) {u v : Term} → IsFree u v → IsLink psi u v
link_from_free psi (of_times a b h) = constants (Time a) (Time b) (in_order h)
link_from_free psi (of_start v) = from_the_start v
link_from_free psi (of_end u) = to_the_end u
link_from_free psi (of_same t) = same t

time_of_same : (a b : TimePoint) → Time a ≡ Time b → a ≡ b
time_of_same a b e = cc

-- what is linked to a constant from a constant is a constant no earlier
free_times : (a b : TimePoint) {u v : Term} → IsFree u v → u ≡ Time a → v ≡ Time b → IsUpTo a b
free_times a b (of_times x y h) p q = subst (λ (w : TimePoint). IsUpTo w b) (time_of_same x a p) (subst (λ (w : TimePoint). IsUpTo x w) (time_of_same y b q) h)
free_times a b (of_start v) p q = subst (λ (w : TimePoint). IsUpTo w b) (time_of_same NegInf a p) tt
free_times a b (of_end u) p q = subst (λ (w : TimePoint). IsUpTo a w) (time_of_same PosInf b q) (IsUpTo-PosInf a)
free_times a b (of_same t) p q = let e : a ≡ b = cc in subst (λ (w : TimePoint). IsUpTo a w) e (IsUpTo-itself a)

-- no constant time
abbrev pub IsOther : Term → Type 0
IsOther t = (point : TimePoint) → t ≡ Time point → ⊥

pub link_of_times : (a b : TimePoint) → IsLink [] (Time a) (Time b) ↔ IsUpTo a b
link_of_times a b = (λ l. free_times a b (free_from_link l) refl refl, λ h. constants (Time a) (Time b) (in_order h))

pub link_to_time : (a b : TimePoint) (v : Term) → v ≡ Time b → IsLink [] (Time a) v ↔ IsUpTo a b
link_to_time a b v e = (
  λ l. free_times a b (free_from_link l) refl e,
  λ h. rw e (constants (Time a) (Time b) (in_order h)),
)

at_start : (a : TimePoint) → IsUpTo a NegInf → a ≡ NegInf
at_start NegInf h = refl
at_start (At t) h = absurd h
at_start PosInf h = absurd h

at_end : (a : TimePoint) → IsUpTo PosInf a → a ≡ PosInf
at_end NegInf h = absurd h
at_end (At t) h = absurd h
at_end PosInf h = refl

free_to_other : (a : TimePoint) {u v : Term} → IsFree u v → u ≡ Time a → IsOther v → IsUpTo a NegInf
free_to_other a (of_times x y h) e other = absurd (other y refl)
free_to_other a (of_start v) e other = subst (λ (w : TimePoint). IsUpTo w NegInf) (time_of_same NegInf a e) tt
free_to_other a (of_end u) e other = absurd (other PosInf refl)
free_to_other a (of_same t) e other = absurd (other a e)

pub link_to_other : (a : TimePoint) (v : Term) → IsOther v → IsLink [] (Time a) v ↔ IsUpTo a NegInf
link_to_other a v other = (
  λ l. free_to_other a (free_from_link l) refl other,
  λ h. rw (at_start a h) (from_the_start v),
)

free_from_other : {u v : Term} → IsFree u v → IsOther u → (u ≡ v) ⊎ (v ≡ Time PosInf)
free_from_other (of_times a b h) other = absurd (other a refl)
free_from_other (of_start v) other = absurd (other NegInf refl)
free_from_other (of_end u) other = inr refl
free_from_other (of_same t) other = inl refl

pub link_to_last : (u v : Term) → v ≡ Time PosInf → IsLink [] u v
link_to_last u v e = rw e (to_the_end u)

or_last : (u v : Term) → (v ≡ Time PosInf → ⊥) → (u ≡ v) ⊎ (v ≡ Time PosInf) → u ≡ v
or_last u v last (inl e) = e
or_last u v last (inr e) = absurd (last e)

pub link_from_other : (u v : Term) → IsOther u → (v ≡ Time PosInf → ⊥) → IsLink [] u v ↔ (u ≡ v)
link_from_other u v other last = (
  λ l. or_last u v last (free_from_other (free_from_link l) other),
  λ e. rw (← e) (same u),
)

-- links without constraints, one after another, are a link
free_transitive : {u v w : Term} → IsFree u v → IsFree v w → IsFree u w
free_transitive (of_times a b h) (of_times b' c k) = of_times a c (IsUpTo-transitive a b c h k)
free_transitive (of_times a b h) (of_start w) = rw (at_start a h) (of_start w)
free_transitive (of_times a b h) (of_end u) = of_end (Time a)
free_transitive (of_times a b h) (of_same t) = of_times a b h
free_transitive {w = w} (of_start v) q = of_start w
free_transitive (of_end u) (of_times b c k) = rw (at_end c k) (of_end u)
free_transitive (of_end u) (of_end v) = of_end u
free_transitive (of_end u) (of_same v) = of_end u
free_transitive (of_same t) q = q

pub link_transitive : {u v w : Term} → IsLink [] u v → IsLink [] v w → IsLink [] u w
link_transitive p q = link_from_free [] (free_transitive (free_from_link p) (free_from_link q))

pub link_in : (psi : List Constraint) {u v : Term} → IsLink [] u v → IsLink psi u v
link_in psi l = link_from_free psi (free_from_link l)

free_from_time : (a : TimePoint) {u v : Term} → IsFree u v → u ≡ Time a → (a ≡ NegInf) ⊎ ((point : TimePoint) × (v ≡ Time point) × IsUpTo a point)
free_from_time a (of_times x y h) e = inr (y, refl, subst (λ (w : TimePoint). IsUpTo w y) (time_of_same x a e) h)
free_from_time a (of_start v) e = inl (sym (time_of_same NegInf a e))
free_from_time a (of_end u) e = inr (PosInf, refl, IsUpTo-PosInf a)
free_from_time a (of_same t) e = inr (a, e, IsUpTo-itself a)

-- what a constant is linked to is a constant no earlier, but for the first
pub link_from_time : (a : TimePoint) (v : Term) → IsLink [] (Time a) v → (a ≡ NegInf) ⊎ ((point : TimePoint) × (v ≡ Time point) × IsUpTo a point)
link_from_time a v l = free_from_time a (free_from_link l) refl

free_into_time : (b : TimePoint) {u v : Term} → IsFree u v → v ≡ Time b → (b ≡ PosInf) ⊎ ((point : TimePoint) × (u ≡ Time point) × IsUpTo point b)
free_into_time b (of_times x y h) e = inr (x, refl, subst (λ (w : TimePoint). IsUpTo x w) (time_of_same y b e) h)
free_into_time b (of_start v) e = inr (NegInf, refl, tt)
free_into_time b (of_end u) e = inl (sym (time_of_same PosInf b e))
free_into_time b (of_same t) e = inr (b, e, IsUpTo-itself b)

-- what is linked to a constant is a constant no later, but for the last
pub link_into_time : (u : Term) (b : TimePoint) → IsLink [] u (Time b) → (b ≡ PosInf) ⊎ ((point : TimePoint) × (u ≡ Time point) × IsUpTo point b)
link_into_time u b l = free_into_time b (free_from_link l) refl
