-- Laws of entailment between times.
use Rattle.std.proofs.Common.{◌≡◌, ℤ, List, map, refl, ap, ◌∙◌, arith}
use Rattle.std.proofs.lemmas.List.{length-map}
use Rattle.std.proofs.Math.ListN.{get_or-map}
use Rattle.std.specs.Prelude.{Contains}
use Rattle.std.proofs.lemmas.Int.{ints}
use Rattle.bl_syntax.specs.declared.terms.TimePoint.{TimePoint}
use Rattle.bl_syntax.specs.declared.terms.TimePoint.TheVariants.{NegInf, At, PosInf}
use Rattle.bl_syntax.specs.declared.terms.Term.{Term}
use Rattle.bl_syntax.specs.declared.terms.Term.TheVariants.{Time}
use Rattle.bl_syntax.specs.declared.terms.Constraint.{Constraint}
use Rattle.bl_syntax.specs.TimeOrder.{IsUpTo}
use Rattle.bl_syntax.specs.Terms.{AreInOrder, in_order, term_at, constraint_at}
use Rattle.bl_syntax.specs.Entailment.{IsLink, same, constants, from_the_start, to_the_end, constrained, IsChain, link, longer, Entails, chained, contradicted, EntailsAll}
use Rattle.bl_syntax.specs.Assignment.{IsAssignment, AreTrueUnder}

pub IsUpTo-itself : (u : TimePoint) → IsUpTo u u
IsUpTo-itself NegInf = tt
IsUpTo-itself (At t) = omega (arith, ints)
IsUpTo-itself PosInf = tt

pub IsUpTo-PosInf : (u : TimePoint) → IsUpTo u PosInf
IsUpTo-PosInf NegInf = tt
IsUpTo-PosInf (At t) = tt
IsUpTo-PosInf PosInf = tt

pub IsUpTo-transitive : (u v w : TimePoint) → IsUpTo u v → IsUpTo v w → IsUpTo u w
IsUpTo-transitive NegInf v w p q = tt
IsUpTo-transitive (At a) NegInf w p q = absurd p
IsUpTo-transitive (At a) (At b) NegInf p q = absurd q
IsUpTo-transitive (At a) (At b) (At c) p q = omega (arith, ints, p, q)
IsUpTo-transitive (At a) (At b) PosInf p q = tt
IsUpTo-transitive (At a) PosInf NegInf p q = absurd q
IsUpTo-transitive (At a) PosInf (At c) p q = absurd q
IsUpTo-transitive (At a) PosInf PosInf p q = tt
IsUpTo-transitive PosInf NegInf w p q = absurd p
IsUpTo-transitive PosInf (At b) w p q = absurd p
IsUpTo-transitive PosInf PosInf w p q = q

-- chains end to end
pub IsChain-joined : (psi : List Constraint) {u v w : Term} → IsChain psi u v → IsChain psi v w → IsChain psi u w
IsChain-joined psi {w = w} (link u v l) q = longer u v w l q
IsChain-joined psi {w = w} (longer u m v l p) q = longer u m w l (IsChain-joined psi p q)

pub Entails-itself : (psi : List Constraint) (u : Term) → Entails psi u u
Entails-itself psi u = chained (link u u (same u))

pub Entails-transitive : (psi : List Constraint) (u v w : Term) → Entails psi u v → Entails psi v w → Entails psi u w
Entails-transitive psi u v w (chained p) (chained q) = chained (IsChain-joined psi p q)
Entails-transitive psi u v w (chained p) (contradicted k) = contradicted k
Entails-transitive psi u v w (contradicted k) q = contradicted k

pub Entails-link : (psi : List Constraint) {u v : Term} → IsLink psi u v → Entails psi u v
Entails-link psi {u = u} {v = v} l = chained (link u v l)

pub Entails-constrained : (psi : List Constraint) (c : Constraint) → Contains psi c → Entails psi c.low c.high
Entails-constrained psi c among = Entails-link psi (constrained c among)

pub Entails-in_order : (psi : List Constraint) (u v : TimePoint) → IsUpTo u v → Entails psi (Time u) (Time v)
Entails-in_order psi u v h = Entails-link psi (constants (Time u) (Time v) (in_order h))

module _ (old new : List Constraint) (all : EntailsAll new old) where
  link_kept : {u v : Term} → IsLink old u v → Entails new u v
  link_kept (same t) = Entails-itself new t
  link_kept (constants u v h) = Entails-link new (constants u v h)
  link_kept (from_the_start v) = Entails-link new (from_the_start v)
  link_kept (to_the_end u) = Entails-link new (to_the_end u)
  link_kept (constrained c among) = all.each c among

  chain_kept : {u v : Term} → IsChain old u v → Entails new u v
  chain_kept (link u v l) = link_kept l
  chain_kept (longer u v w l p) = Entails-transitive new u v w (link_kept l) (chain_kept p)

-- a chain from a constant to a lesser one entails anything
pub Entails-contradicted : (psi : List Constraint) (greater lesser : TimePoint) (u v : Term)
    → Entails psi (Time greater) (Time lesser) → (IsUpTo greater lesser → ⊥) → Entails psi u v
Entails-contradicted psi greater lesser u v (chained p) out = contradicted (record { greater = greater; lesser = lesser; chain = p; out_of_order = out })
Entails-contradicted psi greater lesser u v (contradicted k) out = contradicted k

-- constraints that the others entail can be left out
pub Entails-entailed : (old new : List Constraint) (u v : Term) → EntailsAll new old → Entails old u v → Entails new u v
Entails-entailed old new u v all (chained p) = chain_kept old new all p
Entails-entailed old new u v all (contradicted k) = Entails-contradicted new k.greater k.lesser u v (chain_kept old new all k.chain) k.out_of_order

-- more constraints entail no less
pub Entails-more : (old new : List Constraint) (u v : Term) → ((c : Constraint) → Contains old c → Contains new c) → Entails old u v → Entails new u v
Entails-more old new u v included = Entails-entailed old new u v (record { each = λ c among. Entails-constrained new c (included c among) })

module _ (time_of : Term → TimePoint) (assigned : IsAssignment time_of) (psi : List Constraint) (true_under : AreTrueUnder time_of psi) where
  constants_true : {u v : Term} → AreInOrder u v → IsUpTo (time_of u) (time_of v)
  constants_true (in_order {u = a} {v = b} h) = rw (assigned.constants a, assigned.constants b) h

  link_true : {u v : Term} → IsLink psi u v → IsUpTo (time_of u) (time_of v)
  link_true (same t) = IsUpTo-itself (time_of t)
  link_true (constants u v h) = constants_true h
  link_true (from_the_start v) = rw (assigned.constants NegInf) tt
  link_true (to_the_end u) = rw (assigned.constants PosInf) (IsUpTo-PosInf (time_of u))
  link_true (constrained c among) = true_under.each c among

  chain_true : {u v : Term} → IsChain psi u v → IsUpTo (time_of u) (time_of v)
  chain_true (link u v l) = link_true l
  chain_true (longer u v w l p) = IsUpTo-transitive (time_of u) (time_of v) (time_of w) (link_true l) (chain_true p)

-- what is entailed is true under every assignment that makes the constraints true
pub Entails-true : (time_of : Term → TimePoint) → IsAssignment time_of → (psi : List Constraint) → AreTrueUnder time_of psi
    → (u v : Term) → Entails psi u v → IsUpTo (time_of u) (time_of v)
Entails-true time_of assigned psi true_under u v (chained p) = chain_true time_of assigned psi true_under p
Entails-true time_of assigned psi true_under u v (contradicted k) =
    absurd (k.out_of_order (rw (assigned.constants k.greater, assigned.constants k.lesser) at (chain_true time_of assigned psi true_under k.chain)))

abbrev pub constraint_under : (Term → Term) → Constraint → Constraint
constraint_under f c = record { low = f c.low; high = f c.high }

Contains-map : {X Y : Type 0} (f : X → Y) (xs : List X) (x : X) → Contains xs x → Contains (map f xs) (f x)
Contains-map f xs x h = (h.0, rw (length-map xs f) h.1, get_or-map f xs h.0 x ∙ ap f h.2)

module _ (f : Term → Term) (fixed : (t : TimePoint) → f (Time t) ≡ Time t) (psi : List Constraint) where
  constants_under : {u v : Term} → AreInOrder u v → AreInOrder (f u) (f v)
  constants_under (in_order {u = a} {v = b} h) = rw (fixed a, fixed b) (in_order h)

  link_under : {u v : Term} → IsLink psi u v → IsLink (map (constraint_under f) psi) (f u) (f v)
  link_under (same t) = same (f t)
  link_under (constants u v h) = constants (f u) (f v) (constants_under h)
  link_under (from_the_start v) = rw (fixed NegInf) (from_the_start (f v))
  link_under (to_the_end u) = rw (fixed PosInf) (to_the_end (f u))
  link_under (constrained c among) = constrained (constraint_under f c) (Contains-map (constraint_under f) psi c among)

  chain_under : {u v : Term} → IsChain psi u v → IsChain (map (constraint_under f) psi) (f u) (f v)
  chain_under (link u v l) = link (f u) (f v) (link_under l)
  chain_under (longer u v w l p) = longer (f u) (f v) (f w) (link_under l) (chain_under p)

-- terms that are put for others through everything keep it, where constant times stay
pub Entails-under : (f : Term → Term) → ((t : TimePoint) → f (Time t) ≡ Time t) → (psi : List Constraint) (u v : Term)
    → Entails psi u v → Entails (map (constraint_under f) psi) (f u) (f v)
Entails-under f fixed psi u v (chained p) = chained (chain_under f fixed psi p)
Entails-under f fixed psi u v (contradicted k) =
    contradicted (record { greater = k.greater; lesser = k.lesser; chain = rw (← fixed k.greater, ← fixed k.lesser) (chain_under f fixed psi k.chain); out_of_order = k.out_of_order })

-- a moment instead of the current time keeps it
pub Entails-at : (moment : ℤ) (psi : List Constraint) (u v : Term) → Entails psi u v → Entails (map (constraint_at moment) psi) (term_at moment u) (term_at moment v)
Entails-at moment = Entails-under (term_at moment) (λ t. refl)
