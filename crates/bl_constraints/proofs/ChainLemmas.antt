-- Where chains lead with one more constraint, and the first and the last constraint on the way.
use Rattle.std.proofs.Common.{◌≡◌, ◌⊎◌, inl, inr, ℕ, zero, suc, List, [], ◌∷◌, ◌++◌, length, refl, ap, arith}
use Rattle.std.specs.Prelude.{Contains, Some}
use Rattle.std.proofs.lemmas.List.Elements.{Contains-append_left, Contains-push, Contains-push_cases}
use Rattle.std.proofs.lemmas.Option.{slice_get-get_or, slice_get_within, get_or_from_slice_get, same_Some}
use Rattle.std.proofs.Common.{subst, sym, ◌∙◌}
use Rattle.bl_syntax.specs.declared.terms.Term.{Term}
use Rattle.bl_syntax.specs.declared.terms.Constraint.{Constraint}
use Rattle.bl_syntax.specs.Entailment.{IsLink, same, constants, from_the_start, to_the_end, constrained, IsChain, link, longer, IsContradictory}
use Rattle.bl_syntax.proofs.EntailmentLemmas.{IsChain-joined}
use Rattle.bl_constraints.specs.Reached.{StandsAt}
use Rattle.bl_constraints.proofs.LinkLemmas.{link_in, link_transitive, link_of_times}

pub by_cases : {A B C : Type 0} → A ⊎ B → (A → C) → (B → C) → C
by_cases (inl a) f g = f a
by_cases (inr b) f g = g b

-- the constraint at a place, with one more constraint after the others
pub stands_before : (psi : List Constraint) (c d : Constraint) (place : ℕ) → StandsAt psi place d → StandsAt (psi ++ c ∷ []) place d
stands_before [] c d place e = cc
stands_before (x ∷ psi) c d zero e = e
stands_before (x ∷ psi) c d (suc place) e = stands_before psi c d place e

pub stands_last : (psi : List Constraint) (c : Constraint) → StandsAt (psi ++ c ∷ []) (length psi) c
stands_last [] c = refl
stands_last (x ∷ psi) c = stands_last psi c

pub stands_cases : (psi : List Constraint) (c d : Constraint) (place : ℕ) → StandsAt (psi ++ c ∷ []) place d → StandsAt psi place d ⊎ ((place ≡ length psi) × (c ≡ d))
stands_cases [] c d zero e = inr (refl, same_Some c d e)
stands_cases [] c d (suc place) e = cc
stands_cases (x ∷ psi) c d zero e = inl e
stands_cases (x ∷ psi) c d (suc place) e = by_cases (stands_cases psi c d place e) inl (λ h. inr (ap suc h.0, h.1))

pub stands_contained : (psi : List Constraint) (place : ℕ) (c : Constraint) → StandsAt psi place c → Contains psi c
stands_contained psi place c h = (place, slice_get_within psi place c h, get_or_from_slice_get psi place c c h)

pub contained_stands : (psi : List Constraint) (c : Constraint) (h : Contains psi c) → StandsAt psi h.0 c
contained_stands psi c h = slice_get-get_or psi h.0 c h.1 ∙ ap Some h.2

-- through a constraint
pub through : (psi : List Constraint) (c : Constraint) → Contains psi c → IsChain psi c.low c.high
through psi c among = link c.low c.high (constrained c among)

pub at_once : (psi : List Constraint) (t : Term) → IsChain psi t t
at_once psi t = link t t (same t)

-- one more constraint keeps chains
link_before : (psi : List Constraint) (c : Constraint) {u v : Term} → IsLink psi u v → IsLink (psi ++ c ∷ []) u v
link_before psi c (same t) = same t
link_before psi c (constants u v h) = constants u v h
link_before psi c (from_the_start v) = from_the_start v
link_before psi c (to_the_end u) = to_the_end u
link_before psi c (constrained d among) = constrained d (Contains-append_left psi (c ∷ []) d among)

pub chain_before : (psi : List Constraint) (c : Constraint) {u v : Term} → IsChain psi u v → IsChain (psi ++ c ∷ []) u v
chain_before psi c (link u v l) = link u v (link_before psi c l)
chain_before psi c (longer u v w l p) = longer u v w (link_before psi c l) (chain_before psi c p)

-- through the last
pub chain_through : (psi : List Constraint) (c : Constraint) {u v : Term} → IsChain psi u c.low → IsChain psi c.high v → IsChain (psi ++ c ∷ []) u v
chain_through psi c p q = IsChain-joined (psi ++ c ∷ []) (chain_before psi c p) (IsChain-joined (psi ++ c ∷ []) (through (psi ++ c ∷ []) c (Contains-push psi c)) (chain_before psi c q))

-- a chain leads by the others, or through the last and otherwise by the others
module _ (psi : List Constraint) (c : Constraint) where
  abbrev Parts : Term → Term → Type 0
  Parts u v = IsChain psi u v ⊎ (IsChain psi u c.low × IsChain psi c.high v)

  after_link : {u v w : Term} → IsLink psi u v → Parts v w → Parts u w
  after_link {u = u} {v = v} {w = w} l (inl p) = inl (longer u v w l p)
  after_link {u = u} {v = v} l (inr parts) = inr (longer u v c.low l parts.0, parts.1)

  after_last : {w : Term} (d : Constraint) → c ≡ d → Parts d.high w → Parts d.low w
  after_last {w = w} d e (inl p) = inr (subst (λ (x : Constraint). IsChain psi x.low c.low) e (at_once psi c.low), subst (λ (x : Constraint). IsChain psi x.high w) (sym e) p)
  after_last d e (inr parts) = inr (subst (λ (x : Constraint). IsChain psi x.low c.low) e (at_once psi c.low), parts.1)

  after_step : {u v w : Term} → IsLink (psi ++ c ∷ []) u v → Parts v w → Parts u w
  after_step (same t) parts = parts
  after_step (constants u v h) parts = after_link (constants u v h) parts
  after_step (from_the_start v) parts = after_link (from_the_start v) parts
  after_step (to_the_end u) parts = after_link (to_the_end u) parts
  after_step (constrained d among) parts = by_cases (Contains-push_cases psi c d among) (λ h. after_link (constrained d h) parts) (λ e. after_last d e parts)

  parts : {u v : Term} → IsChain (psi ++ c ∷ []) u v → Parts u v
  parts (link u v l) = after_step l (inl (at_once psi v))
  parts (longer u v w l p) = after_step l (parts p)

  pub chain_parts : {u v : Term} → IsChain (psi ++ c ∷ []) u v → IsChain psi u v ⊎ (IsChain psi u c.low × IsChain psi c.high v)
  chain_parts p = parts p

-- a chain is a link without constraints, or has a last constraint, from which it is one
pub record HasLast (psi : List Constraint) (u v : Term) : Type 0 where
  pub constraint : Constraint
  pub contained : Contains psi constraint
  pub front : IsChain psi u constraint.low
  pub onto : IsLink [] constraint.high v

-- and so with the first
pub record HasFirst (psi : List Constraint) (u v : Term) : Type 0 where
  pub constraint : Constraint
  pub contained : Contains psi constraint
  pub onto : IsLink [] u constraint.low
  pub back : IsChain psi constraint.high v

module _ (psi : List Constraint) where
  free_before_last : {u v w : Term} → IsLink [] u v → IsLink [] v w ⊎ HasLast psi v w → IsLink [] u w ⊎ HasLast psi u w
  free_before_last l (inl m) = inl (link_transitive l m)
  free_before_last {u = u} {v = v} l (inr h) = inr (record { constraint = h.constraint; contained = h.contained; front = longer u v h.constraint.low (link_in psi l) h.front; onto = h.onto })

  through_before_last : {w : Term} (c : Constraint) → Contains psi c → IsLink [] c.high w ⊎ HasLast psi c.high w → HasLast psi c.low w
  through_before_last c among (inl m) = record { constraint = c; contained = among; front = at_once psi c.low; onto = m }
  through_before_last c among (inr h) = record { constraint = h.constraint; contained = h.contained; front = longer c.low c.high h.constraint.low (constrained c among) h.front; onto = h.onto }

  link_before_last : {u v w : Term} → IsLink psi u v → IsLink [] v w ⊎ HasLast psi v w → IsLink [] u w ⊎ HasLast psi u w
  link_before_last (same t) rest = rest
  link_before_last (constants u v h) rest = free_before_last (constants u v h) rest
  link_before_last (from_the_start v) rest = free_before_last (from_the_start v) rest
  link_before_last (to_the_end u) rest = free_before_last (to_the_end u) rest
  link_before_last (constrained c among) rest = inr (through_before_last c among rest)

  pub last_of_chain : {u v : Term} → IsChain psi u v → IsLink [] u v ⊎ HasLast psi u v
  last_of_chain (link u v l) = link_before_last l (inl (same v))
  last_of_chain (longer u v w l p) = link_before_last l (last_of_chain p)

  free_before_first : {u v w : Term} → IsLink [] u v → IsLink [] v w ⊎ HasFirst psi v w → IsLink [] u w ⊎ HasFirst psi u w
  free_before_first l (inl m) = inl (link_transitive l m)
  free_before_first l (inr h) = inr (record { constraint = h.constraint; contained = h.contained; onto = link_transitive l h.onto; back = h.back })

  chain_of_first : {v w : Term} → IsLink [] v w ⊎ HasFirst psi v w → IsChain psi v w
  chain_of_first {v = v} {w = w} (inl m) = link v w (link_in psi m)
  chain_of_first {v = v} {w = w} (inr h) = longer v h.constraint.low w (link_in psi h.onto) (longer h.constraint.low h.constraint.high w (constrained h.constraint h.contained) h.back)

  link_before_first : {u v w : Term} → IsLink psi u v → IsLink [] v w ⊎ HasFirst psi v w → IsLink [] u w ⊎ HasFirst psi u w
  link_before_first (same t) rest = rest
  link_before_first (constants u v h) rest = free_before_first (constants u v h) rest
  link_before_first (from_the_start v) rest = free_before_first (from_the_start v) rest
  link_before_first (to_the_end u) rest = free_before_first (to_the_end u) rest
  link_before_first (constrained c among) rest = inr (record { constraint = c; contained = among; onto = same c.low; back = chain_of_first rest })

  pub first_of_chain : {u v : Term} → IsChain psi u v → IsLink [] u v ⊎ HasFirst psi u v
  first_of_chain (link u v l) = link_before_first l (inl (same v))
  first_of_chain (longer u v w l p) = link_before_first l (first_of_chain p)

-- without constraints nothing contradicts
none_among : (c : Constraint) → Contains [] c → ⊥
none_among c h = absurd (omega (arith, h.1))

pub no_contradiction : IsContradictory [] → ⊥
no_contradiction k = by_cases (last_of_chain [] k.chain) (λ l. k.out_of_order ((link_of_times k.greater k.lesser).0 l)) (λ h. none_among h.constraint h.contained)
