-- The computed entailment is the relation of entailment.
use Rattle.std.proofs.Common.{◌≡◌, ◌⊎◌, inl, inr, Bool, true, false, not, ◌&&◌, ◌||◌, List, [], ◌∷◌, refl, sym, subst, ap, ◌∙◌, arith}
use Rattle.std.specs.Prelude.{Contains}
use Rattle.std.specs.Bool.{Decides}
use Rattle.std.specs.List.{list_any}
use Rattle.std.proofs.lemmas.Bool.{false≢true}
use Rattle.std.proofs.lemmas.Bool.Decides.{Decides-or, Decides-and, Decides-like}
use Rattle.std.proofs.lemmas.List.Elements.{Contains-append_left, Contains-append_right, Contains-append_cases, Contains-push, Contains-push_cases}
use Rattle.bl_syntax.specs.declared.terms.Term.{Term}
use Rattle.bl_syntax.specs.declared.terms.Term.TheVariants.{Time}
use Rattle.bl_syntax.specs.declared.terms.TimePoint.{TimePoint}
use Rattle.bl_syntax.specs.declared.terms.TimePoint.TheVariants.{NegInf, At, PosInf}
use Rattle.bl_syntax.specs.declared.terms.Constraint.{Constraint}
use Rattle.bl_syntax.specs.TimeOrder.{IsUpTo}
use Rattle.bl_syntax.specs.Terms.{AreInOrder, in_order}
use Rattle.bl_syntax.specs.Entailment.{IsLink, same, constants, from_the_start, to_the_end, constrained, IsChain, link, longer, IsContradictory, Entails, chained, contradicted}
use Rattle.bl_syntax.proofs.EntailmentLemmas.{IsUpTo-itself, IsUpTo-PosInf, IsUpTo-transitive, IsChain-joined}
use Rattle.bl_syntax.proofs.EqualityLemmas.{Decides-term_eq}
use Rattle.bl_syntax.specs.ConditionTests.{is_up_to}
use Rattle.bl_syntax.proofs.ConditionTestLemmas.{Decides-is_up_to, both_true, either_true}
use Rattle.proof_verifier.specs.Entailed.{are_in_order, are_out_of_order, is_plain_link, has_chain, is_contradictory, is_entailed}

in_order_told : {u v : TimePoint} → AreInOrder (Time u) (Time v) → IsUpTo u v
in_order_told (in_order h) = h

Decides-are_in_order : (u v : Term) → Decides (are_in_order u v) (AreInOrder u v)
Decides-are_in_order (Time u) (Time v) = Decides-like (is_up_to u v) in_order in_order_told (Decides-is_up_to u v)
Decides-are_in_order _ _ = (λ e. absurd (false≢true e), λ h. elim h [ ])

-- links without constraints: reflexive, transitive, and decided
plain_told : (u v : Term) → (((u ≡ v) ⊎ AreInOrder u v) ⊎ (u ≡ Time NegInf)) ⊎ (v ≡ Time PosInf) → IsLink [] u v
plain_told u v (inl (inl (inl e))) = subst (λ (w : Term). IsLink [] u w) e (same u)
plain_told u v (inl (inl (inr h))) = constants u v h
plain_told u v (inl (inr e)) = subst (λ (w : Term). IsLink [] w v) (sym e) (from_the_start v)
plain_told u v (inr e) = subst (λ (w : Term). IsLink [] u w) (sym e) (to_the_end u)

none_in_nil : (c : Constraint) → Contains [] c → ⊥
none_in_nil c h = omega (arith, h.1)

plain_test : (u v : Term) → IsLink [] u v → (((u ≡ v) ⊎ AreInOrder u v) ⊎ (u ≡ Time NegInf)) ⊎ (v ≡ Time PosInf)
plain_test u v (same t) = inl (inl (inl refl))
plain_test u v (constants x y h) = inl (inl (inr h))
plain_test u v (from_the_start w) = inl (inr refl)
plain_test u v (to_the_end w) = inr refl
plain_test u v (constrained c among) = absurd (none_in_nil c among)

Decides-is_plain_link : (u v : Term) → Decides (is_plain_link u v) (IsLink [] u v)
Decides-is_plain_link u v =
    Decides-like (is_plain_link u v) (plain_told u v) (plain_test u v)
    (Decides-or _ _ (Decides-or _ _ (Decides-or _ _ (Decides-term_eq u v) (Decides-are_in_order u v)) (Decides-term_eq u (Time NegInf))) (Decides-term_eq v (Time PosInf)))

-- a plain link that begins at a constant: its end is a constant that is not before, or it begins at `-inf`
data FromConstant (u : TimePoint) (v : Term) : Type 0 where
  to_constant : (w : TimePoint) → v ≡ Time w → IsUpTo u w → FromConstant u v
  at_start : u ≡ NegInf → FromConstant u v

from_constant : (u : TimePoint) (v : Term) → IsLink [] (Time u) v → FromConstant u v
from_constant u v (same t) = to_constant u refl (IsUpTo-itself u)
from_constant u v (constants x y (in_order {v = w} h)) = to_constant w refl h
from_constant u v (from_the_start w) = at_start refl
from_constant u v (to_the_end w) = to_constant PosInf refl (IsUpTo-PosInf u)
from_constant u v (constrained c among) = absurd (none_in_nil c among)

-- a plain link that ends at a constant: it begins at a constant that is not after, or it ends at `+inf`
data ToConstant (u : Term) (v : TimePoint) : Type 0 where
  of_constant : (w : TimePoint) → u ≡ Time w → IsUpTo w v → ToConstant u v
  at_end : v ≡ PosInf → ToConstant u v

IsUpTo-NegInf : (v : TimePoint) → IsUpTo NegInf v
IsUpTo-NegInf v = tt

to_a_constant : (u : Term) (v : TimePoint) → IsLink [] u (Time v) → ToConstant u v
to_a_constant u v (same t) = of_constant v refl (IsUpTo-itself v)
to_a_constant u v (constants x y (in_order {u = w} h)) = of_constant w refl h
to_a_constant u v (from_the_start w) = of_constant NegInf refl (IsUpTo-NegInf v)
to_a_constant u v (to_the_end w) = at_end refl
to_a_constant u v (constrained c among) = absurd (none_in_nil c among)

no_earlier : (a : TimePoint) (w : Term) → IsUpTo a NegInf → IsLink [] (Time a) w
no_earlier NegInf w h = from_the_start w
no_earlier (At t) w h = absurd h
no_earlier PosInf w h = absurd h

no_later : (u : Term) (c : TimePoint) → IsUpTo PosInf c → IsLink [] u (Time c)
no_later u NegInf h = absurd h
no_later u (At t) h = absurd h
no_later u PosInf h = to_the_end u

plain_joined : (u v w : Term) → IsLink [] u v → IsLink [] v w → IsLink [] u w
plain_joined u v w (same t) q = q
plain_joined u v w (constants x y (in_order {u = a} {v = b} h)) q = by (from_constant b w q)
  where
    by : FromConstant b w → IsLink [] (Time a) w
    by (to_constant c e g) = subst (λ (x : Term). IsLink [] (Time a) x) (sym e) (constants (Time a) (Time c) (in_order (IsUpTo-transitive a b c h g)))
    by (at_start e) = no_earlier a w (subst (IsUpTo a) e h)
plain_joined u v w (from_the_start x) q = from_the_start w
plain_joined u v w (to_the_end x) q = by (from_constant PosInf w q)
  where
    by : FromConstant PosInf w → IsLink [] u w
    by (to_constant c e g) = subst (λ (x : Term). IsLink [] u x) (sym e) (no_later u c g)
    by (at_start e) = cc
plain_joined u v w (constrained c among) q = absurd (none_in_nil c among)

-- links that pass each constraint at most once
abbrev Leads : List Constraint → Term → Term → Type 0
Leads [] u v = IsLink [] u v
Leads (c ∷ others) u v = Leads others u v ⊎ (Leads others u c.low × Leads others c.high v)

Decides-leads : (psi : List Constraint) (u v : Term) → Decides (has_chain psi u v) (Leads psi u v)
Decides-leads [] u v = Decides-is_plain_link u v
Decides-leads (c ∷ others) u v =
    Decides-or _ _ (Decides-leads others u v) (Decides-and _ _ (Decides-leads others u c.low) (Decides-leads others c.high v))

leads_joined : (psi : List Constraint) (u v w : Term) → Leads psi u v → Leads psi v w → Leads psi u w
leads_joined [] u v w p q = plain_joined u v w p q
leads_joined (c ∷ others) u v w (inl p) (inl q) = inl (leads_joined others u v w p q)
leads_joined (c ∷ others) u v w (inl p) (inr q) = inr (leads_joined others u v c.low p q.0, q.1)
leads_joined (c ∷ others) u v w (inr p) (inl q) = inr (p.0, leads_joined others c.high v w p.1 q)
leads_joined (c ∷ others) u v w (inr p) (inr q) = inr (p.0, q.1)

leads_plain : (psi : List Constraint) (u v : Term) → IsLink [] u v → Leads psi u v
leads_plain [] u v l = l
leads_plain (c ∷ others) u v l = inl (leads_plain others u v l)

among_cases : (d : Constraint) (others : List Constraint) (c : Constraint) → Contains (d ∷ others) c → (d ≡ c) ⊎ Contains others c
among_cases d others c h = by (Contains-append_cases (d ∷ []) others c h)
  where
    first : Contains [] c ⊎ (d ≡ c) → (d ≡ c) ⊎ Contains others c
    first (inl none) = absurd (none_in_nil c none)
    first (inr e) = inl e

    by : Contains (d ∷ []) c ⊎ Contains others c → (d ≡ c) ⊎ Contains others c
    by (inl here) = first (Contains-push_cases [] d c here)
    by (inr there) = inr there

leads_constrained : (psi : List Constraint) (c : Constraint) → Contains psi c → Leads psi c.low c.high
leads_constrained [] c among = absurd (none_in_nil c among)
leads_constrained (d ∷ others) c among = by (leads_constrained others c) (among_cases d others c among)
  where
    by : (Contains others c → Leads others c.low c.high) → (d ≡ c) ⊎ Contains others c → Leads (d ∷ others) c.low c.high
    by behind (inl e) = subst (λ (x : Constraint). Leads (d ∷ others) x.low x.high) e (inr (leads_plain others d.low d.low (same d.low), leads_plain others d.high d.high (same d.high)))
    by behind (inr there) = inl (behind there)

leads_link : (psi : List Constraint) (u v : Term) → IsLink psi u v → Leads psi u v
leads_link psi u v (same t) = leads_plain psi t t (same t)
leads_link psi u v (constants x y h) = leads_plain psi x y (constants x y h)
leads_link psi u v (from_the_start w) = leads_plain psi (Time NegInf) w (from_the_start w)
leads_link psi u v (to_the_end w) = leads_plain psi w (Time PosInf) (to_the_end w)
leads_link psi u v (constrained c among) = leads_constrained psi c among

leads_chain : (psi : List Constraint) (u v : Term) → IsChain psi u v → Leads psi u v
leads_chain psi u v (link x y l) = leads_link psi x y l
leads_chain psi u v (longer x y z l p) = leads_joined psi x y z (leads_link psi x y l) (leads_chain psi y z p)

link_more : (c : Constraint) (others : List Constraint) (u v : Term) → IsLink others u v → IsLink (c ∷ others) u v
link_more c others u v (same t) = same t
link_more c others u v (constants x y h) = constants x y h
link_more c others u v (from_the_start w) = from_the_start w
link_more c others u v (to_the_end w) = to_the_end w
link_more c others u v (constrained d among) = constrained d (Contains-append_right (c ∷ []) others d among)

chain_more : (c : Constraint) (others : List Constraint) (u v : Term) → IsChain others u v → IsChain (c ∷ others) u v
chain_more c others u v (link x y l) = link x y (link_more c others x y l)
chain_more c others u v (longer x y z l p) = longer x y z (link_more c others x y l) (chain_more c others y z p)

chain_leads : (psi : List Constraint) (u v : Term) → Leads psi u v → IsChain psi u v
chain_leads [] u v l = link u v l
chain_leads (c ∷ others) u v (inl p) = chain_more c others u v (chain_leads others u v p)
chain_leads (c ∷ others) u v (inr p) =
    IsChain-joined (c ∷ others) (chain_more c others u c.low (chain_leads others u c.low p.0))
    (longer c.low c.high v (constrained c (Contains-append_left (c ∷ []) others c (Contains-push [] c))) (chain_more c others c.high v (chain_leads others c.high v p.1)))

Decides-chain : (psi : List Constraint) (u v : Term) → Decides (has_chain psi u v) (IsChain psi u v)
Decides-chain psi u v = Decides-like (has_chain psi u v) (chain_leads psi u v) (leads_chain psi u v) (Decides-leads psi u v)

-- a chain with constraints in it, from the first of these to the last
record Through (psi : List Constraint) (u v : Term) : Type 0 where
  first : Constraint
  last : Constraint
  first_among : Contains psi first
  last_among : Contains psi last
  front : IsLink [] u first.low
  middle : IsChain psi first.low last.high
  back : IsLink [] last.high v

of_plain : (psi : List Constraint) (u v : Term) → IsLink [] u v → IsLink psi u v
of_plain psi u v (same t) = same t
of_plain psi u v (constants x y h) = constants x y h
of_plain psi u v (from_the_start w) = from_the_start w
of_plain psi u v (to_the_end w) = to_the_end w
of_plain psi u v (constrained c among) = absurd (none_in_nil c among)

with_plain : (psi : List Constraint) (u v w : Term) → IsLink [] u v → IsLink [] v w ⊎ Through psi v w → IsLink [] u w ⊎ Through psi u w
with_plain psi u v w l (inl plain) = inl (plain_joined u v w l plain)
with_plain psi u v w l (inr through) =
    inr (record {
      first = through.first;
      last = through.last;
      first_among = through.first_among;
      last_among = through.last_among;
      front = plain_joined u v through.first.low l through.front;
      middle = through.middle;
      back = through.back;
    })

begun_with : (psi : List Constraint) (u v w : Term) → IsLink psi u v → IsLink [] v w ⊎ Through psi v w → IsLink [] u w ⊎ Through psi u w
begun_with psi u v w (same t) rest = rest
begun_with psi u v w (constrained c among) (inl plain) =
    inr (record { first = c; last = c; first_among = among; last_among = among; front = same c.low; middle = link c.low c.high (constrained c among); back = plain })
begun_with psi u v w (constrained c among) (inr through) =
    inr (record {
      first = c;
      last = through.last;
      first_among = among;
      last_among = through.last_among;
      front = same c.low;
      middle = longer c.low c.high through.last.high (constrained c among) (IsChain-joined psi (link c.high through.first.low (of_plain psi c.high through.first.low through.front)) through.middle);
      back = through.back;
    })
begun_with psi u v w (constants x y h) rest = with_plain psi x y w (constants x y h) rest
begun_with psi u v w (from_the_start x) rest = with_plain psi (Time NegInf) x w (from_the_start x) rest
begun_with psi u v w (to_the_end x) rest = with_plain psi x (Time PosInf) w (to_the_end x) rest

parted : (psi : List Constraint) (u v : Term) → IsChain psi u v → IsLink [] u v ⊎ Through psi u v
parted psi u v (link x y l) = begun_with psi x y y l (inl (same y))
parted psi u v (longer x y z l p) = begun_with psi x y z l (parted psi y z p)

-- a plain link between constants is in order
plain_in_order : (u v : TimePoint) → IsLink [] (Time u) (Time v) → IsUpTo u v
plain_in_order u v l = by (from_constant u (Time v) l)
  where
    by : FromConstant u (Time v) → IsUpTo u v
    by (to_constant w e h) = subst (IsUpTo u) (cc) h
    by (at_start e) = subst (λ (x : TimePoint). IsUpTo x v) (sym e) (IsUpTo-NegInf v)

true_or : (a b : Bool) → b ≡ true → (a || b) ≡ true
true_or true b e = refl
true_or false b e = e

or_true : (a b : Bool) → a ≡ true → (a || b) ≡ true
or_true true b e = refl
or_true false b e = absurd (false≢true e)

any_test : (p : Constraint → Bool) (psi : List Constraint) (c : Constraint) → Contains psi c → p c ≡ true → list_any p psi ≡ true
any_test p [] c among e = absurd (none_in_nil c among)
any_test p (d ∷ others) c among e = by (λ there. any_test p others c there e) (among_cases d others c among)
  where
    by : (Contains others c → list_any p others ≡ true) → (d ≡ c) ⊎ Contains others c → (p d || list_any p others) ≡ true
    by behind (inl here) = or_true (p d) (list_any p others) (ap p here ∙ e)
    by behind (inr there) = true_or (p d) (list_any p others) (behind there)

any_told : (p : Constraint → Bool) (psi : List Constraint) → list_any p psi ≡ true → (c : Constraint) × (p c ≡ true)
any_told p [] e = absurd (false≢true e)
any_told p (c ∷ others) e = by (any_told p others) (either_true (p c) (list_any p others) e)
  where
    by : (list_any p others ≡ true → (d : Constraint) × (p d ≡ true)) → (p c ≡ true) ⊎ (list_any p others ≡ true) → (d : Constraint) × (p d ≡ true)
    by behind (inl here) = (c, here)
    by behind (inr there) = behind there

true_and : (a b : Bool) → a ≡ true → b ≡ true → (a && b) ≡ true
true_and true b e f = f
true_and false b e f = absurd (false≢true e)

not_true : (a : Bool) → not a ≡ true → a ≡ true → ⊥
not_true true e f = false≢true e
not_true false e f = false≢true f

true_not : (a : Bool) → (a ≡ true → ⊥) → not a ≡ true
true_not true h = absurd (h refl)
true_not false h = refl

-- two constants, the first after the second
data OutOfOrder (u v : Term) : Type 0 where
  out_of_order : (a b : TimePoint) → u ≡ Time a → v ≡ Time b → (IsUpTo a b → ⊥) → OutOfOrder u v

out_told : (u v : Term) → are_out_of_order u v ≡ true → OutOfOrder u v
out_told (Time a) (Time b) e = out_of_order a b refl refl (λ h. not_true (is_up_to a b) e ((Decides-is_up_to a b).1 h))
out_told _ _ e = absurd (false≢true e)

contradiction_told : (psi : List Constraint) → is_contradictory psi ≡ true → IsContradictory psi
contradiction_told psi e =
    let outer = any_told _ psi e in
    let inner = any_told _ psi outer.1 in
    let parts = both_true _ _ inner.1 in
    by outer.0.low inner.0.high (out_told outer.0.low inner.0.high parts.0) (chain_leads psi outer.0.low inner.0.high ((Decides-leads psi outer.0.low inner.0.high).0 parts.1))
  where
    by : (u v : Term) → OutOfOrder u v → IsChain psi u v → IsContradictory psi
    by u v (out_of_order a b eu ev out) p =
        record { greater = a; lesser = b; chain = subst (λ (x : Term). IsChain psi (Time a) x) ev (subst (λ (x : Term). IsChain psi x v) eu p); out_of_order = out }

out_test : (u v : Term) (a b : TimePoint) → u ≡ Time a → v ≡ Time b → (IsUpTo a b → ⊥) → are_out_of_order u v ≡ true
out_test u v a b eu ev out = rw (eu, ev) (true_not (is_up_to a b) (λ e. out ((Decides-is_up_to a b).0 e)))

contradiction_test : (psi : List Constraint) → IsContradictory psi → is_contradictory psi ≡ true
contradiction_test psi k = by (parted psi (Time k.greater) (Time k.lesser) k.chain)
  where
    ends : (through : Through psi (Time k.greater) (Time k.lesser)) → FromConstant k.greater through.first.low → ToConstant through.last.high k.lesser → is_contradictory psi ≡ true
    ends through (at_start e) back = absurd (k.out_of_order (subst (λ (x : TimePoint). IsUpTo x k.lesser) (sym e) (IsUpTo-NegInf k.lesser)))
    ends through (to_constant a ea ha) (at_end e) = absurd (k.out_of_order (subst (IsUpTo k.greater) (sym e) (IsUpTo-PosInf k.greater)))
    ends through (to_constant a ea ha) (of_constant b eb hb) =
        let out : IsUpTo a b → ⊥ = λ h. k.out_of_order (IsUpTo-transitive k.greater a k.lesser ha (IsUpTo-transitive a b k.lesser h hb)) in
        let led : has_chain psi through.first.low through.last.high ≡ true = (Decides-chain psi through.first.low through.last.high).1 through.middle in
        any_test _ psi through.first through.first_among
        (any_test _ psi through.last through.last_among
        (true_and _ _ (out_test through.first.low through.last.high a b ea eb out) led))

    by : IsLink [] (Time k.greater) (Time k.lesser) ⊎ Through psi (Time k.greater) (Time k.lesser) → is_contradictory psi ≡ true
    by (inl plain) = absurd (k.out_of_order (plain_in_order k.greater k.lesser plain))
    by (inr through) = ends through (from_constant k.greater through.first.low through.front) (to_a_constant through.last.high k.lesser through.back)

entails_told : (psi : List Constraint) (u v : Term) → IsChain psi u v ⊎ IsContradictory psi → Entails psi u v
entails_told psi u v (inl p) = chained p
entails_told psi u v (inr k) = contradicted k

entails_parted : (psi : List Constraint) (u v : Term) → Entails psi u v → IsChain psi u v ⊎ IsContradictory psi
entails_parted psi u v (chained p) = inl p
entails_parted psi u v (contradicted k) = inr k

-- what is computed is what is entailed
pub Decides-is_entailed : (psi : List Constraint) (u v : Term) → Decides (is_entailed psi u v) (Entails psi u v)
unfolding is_entailed
Decides-is_entailed psi u v =
    Decides-like (is_entailed psi u v) (entails_told psi u v) (entails_parted psi u v)
    (Decides-or _ _ (Decides-chain psi u v) (contradiction_told psi, contradiction_test psi))
