-- Identity: a truth is derivable on each interval within its own.
use Rattle.std.proofs.Common.{◌≡◌, ◌∙◌, ◌≤◌, ℕ, zero, suc, max, List, [], ◌∷◌, ◌++◌, length, Some, inl, refl, ap, sym, subst, arith, append_assoc, length-append, le_refl}
use Rattle.std.specs.List.{slice_get}
use Rattle.std.proofs.lemmas.Option.{slice_get-get_or}
use Rattle.std.proofs.Math.Seq.{get_or-append_seam}
use Rattle.std.proofs.lemmas.List.Elements.{Contains-push, Contains-append_left}
use Rattle.bl_syntax.specs.declared.terms.Sort.{Sort}
use Rattle.bl_syntax.specs.declared.terms.Sort.TheVariants.{Time}
use Rattle.bl_syntax.specs.declared.terms.Term.{Term}
use Rattle.bl_syntax.specs.Formula.{FormulaView, atom, compare, state, both, either, implies, truth, falsity, forall_, exists_, says, on}
use Rattle.bl_syntax.specs.Substitution.{put_in, instance_at}
use Rattle.bl_syntax.proofs.EntailmentLemmas.{Entails-itself, Entails-transitive}
use Rattle.bl_rules.specs.Sequent.{holds, claims, Known, learn, bound, declare, speak, new_parameter, new_start, new_end}
use Rattle.bl_rules.specs.Derivable.{Assumes, IsNotAfter, IsOfSort, Derivable, init, cons_r, inter_r, and_r, or_r1, or_r2, true_r, imp_r, forall_r, exists_r, says_r, at_r, cons_l, inter_l, and_l, or_l, false_l, imp_l, forall_l, exists_l, says_l, claim, at_l}
use Rattle.bl_rules.proofs.Membership.{Contains-claims_among}
use Rattle.bl_rules.proofs.RicherLemmas.{bounded, bound_entailed}

-- how deep the formula is
abbrev depth : FormulaView → ℕ
depth (atom name terms) = 1
depth (compare c) = 1
depth (state s) = 1
depth (both a b) = suc (max (depth a) (depth b))
depth (either a b) = suc (max (depth a) (depth b))
depth (implies a b) = suc (max (depth a) (depth b))
depth truth = 1
depth falsity = 1
depth (forall_ s a) = suc (depth a)
depth (exists_ s a) = suc (depth a)
depth (says k a) = suc (depth a)
depth (on a u v) = suc (depth a)

-- an instance is as deep
depth-put_in : (level : ℕ) (t : Term) (f : FormulaView) → depth (put_in level t f) ≡ depth f
depth-put_in level t (atom name terms) = refl
depth-put_in level t (compare c) = refl
depth-put_in level t (state s) = refl
depth-put_in level t (both a b) = rw (depth-put_in level t a, depth-put_in level t b)
depth-put_in level t (either a b) = rw (depth-put_in level t a, depth-put_in level t b)
depth-put_in level t (implies a b) = rw (depth-put_in level t a, depth-put_in level t b)
depth-put_in level t truth = refl
depth-put_in level t falsity = refl
depth-put_in level t (forall_ s a) = rw (depth-put_in (suc level) t a)
depth-put_in level t (exists_ s a) = rw (depth-put_in (suc level) t a)
depth-put_in level t (says k a) = rw (depth-put_in level t a)
depth-put_in level t (on a u v) = rw (depth-put_in level t a)

shallow : (n : ℕ) (t : Term) (a : FormulaView) → depth a ≤ n → depth (instance_at t a) ≤ n
shallow n t a le = rw (depth-put_in 0 t a) le

positive : (f : FormulaView) → 1 ≤ depth f
positive (atom name terms) = omega arith
positive (compare c) = omega arith
positive (state s) = omega arith
positive (both a b) = omega arith
positive (either a b) = omega arith
positive (implies a b) = omega arith
positive truth = omega arith
positive falsity = omega arith
positive (forall_ s a) = omega arith
positive (exists_ s a) = omega arith
positive (says k a) = omega arith
positive (on a u v) = omega arith

-- a new parameter is in scope
declared_sort : (sorts : List Sort) (p : Sort) (others : List Sort) → slice_get (sorts ++ p ∷ others) (length sorts) ≡ Some p
declared_sort sorts p others =
    slice_get-get_or (sorts ++ p ∷ others) (length sorts) p (omega (arith, length-append sorts (p ∷ others))) ∙ ap Some (get_or-append_seam sorts p others p)

pub new_parameter-sort : (known : Known) (p : Sort) → IsOfSort (declare p known) p (new_parameter known)
new_parameter-sort known p = declared_sort known.sorts p []

start_is_time : (known : Known) → IsOfSort (declare Time (declare Time known)) Time (new_start known)
start_is_time known = subst (λ (sorts : List Sort). slice_get sorts (length known.sorts) ≡ Some Time) (sym (append_assoc known.sorts (Time ∷ []) (Time ∷ []))) (declared_sort known.sorts Time (Time ∷ []))

identity : (n : ℕ) (f : FormulaView) → depth f ≤ n → (known : Known) (from to u v : Term)
    → Assumes known (holds f from to) → IsNotAfter known from u → IsNotAfter known v to → Derivable known f u v
identity zero f deep known from to u v among begins ends = absurd (omega (arith, deep, positive f))
identity (suc n) (atom name terms) deep known from to u v among begins ends = init from to among begins ends
identity (suc n) (compare c) deep known from to u v among begins ends = cons_l c from to among (cons_r (bound_entailed known c.low c.high))
identity (suc n) (state s) deep known from to u v among begins ends = inter_l s from to among (inter_r (Contains-push known.facts s))
identity (suc n) (both a b) deep known from to u v among begins ends =
    let first = learn (holds a from to) known in
    let second = learn (holds b from to) first in
    and_l a b from to among (and_r
    (identity n a (omega (arith, deep)) second from to u v (Contains-append_left first.hypotheses (holds b from to ∷ []) (holds a from to) (Contains-push known.hypotheses (holds a from to))) begins ends)
    (identity n b (omega (arith, deep)) second from to u v (Contains-push first.hypotheses (holds b from to)) begins ends))
identity (suc n) (either a b) deep known from to u v among begins ends =
    or_l a b from to among
    (or_r1 (identity n a (omega (arith, deep)) (learn (holds a from to) known) from to u v (Contains-push known.hypotheses (holds a from to)) begins ends))
    (or_r2 (identity n b (omega (arith, deep)) (learn (holds b from to) known) from to u v (Contains-push known.hypotheses (holds b from to)) begins ends))
identity (suc n) (implies a b) deep known from to u v among begins ends =
    let x = new_start known in
    let y = new_end known in
    let declared = declare Time (declare Time known) in
    let started = bound u x declared in
    let ended = bound y v started in
    let supposed = learn (holds a x y) ended in
    let concluded = learn (holds b x y) supposed in
    let x_itself = Entails-itself ended.constraints x in
    let y_itself = Entails-itself ended.constraints y in
    let from_x = Entails-transitive ended.constraints from u x (bounded started y v from u (bounded declared u x from u begins)) (bounded started y v u x (bound_entailed declared u x)) in
    let y_to = Entails-transitive ended.constraints y v to (bound_entailed started y v) (bounded started y v v to (bounded declared u x v to ends)) in
    imp_r (imp_l a b from to x y (Contains-append_left known.hypotheses (holds a x y ∷ []) (holds (implies a b) from to) among)
    (start_is_time known) (new_parameter-sort (declare Time known) Time) from_x y_to
    (identity n a (omega (arith, deep)) supposed x y x y (Contains-push known.hypotheses (holds a x y)) x_itself y_itself)
    (identity n b (omega (arith, deep)) concluded x y x y (Contains-push supposed.hypotheses (holds b x y)) x_itself y_itself))
identity (suc n) truth deep known from to u v among begins ends = true_r
identity (suc n) falsity deep known from to u v among begins ends = false_l from to among
identity (suc n) (forall_ s a) deep known from to u v among begins ends =
    let t = new_parameter known in
    let instance = holds (instance_at t a) from to in
    forall_r (forall_l s a from to t among (new_parameter-sort known s)
    (identity n (instance_at t a) (shallow n t a (omega (arith, deep))) (learn instance (declare s known)) from to u v (Contains-push known.hypotheses instance) begins ends))
identity (suc n) (exists_ s a) deep known from to u v among begins ends =
    let t = new_parameter known in
    let instance = holds (instance_at t a) from to in
    exists_l s a from to among (exists_r t (new_parameter-sort known s)
    (identity n (instance_at t a) (shallow n t a (omega (arith, deep))) (learn instance (declare s known)) from to u v (Contains-push known.hypotheses instance) begins ends))
identity (suc n) (says k a) deep known from to u v among begins ends =
    let claimed = claims k a from to in
    let spoken = speak k u v (learn claimed known) in
    says_l k a from to among (says_r (claim k a from to
    (Contains-claims_among (known.hypotheses ++ claimed ∷ []) claimed tt (Contains-push known.hypotheses claimed)) (inl refl) begins ends
    (identity n a (omega (arith, deep)) (learn (holds a from to) spoken) from to u v (Contains-push spoken.hypotheses (holds a from to)) begins ends)))
identity (suc n) (on a x y) deep known from to u v among begins ends =
    at_l a x y from to among (at_r
    (identity n a (omega (arith, deep)) (learn (holds a x y) known) x y x y (Contains-push known.hypotheses (holds a x y)) (Entails-itself known.constraints x) (Entails-itself known.constraints y)))

pub Derivable-identity : (known : Known) (f : FormulaView) (from to u v : Term)
    → Assumes known (holds f from to) → IsNotAfter known from u → IsNotAfter known v to → Derivable known f u v
Derivable-identity known f = identity (depth f) f (le_refl (depth f)) known
