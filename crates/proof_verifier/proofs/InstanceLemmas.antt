-- What a rule asks of an instance's form, it asks of its formula's: the parts of an instance are the parts of its formula, with the same terms.
use Rattle.std.proofs.Common.{◌≡◌, ℕ, suc, ◌<◌, ◌≤◌, ◌==◌, false, List, [], ◌∷◌, map, refl, sym, ap, ◌∙◌, arith}
use Rattle.std.proofs.lemmas.List.{map-id}
use Rattle.std.proofs.lemmas.Bool.{ne_eqb}
use Rattle.std.specs.Prelude.{Result, Ok, Err}
use Rattle.bl_syntax.specs.declared.terms.Sort.{Sort}
use Rattle.bl_syntax.specs.declared.terms.Term.{Term}
use Rattle.bl_syntax.specs.declared.terms.Term.TheVariants.{Bound}
use Rattle.bl_syntax.specs.declared.terms.Constraint.{Constraint}
use Rattle.bl_syntax.specs.declared.terms.StatePred.{StatePred}
use Rattle.bl_syntax.specs.declared.terms.StatePred.TheVariants.{Owner, HasXattr, InDir}
use Rattle.bl_syntax.specs.Formula.{FormulaView, atom, compare, state, both, either, implies, truth, falsity, forall_, exists_, says, on}
use Rattle.bl_syntax.specs.Substitution.{put_in, put_in_term, put_in_constraint, put_in_state}
use Rattle.proof_verifier.specs.declared.fault.CheckFault.{CheckFault}
use Rattle.proof_verifier.specs.declared.instance.TermList.{TermList}
use Rattle.proof_verifier.specs.declared.instance.TermList.TheVariants as code
use Rattle.proof_verifier.specs.Instances.{term_with, constraint_with, state_with, formula_with}
use Rattle.proof_verifier.specs.Shapes.{as_atom, as_constraint, as_state, as_both, as_either, as_implies, as_true, as_false, as_forall, as_exists, as_says, as_on}

-- what becomes of the parts, if there are any
on_ok : {A B : Type 0} → (A → B) → Result A CheckFault → Result B CheckFault
on_ok f (Ok found) = Ok (f found)
on_ok f (Err fault) = Err fault

map-twice : (f g : Term → Term) (l : List Term) → map g (map f l) ≡ map (λ t. g (f t)) l
map-twice f g [] = refl
map-twice f g (t ∷ l) = ap (λ (m : List Term). g (f t) ∷ m) (map-twice f g l)

-- an atom
as_atom_put : (node depth : ℕ) (t : Term) (f : FormulaView) → as_atom node (put_in depth t f) ≡ on_ok (λ (p : List ℕ × List Term). (p.0, map (put_in_term depth t) p.1)) (as_atom node f)
unfolding on_ok
as_atom_put node depth t (atom x y) = refl
as_atom_put node depth t _ = refl

pub as_atom_ok : (terms : TermList) (node depth : ℕ) (f : FormulaView) (name : List ℕ) (arguments : List Term) → as_atom node f ≡ Ok (name, arguments) → as_atom node (formula_with depth terms f) ≡ Ok (name, map (term_with depth terms) arguments)
unfolding on_ok
as_atom_ok code.None node depth f name arguments e = e ∙ ap (λ (l : List Term). Ok (name, l)) (sym (map-id arguments))
as_atom_ok (code.More' p outer last) node depth f name arguments e =
    as_atom_put node depth last.now (formula_with (suc depth) outer f) ∙ ap (on_ok (λ (p : List ℕ × List Term). (p.0, map (put_in_term depth last.now) p.1))) (as_atom_ok outer node (suc depth) f name arguments e)
    ∙ ap (λ (l : List Term). Ok (name, l)) (map-twice (term_with (suc depth) outer) (put_in_term depth last.now) arguments)

pub as_atom_err : (terms : TermList) (node depth : ℕ) (f : FormulaView) (fault : CheckFault) → as_atom node f ≡ Err fault → as_atom node (formula_with depth terms f) ≡ Err fault
unfolding on_ok
as_atom_err code.None node depth f fault e = e
as_atom_err (code.More' p outer last) node depth f fault e =
    as_atom_put node depth last.now (formula_with (suc depth) outer f) ∙ ap (on_ok (λ (p : List ℕ × List Term). (p.0, map (put_in_term depth last.now) p.1))) (as_atom_err outer node (suc depth) f fault e)

-- a constraint
as_constraint_put : (node depth : ℕ) (t : Term) (f : FormulaView) → as_constraint node (put_in depth t f) ≡ on_ok (put_in_constraint depth t) (as_constraint node f)
unfolding on_ok
as_constraint_put node depth t (compare x) = refl
as_constraint_put node depth t _ = refl

pub as_constraint_ok : (terms : TermList) (node depth : ℕ) (f : FormulaView) (c : Constraint) → as_constraint node f ≡ Ok c → as_constraint node (formula_with depth terms f) ≡ Ok (constraint_with depth terms c)
unfolding on_ok
as_constraint_ok code.None node depth f c e = e
as_constraint_ok (code.More' p outer last) node depth f c e =
    as_constraint_put node depth last.now (formula_with (suc depth) outer f) ∙ ap (on_ok (put_in_constraint depth last.now)) (as_constraint_ok outer node (suc depth) f c e)

pub as_constraint_err : (terms : TermList) (node depth : ℕ) (f : FormulaView) (fault : CheckFault) → as_constraint node f ≡ Err fault → as_constraint node (formula_with depth terms f) ≡ Err fault
unfolding on_ok
as_constraint_err code.None node depth f fault e = e
as_constraint_err (code.More' p outer last) node depth f fault e =
    as_constraint_put node depth last.now (formula_with (suc depth) outer f) ∙ ap (on_ok (put_in_constraint depth last.now)) (as_constraint_err outer node (suc depth) f fault e)

-- a predicate on the state
state_with-none : (depth : ℕ) (s : StatePred) → s ≡ state_with depth code.None s
state_with-none depth (Owner file owner) = refl
state_with-none depth (HasXattr file name value) = refl
state_with-none depth (InDir file directory) = refl

state_with-more : (p : _) (outer : TermList) (last : _) (depth : ℕ) (s : StatePred)
    → put_in_state depth last.now (state_with (suc depth) outer s) ≡ state_with depth (code.More' p outer last) s
state_with-more p outer last depth (Owner file owner) = refl
state_with-more p outer last depth (HasXattr file name value) = refl
state_with-more p outer last depth (InDir file directory) = refl

as_state_put : (node depth : ℕ) (t : Term) (f : FormulaView) → as_state node (put_in depth t f) ≡ on_ok (put_in_state depth t) (as_state node f)
unfolding on_ok
as_state_put node depth t (state x) = refl
as_state_put node depth t _ = refl

pub as_state_ok : (terms : TermList) (node depth : ℕ) (f : FormulaView) (s : StatePred) → as_state node f ≡ Ok s → as_state node (formula_with depth terms f) ≡ Ok (state_with depth terms s)
unfolding on_ok
as_state_ok code.None node depth f s e = e ∙ ap (λ (s : StatePred). Ok s) (state_with-none depth s)
as_state_ok (code.More' p outer last) node depth f s e =
    as_state_put node depth last.now (formula_with (suc depth) outer f) ∙ ap (on_ok (put_in_state depth last.now)) (as_state_ok outer node (suc depth) f s e)
    ∙ ap (λ (s : StatePred). Ok s) (state_with-more p outer last depth s)

pub as_state_err : (terms : TermList) (node depth : ℕ) (f : FormulaView) (fault : CheckFault) → as_state node f ≡ Err fault → as_state node (formula_with depth terms f) ≡ Err fault
unfolding on_ok
as_state_err code.None node depth f fault e = e
as_state_err (code.More' p outer last) node depth f fault e =
    as_state_put node depth last.now (formula_with (suc depth) outer f) ∙ ap (on_ok (put_in_state depth last.now)) (as_state_err outer node (suc depth) f fault e)

-- a conjunction
as_both_put : (node depth : ℕ) (t : Term) (f : FormulaView) → as_both node (put_in depth t f) ≡ on_ok (λ (p : FormulaView × FormulaView). (put_in depth t p.0, put_in depth t p.1)) (as_both node f)
unfolding on_ok
as_both_put node depth t (both x y) = refl
as_both_put node depth t _ = refl

pub as_both_ok : (terms : TermList) (node depth : ℕ) (f : FormulaView) (a b : FormulaView) → as_both node f ≡ Ok (a, b) → as_both node (formula_with depth terms f) ≡ Ok (formula_with depth terms a, formula_with depth terms b)
unfolding on_ok
as_both_ok code.None node depth f a b e = e
as_both_ok (code.More' p outer last) node depth f a b e =
    as_both_put node depth last.now (formula_with (suc depth) outer f) ∙ ap (on_ok (λ (p : FormulaView × FormulaView). (put_in depth last.now p.0, put_in depth last.now p.1))) (as_both_ok outer node (suc depth) f a b e)

pub as_both_err : (terms : TermList) (node depth : ℕ) (f : FormulaView) (fault : CheckFault) → as_both node f ≡ Err fault → as_both node (formula_with depth terms f) ≡ Err fault
unfolding on_ok
as_both_err code.None node depth f fault e = e
as_both_err (code.More' p outer last) node depth f fault e =
    as_both_put node depth last.now (formula_with (suc depth) outer f) ∙ ap (on_ok (λ (p : FormulaView × FormulaView). (put_in depth last.now p.0, put_in depth last.now p.1))) (as_both_err outer node (suc depth) f fault e)

-- a disjunction
as_either_put : (node depth : ℕ) (t : Term) (f : FormulaView) → as_either node (put_in depth t f) ≡ on_ok (λ (p : FormulaView × FormulaView). (put_in depth t p.0, put_in depth t p.1)) (as_either node f)
unfolding on_ok
as_either_put node depth t (either x y) = refl
as_either_put node depth t _ = refl

pub as_either_ok : (terms : TermList) (node depth : ℕ) (f : FormulaView) (a b : FormulaView) → as_either node f ≡ Ok (a, b) → as_either node (formula_with depth terms f) ≡ Ok (formula_with depth terms a, formula_with depth terms b)
unfolding on_ok
as_either_ok code.None node depth f a b e = e
as_either_ok (code.More' p outer last) node depth f a b e =
    as_either_put node depth last.now (formula_with (suc depth) outer f) ∙ ap (on_ok (λ (p : FormulaView × FormulaView). (put_in depth last.now p.0, put_in depth last.now p.1))) (as_either_ok outer node (suc depth) f a b e)

pub as_either_err : (terms : TermList) (node depth : ℕ) (f : FormulaView) (fault : CheckFault) → as_either node f ≡ Err fault → as_either node (formula_with depth terms f) ≡ Err fault
unfolding on_ok
as_either_err code.None node depth f fault e = e
as_either_err (code.More' p outer last) node depth f fault e =
    as_either_put node depth last.now (formula_with (suc depth) outer f) ∙ ap (on_ok (λ (p : FormulaView × FormulaView). (put_in depth last.now p.0, put_in depth last.now p.1))) (as_either_err outer node (suc depth) f fault e)

-- an implication
as_implies_put : (node depth : ℕ) (t : Term) (f : FormulaView) → as_implies node (put_in depth t f) ≡ on_ok (λ (p : FormulaView × FormulaView). (put_in depth t p.0, put_in depth t p.1)) (as_implies node f)
unfolding on_ok
as_implies_put node depth t (implies x y) = refl
as_implies_put node depth t _ = refl

pub as_implies_ok : (terms : TermList) (node depth : ℕ) (f : FormulaView) (a b : FormulaView) → as_implies node f ≡ Ok (a, b) → as_implies node (formula_with depth terms f) ≡ Ok (formula_with depth terms a, formula_with depth terms b)
unfolding on_ok
as_implies_ok code.None node depth f a b e = e
as_implies_ok (code.More' p outer last) node depth f a b e =
    as_implies_put node depth last.now (formula_with (suc depth) outer f) ∙ ap (on_ok (λ (p : FormulaView × FormulaView). (put_in depth last.now p.0, put_in depth last.now p.1))) (as_implies_ok outer node (suc depth) f a b e)

pub as_implies_err : (terms : TermList) (node depth : ℕ) (f : FormulaView) (fault : CheckFault) → as_implies node f ≡ Err fault → as_implies node (formula_with depth terms f) ≡ Err fault
unfolding on_ok
as_implies_err code.None node depth f fault e = e
as_implies_err (code.More' p outer last) node depth f fault e =
    as_implies_put node depth last.now (formula_with (suc depth) outer f) ∙ ap (on_ok (λ (p : FormulaView × FormulaView). (put_in depth last.now p.0, put_in depth last.now p.1))) (as_implies_err outer node (suc depth) f fault e)

-- true
as_true_put : (node depth : ℕ) (t : Term) (f : FormulaView) → as_true node (put_in depth t f) ≡ on_ok (λ (p : Unit {0}). p) (as_true node f)
unfolding on_ok
as_true_put node depth t truth = refl
as_true_put node depth t _ = refl

pub as_true_ok : (terms : TermList) (node depth : ℕ) (f : FormulaView) → as_true node f ≡ Ok tt → as_true node (formula_with depth terms f) ≡ Ok tt
unfolding on_ok
as_true_ok code.None node depth f e = e
as_true_ok (code.More' p outer last) node depth f e =
    as_true_put node depth last.now (formula_with (suc depth) outer f) ∙ ap (on_ok (λ (p : Unit {0}). p)) (as_true_ok outer node (suc depth) f e)

pub as_true_err : (terms : TermList) (node depth : ℕ) (f : FormulaView) (fault : CheckFault) → as_true node f ≡ Err fault → as_true node (formula_with depth terms f) ≡ Err fault
unfolding on_ok
as_true_err code.None node depth f fault e = e
as_true_err (code.More' p outer last) node depth f fault e =
    as_true_put node depth last.now (formula_with (suc depth) outer f) ∙ ap (on_ok (λ (p : Unit {0}). p)) (as_true_err outer node (suc depth) f fault e)

-- false
as_false_put : (node depth : ℕ) (t : Term) (f : FormulaView) → as_false node (put_in depth t f) ≡ on_ok (λ (p : Unit {0}). p) (as_false node f)
unfolding on_ok
as_false_put node depth t falsity = refl
as_false_put node depth t _ = refl

pub as_false_ok : (terms : TermList) (node depth : ℕ) (f : FormulaView) → as_false node f ≡ Ok tt → as_false node (formula_with depth terms f) ≡ Ok tt
unfolding on_ok
as_false_ok code.None node depth f e = e
as_false_ok (code.More' p outer last) node depth f e =
    as_false_put node depth last.now (formula_with (suc depth) outer f) ∙ ap (on_ok (λ (p : Unit {0}). p)) (as_false_ok outer node (suc depth) f e)

pub as_false_err : (terms : TermList) (node depth : ℕ) (f : FormulaView) (fault : CheckFault) → as_false node f ≡ Err fault → as_false node (formula_with depth terms f) ≡ Err fault
unfolding on_ok
as_false_err code.None node depth f fault e = e
as_false_err (code.More' p outer last) node depth f fault e =
    as_false_put node depth last.now (formula_with (suc depth) outer f) ∙ ap (on_ok (λ (p : Unit {0}). p)) (as_false_err outer node (suc depth) f fault e)

-- forall: under its binder the terms are those of one binder further out
as_forall_put : (node depth : ℕ) (t : Term) (f : FormulaView) → as_forall node (put_in depth t f) ≡ on_ok (λ (p : Sort × FormulaView). (p.0, put_in (suc depth) t p.1)) (as_forall node f)
unfolding on_ok
as_forall_put node depth t (forall_ x y) = refl
as_forall_put node depth t _ = refl

pub as_forall_ok : (terms : TermList) (node depth : ℕ) (f : FormulaView) (sort : Sort) (a : FormulaView) → as_forall node f ≡ Ok (sort, a) → as_forall node (formula_with depth terms f) ≡ Ok (sort, formula_with (suc depth) terms a)
unfolding on_ok
as_forall_ok code.None node depth f sort a e = e
as_forall_ok (code.More' p outer last) node depth f sort a e =
    as_forall_put node depth last.now (formula_with (suc depth) outer f) ∙ ap (on_ok (λ (p : Sort × FormulaView). (p.0, put_in (suc depth) last.now p.1))) (as_forall_ok outer node (suc depth) f sort a e)

pub as_forall_err : (terms : TermList) (node depth : ℕ) (f : FormulaView) (fault : CheckFault) → as_forall node f ≡ Err fault → as_forall node (formula_with depth terms f) ≡ Err fault
unfolding on_ok
as_forall_err code.None node depth f fault e = e
as_forall_err (code.More' p outer last) node depth f fault e =
    as_forall_put node depth last.now (formula_with (suc depth) outer f) ∙ ap (on_ok (λ (p : Sort × FormulaView). (p.0, put_in (suc depth) last.now p.1))) (as_forall_err outer node (suc depth) f fault e)

-- exists
as_exists_put : (node depth : ℕ) (t : Term) (f : FormulaView) → as_exists node (put_in depth t f) ≡ on_ok (λ (p : Sort × FormulaView). (p.0, put_in (suc depth) t p.1)) (as_exists node f)
unfolding on_ok
as_exists_put node depth t (exists_ x y) = refl
as_exists_put node depth t _ = refl

pub as_exists_ok : (terms : TermList) (node depth : ℕ) (f : FormulaView) (sort : Sort) (a : FormulaView) → as_exists node f ≡ Ok (sort, a) → as_exists node (formula_with depth terms f) ≡ Ok (sort, formula_with (suc depth) terms a)
unfolding on_ok
as_exists_ok code.None node depth f sort a e = e
as_exists_ok (code.More' p outer last) node depth f sort a e =
    as_exists_put node depth last.now (formula_with (suc depth) outer f) ∙ ap (on_ok (λ (p : Sort × FormulaView). (p.0, put_in (suc depth) last.now p.1))) (as_exists_ok outer node (suc depth) f sort a e)

pub as_exists_err : (terms : TermList) (node depth : ℕ) (f : FormulaView) (fault : CheckFault) → as_exists node f ≡ Err fault → as_exists node (formula_with depth terms f) ≡ Err fault
unfolding on_ok
as_exists_err code.None node depth f fault e = e
as_exists_err (code.More' p outer last) node depth f fault e =
    as_exists_put node depth last.now (formula_with (suc depth) outer f) ∙ ap (on_ok (λ (p : Sort × FormulaView). (p.0, put_in (suc depth) last.now p.1))) (as_exists_err outer node (suc depth) f fault e)

-- what a principal says
as_says_put : (node depth : ℕ) (t : Term) (f : FormulaView) → as_says node (put_in depth t f) ≡ on_ok (λ (p : Term × FormulaView). (put_in_term depth t p.0, put_in depth t p.1)) (as_says node f)
unfolding on_ok
as_says_put node depth t (says x y) = refl
as_says_put node depth t _ = refl

pub as_says_ok : (terms : TermList) (node depth : ℕ) (f : FormulaView) (who : Term) (a : FormulaView) → as_says node f ≡ Ok (who, a) → as_says node (formula_with depth terms f) ≡ Ok (term_with depth terms who, formula_with depth terms a)
unfolding on_ok
as_says_ok code.None node depth f who a e = e
as_says_ok (code.More' p outer last) node depth f who a e =
    as_says_put node depth last.now (formula_with (suc depth) outer f) ∙ ap (on_ok (λ (p : Term × FormulaView). (put_in_term depth last.now p.0, put_in depth last.now p.1))) (as_says_ok outer node (suc depth) f who a e)

pub as_says_err : (terms : TermList) (node depth : ℕ) (f : FormulaView) (fault : CheckFault) → as_says node f ≡ Err fault → as_says node (formula_with depth terms f) ≡ Err fault
unfolding on_ok
as_says_err code.None node depth f fault e = e
as_says_err (code.More' p outer last) node depth f fault e =
    as_says_put node depth last.now (formula_with (suc depth) outer f) ∙ ap (on_ok (λ (p : Term × FormulaView). (put_in_term depth last.now p.0, put_in depth last.now p.1))) (as_says_err outer node (suc depth) f fault e)

-- a formula on an interval
as_on_put : (node depth : ℕ) (t : Term) (f : FormulaView) → as_on node (put_in depth t f) ≡ on_ok (λ (p : FormulaView × Term × Term). (put_in depth t p.0, put_in_term depth t p.1, put_in_term depth t p.2)) (as_on node f)
unfolding on_ok
as_on_put node depth t (on x y z) = refl
as_on_put node depth t _ = refl

pub as_on_ok : (terms : TermList) (node depth : ℕ) (f : FormulaView) (a : FormulaView) (from to : Term) → as_on node f ≡ Ok (a, from, to) → as_on node (formula_with depth terms f) ≡ Ok (formula_with depth terms a, term_with depth terms from, term_with depth terms to)
unfolding on_ok
as_on_ok code.None node depth f a from to e = e
as_on_ok (code.More' p outer last) node depth f a from to e =
    as_on_put node depth last.now (formula_with (suc depth) outer f) ∙ ap (on_ok (λ (p : FormulaView × Term × Term). (put_in depth last.now p.0, put_in_term depth last.now p.1, put_in_term depth last.now p.2))) (as_on_ok outer node (suc depth) f a from to e)

pub as_on_err : (terms : TermList) (node depth : ℕ) (f : FormulaView) (fault : CheckFault) → as_on node f ≡ Err fault → as_on node (formula_with depth terms f) ≡ Err fault
unfolding on_ok
as_on_err code.None node depth f fault e = e
as_on_err (code.More' p outer last) node depth f fault e =
    as_on_put node depth last.now (formula_with (suc depth) outer f) ∙ ap (on_ok (λ (p : FormulaView × Term × Term). (put_in depth last.now p.0, put_in_term depth last.now p.1, put_in_term depth last.now p.2))) (as_on_err outer node (suc depth) f fault e)

-- a term that is no variable stays as it is
put_in_term_other : (depth : ℕ) (last t : Term) → ((n : ℕ) → t ≡ Bound n → ⊥) → put_in_term depth last t ≡ t
put_in_term_other depth last (Bound n) other = absurd (other n refl)
put_in_term_other depth last _ other = refl

pub term_with_other : (terms : TermList) (depth : ℕ) (t : Term) → ((n : ℕ) → t ≡ Bound n → ⊥) → term_with depth terms t ≡ t
term_with_other code.None depth t other = refl
term_with_other (code.More' p outer last) depth t other = ap (put_in_term depth last.now) (term_with_other outer (suc depth) t other) ∙ put_in_term_other depth last.now t other

-- so does a variable of a binder further in
pub term_with-inner : (terms : TermList) (depth n : ℕ) → n < depth → term_with depth terms (Bound n) ≡ Bound n
term_with-inner code.None depth n inner = refl
term_with-inner (code.More' p outer last) depth n inner =
    let other : (n == depth) ≡ false = ne_eqb n depth (λ e. absurd (omega (arith, e))) in
    ap (put_in_term depth last.now) (term_with-inner outer (suc depth) n (omega arith)) ∙ (rw other)

-- so is what stands for a variable whose binder is not further out than this one
pub variable-inner : (outer : TermList) (depth n : ℕ) (t last : Term) → t ≡ Bound n → n ≤ depth
    → put_in_term depth last t ≡ put_in_term depth last (term_with (suc depth) outer t)
variable-inner outer depth n t last variable inner =
    ap (put_in_term depth last) (variable ∙ sym (term_with-inner outer (suc depth) n (omega arith)) ∙ ap (term_with (suc depth) outer) (sym variable))
