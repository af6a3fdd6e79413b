-- A formula on one line stays so where a term on one line is put in.
use Rattle.std.proofs.Common.{ℕ, suc, Bool, true, false, List, [], ◌∷◌, map}
use Rattle.std.specs.Prelude.{◌==◌, if◌then◌else◌}
use Rattle.std.specs.List.{AllByRecursion}
use Rattle.bl_syntax.specs.declared.terms.Term.{Term}
use Rattle.bl_syntax.specs.declared.terms.Term.TheVariants.{Prin, File, Perm, Time, Text, Ctime, Param, Bound}
use Rattle.bl_syntax.specs.declared.terms.StatePred.{StatePred}
use Rattle.bl_syntax.specs.declared.terms.StatePred.TheVariants.{Owner, HasXattr, InDir}
use Rattle.bl_syntax.specs.Formula.{FormulaView, atom, compare, state, both, either, implies, truth, falsity, forall_, exists_, says, on}
use Rattle.bl_syntax.specs.Statement.{AllTerms}
use Rattle.bl_syntax.specs.Substitution.{put_in_term, put_in_state, put_in}
use Rattle.bl_syntax.specs.WellSorted.{terms_of_state}
use Rattle.line_wire.specs.Unbroken.{IsUnbrokenTerm}

put_here : (t : Term) (n : ℕ) (here : Bool) → IsUnbrokenTerm t → IsUnbrokenTerm (if here then t else Bound n)
put_here t n true h = h
put_here t n false h = tt

term_put : (depth : ℕ) (t u : Term) → IsUnbrokenTerm t → IsUnbrokenTerm u → IsUnbrokenTerm (put_in_term depth t u)
term_put depth t (Prin name) known h = h
term_put depth t (File number) known h = h
term_put depth t (Perm permission) known h = h
term_put depth t (Time point) known h = h
term_put depth t (Text text) known h = h
term_put depth t Ctime known h = h
term_put depth t (Param n) known h = h
term_put depth t (Bound n) known h = put_here t n (n == depth) known

terms_put : (depth : ℕ) (t : Term) → IsUnbrokenTerm t → (terms : List Term) → AllByRecursion IsUnbrokenTerm terms → AllByRecursion IsUnbrokenTerm (map (put_in_term depth t) terms)
terms_put depth t known [] h = tt
terms_put depth t known (u ∷ terms) h = (term_put depth t u known h.0, terms_put depth t known terms h.1)

state_put : (depth : ℕ) (t : Term) → IsUnbrokenTerm t → (s : StatePred) → AllByRecursion IsUnbrokenTerm (terms_of_state s) → AllByRecursion IsUnbrokenTerm (terms_of_state (put_in_state depth t s))
state_put depth t known (Owner file owner) h = terms_put depth t known (file ∷ owner ∷ []) h
state_put depth t known (HasXattr file name value) h = terms_put depth t known (file ∷ name ∷ value ∷ []) h
state_put depth t known (InDir file directory) h = terms_put depth t known (file ∷ directory ∷ []) h

pub formula_put : (depth : ℕ) (t : Term) → IsUnbrokenTerm t → (f : FormulaView) → AllTerms IsUnbrokenTerm f → AllTerms IsUnbrokenTerm (put_in depth t f)
formula_put depth t known (atom name terms) h = terms_put depth t known terms h
formula_put depth t known (compare c) h = (term_put depth t c.low known h.0, term_put depth t c.high known h.1)
formula_put depth t known (state s) h = state_put depth t known s h
formula_put depth t known (both a b) h = (formula_put depth t known a h.0, formula_put depth t known b h.1)
formula_put depth t known (either a b) h = (formula_put depth t known a h.0, formula_put depth t known b h.1)
formula_put depth t known (implies a b) h = (formula_put depth t known a h.0, formula_put depth t known b h.1)
formula_put depth t known truth h = tt
formula_put depth t known falsity h = tt
formula_put depth t known (forall_ s a) h = formula_put (suc depth) t known a h
formula_put depth t known (exists_ s a) h = formula_put (suc depth) t known a h
formula_put depth t known (says k a) h = (term_put depth t k known h.0, formula_put depth t known a h.1)
formula_put depth t known (on a u v) h = (formula_put depth t known a h.0, (term_put depth t u known h.1.0, term_put depth t v known h.1.1))
