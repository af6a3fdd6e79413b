-- Formulas can be told apart: each is given back by its nodes, children first.
use Rattle.std.specs.Prelude.{◌≡◌, ℕ, List, [], ◌∷◌, ◌++◌, refl, ◌==◌, if◌then◌else◌}
use Rattle.std.proofs.Common.{ap, sym, ◌∙◌, append_assoc}
use Rattle.std.proofs.lemmas.List.{append-nil}
use Rattle.std.specs.Coded.{Coded, code_by, coded×, coded_ℕ, coded_list}
use Rattle.bl_syntax.specs.declared.terms.Term.{Term}
use Rattle.bl_syntax.specs.declared.terms.Sort.{Sort}
use Rattle.bl_syntax.specs.declared.terms.StatePred.{StatePred}
use Rattle.bl_syntax.specs.declared.terms.Constraint.{Constraint}
use Rattle.bl_syntax.specs.contracts.terms.Term as term
use Rattle.bl_syntax.specs.contracts.terms.Sort as sort
use Rattle.bl_syntax.specs.contracts.terms.StatePred as state_predicate
use Rattle.bl_syntax.specs.contracts.terms.Constraint as constraint
use Rattle.bl_syntax.specs.Formula.{FormulaView, atom, compare, state, both, either, implies, truth, falsity, forall_, exists_, says, on}

-- a node without its children: its kind, and its name, terms, constraints, state predicates and
-- sorts
abbrev FormulaNode : Type 0
FormulaNode = ℕ × (List ℕ × (List Term × (List Constraint × (List StatePred × List Sort))))

abbrev node_code : Coded FormulaNode
node_code = coded× coded_ℕ (coded× (coded_list coded_ℕ) (coded× (coded_list term.the_row.coded)
    (coded× (coded_list constraint.the_row.coded) (coded× (coded_list state_predicate.the_row.coded)
    (coded_list sort.the_row.coded)))))

abbrev plain_node : ℕ → FormulaNode
plain_node kind = (kind, ([], ([], ([], ([], [])))))

abbrev with_terms : ℕ → List Term → FormulaNode
with_terms kind terms = (kind, ([], (terms, ([], ([], [])))))

abbrev with_sort : ℕ → Sort → FormulaNode
with_sort kind s = (kind, ([], ([], ([], ([], s ∷ [])))))

-- the nodes of a formula, children first
abbrev nodes : FormulaView → List FormulaNode
nodes (atom name terms) = (0, (name, (terms, ([], ([], []))))) ∷ []
nodes (compare c) = (1, ([], ([], (c ∷ [], ([], []))))) ∷ []
nodes (state s) = (2, ([], ([], ([], (s ∷ [], []))))) ∷ []
nodes (both a b) = nodes a ++ (nodes b ++ plain_node 3 ∷ [])
nodes (either a b) = nodes a ++ (nodes b ++ plain_node 4 ∷ [])
nodes (implies a b) = nodes a ++ (nodes b ++ plain_node 5 ∷ [])
nodes truth = plain_node 6 ∷ []
nodes falsity = plain_node 7 ∷ []
nodes (forall_ s a) = nodes a ++ with_sort 8 s ∷ []
nodes (exists_ s a) = nodes a ++ with_sort 9 s ∷ []
nodes (says t a) = nodes a ++ with_terms 10 (t ∷ []) ∷ []
nodes (on a u v) = nodes a ++ with_terms 11 (u ∷ v ∷ []) ∷ []

-- the two newest formulas become one
abbrev join : (FormulaView → FormulaView → FormulaView) → List FormulaView → List FormulaView
join f (b ∷ a ∷ rest) = f a b ∷ rest
join f _ = []

-- the newest formula becomes another
abbrev wrap : (FormulaView → FormulaView) → List FormulaView → List FormulaView
wrap f (a ∷ rest) = f a ∷ rest
wrap f _ = []

abbrev comparison_node : List Constraint → List FormulaView → List FormulaView
comparison_node (c ∷ []) forms = compare c ∷ forms
comparison_node _ forms = []

abbrev state_node : List StatePred → List FormulaView → List FormulaView
state_node (s ∷ []) forms = state s ∷ forms
state_node _ forms = []

abbrev bound : (Sort → FormulaView → FormulaView) → List Sort → List FormulaView → List FormulaView
bound f (s ∷ []) forms = wrap (f s) forms
bound f _ forms = []

abbrev says_node : List Term → List FormulaView → List FormulaView
says_node (t ∷ []) forms = wrap (says t) forms
says_node _ forms = []

abbrev on_node : List Term → List FormulaView → List FormulaView
on_node (u ∷ v ∷ []) forms = wrap (λ a. on a u v) forms
on_node _ forms = []

-- the formulas so far, after one more node
abbrev after_node : FormulaNode → List FormulaView → List FormulaView
after_node n forms =
    if n.0 == 0 then atom n.1.0 n.1.1.0 ∷ forms else
    if n.0 == 1 then comparison_node n.1.1.1.0 forms else
    if n.0 == 2 then state_node n.1.1.1.1.0 forms else
    if n.0 == 3 then join both forms else
    if n.0 == 4 then join either forms else
    if n.0 == 5 then join implies forms else
    if n.0 == 6 then truth ∷ forms else
    if n.0 == 7 then falsity ∷ forms else
    if n.0 == 8 then bound forall_ n.1.1.1.1.1 forms else
    if n.0 == 9 then bound exists_ n.1.1.1.1.1 forms else
    if n.0 == 10 then says_node n.1.1.0 forms else
    on_node n.1.1.0 forms

abbrev build : List FormulaNode → List FormulaView → List FormulaView
build [] forms = forms
build (n ∷ ns) forms = build ns (after_node n forms)

-- the nodes of a formula make it
abbrev MakesFormula : FormulaView → Type 0
MakesFormula f = (rest : List FormulaNode) (forms : List FormulaView) →
    build (nodes f ++ rest) forms ≡ build rest (f ∷ forms)

after_two : (a b : FormulaView) (n : FormulaNode) → MakesFormula a → MakesFormula b →
    (rest : List FormulaNode) (forms : List FormulaView) →
    build ((nodes a ++ (nodes b ++ n ∷ [])) ++ rest) forms ≡ build rest (after_node n (b ∷ a ∷ forms))
after_two a b n makes_a makes_b rest forms =
    ap (λ (ns : List FormulaNode). build ns forms) (append_assoc (nodes a) (nodes b ++ n ∷ []) rest
    ∙ ap (λ (ns : List FormulaNode). nodes a ++ ns) (append_assoc (nodes b) (n ∷ []) rest))
    ∙ makes_a (nodes b ++ (n ∷ rest)) forms ∙ makes_b (n ∷ rest) (a ∷ forms)

after_one : (a : FormulaView) (n : FormulaNode) → MakesFormula a →
    (rest : List FormulaNode) (forms : List FormulaView) →
    build ((nodes a ++ n ∷ []) ++ rest) forms ≡ build rest (after_node n (a ∷ forms))
after_one a n makes_a rest forms =
    ap (λ (ns : List FormulaNode). build ns forms) (append_assoc (nodes a) (n ∷ []) rest) ∙ makes_a (n ∷ rest) forms

built-nodes : (f : FormulaView) → MakesFormula f
built-nodes (atom name terms) rest forms = refl
built-nodes (compare c) rest forms = refl
built-nodes (state s) rest forms = refl
built-nodes (both a b) rest forms = after_two a b (plain_node 3) (built-nodes a) (built-nodes b) rest forms
built-nodes (either a b) rest forms = after_two a b (plain_node 4) (built-nodes a) (built-nodes b) rest forms
built-nodes (implies a b) rest forms = after_two a b (plain_node 5) (built-nodes a) (built-nodes b) rest forms
built-nodes truth rest forms = refl
built-nodes falsity rest forms = refl
built-nodes (forall_ s a) rest forms = after_one a (with_sort 8 s) (built-nodes a) rest forms
built-nodes (exists_ s a) rest forms = after_one a (with_sort 9 s) (built-nodes a) rest forms
built-nodes (says t a) rest forms = after_one a (with_terms 10 (t ∷ [])) (built-nodes a) rest forms
built-nodes (on a u v) rest forms = after_one a (with_terms 11 (u ∷ v ∷ [])) (built-nodes a) rest forms

abbrev newest_formula : List FormulaView → FormulaView
newest_formula [] = truth
newest_formula (f ∷ forms) = f

pub rebuild : (f : FormulaView) → newest_formula (build (nodes f) []) ≡ f
rebuild f = ap (λ (ns : List FormulaNode). newest_formula (build ns [])) (sym (append-nil (nodes f))) ∙ ap newest_formula (built-nodes f [] [])

-- a formula is told apart by its nodes
abbrev pub formula_code : Coded FormulaView
formula_code = code_by (List FormulaNode) (coded_list node_code) nodes (λ ns. newest_formula (build ns [])) rebuild
