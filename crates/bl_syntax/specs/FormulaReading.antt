-- Reading formulas and statements from their canonical bytes, from the left. At a node, which is a
-- formula or a term, the tag is tested first; then
-- the node must be among those that may still come; then its fields are read in order. The order of
-- the faults and the limits are this project's own.
use Rattle.std.specs.Prelude.{◌-◌, ℕ, zero, suc, List, [], ◌∷◌, Bool, true, false, ◌&&◌, nat_lt, nat_le, ◌==◌, if◌then◌else◌, is_none, Result, Ok, Err}
use Rattle.std.specs.List.{list_all}
use Rattle.bl_syntax.specs.declared.limits.TheConstants.{MOST_FORMULA_NODES, MOST_ARGUMENTS}
use Rattle.bl_syntax.specs.declared.codec_fault.CodecFault.{CodecFault}
use Rattle.bl_syntax.specs.declared.codec_fault.CodecFault.TheVariants.{Short, BadTag, NotCanonical, TooLarge}
use Rattle.bl_syntax.specs.declared.terms.Sort.{Sort}
use Rattle.bl_syntax.specs.declared.terms.Term.{Term}
use Rattle.bl_syntax.specs.declared.terms.Term.TheVariants as term
use Rattle.bl_syntax.specs.declared.terms.StatePred.TheVariants.{Owner, HasXattr, InDir}
use Rattle.bl_syntax.specs.Formula.{FormulaView, atom, compare, state, both, either, implies, truth, falsity, forall_, exists_, says, on}
use Rattle.bl_syntax.specs.WellSorted.{terms_of_state}
use Rattle.bl_syntax.specs.FirstFault.{formula_fault}
use Rattle.bl_syntax.specs.Statement.{StatementView, statement_view}
use Rattle.bl_syntax.specs.Reading.{◌>>=◌, Reading, place, map_reading, name_at, predicate_at, time_at, sort_at, term_at}

-- a value, how many more nodes may come after it, and the bytes after it; or a fault
abbrev pub Counted : Type 0 → Type 0
Counted A = Result (A × (ℕ × List ℕ)) CodecFault

-- a value after which so many nodes may come
abbrev pub with_left : {A : Type 0} → ℕ → Reading A → Counted A
with_left left read = read >>= λ x. Ok (x.0, (left, x.1))

-- a node: its tag is one of the table, and then it is among those that may come
abbrev pub admit_node : {A : Type 0} → Bool → ℕ → ℕ → Counted A → Counted A
admit_node is_tag left start node = if is_tag then (if left == 0 then Err (TooLarge start) else node) else Err (BadTag start)

-- the tags of terms
abbrev pub is_term_tag : ℕ → Bool
is_term_tag tag = nat_le 1 tag && nat_le tag 8

-- the tags of formulas
abbrev pub is_formula_tag : ℕ → Bool
is_formula_tag tag = nat_le 16 tag && nat_le tag 29

-- a term as a node
unfoldable pub node_term_at : ℕ → ℕ → List ℕ → Counted Term
node_term_at input left [] = Err Short
node_term_at input left (tag ∷ rest) = admit_node (is_term_tag tag) left (place input (tag ∷ rest)) (with_left (left - 1) (term_at input (tag ∷ rest)))

unfoldable pub two_terms_at : ℕ → ℕ → List ℕ → Counted (Term × Term)
two_terms_at input left bytes = do
  first ← node_term_at input left bytes
  second ← node_term_at input first.1.0 first.1.1
  Ok ((first.0, second.0), second.1)

unfoldable pub three_terms_at : ℕ → ℕ → List ℕ → Counted (Term × (Term × Term))
three_terms_at input left bytes = do
  first ← node_term_at input left bytes
  others ← two_terms_at input first.1.0 first.1.1
  Ok ((first.0, others.0), others.1)

-- so many terms
unfoldable pub terms_at : ℕ → ℕ → ℕ → List ℕ → Counted (List Term)
terms_at zero input left bytes = Ok ([], (left, bytes))
terms_at (suc count) input left bytes = do
  first ← node_term_at input left bytes
  others ← terms_at count input first.1.0 first.1.1
  Ok (first.0 ∷ others.0, others.1)

-- the number of an atom's terms
unfoldable pub count_at : ℕ → List ℕ → Reading ℕ
count_at input [] = Err Short
count_at input (count ∷ rest) = if nat_lt MOST_ARGUMENTS count then Err (TooLarge (place input (count ∷ rest))) else Ok (count, rest)

-- the fields of an atom
unfoldable pub atom_at : ℕ → ℕ → List ℕ → Counted FormulaView
atom_at input left bytes = do
  name ← predicate_at input bytes
  count ← count_at input name.1
  terms ← terms_at count.0 input left count.1
  Ok (atom name.0 terms.0, terms.1)

-- two formulas that are read alike
unfoldable pub pair_at : (ℕ → List ℕ → Counted FormulaView) → ℕ → List ℕ →
    Counted (FormulaView × FormulaView)
pair_at inner left bytes = do
  first ← inner left bytes
  second ← inner first.1.0 first.1.1
  Ok ((first.0, second.0), second.1)

-- a binder's sort, and the formula inside it
unfoldable pub binder_at : (ℕ → List ℕ → Counted FormulaView) → ℕ → ℕ → List ℕ →
    Counted (Sort × FormulaView)
binder_at inner input left bytes = do
  sort ← sort_at input bytes
  body ← inner left sort.1
  Ok ((sort.0, body.0), body.1)

-- who says a formula, and the formula
unfoldable pub says_at : (ℕ → List ℕ → Counted FormulaView) → ℕ → ℕ → List ℕ → Counted FormulaView
says_at inner input left bytes = do
  who ← node_term_at input left bytes
  body ← inner who.1.0 who.1.1
  Ok (says who.0 body.0, body.1)

-- a formula, and the interval on which it holds
unfoldable pub on_at : (ℕ → List ℕ → Counted FormulaView) → ℕ → ℕ → List ℕ → Counted FormulaView
on_at inner input left bytes = do
  body ← inner left bytes
  times ← two_terms_at input body.1.0 body.1.1
  Ok (on body.0 times.0.0 times.0.1, times.1)

-- the fields of a formula with this tag, whose formulas are read by inner. The last tag is 29
unfoldable pub fields_at : (ℕ → List ℕ → Counted FormulaView) → ℕ → ℕ → ℕ → List ℕ →
    Counted FormulaView
fields_at inner input left tag rest =
    if tag == 16 then atom_at input left rest else
    if tag == 17 then map_reading (λ t. compare (record { low = t.0; high = t.1 })) (two_terms_at input left rest) else
    if tag == 18 then map_reading (λ t. state (Owner t.0 t.1)) (two_terms_at input left rest) else
    if tag == 19 then map_reading (λ t. state (HasXattr t.0 t.1.0 t.1.1)) (three_terms_at input left rest) else
    if tag == 20 then map_reading (λ t. state (InDir t.0 t.1)) (two_terms_at input left rest) else
    if tag == 21 then map_reading (λ p. both p.0 p.1) (pair_at inner left rest) else
    if tag == 22 then map_reading (λ p. either p.0 p.1) (pair_at inner left rest) else
    if tag == 23 then map_reading (λ p. implies p.0 p.1) (pair_at inner left rest) else
    if tag == 24 then Ok (truth, (left, rest)) else
    if tag == 25 then Ok (falsity, (left, rest)) else
    if tag == 26 then map_reading (λ b. forall_ b.0 b.1) (binder_at inner input left rest) else
    if tag == 27 then map_reading (λ b. exists_ b.0 b.1) (binder_at inner input left rest) else
    if tag == 28 then says_at inner input left rest else
    on_at inner input left rest

-- a formula as a node, whose formulas are read by inner
unfoldable pub node_at : (ℕ → List ℕ → Counted FormulaView) → ℕ → ℕ → List ℕ → Counted FormulaView
node_at inner input left [] = Err Short
node_at inner input left (tag ∷ rest) = admit_node (is_formula_tag tag) left (place input (tag ∷ rest)) (fields_at inner input (left - 1) tag rest)

-- where a formula would be nested deeper than there may be nodes
abbrev pub no_more : ℕ → List ℕ → Counted FormulaView
no_more left bytes = Err Short

-- a formula that is nested at most so deep, among so many nodes that may come
unfoldable pub formula_at : ℕ → ℕ → ℕ → List ℕ → Counted FormulaView
formula_at input zero left bytes = node_at no_more input 0 bytes
formula_at input (suc depth) left bytes = node_at (λ n rest. formula_at input depth n rest) input left bytes

-- a formula of at most 512 nodes; so it is nested at most 512 deep
unfoldable pub whole_formula_at : ℕ → List ℕ → Reading FormulaView
whole_formula_at input bytes = formula_at input MOST_FORMULA_NODES MOST_FORMULA_NODES bytes >>= λ f. Ok (f.0, f.1.1)

-- each term passes the test
abbrev pub all_terms : (Term → Bool) → FormulaView → Bool
all_terms test (atom name terms) = list_all test terms
all_terms test (compare c) = test c.low && test c.high
all_terms test (state s) = list_all test (terms_of_state s)
all_terms test (both a b) = all_terms test a && all_terms test b
all_terms test (either a b) = all_terms test a && all_terms test b
all_terms test (implies a b) = all_terms test a && all_terms test b
all_terms test truth = true
all_terms test falsity = true
all_terms test (forall_ s a) = all_terms test a
all_terms test (exists_ s a) = all_terms test a
all_terms test (says k a) = test k && all_terms test a
all_terms test (on a u v) = all_terms test a && test u && test v

abbrev pub is_not_ctime : Term → Bool
is_not_ctime (term.Prin name) = true
is_not_ctime (term.File node) = true
is_not_ctime (term.Perm permission) = true
is_not_ctime (term.Time point) = true
is_not_ctime (term.Text text) = true
is_not_ctime term.Ctime = false
is_not_ctime (term.Param n) = true
is_not_ctime (term.Bound n) = true

-- the formula is closed and well sorted without parameters, and does not speak of the current time
abbrev pub is_sayable : FormulaView → Bool
is_sayable f = is_none (formula_fault [] f) && all_terms is_not_ctime f

-- a statement: its fields, and then whether it may be said
unfoldable pub statement_at : ℕ → List ℕ → Reading StatementView
statement_at input bytes = do
  who ← name_at input bytes
  body ← whole_formula_at input who.1
  from ← time_at input body.1
  to ← time_at input from.1
  if is_sayable body.0 then Ok (statement_view who.0 body.0 from.0 to.0, to.1) else Err (NotCanonical (place input bytes))
