-- Formulas and statements are read steadily.
use Rattle.std.proofs.Common.{ℕ, zero, suc, ◌-◌, List, [], ◌∷◌, ◌++◌, Bool, Ok}
use Rattle.std.specs.Prelude.{◌==◌, nat_lt}
use Rattle.bl_syntax.specs.declared.codec_fault.CodecFault.TheVariants.{Short}
use Rattle.bl_syntax.specs.declared.terms.StatePred.TheVariants.{Owner, HasXattr, InDir}
use Rattle.bl_syntax.specs.Formula.{FormulaView, atom, compare, state, both, either, implies, truth, falsity, forall_, exists_, says, on}
use Rattle.bl_syntax.specs.Statement.{statement_view}
use Rattle.bl_syntax.specs.Reading.{map_reading, term_at}
use Rattle.bl_syntax.specs.FormulaReading as reading
use Rattle.bl_syntax.specs.FormulaReading.{Counted, admit_node, is_term_tag, is_formula_tag, no_more, is_sayable}
use Rattle.reader_laws.proofs.ExtendedLemmas.{Extended, behind, IsSteady, done, cut, faults, either_way, one_then}
use Rattle.reader_laws.proofs.FieldLemmas.{names, predicates, times, sorts, terms}

-- more bytes after those that are left over, beside how many nodes may come
abbrev counted_behind : {A : Type 0} → List ℕ → A × (ℕ × List ℕ) → A × (ℕ × List ℕ)
counted_behind more x = (x.0, (x.1.0, x.1.1 ++ more))

abbrev CountsOn : {A : Type 0} → (List ℕ → Counted A) → (List ℕ → Counted A) → Type 0
CountsOn first second = (bytes more : List ℕ) → Extended Short (counted_behind more) (first bytes) (second (bytes ++ more))

-- what is made of what is read
made_counted : {A B : Type 0} (f : A → B) (more : List ℕ) (r s : Counted A) → Extended Short (counted_behind more) r s → Extended Short (counted_behind more) (map_reading f r) (map_reading f s)
made_counted f more r s first =
    one_then (counted_behind more) (counted_behind more) r s (λ x. Ok (f x.0, x.1)) (λ x. Ok (f x.0, x.1)) first (λ x. done Short (counted_behind more) (f x.0, x.1))

admitted : {A : Type 0} (is_tag : Bool) (left start other : ℕ) (more : List ℕ) (r s : Counted A) → Extended Short (counted_behind more) r s →
    Extended Short (counted_behind more) (admit_node is_tag left start r) (admit_node is_tag left other s)
admitted is_tag left start other more r s node =
    either_way Short (counted_behind more) is_tag _ _ _ _ (either_way Short (counted_behind more) (left == 0) _ _ _ _ (faults Short (counted_behind more) _ _) node) (faults Short (counted_behind more) _ _)

node_terms : (input onward left : ℕ) → CountsOn (reading.node_term_at input left) (reading.node_term_at onward left)
unfolding reading.node_term_at
node_terms input onward left [] more = cut Short (counted_behind more) _
node_terms input onward left (tag ∷ rest) more =
    admitted (is_term_tag tag) left _ _ more _ _
    (one_then (behind more) (counted_behind more) (term_at input (tag ∷ rest)) (term_at onward (tag ∷ (rest ++ more))) _ _ (terms input onward (tag ∷ rest) more)
    (λ x. done Short (counted_behind more) (x.0, (left - 1, x.1))))

two_terms : (input onward left : ℕ) → CountsOn (reading.two_terms_at input left) (reading.two_terms_at onward left)
unfolding reading.two_terms_at
two_terms input onward left bytes more =
    one_then (counted_behind more) (counted_behind more) _ _ _ _ (node_terms input onward left bytes more)
    (λ first. one_then (counted_behind more) (counted_behind more) _ _ _ _ (node_terms input onward first.1.0 first.1.1 more)
    (λ second. done Short (counted_behind more) ((first.0, second.0), second.1)))

three_terms : (input onward left : ℕ) → CountsOn (reading.three_terms_at input left) (reading.three_terms_at onward left)
unfolding reading.three_terms_at
three_terms input onward left bytes more =
    one_then (counted_behind more) (counted_behind more) _ _ _ _ (node_terms input onward left bytes more)
    (λ first. one_then (counted_behind more) (counted_behind more) _ _ _ _ (two_terms input onward first.1.0 first.1.1 more)
    (λ others. done Short (counted_behind more) ((first.0, others.0), others.1)))

all_terms : (count input onward left : ℕ) → CountsOn (reading.terms_at count input left) (reading.terms_at count onward left)
unfolding reading.terms_at
all_terms zero input onward left bytes more = done Short (counted_behind more) ([], (left, bytes))
all_terms (suc count) input onward left bytes more =
    one_then (counted_behind more) (counted_behind more) _ _ _ _ (node_terms input onward left bytes more)
    (λ first. one_then (counted_behind more) (counted_behind more) _ _ _ _ (all_terms count input onward first.1.0 first.1.1 more)
    (λ others. done Short (counted_behind more) (first.0 ∷ others.0, others.1)))

counts : IsSteady reading.count_at
unfolding reading.count_at
counts input onward [] more = cut Short (behind more) _
counts input onward (count ∷ rest) more =
    either_way Short (behind more) (nat_lt 8 count) _ _ _ _ (faults Short (behind more) _ _) (done Short (behind more) (count, rest))

atoms : (input onward left : ℕ) → CountsOn (reading.atom_at input left) (reading.atom_at onward left)
unfolding reading.atom_at
atoms input onward left bytes more =
    one_then (behind more) (counted_behind more) _ _ _ _ (predicates input onward bytes more)
    (λ name. one_then (behind more) (counted_behind more) _ _ _ _ (counts input onward name.1 more)
    (λ count. one_then (counted_behind more) (counted_behind more) _ _ _ _ (all_terms count.0 input onward left count.1 more)
    (λ terms. done Short (counted_behind more) (atom name.0 terms.0, terms.1))))

-- formulas with formulas in them
module _ (inner deeper : ℕ → List ℕ → Counted FormulaView) (goes_on : (left : ℕ) → CountsOn (inner left) (deeper left)) where
  pairs : (left : ℕ) → CountsOn (reading.pair_at inner left) (reading.pair_at deeper left)
  unfolding reading.pair_at
  pairs left bytes more =
      one_then (counted_behind more) (counted_behind more) _ _ _ _ (goes_on left bytes more)
      (λ first. one_then (counted_behind more) (counted_behind more) _ _ _ _ (goes_on first.1.0 first.1.1 more)
      (λ second. done Short (counted_behind more) ((first.0, second.0), second.1)))

  binders : (input onward left : ℕ) → CountsOn (reading.binder_at inner input left) (reading.binder_at deeper onward left)
  unfolding reading.binder_at
  binders input onward left bytes more =
      one_then (behind more) (counted_behind more) _ _ _ _ (sorts input onward bytes more)
      (λ sort. one_then (counted_behind more) (counted_behind more) _ _ _ _ (goes_on left sort.1 more)
      (λ body. done Short (counted_behind more) ((sort.0, body.0), body.1)))

  sayings : (input onward left : ℕ) → CountsOn (reading.says_at inner input left) (reading.says_at deeper onward left)
  unfolding reading.says_at
  sayings input onward left bytes more =
      one_then (counted_behind more) (counted_behind more) _ _ _ _ (node_terms input onward left bytes more)
      (λ who. one_then (counted_behind more) (counted_behind more) _ _ _ _ (goes_on who.1.0 who.1.1 more)
      (λ body. done Short (counted_behind more) (says who.0 body.0, body.1)))

  intervals : (input onward left : ℕ) → CountsOn (reading.on_at inner input left) (reading.on_at deeper onward left)
  unfolding reading.on_at
  intervals input onward left bytes more =
      one_then (counted_behind more) (counted_behind more) _ _ _ _ (goes_on left bytes more)
      (λ body. one_then (counted_behind more) (counted_behind more) _ _ _ _ (two_terms input onward body.1.0 body.1.1 more)
      (λ times. done Short (counted_behind more) (on body.0 times.0.0 times.0.1, times.1)))

  fields : (input onward left tag : ℕ) → CountsOn (reading.fields_at inner input left tag) (reading.fields_at deeper onward left tag)
  unfolding reading.fields_at
  fields input onward left tag rest more =
      let longer : FormulaView × (ℕ × List ℕ) → FormulaView × (ℕ × List ℕ) = counted_behind more in
      either_way Short longer (tag == 16) _ _ _ _ (atoms input onward left rest more)
      (either_way Short longer (tag == 17) _ _ _ _ (made_counted (λ t. compare (record { low = t.0; high = t.1 })) more _ _ (two_terms input onward left rest more))
      (either_way Short longer (tag == 18) _ _ _ _ (made_counted (λ t. state (Owner t.0 t.1)) more _ _ (two_terms input onward left rest more))
      (either_way Short longer (tag == 19) _ _ _ _ (made_counted (λ t. state (HasXattr t.0 t.1.0 t.1.1)) more _ _ (three_terms input onward left rest more))
      (either_way Short longer (tag == 20) _ _ _ _ (made_counted (λ t. state (InDir t.0 t.1)) more _ _ (two_terms input onward left rest more))
      (either_way Short longer (tag == 21) _ _ _ _ (made_counted (λ p. both p.0 p.1) more _ _ (pairs left rest more))
      (either_way Short longer (tag == 22) _ _ _ _ (made_counted (λ p. either p.0 p.1) more _ _ (pairs left rest more))
      (either_way Short longer (tag == 23) _ _ _ _ (made_counted (λ p. implies p.0 p.1) more _ _ (pairs left rest more))
      (either_way Short longer (tag == 24) _ _ _ _ (done Short longer (truth, (left, rest)))
      (either_way Short longer (tag == 25) _ _ _ _ (done Short longer (falsity, (left, rest)))
      (either_way Short longer (tag == 26) _ _ _ _ (made_counted (λ b. forall_ b.0 b.1) more _ _ (binders input onward left rest more))
      (either_way Short longer (tag == 27) _ _ _ _ (made_counted (λ b. exists_ b.0 b.1) more _ _ (binders input onward left rest more))
      (either_way Short longer (tag == 28) _ _ _ _ (sayings input onward left rest more) (intervals input onward left rest more)))))))))))))

  nodes : (input onward left : ℕ) → CountsOn (reading.node_at inner input left) (reading.node_at deeper onward left)
  unfolding reading.node_at
  nodes input onward left [] more = cut Short (counted_behind more) _
  nodes input onward left (tag ∷ rest) more = admitted (is_formula_tag tag) left _ _ more _ _ (fields input onward (left - 1) tag rest more)

within : (depth input onward left : ℕ) → CountsOn (reading.formula_at input depth left) (reading.formula_at onward depth left)
unfolding reading.formula_at
within zero input onward left bytes more = nodes no_more no_more (λ n rest further. cut Short (counted_behind further) _) input onward 0 bytes more
within (suc depth) input onward left bytes more =
    nodes (λ n rest. reading.formula_at input depth n rest) (λ n rest. reading.formula_at onward depth n rest) (λ n. within depth input onward n) input onward left bytes more

pub formulas : IsSteady reading.whole_formula_at
unfolding reading.whole_formula_at
formulas input onward bytes more =
    one_then (counted_behind more) (behind more) _ _ _ _ (within 512 input onward 512 bytes more) (λ f. done Short (behind more) (f.0, f.1.1))

pub statements : IsSteady reading.statement_at
unfolding reading.statement_at
statements input onward bytes more =
    one_then (behind more) (behind more) _ _ _ _ (names input onward bytes more)
    (λ who. one_then (behind more) (behind more) _ _ _ _ (formulas input onward who.1 more)
    (λ body. one_then (behind more) (behind more) _ _ _ _ (times input onward body.1 more)
    (λ from. one_then (behind more) (behind more) _ _ _ _ (times input onward from.1 more)
    (λ to. either_way Short (behind more) (is_sayable body.0) _ _ _ _ (done Short (behind more) (statement_view who.0 body.0 from.0 to.0, to.1)) (faults Short (behind more) _ _)))))
