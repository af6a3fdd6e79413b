-- A formula that was spelled is read again, whatever follows it.
use Rattle.std.proofs.Common.{◌≡◌, ◌≤◌, ◌-◌, ◌+◌, ℕ, true, List, ◌∷◌, ◌++◌, length, Ok, refl, ◌∙◌, append_assoc, arith}
use Rattle.bl_syntax.specs.declared.terms.Sort.{Sort}
use Rattle.bl_syntax.specs.declared.terms.Term.{Term}
use Rattle.bl_syntax.specs.declared.terms.StatePred.TheVariants.{Owner, HasXattr, InDir}
use Rattle.bl_syntax.specs.Names.{is_predicate_name}
use Rattle.bl_syntax.specs.Formula.{FormulaView, atom, compare, state, both, either, implies, truth, falsity, forall_, exists_, says, on}
use Rattle.bl_syntax.specs.WellSorted.{size}
use Rattle.bl_syntax.specs.Spelling.{IsSpellable, with_length, sort_code, term_spelling}
use Rattle.bl_syntax.specs.FormulaSpelling.{state_spelling, formula_spelling, IsSpellableFormula}
use Rattle.bl_syntax.specs.Reading.{map_reading, place, sort_of}
use Rattle.bl_syntax.specs.FormulaReading.{Counted, is_formula_tag, node_term_at, two_terms_at, three_terms_at, atom_at, pair_at, binder_at, says_at, on_at, fields_at, node_at, formula_at, whole_formula_at}
use Rattle.bl_syntax.proofs.WordLemmas.{short_predicate}
use Rattle.bl_syntax.proofs.FieldLemmas.{word_again, coded_again, sort_again}
use Rattle.bl_codec.proofs.DepthLemmas.{formula_inside}
use Rattle.bl_codec.proofs.NodesFoundLemmas.{admitted_again, then_again}
use Rattle.bl_codec.proofs.NodeLemmas.{terms_spelling, node_term_again, two_terms_again, three_terms_again, terms_again, count_again}
use Rattle.bl_codec.proofs.FormulaLemmas.{Parts}

-- a node whose fields are read again
step : (input depth left tag : ℕ) (body : List ℕ) (y : Counted FormulaView) → is_formula_tag tag ≡ true → 1 ≤ depth → 1 ≤ left → fields_at (λ n rest. formula_at input (depth - 1) n rest) input (left - 1) tag body ≡ y → formula_at input depth left (tag ∷ body) ≡ y
unfolding node_at
step input depth left tag body y is deep room e =
    formula_inside input depth left (tag ∷ body) (omega arith)
    ∙ admitted_again (is_formula_tag tag) left (place input (tag ∷ body)) (fields_at (λ n rest. formula_at input (depth - 1) n rest) input (left - 1) tag body) y is room e

made_again : {A : Type 0} (f : A → FormulaView) (r : Counted A) (x : A) (n m : ℕ) (rest : List ℕ) → r ≡ Ok (x, (n, rest)) → n ≡ m → map_reading f r ≡ Ok (f x, (m, rest))
made_again f r x n m rest e k = rw (e, k) refl

pair_again : (inner : ℕ → List ℕ → Counted FormulaView) (a b : FormulaView) (left : ℕ) (rest : List ℕ) → inner left (formula_spelling a ++ (formula_spelling b ++ rest)) ≡ Ok (a, (left - size a, formula_spelling b ++ rest))
    → inner (left - size a) (formula_spelling b ++ rest) ≡ Ok (b, ((left - size a) - size b, rest)) → pair_at inner left ((formula_spelling a ++ formula_spelling b) ++ rest) ≡ Ok ((a, b), (left - (size a + size b), rest))
unfolding pair_at
pair_again inner a b left rest h k = then_again (λ x y. (x, y)) inner inner (formula_spelling a) (formula_spelling b) rest a b left (size a) (size b) h k

bound_again : (inner : ℕ → List ℕ → Counted FormulaView) (s : Sort) (a : FormulaView) (input left : ℕ) (rest : List ℕ) → inner left (formula_spelling a ++ rest) ≡ Ok (a, (left - size a, rest))
    → binder_at inner input left (sort_code s ∷ (formula_spelling a ++ rest)) ≡ Ok ((s, a), (left - size a, rest))
unfolding binder_at
bound_again inner s a input left rest h = rw (coded_again sort_of sort_code sort_again input s (formula_spelling a ++ rest), h) refl

says_again : (inner : ℕ → List ℕ → Counted FormulaView) (k : Term) (a : FormulaView) (input left : ℕ) (rest : List ℕ) → IsSpellable k → 1 ≤ left → inner (left - 1) (formula_spelling a ++ rest) ≡ Ok (a, ((left - 1) - size a, rest))
    → says_at inner input left ((term_spelling k ++ formula_spelling a) ++ rest) ≡ Ok (says k a, (left - (1 + size a), rest))
unfolding says_at
says_again inner k a input left rest fits room h =
    then_again (λ x y. says x y) (λ n bytes. node_term_at input n bytes) inner (term_spelling k) (formula_spelling a) rest k a left 1 (size a) (node_term_again input left k (formula_spelling a ++ rest) fits room) h

on_again : (inner : ℕ → List ℕ → Counted FormulaView) (a : FormulaView) (u v : Term) (input left : ℕ) (rest : List ℕ) → IsSpellable u → IsSpellable v → 2 ≤ left - size a
    → inner left (formula_spelling a ++ ((term_spelling u ++ term_spelling v) ++ rest)) ≡ Ok (a, (left - size a, (term_spelling u ++ term_spelling v) ++ rest))
    → on_at inner input left ((formula_spelling a ++ (term_spelling u ++ term_spelling v)) ++ rest) ≡ Ok (on a u v, (left - (size a + 2), rest))
unfolding on_at
on_again inner a u v input left rest fits_u fits_v room h =
    then_again {B = Term × Term} (λ x y. on x y.0 y.1) inner (λ n bytes. two_terms_at input n bytes) (formula_spelling a) (term_spelling u ++ term_spelling v) rest a (u, v) left (size a) 2 h (two_terms_again input (left - size a) u v rest fits_u fits_v room)

atom_again : (name : List ℕ) (terms : List Term) (input left : ℕ) (rest : List ℕ) → Parts (atom name terms) → length terms ≤ left
    → atom_at input left ((with_length name ++ length terms ∷ terms_spelling terms) ++ rest) ≡ Ok (atom name terms, (left - length terms, rest))
unfolding atom_at
atom_again name terms input left rest h room =
    let short = short_predicate name h.names in
    let behind : List ℕ = length terms ∷ (terms_spelling terms ++ rest) in
    rw (append_assoc (with_length name) (length terms ∷ terms_spelling terms) rest, word_again 1 32 is_predicate_name input name behind short.not_below short.not_above h.names, count_again input (length terms) (terms_spelling terms ++ rest) h.arguments, terms_again terms input left rest h.terms room) refl

formula_again : (f : FormulaView) (input depth left : ℕ) (rest : List ℕ) → Parts f → size f ≤ depth → size f ≤ left → formula_at input depth left (formula_spelling f ++ rest) ≡ Ok (f, (left - size f, rest))
unfolding formula_spelling state_spelling fields_at
formula_again (atom name terms) input depth left rest h deep room =
    let n : (left - 1) - length terms ≡ left - (1 + length terms) = omega arith in
    step input depth left 16 ((with_length name ++ length terms ∷ terms_spelling terms) ++ rest) (Ok (atom name terms, (left - (1 + length terms), rest))) refl (omega arith) (omega arith)
    (rw (← n) (atom_again name terms input (left - 1) rest h (omega arith)))
formula_again (compare c) input depth left rest h deep room =
    step input depth left 17 ((term_spelling c.low ++ term_spelling c.high) ++ rest) (Ok (compare c, (left - 3, rest))) refl (omega arith) (omega arith)
    (made_again (λ t. compare (record { low = t.0; high = t.1 })) (two_terms_at input (left - 1) ((term_spelling c.low ++ term_spelling c.high) ++ rest)) (c.low, c.high) ((left - 1) - 2) (left - 3) rest (two_terms_again input (left - 1) c.low c.high rest h.terms.0 h.terms.1 (omega arith)) (omega arith))
formula_again (state (Owner file owner)) input depth left rest h deep room =
    step input depth left 18 ((term_spelling file ++ term_spelling owner) ++ rest) (Ok (state (Owner file owner), (left - 3, rest))) refl (omega arith) (omega arith)
    (made_again (λ t. state (Owner t.0 t.1)) (two_terms_at input (left - 1) ((term_spelling file ++ term_spelling owner) ++ rest)) (file, owner) ((left - 1) - 2) (left - 3) rest (two_terms_again input (left - 1) file owner rest h.terms.0 h.terms.1.0 (omega arith)) (omega arith))
formula_again (state (HasXattr file name value)) input depth left rest h deep room =
    step input depth left 19 ((term_spelling file ++ (term_spelling name ++ term_spelling value)) ++ rest) (Ok (state (HasXattr file name value), (left - 4, rest))) refl (omega arith) (omega arith)
    (made_again (λ t. state (HasXattr t.0 t.1.0 t.1.1)) (three_terms_at input (left - 1) ((term_spelling file ++ (term_spelling name ++ term_spelling value)) ++ rest)) (file, (name, value)) ((left - 1) - 3) (left - 4) rest (three_terms_again input (left - 1) file name value rest h.terms.0 h.terms.1.0 h.terms.1.1.0 (omega arith)) (omega arith))
formula_again (state (InDir file directory)) input depth left rest h deep room =
    step input depth left 20 ((term_spelling file ++ term_spelling directory) ++ rest) (Ok (state (InDir file directory), (left - 3, rest))) refl (omega arith) (omega arith)
    (made_again (λ t. state (InDir t.0 t.1)) (two_terms_at input (left - 1) ((term_spelling file ++ term_spelling directory) ++ rest)) (file, directory) ((left - 1) - 2) (left - 3) rest (two_terms_again input (left - 1) file directory rest h.terms.0 h.terms.1.0 (omega arith)) (omega arith))
formula_again (both a b) input depth left rest h deep room =
    let first = formula_again a input (depth - 1) (left - 1) (formula_spelling b ++ rest) (record { names = h.names.0; terms = h.terms.0; arguments = omega (arith, h.arguments) }) (omega arith) (omega arith) in
    let second = formula_again b input (depth - 1) ((left - 1) - size a) rest (record { names = h.names.1; terms = h.terms.1; arguments = omega (arith, h.arguments) }) (omega arith) (omega arith) in
    step input depth left 21 ((formula_spelling a ++ formula_spelling b) ++ rest) (Ok (both a b, (left - (1 + size a + size b), rest))) refl (omega arith) (omega arith)
    (made_again (λ p. both p.0 p.1) (pair_at (λ n end. formula_at input (depth - 1) n end) (left - 1) ((formula_spelling a ++ formula_spelling b) ++ rest)) (a, b) ((left - 1) - (size a + size b)) (left - (1 + size a + size b)) rest (pair_again (λ n end. formula_at input (depth - 1) n end) a b (left - 1) rest first second) (omega arith))
formula_again (either a b) input depth left rest h deep room =
    let first = formula_again a input (depth - 1) (left - 1) (formula_spelling b ++ rest) (record { names = h.names.0; terms = h.terms.0; arguments = omega (arith, h.arguments) }) (omega arith) (omega arith) in
    let second = formula_again b input (depth - 1) ((left - 1) - size a) rest (record { names = h.names.1; terms = h.terms.1; arguments = omega (arith, h.arguments) }) (omega arith) (omega arith) in
    step input depth left 22 ((formula_spelling a ++ formula_spelling b) ++ rest) (Ok (either a b, (left - (1 + size a + size b), rest))) refl (omega arith) (omega arith)
    (made_again (λ p. either p.0 p.1) (pair_at (λ n end. formula_at input (depth - 1) n end) (left - 1) ((formula_spelling a ++ formula_spelling b) ++ rest)) (a, b) ((left - 1) - (size a + size b)) (left - (1 + size a + size b)) rest (pair_again (λ n end. formula_at input (depth - 1) n end) a b (left - 1) rest first second) (omega arith))
formula_again (implies a b) input depth left rest h deep room =
    let first = formula_again a input (depth - 1) (left - 1) (formula_spelling b ++ rest) (record { names = h.names.0; terms = h.terms.0; arguments = omega (arith, h.arguments) }) (omega arith) (omega arith) in
    let second = formula_again b input (depth - 1) ((left - 1) - size a) rest (record { names = h.names.1; terms = h.terms.1; arguments = omega (arith, h.arguments) }) (omega arith) (omega arith) in
    step input depth left 23 ((formula_spelling a ++ formula_spelling b) ++ rest) (Ok (implies a b, (left - (1 + size a + size b), rest))) refl (omega arith) (omega arith)
    (made_again (λ p. implies p.0 p.1) (pair_at (λ n end. formula_at input (depth - 1) n end) (left - 1) ((formula_spelling a ++ formula_spelling b) ++ rest)) (a, b) ((left - 1) - (size a + size b)) (left - (1 + size a + size b)) rest (pair_again (λ n end. formula_at input (depth - 1) n end) a b (left - 1) rest first second) (omega arith))
formula_again truth input depth left rest h deep room = step input depth left 24 rest (Ok (truth, (left - 1, rest))) refl (omega arith) (omega arith) refl
formula_again falsity input depth left rest h deep room = step input depth left 25 rest (Ok (falsity, (left - 1, rest))) refl (omega arith) (omega arith) refl
formula_again (forall_ s a) input depth left rest h deep room =
    let body = formula_again a input (depth - 1) (left - 1) rest (record { names = h.names; terms = h.terms; arguments = h.arguments }) (omega arith) (omega arith) in
    step input depth left 26 (sort_code s ∷ (formula_spelling a ++ rest)) (Ok (forall_ s a, (left - (1 + size a), rest))) refl (omega arith) (omega arith)
    (made_again {A = Sort × FormulaView} (λ b. forall_ b.0 b.1) (binder_at (λ n end. formula_at input (depth - 1) n end) input (left - 1) (sort_code s ∷ (formula_spelling a ++ rest))) (s, a) ((left - 1) - size a) (left - (1 + size a)) rest (bound_again (λ n end. formula_at input (depth - 1) n end) s a input (left - 1) rest body) (omega arith))
formula_again (exists_ s a) input depth left rest h deep room =
    let body = formula_again a input (depth - 1) (left - 1) rest (record { names = h.names; terms = h.terms; arguments = h.arguments }) (omega arith) (omega arith) in
    step input depth left 27 (sort_code s ∷ (formula_spelling a ++ rest)) (Ok (exists_ s a, (left - (1 + size a), rest))) refl (omega arith) (omega arith)
    (made_again {A = Sort × FormulaView} (λ b. exists_ b.0 b.1) (binder_at (λ n end. formula_at input (depth - 1) n end) input (left - 1) (sort_code s ∷ (formula_spelling a ++ rest))) (s, a) ((left - 1) - size a) (left - (1 + size a)) rest (bound_again (λ n end. formula_at input (depth - 1) n end) s a input (left - 1) rest body) (omega arith))
formula_again (says k a) input depth left rest h deep room =
    let body = formula_again a input (depth - 1) ((left - 1) - 1) rest (record { names = h.names; terms = h.terms.1; arguments = h.arguments }) (omega arith) (omega arith) in
    let n : (left - 1) - (1 + size a) ≡ left - (2 + size a) = omega arith in
    step input depth left 28 ((term_spelling k ++ formula_spelling a) ++ rest) (Ok (says k a, (left - (2 + size a), rest))) refl (omega arith) (omega arith)
    (rw (← n) (says_again (λ m end. formula_at input (depth - 1) m end) k a input (left - 1) rest h.terms.0 (omega arith) body))
formula_again (on a u v) input depth left rest h deep room =
    let body = formula_again a input (depth - 1) (left - 1) ((term_spelling u ++ term_spelling v) ++ rest) (record { names = h.names; terms = h.terms.0; arguments = h.arguments }) (omega arith) (omega arith) in
    let n : (left - 1) - (size a + 2) ≡ left - (3 + size a) = omega arith in
    step input depth left 29 ((formula_spelling a ++ (term_spelling u ++ term_spelling v)) ++ rest) (Ok (on a u v, (left - (3 + size a), rest))) refl (omega arith) (omega arith)
    (rw (← n) (on_again (λ m end. formula_at input (depth - 1) m end) a u v input (left - 1) rest h.terms.1.0 h.terms.1.1 (omega arith) body))

pub whole_again : (input : ℕ) (f : FormulaView) (rest : List ℕ) → IsSpellableFormula f → whole_formula_at input (formula_spelling f ++ rest) ≡ Ok (f, rest)
unfolding whole_formula_at
whole_again input f rest h =
    rw (formula_again f input 512 512 rest (record { names = h.names; terms = h.terms; arguments = h.within_limits.arguments }) h.within_limits.nodes h.within_limits.nodes) refl
