-- A formula that is read is the formula that was spelled, and what was spelled is read again.
use Rattle.std.proofs.Common.{◌≡◌, ◌≤◌, ◌-◌, ◌+◌, ℕ, zero, suc, true, false, eqb, leb, List, [], ◌∷◌, ◌++◌, length, drop, Ok, refl, sym, ap, subst, ◌∙◌, append_assoc, arith}
use Rattle.std.proofs.lemmas.Bool.{eqb-true, eqb-false, and_parts, leb-true}
use Rattle.bl_syntax.specs.declared.terms.Sort.{Sort}
use Rattle.bl_syntax.specs.declared.terms.StatePred.TheVariants.{Owner, HasXattr, InDir}
use Rattle.bl_syntax.specs.Names.{is_predicate_name}
use Rattle.bl_syntax.specs.Formula.{FormulaView, atom, compare, state, both, either, implies, truth, falsity, forall_, exists_, says, on}
use Rattle.bl_syntax.specs.WellSorted.{size, widest_atom}
use Rattle.bl_syntax.specs.Statement.{AllTerms}
use Rattle.bl_syntax.specs.Spelling.{IsSpellable, with_length, sort_code, term_spelling}
use Rattle.bl_syntax.specs.FormulaSpelling.{state_spelling, formula_spelling, AreNamed, IsSpellableFormula}
use Rattle.bl_syntax.specs.Reading.{◌>>=◌, place, predicate_at, sort_of, sort_at}
use Rattle.bl_syntax.specs.FormulaReading.{Counted, is_formula_tag, node_term_at, two_terms_at, three_terms_at, terms_at, count_at, atom_at, pair_at, binder_at, says_at, on_at, fields_at, no_more, node_at, formula_at, whole_formula_at}
use Rattle.bl_syntax.specs.Codec.{AreBytes}
use Rattle.bl_syntax.proofs.CodecLemmas.{bind_ok, by_test, ok_is}
use Rattle.bl_syntax.proofs.FieldLemmas.{word_found, coded_found, sort_back}
use Rattle.bl_codec.proofs.NodesFoundLemmas.{Found, Finds, rest_bytes, then_finds, tagged_finds, admitted_ok}
use Rattle.bl_codec.proofs.NodeLemmas.{one, two, three, Two, IsTwo, two_spelling, Three, IsThree, three_spelling, terms_spelling, node_term_finds, two_terms_find, three_terms_find, terms_find, count_found}

-- a formula whose parts have spellings
pub record Parts (f : FormulaView) : Type 0 where
  pub names : AreNamed f
  pub terms : AllTerms IsSpellable f
  pub arguments : widest_atom f ≤ 8

abbrev Finder : (ℕ → List ℕ → Counted FormulaView) → Type 0
Finder inner = (left : ℕ) (bytes : List ℕ) → AreBytes bytes → Finds Parts formula_spelling size left bytes (inner left bytes)

-- ---- what is read is spelled so

abbrev Pair : Type 0
Pair = FormulaView × FormulaView

abbrev IsPair : Pair → Type 0
IsPair p = Parts p.0 × Parts p.1

abbrev pair_spelling : Pair → List ℕ
pair_spelling p = formula_spelling p.0 ++ formula_spelling p.1

abbrev pair_size : Pair → ℕ
pair_size p = size p.0 + size p.1

pair_finds : (inner : ℕ → List ℕ → Counted FormulaView) → Finder inner → (left : ℕ) (bytes : List ℕ) → AreBytes bytes → Finds IsPair pair_spelling pair_size left bytes (pair_at inner left bytes)
unfolding pair_at
pair_finds inner h left bytes fits =
    then_finds Parts formula_spelling size Parts formula_spelling size IsPair pair_spelling pair_size (λ a b. (a, b)) (λ a b p q. (p, q)) (λ a b. refl) (λ a b. refl) left bytes (inner left bytes) inner fits (h left bytes fits) (λ after rest k. h after rest k)

abbrev Bound : Type 0
Bound = Sort × FormulaView

abbrev IsBound : Bound → Type 0
IsBound b = Parts b.1

abbrev bound_spelling : Bound → List ℕ
bound_spelling b = sort_code b.0 ∷ formula_spelling b.1

abbrev bound_size : Bound → ℕ
bound_size b = size b.1

bound_finds : (inner : ℕ → List ℕ → Counted FormulaView) → Finder inner → (input left : ℕ) (bytes : List ℕ) → AreBytes bytes → Finds IsBound bound_spelling bound_size left bytes (binder_at inner input left bytes)
unfolding binder_at
bound_finds inner h input left bytes fits x after rest e =
    let a = bind_ok (sort_at input bytes) (λ s. inner left s.1 >>= λ body. Ok ((s.0, body.0), body.1)) (x, (after, rest)) e in
    let b = bind_ok (inner left a.0.1) (λ body. Ok ((a.0.0, body.0), body.1)) (x, (after, rest)) a.2 in
    let sort_is = coded_found sort_of sort_code sort_back input bytes a.0.1 a.0.0 a.1 in
    let body = h left a.0.1 (rest_bytes bytes (sort_code a.0.0 ∷ []) a.0.1 fits sort_is) b.0.0 b.0.1.0 b.0.1.1 b.1 in
    let found : Found IsBound bound_spelling bound_size left bytes (a.0.0, b.0.0) b.0.1.0 b.0.1.1 = record { kind = body.kind; count = body.count; spelled = sort_is ∙ ap (λ (end : List ℕ). sort_code a.0.0 ∷ end) body.spelled } in
    subst (λ (p : Bound × (ℕ × List ℕ)). Found IsBound bound_spelling bound_size left bytes p.0 p.1.0 p.1.1) (ok_is ((a.0.0, b.0.0), b.0.1) (x, (after, rest)) b.2) found

-- a formula with that tag
pub record Tagged (code : ℕ) (f : FormulaView) : Type 0 where
  pub parts : Parts f
  pub tag : formula_spelling f ≡ code ∷ drop 1 (formula_spelling f)
  pub more : size f ≡ suc (size f - 1)

abbrev inside : FormulaView → List ℕ
inside f = drop 1 (formula_spelling f)

abbrev size_inside : FormulaView → ℕ
size_inside f = size f - 1

behind_tag : (code left tag : ℕ) (more : List ℕ) (r : Counted FormulaView) → tag ≡ code → Finds (Tagged code) inside size_inside left more r → Finds Parts formula_spelling size (suc left) (tag ∷ more) r
behind_tag code left tag more r is finds x after rest e =
    let it = finds x after rest e in
    record {
      kind = it.kind.parts;
      count = omega (arith, it.kind.more, it.count);
      spelled = ap (λ (t : ℕ). t ∷ more) is ∙ ap (λ (b : List ℕ). code ∷ b) it.spelled ∙ ap (λ (front : List ℕ). front ++ rest) (sym it.kind.tag);
    }

says_finds : (inner : ℕ → List ℕ → Counted FormulaView) → Finder inner → (input left : ℕ) (bytes : List ℕ) → AreBytes bytes → Finds (Tagged 28) inside size_inside left bytes (says_at inner input left bytes)
unfolding says_at formula_spelling
says_finds inner h input left bytes fits =
    then_finds IsSpellable term_spelling one Parts formula_spelling size (Tagged 28) inside size_inside (λ k f. says k f)
    (λ k f p q. record { parts = record { names = q.names; terms = (p, q.terms); arguments = q.arguments }; tag = refl; more = omega arith }) (λ k f. refl) (λ k f. omega arith)
    left bytes (node_term_at input left bytes) inner fits (node_term_finds input left bytes fits) (λ after rest k. h after rest k)

on_finds : (inner : ℕ → List ℕ → Counted FormulaView) → Finder inner → (input left : ℕ) (bytes : List ℕ) → AreBytes bytes → Finds (Tagged 29) inside size_inside left bytes (on_at inner input left bytes)
unfolding on_at formula_spelling
on_finds inner h input left bytes fits =
    then_finds Parts formula_spelling size IsTwo two_spelling two (Tagged 29) inside size_inside (λ f t. on f t.0 t.1)
    (λ f t p q. record { parts = record { names = p.names; terms = (p.terms, (q.0, q.1)); arguments = p.arguments }; tag = refl; more = omega arith }) (λ f t. refl) (λ f t. omega arith)
    left bytes (inner left bytes) (λ n rest. two_terms_at input n rest) fits (h left bytes fits) (λ after rest k. two_terms_find input after rest k)

atom_finds : (input left : ℕ) (bytes : List ℕ) → AreBytes bytes → Finds (Tagged 16) inside size_inside left bytes (atom_at input left bytes)
unfolding atom_at formula_spelling
atom_finds input left bytes fits x after rest e =
    let a = bind_ok (predicate_at input bytes) (λ name. count_at input name.1 >>= λ n. terms_at n.0 input left n.1 >>= λ ts. Ok (atom name.0 ts.0, ts.1)) (x, (after, rest)) e in
    let b = bind_ok (count_at input a.0.1) (λ n. terms_at n.0 input left n.1 >>= λ ts. Ok (atom a.0.0 ts.0, ts.1)) (x, (after, rest)) a.2 in
    let c = bind_ok (terms_at b.0.0 input left b.0.1) (λ ts. Ok (atom a.0.0 ts.0, ts.1)) (x, (after, rest)) b.2 in
    let name = word_found 1 32 is_predicate_name input bytes a.0.1 a.0.0 fits a.1 in
    let behind_name = rest_bytes bytes (with_length a.0.0) a.0.1 fits name.1 in
    let number = count_found input a.0.1 b.0.1 b.0.0 b.1 in
    let behind_number = rest_bytes a.0.1 (b.0.0 ∷ []) b.0.1 behind_name number.1 in
    let terms = terms_find b.0.0 input left b.0.1 behind_number c.0.0 c.0.1.0 c.0.1.1 c.1 in
    let few : length c.0.0 ≤ 8 = omega (arith, number.0, terms.kind.1) in
    let spelled : bytes ≡ (with_length a.0.0 ++ length c.0.0 ∷ terms_spelling c.0.0) ++ c.0.1.1 =
    name.1 ∙ ap (λ (end : List ℕ). with_length a.0.0 ++ end) (number.1 ∙ ap (λ (n : ℕ). n ∷ b.0.1) (sym terms.kind.1) ∙ ap (λ (end : List ℕ). length c.0.0 ∷ end) terms.spelled)
    ∙ sym (append_assoc (with_length a.0.0) (length c.0.0 ∷ terms_spelling c.0.0) c.0.1.1) in
    let found : Found (Tagged 16) inside size_inside left bytes (atom a.0.0 c.0.0) c.0.1.0 c.0.1.1 = record {
      kind = record { parts = record { names = name.0; terms = terms.kind.0; arguments = few }; tag = refl; more = omega arith };
      count = omega (arith, terms.count);
      spelled = spelled;
    } in
    subst (λ (p : FormulaView × (ℕ × List ℕ)). Found (Tagged 16) inside size_inside left bytes p.0 p.1.0 p.1.1) (ok_is (atom a.0.0 c.0.0, c.0.1) (x, (after, rest)) c.2) found

plain_finds : (f : FormulaView) (code left tag : ℕ) (more : List ℕ) → Parts f → formula_spelling f ≡ code ∷ [] → size f ≡ 1 → tag ≡ code → Finds Parts formula_spelling size (suc left) (tag ∷ more) (Ok (f, (left, more)))
plain_finds f code left tag more parts spelled single is x after rest e =
    let found : Found Parts formula_spelling size (suc left) (tag ∷ more) f left more = record { kind = parts; count = omega (arith, single); spelled = ap (λ (t : ℕ). t ∷ more) is ∙ ap (λ (front : List ℕ). front ++ more) (sym spelled) } in
    subst (λ (p : FormulaView × (ℕ × List ℕ)). Found Parts formula_spelling size (suc left) (tag ∷ more) p.0 p.1.0 p.1.1) (ok_is (f, (left, more)) (x, (after, rest)) e) found

-- the last tag
last_tag : (tag : ℕ) → is_formula_tag tag ≡ true → eqb tag 16 ≡ false → eqb tag 17 ≡ false → eqb tag 18 ≡ false → eqb tag 19 ≡ false → eqb tag 20 ≡ false → eqb tag 21 ≡ false → eqb tag 22 ≡ false → eqb tag 23 ≡ false → eqb tag 24 ≡ false → eqb tag 25 ≡ false → eqb tag 26 ≡ false → eqb tag 27 ≡ false → eqb tag 28 ≡ false → tag ≡ 29
last_tag tag is n16 n17 n18 n19 n20 n21 n22 n23 n24 n25 n26 n27 n28 =
    let parts = and_parts (leb 16 tag) (leb tag 29) is in
    let low = leb-true 16 tag parts.0 in
    let high = leb-true tag 29 parts.1 in
    omega (arith, low, high, eqb-false tag 16 n16, eqb-false tag 17 n17, eqb-false tag 18 n18, eqb-false tag 19 n19, eqb-false tag 20 n20, eqb-false tag 21 n21, eqb-false tag 22 n22, eqb-false tag 23 n23, eqb-false tag 24 n24, eqb-false tag 25 n25, eqb-false tag 26 n26, eqb-false tag 27 n27, eqb-false tag 28 n28)

abbrev compare_of : Two → FormulaView
compare_of t = compare (record { low = t.0; high = t.1 })

abbrev owner_of : Two → FormulaView
owner_of t = state (Owner t.0 t.1)

abbrev xattr_of : Three → FormulaView
xattr_of t = state (HasXattr t.0 t.1.0 t.1.1)

abbrev dir_of : Two → FormulaView
dir_of t = state (InDir t.0 t.1)

fields_find : (inner : ℕ → List ℕ → Counted FormulaView) → Finder inner → (input left tag : ℕ) (more : List ℕ) → AreBytes more → is_formula_tag tag ≡ true → Finds Parts formula_spelling size (suc left) (tag ∷ more) (fields_at inner input left tag more)
unfolding fields_at formula_spelling state_spelling
fields_find inner h input left tag more fits tagged x after rest e =
    by_test (eqb tag 16) _ _ _ e (λ is k. behind_tag 16 left tag more (atom_at input left more) (eqb-true tag 16 is) (atom_finds input left more fits) x after rest k) (λ n16 e1.
    by_test (eqb tag 17) _ _ _ e1 (λ is k. tagged_finds IsTwo two_spelling two Parts formula_spelling size compare_of 17 (λ a q. record { names = tt; terms = (q.0, q.1); arguments = omega arith }) (λ a. refl) (λ a. refl) left tag more (two_terms_at input left more) (eqb-true tag 17 is) (two_terms_find input left more fits) x after rest k) (λ n17 e2.
    by_test (eqb tag 18) _ _ _ e2 (λ is k. tagged_finds IsTwo two_spelling two Parts formula_spelling size owner_of 18 (λ a q. record { names = tt; terms = (q.0, (q.1, tt)); arguments = omega arith }) (λ a. refl) (λ a. refl) left tag more (two_terms_at input left more) (eqb-true tag 18 is) (two_terms_find input left more fits) x after rest k) (λ n18 e3.
    by_test (eqb tag 19) _ _ _ e3 (λ is k. tagged_finds IsThree three_spelling three Parts formula_spelling size xattr_of 19 (λ a q. record { names = tt; terms = (q.0, (q.1.0, (q.1.1, tt))); arguments = omega arith }) (λ a. refl) (λ a. refl) left tag more (three_terms_at input left more) (eqb-true tag 19 is) (three_terms_find input left more fits) x after rest k) (λ n19 e4.
    by_test (eqb tag 20) _ _ _ e4 (λ is k. tagged_finds IsTwo two_spelling two Parts formula_spelling size dir_of 20 (λ a q. record { names = tt; terms = (q.0, (q.1, tt)); arguments = omega arith }) (λ a. refl) (λ a. refl) left tag more (two_terms_at input left more) (eqb-true tag 20 is) (two_terms_find input left more fits) x after rest k) (λ n20 e5.
    by_test (eqb tag 21) _ _ _ e5 (λ is k. tagged_finds IsPair pair_spelling pair_size Parts formula_spelling size (λ p. both p.0 p.1) 21 (λ a q. record { names = (q.0.names, q.1.names); terms = (q.0.terms, q.1.terms); arguments = let m = q.0.arguments in let n = q.1.arguments in omega arith }) (λ a. refl) (λ a. omega arith) left tag more (pair_at inner left more) (eqb-true tag 21 is) (pair_finds inner h left more fits) x after rest k) (λ n21 e6.
    by_test (eqb tag 22) _ _ _ e6 (λ is k. tagged_finds IsPair pair_spelling pair_size Parts formula_spelling size (λ p. either p.0 p.1) 22 (λ a q. record { names = (q.0.names, q.1.names); terms = (q.0.terms, q.1.terms); arguments = let m = q.0.arguments in let n = q.1.arguments in omega arith }) (λ a. refl) (λ a. omega arith) left tag more (pair_at inner left more) (eqb-true tag 22 is) (pair_finds inner h left more fits) x after rest k) (λ n22 e7.
    by_test (eqb tag 23) _ _ _ e7 (λ is k. tagged_finds IsPair pair_spelling pair_size Parts formula_spelling size (λ p. implies p.0 p.1) 23 (λ a q. record { names = (q.0.names, q.1.names); terms = (q.0.terms, q.1.terms); arguments = let m = q.0.arguments in let n = q.1.arguments in omega arith }) (λ a. refl) (λ a. omega arith) left tag more (pair_at inner left more) (eqb-true tag 23 is) (pair_finds inner h left more fits) x after rest k) (λ n23 e8.
    by_test (eqb tag 24) _ _ _ e8 (λ is k. plain_finds truth 24 left tag more (record { names = tt; terms = tt; arguments = omega arith }) refl refl (eqb-true tag 24 is) x after rest k) (λ n24 e9.
    by_test (eqb tag 25) _ _ _ e9 (λ is k. plain_finds falsity 25 left tag more (record { names = tt; terms = tt; arguments = omega arith }) refl refl (eqb-true tag 25 is) x after rest k) (λ n25 e10.
    by_test (eqb tag 26) _ _ _ e10 (λ is k. tagged_finds IsBound bound_spelling bound_size Parts formula_spelling size (λ b. forall_ b.0 b.1) 26 (λ a q. record { names = q.names; terms = q.terms; arguments = q.arguments }) (λ a. refl) (λ a. omega arith) left tag more (binder_at inner input left more) (eqb-true tag 26 is) (bound_finds inner h input left more fits) x after rest k) (λ n26 e11.
    by_test (eqb tag 27) _ _ _ e11 (λ is k. tagged_finds IsBound bound_spelling bound_size Parts formula_spelling size (λ b. exists_ b.0 b.1) 27 (λ a q. record { names = q.names; terms = q.terms; arguments = q.arguments }) (λ a. refl) (λ a. omega arith) left tag more (binder_at inner input left more) (eqb-true tag 27 is) (bound_finds inner h input left more fits) x after rest k) (λ n27 e12.
    by_test (eqb tag 28) _ _ _ e12 (λ is k. behind_tag 28 left tag more (says_at inner input left more) (eqb-true tag 28 is) (says_finds inner h input left more fits) x after rest k) (λ n28 k.
    behind_tag 29 left tag more (on_at inner input left more) (last_tag tag tagged n16 n17 n18 n19 n20 n21 n22 n23 n24 n25 n26 n27 n28) (on_finds inner h input left more fits) x after rest k)))))))))))))

node_finds : (inner : ℕ → List ℕ → Counted FormulaView) → Finder inner → (input left : ℕ) (bytes : List ℕ) → AreBytes bytes → Finds Parts formula_spelling size left bytes (node_at inner input left bytes)
unfolding node_at
node_finds inner h input left [] fits x after rest e = absurd cc
node_finds inner h input left (tag ∷ more) fits x after rest e =
    let a = admitted_ok (is_formula_tag tag) left (place input (tag ∷ more)) (fields_at inner input (left - 1) tag more) (x, (after, rest)) e in
    subst (λ (n : ℕ). Found Parts formula_spelling size n (tag ∷ more) x after rest) (sym a.1) (fields_find inner h input (left - 1) tag more (λ i. fits (suc i)) a.0 x after rest a.2)

nothing_found : (input : ℕ) (bytes : List ℕ) (y : FormulaView × (ℕ × List ℕ)) → node_at no_more input 0 bytes ≡ Ok y → ⊥
unfolding node_at
nothing_found input [] y e = cc
nothing_found input (tag ∷ more) y e =
    let a = admitted_ok (is_formula_tag tag) 0 (place input (tag ∷ more)) (fields_at no_more input (0 - 1) tag more) y e in
    omega (arith, a.1)

formula_finds : (depth input : ℕ) → Finder (λ left bytes. formula_at input depth left bytes)
unfolding formula_at
formula_finds zero input left bytes fits x after rest e = absurd (nothing_found input bytes (x, (after, rest)) e)
formula_finds (suc depth) input left bytes fits x after rest e = node_finds (λ n end. formula_at input depth n end) (λ n end k. formula_finds depth input n end k) input left bytes fits x after rest e

pub whole_found : (input : ℕ) (bytes rest : List ℕ) (f : FormulaView) → AreBytes bytes → whole_formula_at input bytes ≡ Ok (f, rest) → IsSpellableFormula f × (bytes ≡ formula_spelling f ++ rest)
unfolding whole_formula_at
whole_found input bytes rest f fits e =
    let a = bind_ok (formula_at input 512 512 bytes) (λ x. Ok (x.0, x.1.1)) (f, rest) e in
    let it = formula_finds 512 input 512 bytes fits a.0.0 a.0.1.0 a.0.1.1 a.1 in
    let few : size a.0.0 ≤ 512 = omega (arith, it.count) in
    let found : IsSpellableFormula a.0.0 = record { names = it.kind.names; terms = it.kind.terms; within_limits = record { nodes = few; arguments = it.kind.arguments } } in
    subst (λ (p : FormulaView × List ℕ). IsSpellableFormula p.0 × (bytes ≡ formula_spelling p.0 ++ p.1)) (ok_is (a.0.0, a.0.1.1) (f, rest) a.2) (found, it.spelled)
