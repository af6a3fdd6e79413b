-- Reading a formula does not fail because memory runs out: only a call may.
use Rattle.std.proofs.Common.{◌≡◌, ◌-◌, ℕ, zero, suc, eqb, List, [], ◌∷◌, Ok, Err}
use Rattle.bl_syntax.specs.declared.codec_fault.CodecFault.TheVariants as faults
use Rattle.bl_syntax.specs.declared.terms.StatePred.TheVariants.{Owner, HasXattr, InDir}
use Rattle.bl_syntax.specs.declared.terms.Term.{Term}
use Rattle.bl_syntax.specs.Names.{is_predicate_name}
use Rattle.bl_syntax.specs.Formula.{FormulaView, atom, compare, state, both, either, implies, forall_, exists_, says, on}
use Rattle.bl_syntax.specs.Reading.{◌>>=◌, place, predicate_at, sort_of, sort_at}
use Rattle.bl_syntax.specs.FormulaReading.{Counted, is_formula_tag, node_term_at, two_terms_at, three_terms_at, terms_at, count_at, atom_at, pair_at, binder_at, says_at, on_at, fields_at, no_more, node_at, formula_at, whole_formula_at}
use Rattle.bl_syntax.proofs.CodecLemmas.{made_memoryless, bind_memoryless}
use Rattle.bl_syntax.proofs.FieldLemmas.{word_memoryless, coded_memoryless}
use Rattle.bl_codec.proofs.NodesFoundLemmas.{admitted_memoryless}
use Rattle.bl_codec.proofs.NodeLemmas.{node_term_memoryless, two_terms_memoryless, three_terms_memoryless, terms_memoryless, count_memoryless, then_memoryless, test_memoryless}

abbrev Memoryless : (ℕ → List ℕ → Counted FormulaView) → Type 0
Memoryless inner = (left : ℕ) (bytes : List ℕ) → inner left bytes ≡ Err faults.NoMemory → ⊥

atom_memoryless : (input left : ℕ) (bytes : List ℕ) → atom_at input left bytes ≡ Err faults.NoMemory → ⊥
unfolding atom_at
atom_memoryless input left bytes e =
    bind_memoryless (predicate_at input bytes) (λ name. count_at input name.1 >>= λ n. terms_at n.0 input left n.1 >>= λ ts. Ok (atom name.0 ts.0, ts.1)) (word_memoryless 1 32 is_predicate_name input bytes)
    (λ name e1. bind_memoryless (count_at input name.1) (λ n. terms_at n.0 input left n.1 >>= λ ts. Ok (atom name.0 ts.0, ts.1)) (count_memoryless input name.1)
    (λ n e2. bind_memoryless (terms_at n.0 input left n.1) (λ ts. Ok (atom name.0 ts.0, ts.1)) (terms_memoryless n.0 input left n.1) (λ ts e3. cc) e2) e1) e

pair_memoryless : (inner : ℕ → List ℕ → Counted FormulaView) → Memoryless inner → (left : ℕ) (bytes : List ℕ) → pair_at inner left bytes ≡ Err faults.NoMemory → ⊥
unfolding pair_at
pair_memoryless inner h left bytes e = then_memoryless (λ x y. (x, y)) (inner left bytes) inner (h left bytes) h e

bound_memoryless : (inner : ℕ → List ℕ → Counted FormulaView) → Memoryless inner → (input left : ℕ) (bytes : List ℕ) → binder_at inner input left bytes ≡ Err faults.NoMemory → ⊥
unfolding binder_at
bound_memoryless inner h input left bytes e =
    bind_memoryless (sort_at input bytes) (λ s. inner left s.1 >>= λ body. Ok ((s.0, body.0), body.1)) (coded_memoryless sort_of input bytes)
    (λ s e1. bind_memoryless (inner left s.1) (λ body. Ok ((s.0, body.0), body.1)) (h left s.1) (λ body e2. cc) e1) e

says_memoryless : (inner : ℕ → List ℕ → Counted FormulaView) → Memoryless inner → (input left : ℕ) (bytes : List ℕ) → says_at inner input left bytes ≡ Err faults.NoMemory → ⊥
unfolding says_at
says_memoryless inner h input left bytes e = then_memoryless (λ x y. says x y) (node_term_at input left bytes) inner (node_term_memoryless input left bytes) h e

on_memoryless : (inner : ℕ → List ℕ → Counted FormulaView) → Memoryless inner → (input left : ℕ) (bytes : List ℕ) → on_at inner input left bytes ≡ Err faults.NoMemory → ⊥
unfolding on_at
on_memoryless inner h input left bytes e = then_memoryless {B = Term × Term} (λ x y. on x y.0 y.1) (inner left bytes) (λ n rest. two_terms_at input n rest) (h left bytes) (λ n rest. two_terms_memoryless input n rest) e

fields_memoryless : (inner : ℕ → List ℕ → Counted FormulaView) → Memoryless inner → (input left tag : ℕ) (more : List ℕ) → fields_at inner input left tag more ≡ Err faults.NoMemory → ⊥
unfolding fields_at
fields_memoryless inner h input left tag more e =
    test_memoryless (eqb tag 16) _ _ (λ k. atom_memoryless input left more k) (λ e1.
    test_memoryless (eqb tag 17) _ _ (λ k. made_memoryless (λ t. compare (record { low = t.0; high = t.1 })) (two_terms_at input left more) (two_terms_memoryless input left more) k) (λ e2.
    test_memoryless (eqb tag 18) _ _ (λ k. made_memoryless (λ t. state (Owner t.0 t.1)) (two_terms_at input left more) (two_terms_memoryless input left more) k) (λ e3.
    test_memoryless (eqb tag 19) _ _ (λ k. made_memoryless (λ t. state (HasXattr t.0 t.1.0 t.1.1)) (three_terms_at input left more) (three_terms_memoryless input left more) k) (λ e4.
    test_memoryless (eqb tag 20) _ _ (λ k. made_memoryless (λ t. state (InDir t.0 t.1)) (two_terms_at input left more) (two_terms_memoryless input left more) k) (λ e5.
    test_memoryless (eqb tag 21) _ _ (λ k. made_memoryless (λ p. both p.0 p.1) (pair_at inner left more) (pair_memoryless inner h left more) k) (λ e6.
    test_memoryless (eqb tag 22) _ _ (λ k. made_memoryless (λ p. either p.0 p.1) (pair_at inner left more) (pair_memoryless inner h left more) k) (λ e7.
    test_memoryless (eqb tag 23) _ _ (λ k. made_memoryless (λ p. implies p.0 p.1) (pair_at inner left more) (pair_memoryless inner h left more) k) (λ e8.
    test_memoryless (eqb tag 24) _ _ (λ k. cc) (λ e9.
    test_memoryless (eqb tag 25) _ _ (λ k. cc) (λ e10.
    test_memoryless (eqb tag 26) _ _ (λ k. made_memoryless (λ b. forall_ b.0 b.1) (binder_at inner input left more) (bound_memoryless inner h input left more) k) (λ e11.
    test_memoryless (eqb tag 27) _ _ (λ k. made_memoryless (λ b. exists_ b.0 b.1) (binder_at inner input left more) (bound_memoryless inner h input left more) k) (λ e12.
    test_memoryless (eqb tag 28) _ _ (λ k. says_memoryless inner h input left more k) (λ k. on_memoryless inner h input left more k) e12) e11) e10) e9) e8) e7) e6) e5) e4) e3) e2) e1) e

node_memoryless : (inner : ℕ → List ℕ → Counted FormulaView) → Memoryless inner → (input left : ℕ) (bytes : List ℕ) → node_at inner input left bytes ≡ Err faults.NoMemory → ⊥
unfolding node_at
node_memoryless inner h input left [] e = cc
node_memoryless inner h input left (tag ∷ more) e =
    admitted_memoryless (is_formula_tag tag) left (place input (tag ∷ more)) (fields_at inner input (left - 1) tag more) (fields_memoryless inner h input (left - 1) tag more) e

formula_memoryless : (depth input : ℕ) → Memoryless (λ left bytes. formula_at input depth left bytes)
unfolding formula_at
formula_memoryless zero input left bytes e = node_memoryless no_more (λ n end k. cc) input 0 bytes e
formula_memoryless (suc depth) input left bytes e = node_memoryless (λ n end. formula_at input depth n end) (λ n end k. formula_memoryless depth input n end k) input left bytes e

pub whole_memoryless : (input : ℕ) (bytes : List ℕ) → whole_formula_at input bytes ≡ Err faults.NoMemory → ⊥
unfolding whole_formula_at
whole_memoryless input bytes e = bind_memoryless (formula_at input 512 512 bytes) (λ x. Ok (x.0, x.1.1)) (formula_memoryless 512 input 512 bytes) (λ x k. cc) e
