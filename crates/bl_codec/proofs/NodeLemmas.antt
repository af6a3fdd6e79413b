-- Terms as nodes of a formula: what is read is spelled so, and what is spelled so is read.
use Rattle.std.proofs.Common.{◌≡◌, ◌≤◌, ◌-◌, ◌+◌, ℕ, zero, suc, Bool, true, false, cond, ltb, List, [], ◌∷◌, ◌++◌, length, Result, Ok, Err, refl, ap, subst, arith}
use Rattle.std.specs.List.{flat_map, AllByRecursion}
use Rattle.std.specs.Int.{w32, w64, to_be_bytes}
use Rattle.std.proofs.lemmas.Bool.{ltb-false, le-ltb}
use Rattle.std.proofs.lemmas.List.Concat.{flat_map-cons}
use Rattle.bl_syntax.specs.declared.codec_fault.CodecFault.{CodecFault}
use Rattle.bl_syntax.specs.declared.codec_fault.CodecFault.TheVariants as faults
use Rattle.bl_syntax.specs.declared.terms.Term.{Term}
use Rattle.bl_syntax.specs.declared.terms.Term.TheVariants.{Prin, File, Perm, Time, Text, Ctime, Param, Bound}
use Rattle.bl_syntax.specs.Spelling.{IsSpellable, with_length, permission_code, time_spelling, term_spelling}
use Rattle.bl_syntax.specs.Reading.{◌>>=◌, place, term_at}
use Rattle.bl_syntax.specs.FormulaReading.{Counted, with_left, is_term_tag, node_term_at, two_terms_at, three_terms_at, terms_at, count_at}
use Rattle.bl_syntax.specs.Codec.{AreBytes}
use Rattle.bl_syntax.proofs.CodecLemmas.{by_test, ok_is, bind_memoryless}
use Rattle.bl_syntax.proofs.TermLemmas.{term_found, term_again, term_memoryless}
use Rattle.bl_codec.proofs.NodesFoundLemmas.{Found, Finds, one_then, then_finds, admitted_ok, admitted_again, admitted_memoryless, with_left_ok, then_again}

abbrev pub one : {A : Type 0} → A → ℕ
one x = 1

pub node_term_finds : (input left : ℕ) (bytes : List ℕ) → AreBytes bytes → Finds IsSpellable term_spelling one left bytes (node_term_at input left bytes)
unfolding node_term_at
node_term_finds input left [] fits x after rest e = absurd cc
node_term_finds input left (tag ∷ more) fits x after rest e =
    let a = admitted_ok (is_term_tag tag) left (place input (tag ∷ more)) (with_left (left - 1) (term_at input (tag ∷ more))) (x, (after, rest)) e in
    let w = with_left_ok (left - 1) (term_at input (tag ∷ more)) x after rest a.2 in
    let it = term_found input (tag ∷ more) rest x fits w.0 in
    record { kind = it.0; count = omega (arith, a.1, w.1); spelled = it.1 }

term_read : (input left tag : ℕ) (more rest : List ℕ) (t : Term) → is_term_tag tag ≡ true → term_at input (tag ∷ more) ≡ Ok (t, rest) → 1 ≤ left → node_term_at input left (tag ∷ more) ≡ Ok (t, (left - 1, rest))
unfolding node_term_at
term_read input left tag more rest t is e room =
    admitted_again (is_term_tag tag) left (place input (tag ∷ more)) (with_left (left - 1) (term_at input (tag ∷ more))) (Ok (t, (left - 1, rest))) is room (rw e refl)

pub node_term_again : (input left : ℕ) (t : Term) (rest : List ℕ) → IsSpellable t → 1 ≤ left → node_term_at input left (term_spelling t ++ rest) ≡ Ok (t, (left - 1, rest))
unfolding term_spelling
node_term_again input left (Prin name) rest h room = term_read input left 1 (with_length name ++ rest) rest (Prin name) refl (term_again input (Prin name) rest h) room
node_term_again input left (File n) rest h room = term_read input left 2 (to_be_bytes w64 n.0 ++ rest) rest (File n) refl (term_again input (File n) rest h) room
node_term_again input left (Perm permission) rest h room = term_read input left 3 (permission_code permission ∷ rest) rest (Perm permission) refl (term_again input (Perm permission) rest h) room
node_term_again input left (Time point) rest h room = term_read input left 4 (time_spelling point ++ rest) rest (Time point) refl (term_again input (Time point) rest h) room
node_term_again input left (Text text) rest h room = term_read input left 5 (with_length text ++ rest) rest (Text text) refl (term_again input (Text text) rest h) room
node_term_again input left Ctime rest h room = term_read input left 6 rest rest Ctime refl (term_again input Ctime rest h) room
node_term_again input left (Param n) rest h room = term_read input left 7 (to_be_bytes w32 n ++ rest) rest (Param n) refl (term_again input (Param n) rest h) room
node_term_again input left (Bound n) rest h room = term_read input left 8 (to_be_bytes w32 n ++ rest) rest (Bound n) refl (term_again input (Bound n) rest h) room

with_left_memoryless : (input left : ℕ) (bytes : List ℕ) → with_left left (term_at input bytes) ≡ Err faults.NoMemory → ⊥
with_left_memoryless input left bytes e = bind_memoryless (term_at input bytes) (λ x. Ok (x.0, (left, x.1))) (term_memoryless input bytes) (λ x h. cc) e

pub node_term_memoryless : (input left : ℕ) (bytes : List ℕ) → node_term_at input left bytes ≡ Err faults.NoMemory → ⊥
unfolding node_term_at
node_term_memoryless input left [] e = cc
node_term_memoryless input left (tag ∷ more) e = admitted_memoryless (is_term_tag tag) left (place input (tag ∷ more)) (with_left (left - 1) (term_at input (tag ∷ more))) (with_left_memoryless input (left - 1) (tag ∷ more)) e

-- ---- two and three terms

abbrev pub Two : Type 0
Two = Term × Term

abbrev pub IsTwo : Two → Type 0
IsTwo p = IsSpellable p.0 × IsSpellable p.1

abbrev pub two_spelling : Two → List ℕ
two_spelling p = term_spelling p.0 ++ term_spelling p.1

abbrev pub two : {A : Type 0} → A → ℕ
two x = 2

pub two_terms_find : (input left : ℕ) (bytes : List ℕ) → AreBytes bytes → Finds IsTwo two_spelling two left bytes (two_terms_at input left bytes)
unfolding two_terms_at
two_terms_find input left bytes fits =
    then_finds IsSpellable term_spelling one IsSpellable term_spelling one IsTwo two_spelling two (λ a b. (a, b)) (λ a b h k. (h, k)) (λ a b. refl) (λ a b. refl)
    left bytes (node_term_at input left bytes) (λ n rest. node_term_at input n rest) fits (node_term_finds input left bytes fits) (λ after rest k. node_term_finds input after rest k)

pub two_terms_again : (input left : ℕ) (a b : Term) (rest : List ℕ) → IsSpellable a → IsSpellable b → 2 ≤ left → two_terms_at input left ((term_spelling a ++ term_spelling b) ++ rest) ≡ Ok ((a, b), (left - 2, rest))
unfolding two_terms_at
two_terms_again input left a b rest h k room =
    then_again (λ x y. (x, y)) (λ n bytes. node_term_at input n bytes) (λ n bytes. node_term_at input n bytes) (term_spelling a) (term_spelling b) rest a b left 1 1
    (node_term_again input left a (term_spelling b ++ rest) h (omega arith)) (node_term_again input (left - 1) b rest k (omega arith))

-- one value after another, because memory runs out
pub then_memoryless : {A B C : Type 0} (k : A → B → C) (r : Counted A) (g : ℕ → List ℕ → Counted B) → (r ≡ Err faults.NoMemory → ⊥) → ((n : ℕ) (rest : List ℕ) → g n rest ≡ Err faults.NoMemory → ⊥)
    → one_then k r g ≡ Err faults.NoMemory → ⊥
then_memoryless k r g first second e =
    bind_memoryless r (λ a. g a.1.0 a.1.1 >>= λ b. Ok (k a.0 b.0, b.1)) first (λ a h. bind_memoryless (g a.1.0 a.1.1) (λ b. Ok (k a.0 b.0, b.1)) (second a.1.0 a.1.1) (λ b z. cc) h) e

pub two_terms_memoryless : (input left : ℕ) (bytes : List ℕ) → two_terms_at input left bytes ≡ Err faults.NoMemory → ⊥
unfolding two_terms_at
two_terms_memoryless input left bytes e = then_memoryless (λ x y. (x, y)) (node_term_at input left bytes) (λ n rest. node_term_at input n rest) (node_term_memoryless input left bytes) (λ n rest. node_term_memoryless input n rest) e

abbrev pub Three : Type 0
Three = Term × (Term × Term)

abbrev pub IsThree : Three → Type 0
IsThree p = IsSpellable p.0 × IsTwo p.1

abbrev pub three_spelling : Three → List ℕ
three_spelling p = term_spelling p.0 ++ two_spelling p.1

abbrev pub three : {A : Type 0} → A → ℕ
three x = 3

pub three_terms_find : (input left : ℕ) (bytes : List ℕ) → AreBytes bytes → Finds IsThree three_spelling three left bytes (three_terms_at input left bytes)
unfolding three_terms_at
three_terms_find input left bytes fits =
    then_finds IsSpellable term_spelling one IsTwo two_spelling two IsThree three_spelling three (λ a b. (a, b)) (λ a b h k. (h, k)) (λ a b. refl) (λ a b. refl)
    left bytes (node_term_at input left bytes) (λ n rest. two_terms_at input n rest) fits (node_term_finds input left bytes fits) (λ after rest k. two_terms_find input after rest k)

pub three_terms_again : (input left : ℕ) (a b c : Term) (rest : List ℕ) → IsSpellable a → IsSpellable b → IsSpellable c → 3 ≤ left
    → three_terms_at input left ((term_spelling a ++ (term_spelling b ++ term_spelling c)) ++ rest) ≡ Ok ((a, (b, c)), (left - 3, rest))
unfolding three_terms_at
three_terms_again input left a b c rest h k l room =
    then_again (λ x y. (x, y)) (λ n bytes. node_term_at input n bytes) (λ n bytes. two_terms_at input n bytes) (term_spelling a) (term_spelling b ++ term_spelling c) rest a (b, c) left 1 2
    (node_term_again input left a ((term_spelling b ++ term_spelling c) ++ rest) h (omega arith)) (two_terms_again input (left - 1) b c rest k l (omega arith))

pub three_terms_memoryless : (input left : ℕ) (bytes : List ℕ) → three_terms_at input left bytes ≡ Err faults.NoMemory → ⊥
unfolding three_terms_at
three_terms_memoryless input left bytes e = then_memoryless (λ x y. (x, y)) (node_term_at input left bytes) (λ n rest. two_terms_at input n rest) (node_term_memoryless input left bytes) (λ n rest. two_terms_memoryless input n rest) e

-- ---- lists of terms

abbrev pub are_nodes : List Term → ℕ
are_nodes ts = length ts

abbrev pub terms_spelling : List Term → List ℕ
terms_spelling ts = flat_map term_spelling ts

pub terms_find : (count input left : ℕ) (bytes : List ℕ) → AreBytes bytes → Finds (λ ts. AllByRecursion IsSpellable ts × (length ts ≡ count)) terms_spelling are_nodes left bytes (terms_at count input left bytes)
unfolding terms_at
terms_find zero input left bytes fits x after rest e =
    let pair = ok_is ([], (left, bytes)) (x, (after, rest)) e in
    subst (λ (p : List Term × (ℕ × List ℕ)). Found (λ ts. AllByRecursion IsSpellable ts × (length ts ≡ 0)) terms_spelling are_nodes left bytes p.0 p.1.0 p.1.1) pair (record { kind = (tt, refl); count = omega arith; spelled = refl })
terms_find (suc count) input left bytes fits x after rest e =
    then_finds IsSpellable term_spelling one (λ ts. AllByRecursion IsSpellable ts × (length ts ≡ count)) terms_spelling are_nodes (λ ts. AllByRecursion IsSpellable ts × (length ts ≡ suc count)) terms_spelling are_nodes (λ t ts. t ∷ ts)
    (λ t ts h k. ((h, k.0), ap suc k.1)) (λ t ts. flat_map-cons term_spelling t ts) (λ t ts. omega arith)
    left bytes (node_term_at input left bytes) (λ n rest. terms_at count input n rest) fits (node_term_finds input left bytes fits) (λ n end k. terms_find count input n end k) x after rest e

pub terms_again : (ts : List Term) (input left : ℕ) (rest : List ℕ) → AllByRecursion IsSpellable ts → length ts ≤ left → terms_at (length ts) input left (terms_spelling ts ++ rest) ≡ Ok (ts, (left - length ts, rest))
unfolding terms_at
terms_again [] input left rest h room = let n : left - 0 ≡ left = omega arith in rw n refl
terms_again (t ∷ ts) input left rest h room =
    let n : left - (1 + length ts) ≡ left - length (t ∷ ts) = omega arith in
    rw (flat_map-cons term_spelling t ts, ← n)
    (then_again (λ x y. x ∷ y) (λ m bytes. node_term_at input m bytes) (λ m bytes. terms_at (length ts) input m bytes) (term_spelling t) (terms_spelling ts) rest t ts left 1 (length ts)
    (node_term_again input left t (terms_spelling ts ++ rest) h.0 (omega arith)) (terms_again ts input (left - 1) rest h.1 (omega arith)))

pub terms_memoryless : (count input left : ℕ) (bytes : List ℕ) → terms_at count input left bytes ≡ Err faults.NoMemory → ⊥
unfolding terms_at
terms_memoryless zero input left bytes e = cc
terms_memoryless (suc count) input left bytes e = then_memoryless (λ x y. x ∷ y) (node_term_at input left bytes) (λ n rest. terms_at count input n rest) (node_term_memoryless input left bytes) (λ n rest. terms_memoryless count input n rest) e

-- ---- the number of an atom's terms

pub count_found : (input : ℕ) (bytes rest : List ℕ) (n : ℕ) → count_at input bytes ≡ Ok (n, rest) → (n ≤ 8) × (bytes ≡ n ∷ rest)
unfolding count_at
count_found input [] rest n e = absurd cc
count_found input (count ∷ more) rest n e =
    by_test (ltb 8 count) _ _ _ e (λ _ fault. absurd cc) (λ small found. subst (λ (p : ℕ × List ℕ). (p.0 ≤ 8) × (count ∷ more ≡ p.0 ∷ p.1)) (ok_is (count, more) (n, rest) found) (ltb-false 8 count small, refl))

pub count_again : (input n : ℕ) (rest : List ℕ) → n ≤ 8 → count_at input (n ∷ rest) ≡ Ok (n, rest)
unfolding count_at
count_again input n rest h = let small : ltb 8 n ≡ false = le-ltb 8 n h in rw small refl

pub test_memoryless : {A : Type 0} (b : Bool) (x y : Result A CodecFault) → (x ≡ Err faults.NoMemory → ⊥) → (y ≡ Err faults.NoMemory → ⊥) → cond b x y ≡ Err faults.NoMemory → ⊥
test_memoryless true x y first second e = first e
test_memoryless false x y first second e = second e

pub count_memoryless : (input : ℕ) (bytes : List ℕ) → count_at input bytes ≡ Err faults.NoMemory → ⊥
unfolding count_at
count_memoryless input [] e = cc
count_memoryless input (count ∷ more) e = test_memoryless (ltb 8 count) _ _ (λ h. cc) (λ h. cc) e
