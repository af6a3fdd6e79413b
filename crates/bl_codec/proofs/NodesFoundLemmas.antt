-- Reading nodes: what is read is spelled so, and takes as many of the nodes that are left as it has.
use Rattle.std.proofs.Common.{◌≡◌, ◌≤◌, ◌-◌, ◌+◌, ℕ, zero, suc, Bool, true, false, eqb, List, ◌∷◌, ◌++◌, Ok, Err, refl, sym, ap, subst, ◌∙◌, append_assoc, arith}
use Rattle.std.proofs.lemmas.Bool.{ne_eqb}
use Rattle.bl_syntax.specs.declared.codec_fault.CodecFault.TheVariants.{TooLarge}
use Rattle.bl_syntax.specs.declared.codec_fault.CodecFault.TheVariants as faults
use Rattle.bl_syntax.specs.Reading.{◌>>=◌, Reading, map_reading}
use Rattle.bl_syntax.specs.FormulaReading.{Counted, with_left, admit_node}
use Rattle.bl_syntax.specs.Codec.{AreBytes}
use Rattle.bl_syntax.proofs.CodecLemmas.{bind_ok, by_test, ok_is, made_ok, AreBytes-behind}

-- a value that was read: it is of the kind, has so many nodes, and its spelling and the rest are the bytes
pub record Found {A : Type 0} (IsKind : A → Type 0) (spelling : A → List ℕ) (nodes : A → ℕ) (left : ℕ) (bytes : List ℕ) (x : A) (after : ℕ) (rest : List ℕ) : Type 0 where
  pub kind : IsKind x
  pub count : nodes x + after ≡ left
  pub spelled : bytes ≡ spelling x ++ rest

-- whatever is read is found so
abbrev pub Finds : {A : Type 0} → (A → Type 0) → (A → List ℕ) → (A → ℕ) → ℕ → List ℕ → Counted A → Type 0
Finds {A} IsKind spelling nodes left bytes read = (x : A) (after : ℕ) (rest : List ℕ) → read ≡ Ok (x, (after, rest)) → Found IsKind spelling nodes left bytes x after rest

pub rest_bytes : (bytes front rest : List ℕ) → AreBytes bytes → bytes ≡ front ++ rest → AreBytes rest
rest_bytes bytes front rest fits e = AreBytes-behind front rest (subst AreBytes e fits)

-- one value, another after it, and what k makes of both
abbrev pub one_then : {A B C : Type 0} → (A → B → C) → Counted A → (ℕ → List ℕ → Counted B) → Counted C
one_then k r g = r >>= λ first. (g first.1.0 first.1.1 >>= λ second. Ok (k first.0 second.0, second.1))

-- one value after another
pub then_finds : {A B C : Type 0} (IsA : A → Type 0) (sA : A → List ℕ) (nA : A → ℕ) (IsB : B → Type 0) (sB : B → List ℕ) (nB : B → ℕ) (IsC : C → Type 0) (sC : C → List ℕ) (nC : C → ℕ) (k : A → B → C)
    → ((a : A) (b : B) → IsA a → IsB b → IsC (k a b)) → ((a : A) (b : B) → sC (k a b) ≡ sA a ++ sB b) → ((a : A) (b : B) → nC (k a b) ≡ nA a + nB b)
    → (left : ℕ) (bytes : List ℕ) (r : Counted A) (g : ℕ → List ℕ → Counted B) → AreBytes bytes → Finds IsA sA nA left bytes r → ((after : ℕ) (rest : List ℕ) → AreBytes rest → Finds IsB sB nB after rest (g after rest))
    → Finds IsC sC nC left bytes (one_then k r g)
then_finds {A} {B} {C} IsA sA nA IsB sB nB IsC sC nC k kind spelled count left bytes r g fits first_finds second_finds x after rest e =
    let a = bind_ok r (λ first. g first.1.0 first.1.1 >>= λ second. Ok (k first.0 second.0, second.1)) (x, (after, rest)) e in
    let b = bind_ok (g a.0.1.0 a.0.1.1) (λ second. Ok (k a.0.0 second.0, second.1)) (x, (after, rest)) a.2 in
    let one = first_finds a.0.0 a.0.1.0 a.0.1.1 a.1 in
    let two = second_finds a.0.1.0 a.0.1.1 (rest_bytes bytes (sA a.0.0) a.0.1.1 fits one.spelled) b.0.0 b.0.1.0 b.0.1.1 b.1 in
    let pair = ok_is (k a.0.0 b.0.0, b.0.1) (x, (after, rest)) b.2 in
    let both : Found IsC sC nC left bytes (k a.0.0 b.0.0) b.0.1.0 b.0.1.1 = record {
      kind = kind a.0.0 b.0.0 one.kind two.kind;
      count = let n = count a.0.0 b.0.0 in omega (arith, n, one.count, two.count);
      spelled = one.spelled ∙ ap (λ (end : List ℕ). sA a.0.0 ++ end) two.spelled ∙ sym (append_assoc (sA a.0.0) (sB b.0.0) b.0.1.1) ∙ ap (λ (front : List ℕ). front ++ b.0.1.1) (sym (spelled a.0.0 b.0.0));
    } in
    subst (λ (p : C × (ℕ × List ℕ)). Found IsC sC nC left bytes p.0 p.1.0 p.1.1) pair both

positive : (left : ℕ) → eqb left 0 ≡ false → left ≡ suc (left - 1)
positive zero e = absurd cc
positive (suc left) e = omega arith

-- a node that was admitted
pub admitted_ok : {A : Type 0} (b : Bool) (left start : ℕ) (node : Counted A) (y : A × (ℕ × List ℕ)) → admit_node b left start node ≡ Ok y → (b ≡ true) × (left ≡ suc (left - 1)) × (node ≡ Ok y)
admitted_ok true left start node y e = by_test (eqb left 0) (Err (TooLarge start)) node (Ok y) e (λ _ fault. absurd cc) (λ some found. (refl, positive left some, found))
admitted_ok false left start node y e = absurd cc

pub admitted_again : {A : Type 0} (b : Bool) (left start : ℕ) (node y : Counted A) → b ≡ true → 1 ≤ left → node ≡ y → admit_node b left start node ≡ y
admitted_again b left start node y is room e = let some : eqb left 0 ≡ false = ne_eqb left 0 (λ z. omega arith) in rw (is, some) e

pub admitted_memoryless : {A : Type 0} (b : Bool) (left start : ℕ) (node : Counted A) → (node ≡ Err faults.NoMemory → ⊥) → admit_node b left start node ≡ Err faults.NoMemory → ⊥
admitted_memoryless true left start node h e = by_test (eqb left 0) (Err (TooLarge start)) node (Err faults.NoMemory) e (λ _ fault. cc) (λ _ found. h found)
admitted_memoryless false left start node h e = cc

pub with_left_ok : {A : Type 0} (left : ℕ) (r : Reading A) (x : A) (after : ℕ) (rest : List ℕ) → with_left left r ≡ Ok (x, (after, rest)) → (r ≡ Ok (x, rest)) × (left ≡ after)
with_left_ok {A} left (Ok y) x after rest e =
    let pair = ok_is (y.0, (left, y.1)) (x, (after, rest)) e in
    (ap (λ (p : A × (ℕ × List ℕ)). Ok (p.0, p.1.1)) pair, ap (λ (p : A × (ℕ × List ℕ)). p.1.0) pair)
with_left_ok left (Err d) x after rest e = absurd cc

-- a value whose fields are another, after a tag
pub tagged_finds : {A C : Type 0} (IsA : A → Type 0) (sA : A → List ℕ) (nA : A → ℕ) (IsC : C → Type 0) (sC : C → List ℕ) (nC : C → ℕ) (f : A → C) (code : ℕ)
    → ((a : A) → IsA a → IsC (f a)) → ((a : A) → sC (f a) ≡ code ∷ sA a) → ((a : A) → nC (f a) ≡ suc (nA a))
    → (left tag : ℕ) (more : List ℕ) (r : Counted A) → tag ≡ code → Finds IsA sA nA left more r → Finds IsC sC nC (suc left) (tag ∷ more) (map_reading f r)
tagged_finds {A} {C} IsA sA nA IsC sC nC f code kind spelled count left tag more r is finds x after rest e =
    let m = made_ok f r x (after, rest) e in
    let it = finds m.0 after rest m.1 in
    let made_it : Found IsC sC nC (suc left) (tag ∷ more) (f m.0) after rest = record {
      kind = kind m.0 it.kind;
      count = let n = count m.0 in omega (arith, n, it.count);
      spelled = ap (λ (t : ℕ). t ∷ more) is ∙ ap (λ (b : List ℕ). code ∷ b) it.spelled ∙ ap (λ (front : List ℕ). front ++ rest) (sym (spelled m.0));
    } in
    subst (λ (y : C). Found IsC sC nC (suc left) (tag ∷ more) y after rest) m.2 made_it

-- two values that were spelled are read again
pub then_again : {A B C : Type 0} (k : A → B → C) (r : ℕ → List ℕ → Counted A) (g : ℕ → List ℕ → Counted B) (front back rest : List ℕ) (a : A) (b : B) (left na nb : ℕ)
    → r left (front ++ (back ++ rest)) ≡ Ok (a, (left - na, back ++ rest)) → g (left - na) (back ++ rest) ≡ Ok (b, ((left - na) - nb, rest))
    → one_then k (r left ((front ++ back) ++ rest)) g ≡ Ok (k a b, (left - (na + nb), rest))
then_again k r g front back rest a b left na nb one two =
    let n : (left - na) - nb ≡ left - (na + nb) = omega arith in
    rw (append_assoc front back rest, one, two, n) refl
