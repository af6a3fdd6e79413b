-- What is after one front and then another.
use Rattle.std.proofs.Common.{◌≡◌, ◌≤◌, ◌↔◌, ◌==◌, ℕ, Bool, eqb, cond, true, false, List, [], ◌∷◌, ◌++◌, length, take, drop, get_or, ◌-◌, Option, Some, None, refl, sym, ap, subst, ◌∙◌, arith}
use Rattle.std.specs.Prelude.{IsTrue}
use Rattle.std.specs.List.{flat_map}
use Rattle.std.proofs.Math.Dec.{eqb-suc-zero}
use Rattle.std.proofs.lemmas.Bool.{eqb-true, eq-eqb, false≢true}
use Rattle.std.proofs.lemmas.List.{append-nil, take_all}
use Rattle.record_parts.specs.Fronts.{after, Gives}

-- after one front and then another
abbrev pub then_after : List ℕ → Option (List ℕ) → Option (List ℕ)
then_after front (Some rest) = after front rest
then_after front None = None

then_cond : (second : List ℕ) (same : Bool) (first : Option (List ℕ)) → cond same (then_after second first) None ≡ then_after second (cond same first None)
then_cond second true first = refl
then_cond second false first = refl

pub fronts : (first second bytes : List ℕ) → after (first ++ second) bytes ≡ then_after second (after first bytes)
unfolding after
fronts [] second bytes = refl
fronts (x ∷ first) second [] = refl
fronts (x ∷ first) second (byte ∷ bytes) =
    ap (λ (o : Option (List ℕ)). cond (eqb x byte) o None) (fronts first second bytes) ∙ then_cond second (eqb x byte) (after first bytes)

-- after a front, and only after it
pub after_front : (front rest : List ℕ) → after front (front ++ rest) ≡ Some rest
unfolding after
after_front [] rest = refl
after_front (x ∷ front) rest = rw (eq-eqb x x refl) (after_front front rest)

begins_cond : (x byte : ℕ) (front bytes rest : List ℕ) (same : Bool) → eqb x byte ≡ same → (after front bytes ≡ Some rest → bytes ≡ front ++ rest) → cond same (after front bytes) None ≡ Some rest → byte ∷ bytes ≡ (x ∷ front) ++ rest
begins_cond x byte front bytes rest true is others e = ap (λ (y : ℕ). y ∷ bytes) (sym (eqb-true x byte is)) ∙ ap (λ (end : List ℕ). x ∷ end) (others e)
begins_cond x byte front bytes rest false is others e = absurd cc

pub begins : (front bytes rest : List ℕ) → after front bytes ≡ Some rest → bytes ≡ front ++ rest
unfolding after
begins [] bytes rest e = cc
begins (x ∷ front) [] rest e = absurd cc
begins (x ∷ front) (byte ∷ bytes) rest e = begins_cond x byte front bytes rest (eqb x byte) refl (begins front bytes rest) e

-- ---- calls one after the other

-- what is after a front and another is after the other, where that begins
pub some_after : {X : Type 0} (view : X → List ℕ) (first second bytes rest : List ℕ) (result : Option X) → after first bytes ≡ Some rest → Gives view result (after second rest) → Gives view result (after (first ++ second) bytes)
some_after view first second bytes rest result is gives = subst (Gives view result) (sym (fronts first second bytes ∙ ap (then_after second) is)) gives

pub none_after : (first second bytes : List ℕ) → after first bytes ≡ None → after (first ++ second) bytes ≡ None
none_after first second bytes is = fronts first second bytes ∙ ap (then_after second) is

-- the items after the first
abbrev pub others : {A : Type 0} → List A → List A
others items = take (length items - 1) (drop 1 items)

-- the first of items, and those after it
flat_first : {A : Type 0} (f : A → List ℕ) (items : List A) (first default : A) → 1 ≤ length items → first ≡ get_or items 0 default → flat_map f items ≡ f first ++ flat_map f (others items)
flat_first f [] first default some is = absurd (omega (arith, some))
flat_first f (x ∷ items) first default some is =
    let all : take (length (x ∷ items) - 1) items ≡ items = take_all (length (x ∷ items) - 1) items (omega arith) in
    ap (λ y. f y ++ flat_map f items) (sym is) ∙ ap (λ ys. f first ++ flat_map f ys) (sym all)

pub some_first : {X A : Type 0} (view : X → List ℕ) (f : A → List ℕ) (items : List A) (first default : A) (bytes rest : List ℕ) (result : Option X) → 1 ≤ length items → first ≡ get_or items 0 default → after (f first) bytes ≡ Some rest →
    Gives view result (after (flat_map f (others items)) rest) → Gives view result (after (flat_map f items) bytes)
some_first view f items first default bytes rest result some is begun gives =
    subst (λ (front : List ℕ). Gives view result (after front bytes)) (sym (flat_first f items first default some is)) (some_after view (f first) (flat_map f (others items)) bytes rest result begun gives)

pub none_first : {A : Type 0} (f : A → List ℕ) (items : List A) (first default : A) (bytes : List ℕ) → 1 ≤ length items → first ≡ get_or items 0 default → after (f first) bytes ≡ None → after (flat_map f items) bytes ≡ None
none_first f items first default bytes some is none =
    ap (λ (front : List ℕ). after front bytes) (flat_first f items first default some is) ∙ none_after (f first) (flat_map f (others items)) bytes none

-- ---- a front that is all

some_is : (a b : List ℕ) → ◌≡◌ {A = Option (List ℕ)} (Some a) (Some b) → a ≡ b
some_is a b e = cc

all_after : (front bytes : List ℕ) → bytes ≡ front → after front bytes ≡ Some []
all_after front bytes is = ap (after front) (is ∙ sym (append-nil front)) ∙ after_front front []

none_some : (a : List ℕ) → ◌≡◌ {A = Option (List ℕ)} None (Some a) → ⊥
none_some a e = cc

cons_nil : (x : ℕ) (xs : List ℕ) → x ∷ xs ≡ [] → ⊥
cons_nil x xs e = cc

pub not_all : (front bytes : List ℕ) → after front bytes ≡ None → IsTrue false ↔ (bytes ≡ front)
not_all front bytes none = (λ is. absurd (false≢true is), λ same. absurd (none_some [] (sym none ∙ all_after front bytes same)))

pub is_all : (front bytes rest : List ℕ) (told : Bool) → after front bytes ≡ Some rest → told ≡ (length rest == 0) → IsTrue told ↔ (bytes ≡ front)
is_all front bytes [] told read is = subst (λ (b : Bool). IsTrue b ↔ (bytes ≡ front)) (sym is) (λ _. begins front bytes [] read ∙ append-nil front, λ _. refl)
is_all front bytes (x ∷ rest) told read is =
    subst (λ (b : Bool). IsTrue b ↔ (bytes ≡ front)) (sym (is ∙ eqb-suc-zero (length rest)))
    (λ no. absurd (false≢true no), λ same. absurd (cons_nil x rest (some_is (x ∷ rest) [] (sym read ∙ all_after front bytes same))))
