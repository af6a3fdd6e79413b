-- Lists of conditions: what is read is spelled so, and what is spelled so is read.
use Rattle.std.proofs.Common.{◌≡◌, ℕ, zero, suc, ◌≤◌, List, [], ◌∷◌, ◌++◌, length, Bool, true, false, cond, ltb, Result, Ok, Err, refl, sym, ap, subst, ◌∙◌, append_assoc}
use Rattle.std.specs.List.{flat_map, AllByRecursion}
use Rattle.std.proofs.lemmas.Bool.{ltb-false, le-ltb}
use Rattle.std.proofs.lemmas.List.{append-nil}
use Rattle.bl_syntax.specs.declared.codec_fault.CodecFault.{CodecFault}
use Rattle.bl_syntax.specs.declared.codec_fault.CodecFault.TheVariants as faults
use Rattle.bl_syntax.specs.Reading.{Reading, place}
use Rattle.bl_syntax.specs.Codec.{AreBytes, IsCodec}
use Rattle.bl_syntax.proofs.CodecLemmas.{bind_ok, by_test, ok_is, bind_memoryless, AreBytes-rest, AreBytes-behind}
use Rattle.procap.specs.GrantSpelling.{list_spelling}
use Rattle.procap.specs.GrantReading.{items_at, count_at, conditions_at}

-- each item may follow those before it
abbrev pub AllFollow : {A : Type 0} → (List A → A → Bool) → List A → List A → Type 0
AllFollow may_follow before [] = Unit {0}
AllFollow may_follow before (x ∷ xs) = (may_follow before x ≡ true) × AllFollow may_follow (before ++ x ∷ []) xs

-- what was read after the items before
pub record FoundItems {A : Type 0} (IsSpelled : A → Type 0) (spelling : A → List ℕ) (may_follow : List A → A → Bool) (count : ℕ) (before : List A) (bytes : List ℕ) (all : List A) (rest : List ℕ) : Type 0 where
  pub items : List A
  pub all_are : all ≡ before ++ items
  pub count_is : length items ≡ count
  pub spelled : AllByRecursion IsSpelled items
  pub follow : AllFollow may_follow before items
  pub bytes_are : bytes ≡ flat_map spelling items ++ rest

pub items_found : {A : Type 0} (IsSpelled : A → Type 0) (spelling : A → List ℕ) (one_at : ℕ → List ℕ → Reading A) (may_follow : List A → A → Bool) → IsCodec IsSpelled spelling one_at
    → (count input : ℕ) (before : List A) (bytes : List ℕ) (all : List A) (rest : List ℕ) → AreBytes bytes → items_at one_at may_follow count input before bytes ≡ Ok (all, rest)
    → FoundItems IsSpelled spelling may_follow count before bytes all rest
unfolding items_at
items_found {A} IsSpelled spelling one_at may_follow codec zero input before bytes all rest fits e =
    let pair = ok_is (before, bytes) (all, rest) e in
    record {
      items = [];
      all_are = sym (ap (λ (p : List A × List ℕ). p.0) pair) ∙ sym (append-nil before);
      count_is = refl;
      spelled = tt;
      follow = tt;
      bytes_are = ap (λ (p : List A × List ℕ). p.1) pair;
    }
items_found {A} IsSpelled spelling one_at may_follow codec (suc count) input before bytes all rest fits e =
    let a = bind_ok (one_at input bytes) (λ one. cond (may_follow before one.0) (items_at one_at may_follow count input (before ++ one.0 ∷ []) one.1) (Err (faults.NotCanonical (place input bytes)))) (all, rest) e in
    by_test (may_follow before a.0.0) _ _ _ a.2 (λ is found.
    let one = codec.found input bytes a.0.1 a.0.0 fits a.1 in
    let behind : AreBytes a.0.1 = AreBytes-behind (spelling a.0.0) a.0.1 (subst AreBytes one.1 fits) in
    let others = items_found IsSpelled spelling one_at may_follow codec count input (before ++ a.0.0 ∷ []) a.0.1 all rest behind found in
    record {
      items = a.0.0 ∷ others.items;
      all_are = others.all_are ∙ append_assoc before (a.0.0 ∷ []) others.items;
      count_is = ap suc others.count_is;
      spelled = (one.0, others.spelled);
      follow = (is, others.follow);
      bytes_are = one.1 ∙ ap (λ (end : List ℕ). spelling a.0.0 ++ end) others.bytes_are ∙ sym (append_assoc (spelling a.0.0) (flat_map spelling others.items) rest);
    }) (λ _ fault. absurd cc)

pub items_again : {A : Type 0} (IsSpelled : A → Type 0) (spelling : A → List ℕ) (one_at : ℕ → List ℕ → Reading A) (may_follow : List A → A → Bool) → IsCodec IsSpelled spelling one_at
    → (input : ℕ) (before items : List A) (rest : List ℕ) → AllByRecursion IsSpelled items → AllFollow may_follow before items
    → items_at one_at may_follow (length items) input before (flat_map spelling items ++ rest) ≡ Ok (before ++ items, rest)
unfolding items_at
items_again {A} IsSpelled spelling one_at may_follow codec input before [] rest spelled follow = ap (λ (all : List A). Ok (all, rest)) (sym (append-nil before))
items_again {A} IsSpelled spelling one_at may_follow codec input before (x ∷ xs) rest spelled follow =
    let next : List A × List ℕ → Result (List A × List ℕ) CodecFault = λ all. Ok all in
    rw (append_assoc (spelling x) (flat_map spelling xs) rest, codec.again input x (flat_map spelling xs ++ rest) spelled.0, follow.0)
    (items_again IsSpelled spelling one_at may_follow codec input (before ++ x ∷ []) xs rest spelled.1 follow.1 ∙ ap (λ (all : List A). Ok (all, rest)) (append_assoc before (x ∷ []) xs))

pub test_memoryless : {A : Type 0} (b : Bool) (x y : Result A CodecFault) → (x ≡ Err faults.NoMemory → ⊥) → (y ≡ Err faults.NoMemory → ⊥) → cond b x y ≡ Err faults.NoMemory → ⊥
test_memoryless true x y first second e = first e
test_memoryless false x y first second e = second e

pub items_memoryless : {A : Type 0} (one_at : ℕ → List ℕ → Reading A) (may_follow : List A → A → Bool) → ((input : ℕ) (bytes : List ℕ) → one_at input bytes ≡ Err faults.NoMemory → ⊥)
    → (count input : ℕ) (before : List A) (bytes : List ℕ) → items_at one_at may_follow count input before bytes ≡ Err faults.NoMemory → ⊥
unfolding items_at
items_memoryless one_at may_follow one zero input before bytes e = absurd cc
items_memoryless one_at may_follow one (suc count) input before bytes e =
    bind_memoryless (one_at input bytes) (λ x. cond (may_follow before x.0) (items_at one_at may_follow count input (before ++ x.0 ∷ []) x.1) (Err (faults.NotCanonical (place input bytes)))) (one input bytes)
    (λ x h. test_memoryless (may_follow before x.0) _ _ (λ k. items_memoryless one_at may_follow one count input (before ++ x.0 ∷ []) x.1 k) (λ k. cc) h) e

-- ---- with their number before them

pub record FoundConditions {A : Type 0} (IsSpelled : A → Type 0) (spelling : A → List ℕ) (may_follow : List A → A → Bool) (most : ℕ) (bytes : List ℕ) (items : List A) (rest : List ℕ) : Type 0 where
  pub few : length items ≤ most
  pub spelled : AllByRecursion IsSpelled items
  pub follow : AllFollow may_follow [] items
  pub bytes_are : bytes ≡ list_spelling spelling items ++ rest

counted : {A : Type 0} (IsSpelled : A → Type 0) (spelling : A → List ℕ) (may_follow : List A → A → Bool) (most count : ℕ) (more : List ℕ) (items : List A) (rest : List ℕ) → count ≤ most
    → FoundItems IsSpelled spelling may_follow count [] more items rest → FoundConditions IsSpelled spelling may_follow most (count ∷ more) items rest
counted {A} IsSpelled spelling may_follow most count more items rest le found =
    let same : found.items ≡ items = sym found.all_are in
    subst (λ (all : List A). FoundConditions IsSpelled spelling may_follow most (count ∷ more) all rest) same (record {
      few = rw found.count_is le;
      spelled = found.spelled;
      follow = found.follow;
      bytes_are = ap (λ (k : ℕ). k ∷ more) (sym found.count_is) ∙ ap (λ (b : List ℕ). length found.items ∷ b) found.bytes_are;
    })

pub conditions_found : {A : Type 0} (IsSpelled : A → Type 0) (spelling : A → List ℕ) (one_at : ℕ → List ℕ → Reading A) (may_follow : List A → A → Bool) → IsCodec IsSpelled spelling one_at
    → (most input : ℕ) (bytes : List ℕ) (items : List A) (rest : List ℕ) → AreBytes bytes → conditions_at one_at may_follow most input bytes ≡ Ok (items, rest)
    → FoundConditions IsSpelled spelling may_follow most bytes items rest
unfolding conditions_at count_at
conditions_found IsSpelled spelling one_at may_follow codec most input [] items rest fits e = absurd cc
conditions_found IsSpelled spelling one_at may_follow codec most input (count ∷ more) items rest fits e =
    let a = bind_ok (cond (ltb most count) (Err (faults.NotCanonical (place input (count ∷ more)))) (Ok (count, more))) (λ n. items_at one_at may_follow n.0 input [] n.1) (items, rest) e in
    by_test (ltb most count) _ _ _ a.1 (λ _ fault. absurd cc) (λ few is.
    let pair = ok_is (count, more) a.0 is in
    let read : items_at one_at may_follow count input [] more ≡ Ok (items, rest) = subst (λ (n : ℕ × List ℕ). items_at one_at may_follow n.0 input [] n.1 ≡ Ok (items, rest)) (sym pair) a.2 in
    counted IsSpelled spelling may_follow most count more items rest (ltb-false _ _ few) (items_found IsSpelled spelling one_at may_follow codec count input [] more items rest (AreBytes-rest count more fits) read))

pub conditions_again : {A : Type 0} (IsSpelled : A → Type 0) (spelling : A → List ℕ) (one_at : ℕ → List ℕ → Reading A) (may_follow : List A → A → Bool) → IsCodec IsSpelled spelling one_at
    → (most input : ℕ) (items : List A) (rest : List ℕ) → length items ≤ most → AllByRecursion IsSpelled items → AllFollow may_follow [] items
    → conditions_at one_at may_follow most input (list_spelling spelling items ++ rest) ≡ Ok (items, rest)
unfolding conditions_at count_at
conditions_again IsSpelled spelling one_at may_follow codec most input items rest few spelled follow =
    rw (le-ltb _ _ few) (items_again IsSpelled spelling one_at may_follow codec input [] items rest spelled follow)

count_memoryless : (most input : ℕ) (bytes : List ℕ) → count_at most input bytes ≡ Err faults.NoMemory → ⊥
unfolding count_at
count_memoryless most input [] e = cc
count_memoryless most input (count ∷ more) e = test_memoryless (ltb most count) _ _ (λ h. cc) (λ h. cc) e

pub conditions_memoryless : {A : Type 0} (one_at : ℕ → List ℕ → Reading A) (may_follow : List A → A → Bool) → ((input : ℕ) (bytes : List ℕ) → one_at input bytes ≡ Err faults.NoMemory → ⊥)
    → (most input : ℕ) (bytes : List ℕ) → conditions_at one_at may_follow most input bytes ≡ Err faults.NoMemory → ⊥
unfolding conditions_at
conditions_memoryless one_at may_follow one most input bytes e =
    bind_memoryless (count_at most input bytes) (λ n. items_at one_at may_follow n.0 input [] n.1) (count_memoryless most input bytes) (λ n h. items_memoryless one_at may_follow one n.0 input [] n.1 h) e
