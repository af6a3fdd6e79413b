-- What the spelling and the reading of any kind of value have in common, once what is read is spelled so and what is spelled so is read.
use Rattle.std.proofs.Common.{◌≡◌, ◌-◌, ℕ, suc, List, [], ◌∷◌, ◌++◌, length, drop, Bool, true, false, cond, Result, Ok, Err, refl, sym, ap, subst, ◌∙◌, arith}
use Rattle.std.specs.Prelude.{IsErr, is_err}
use Rattle.std.proofs.lemmas.Bool.{false≢true}
use Rattle.std.proofs.lemmas.List.{drop_at, length-append}
use Rattle.bl_syntax.specs.declared.codec_fault.CodecFault.{CodecFault}
use Rattle.bl_syntax.specs.declared.codec_fault.CodecFault.TheVariants as faults
use Rattle.bl_syntax.specs.Reading.{◌>>=◌, Reading, map_reading, reading}
use Rattle.bl_syntax.specs.Codec.{AreBytes, IsCodec, ReadsFront}

-- the value of a step that did not fail
pub bind_ok : {A B : Type 0} (r : Result A CodecFault) (f : A → Result B CodecFault) (y : B) → (r >>= f) ≡ Ok y → (x : A) × (r ≡ Ok x) × (f x ≡ Ok y)
bind_ok (Ok x) f y e = (x, refl, e)
bind_ok (Err d) f y e = absurd cc

-- the two ways of a test
pub by_test : {A P : Type 0} (b : Bool) (x y z : A) → cond b x y ≡ z → (b ≡ true → x ≡ z → P) → (b ≡ false → y ≡ z → P) → P
by_test true x y z e when_true when_false = when_true refl e
by_test false x y z e when_true when_false = when_false refl e

abbrev done : {A : Type 0} → A → Result A CodecFault
done x = Ok x

pub ok_is : {A : Type 0} (x y : A) → done x ≡ done y → x ≡ y
ok_is x y e = cc

-- a step that fails because memory runs out: the first, or the second
pub bind_memoryless : {A B : Type 0} (r : Result A CodecFault) (f : A → Result B CodecFault) → (r ≡ Err faults.NoMemory → ⊥) → ((x : A) → f x ≡ Err faults.NoMemory → ⊥) → (r >>= f) ≡ Err faults.NoMemory → ⊥
bind_memoryless (Ok x) f first second e = second x e
bind_memoryless (Err d) f first second e = first cc

pub made_memoryless : {A B R : Type 0} (f : A → B) (r : Result (A × R) CodecFault) → (r ≡ Err faults.NoMemory → ⊥) → map_reading f r ≡ Err faults.NoMemory → ⊥
made_memoryless f (Ok x) first e = cc
made_memoryless f (Err d) first e = first cc

-- what is made of something that is read
pub made_ok : {A B R : Type 0} (f : A → B) (r : Result (A × R) CodecFault) (y : B) (rest : R) → map_reading f r ≡ Ok (y, rest) → (x : A) × (r ≡ Ok (x, rest)) × (f x ≡ y)
made_ok {B = B} {R = R} f (Ok x) y rest e =
    let pair = ok_is (f x.0, x.1) (y, rest) e in
    (x.0, ap (λ (end : R). Ok (x.0, end)) (ap (λ (p : B × R). p.1) pair), ap (λ (p : B × R). p.0) pair)
made_ok f (Err d) y rest e = absurd cc

pub AreBytes-rest : (byte : ℕ) (bytes : List ℕ) → AreBytes (byte ∷ bytes) → AreBytes bytes
AreBytes-rest byte bytes h i = h (suc i)

-- bytes after others
pub AreBytes-behind : (front rest : List ℕ) → AreBytes (front ++ rest) → AreBytes rest
AreBytes-behind [] rest h = h
AreBytes-behind (byte ∷ front) rest h = AreBytes-behind front rest (AreBytes-rest byte (front ++ rest) h)

-- a reading that gives nothing gives a fault
must_fail : {A : Type 0} (r : Reading A) → ((x : A) (rest : List ℕ) → r ≡ Ok (x, rest) → ⊥) → IsErr r
must_fail (Ok x) h = absurd (h x.0 x.1 refl)
must_fail (Err d) h = refl

fails_not : {A : Type 0} (r : Reading A) (x : A) (rest : List ℕ) → r ≡ Ok (x, rest) → IsErr r → ⊥
fails_not r x rest e h = false≢true (ap is_err (sym e) ∙ h)

-- the other laws follow
pub codec : {A : Type 0} (IsSpelled : A → Type 0) (spelling : A → List ℕ) (at : ℕ → List ℕ → Reading A)
    → ((input : ℕ) (bytes rest : List ℕ) (x : A) → AreBytes bytes → at input bytes ≡ Ok (x, rest) → IsSpelled x × (bytes ≡ spelling x ++ rest))
    → ((input : ℕ) (x : A) (rest : List ℕ) → IsSpelled x → at input (spelling x ++ rest) ≡ Ok (x, rest))
    → ((input : ℕ) (bytes : List ℕ) → at input bytes ≡ Err faults.NoMemory → ⊥)
    → IsCodec IsSpelled spelling at
codec {A} IsSpelled spelling at found again memoryless = record {
  found = found;
  again = again;
  apart = λ x y rest others first second e.
      let pair = ok_is (x, rest) (y, others) (sym (again 0 x rest first) ∙ ap (at 0) e ∙ again 0 y others second) in
      (ap (λ (p : A × List ℕ). p.0) pair, ap (λ (p : A × List ℕ). p.1) pair);
  refused = λ input bytes fits. (
    λ h x rest spelled e. fails_not (at input bytes) x rest (ap (at input) e ∙ again input x rest spelled) h,
    λ none. must_fail (at input bytes) (λ x rest e. let it = found input bytes rest x fits e in none x rest it.0 it.1),
  );
  memoryless = memoryless;
}

front_found : {A : Type 0} (IsSpelled : A → Type 0) (spelling : A → List ℕ) (bytes : List ℕ) (x : A) (rest : List ℕ) → IsSpelled x × (bytes ≡ spelling x ++ rest)
    → IsSpelled x × (bytes ≡ spelling x ++ drop (length bytes - length rest) bytes) × (length bytes - length rest ≡ length (spelling x))
front_found IsSpelled spelling bytes x rest h =
    let count : length bytes - length rest ≡ length (spelling x) = omega (arith, length-append (spelling x) rest, ap length h.1) in
    let behind : drop (length bytes - length rest) bytes ≡ rest = rw count (ap (drop (length (spelling x))) h.1 ∙ drop_at (spelling x) rest (length (spelling x)) refl) in
    (h.0, h.1 ∙ ap (λ (end : List ℕ). spelling x ++ end) (sym behind), count)

-- a call that found a value
pub front_ok : {X A : Type 0} (view : X → A) (IsSpelled : A → Type 0) (spelling : A → List ℕ) (at : ℕ → List ℕ → Reading A) (bytes rest : List ℕ) (x : X) (count : ℕ)
    → IsCodec IsSpelled spelling at → AreBytes bytes → at (length bytes) bytes ≡ Ok (view x, rest) → count ≡ length bytes - length rest → ReadsFront view IsSpelled spelling bytes (Ok (x, count))
front_ok view IsSpelled spelling at bytes rest x count codec fits e is = record {
  found = rw is (front_found IsSpelled spelling bytes (view x) rest (codec.found (length bytes) bytes rest (view x) fits e));
  refused = tt;
}

-- a call that found none
pub front_err : {X A : Type 0} (view : X → A) (IsSpelled : A → Type 0) (spelling : A → List ℕ) (at : ℕ → List ℕ → Reading A) (bytes : List ℕ) (fault : CodecFault)
    → IsCodec IsSpelled spelling at → AreBytes bytes → at (length bytes) bytes ≡ Err fault → ReadsFront view IsSpelled spelling bytes (Err fault)
front_err view IsSpelled spelling at bytes fault codec fits e = record {
  found = tt;
  refused = λ memory. (codec.refused (length bytes) bytes fits).0 (ap is_err e);
}

by_reading : {A : Type 0} (IsSpelled : A → Type 0) (spelling : A → List ℕ) (at : ℕ → List ℕ → Reading A) (bytes : List ℕ) (result : Result (A × ℕ) CodecFault) (r : Reading A)
    → IsCodec IsSpelled spelling at → AreBytes bytes → at (length bytes) bytes ≡ r → result ≡ (r >>= λ x. Ok (x.0, length bytes - length x.1)) → ReadsFront (λ x. x) IsSpelled spelling bytes result
by_reading {A} IsSpelled spelling at bytes result (Ok x) codec fits e is =
    subst (λ (y : Result (A × ℕ) CodecFault). ReadsFront (λ x. x) IsSpelled spelling bytes y) (sym is) (front_ok (λ x. x) IsSpelled spelling at bytes x.1 x.0 (length bytes - length x.1) codec fits e refl)
by_reading {A} IsSpelled spelling at bytes result (Err fault) codec fits e is =
    subst (λ (y : Result (A × ℕ) CodecFault). ReadsFront (λ x. x) IsSpelled spelling bytes y) (sym is) (front_err (λ x. x) IsSpelled spelling at bytes fault codec fits e)

-- a call that tells what the reading gives
pub front_exact : {A : Type 0} (IsSpelled : A → Type 0) (spelling : A → List ℕ) (at : ℕ → List ℕ → Reading A) (bytes : List ℕ) (result : Result (A × ℕ) CodecFault)
    → IsCodec IsSpelled spelling at → AreBytes bytes → result ≡ reading at bytes → ReadsFront (λ x. x) IsSpelled spelling bytes result
front_exact IsSpelled spelling at bytes result codec fits is = by_reading IsSpelled spelling at bytes result (at (length bytes) bytes) codec fits refl is

pub not_memory : {A : Type 0} (IsSpelled : A → Type 0) (spelling : A → List ℕ) (at : ℕ → List ℕ → Reading A) (bytes : List ℕ) (fault : CodecFault)
    → IsCodec IsSpelled spelling at → at (length bytes) bytes ≡ Err fault → fault ≡ faults.NoMemory → ⊥
not_memory IsSpelled spelling at bytes fault codec e is = codec.memoryless (length bytes) bytes (e ∙ ap (λ (f : CodecFault). Err f) is)
