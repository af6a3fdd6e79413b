-- What one reading after another gives.
use Rattle.std.proofs.Common.{◌≡◌, ℕ, suc, Bool, true, false, cond, List, [], ◌∷◌, ◌++◌, Option, Some, None, refl, ap}
use Rattle.std.specs.Prelude.{option_map}
use Rattle.nine_messages.specs.Fields.{◌>>=◌, Reading, ended}
use Rattle.nine_messages.specs.Codec.{AreBytes}

-- the value of a step that gave one
pub bind_some : {A B : Type 0} (r : Option A) (f : A → Option B) (y : B) → (r >>= f) ≡ Some y → (x : A) × (r ≡ Some x) × (f x ≡ Some y)
bind_some (Some x) f y e = (x, refl, e)
bind_some None f y e = absurd cc

-- the two ways of a test
pub by_test : {A P : Type 0} (b : Bool) (x y z : A) → cond b x y ≡ z → (b ≡ true → x ≡ z → P) → (b ≡ false → y ≡ z → P) → P
by_test true x y z e when_true when_false = when_true refl e
by_test false x y z e when_true when_false = when_false refl e

pub some_is : {A : Type 0} (x y : A) → ◌≡◌ {A = Option A} (Some x) (Some y) → x ≡ y
some_is x y e = cc

-- the parts of a value and what is after it
pub some_parts : {A : Type 0} (x y : A) (rest others : List ℕ) → ◌≡◌ {A = Reading A} (Some (x, rest)) (Some (y, others)) → (x ≡ y) × (rest ≡ others)
some_parts {A} x y rest others e =
    let pair = some_is (x, rest) (y, others) e in
    (ap (λ (p : A × List ℕ). p.0) pair, ap (λ (p : A × List ℕ). p.1) pair)

-- nothing is left after what fills the bytes
pub ended_some : {A : Type 0} (x y : A) (rest : List ℕ) → ended x rest ≡ Some y → (x ≡ y) × (rest ≡ [])
ended_some x y [] e = (some_is x y e, refl)
ended_some x y (byte ∷ rest) e = absurd cc

pub ended_made : {A B : Type 0} (f : A → B) (x : A) (rest : List ℕ) → ended (f x) rest ≡ option_map f (ended x rest)
ended_made f x [] = refl
ended_made f x (byte ∷ rest) = refl

pub AreBytes-rest : (byte : ℕ) (bytes : List ℕ) → AreBytes (byte ∷ bytes) → AreBytes bytes
AreBytes-rest byte bytes h i = h (suc i)

-- bytes after others
pub AreBytes-after : (front rest : List ℕ) → AreBytes (front ++ rest) → AreBytes rest
AreBytes-after [] rest h = h
AreBytes-after (byte ∷ front) rest h = AreBytes-after front rest (AreBytes-rest byte (front ++ rest) h)
