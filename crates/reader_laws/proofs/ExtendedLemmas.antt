-- What a reading of more bytes gives, if one of the first of them gave something already.
use Rattle.std.proofs.Common.{◌≡◌, ℕ, ◌≤◌, List, ◌++◌, length, take, drop, Bool, true, false, cond, Result, Ok, Err, refl, sym, ap, subst, ◌∙◌, arith}
use Rattle.std.specs.Prelude.{IsErr, nat_lt}
use Rattle.std.proofs.lemmas.Bool.{false≢true, ltb-false, le-ltb}
use Rattle.std.proofs.lemmas.List.{length-append, take-append-le, drop-append-le}
use Rattle.bl_syntax.specs.declared.codec_fault.CodecFault.{CodecFault}
use Rattle.bl_syntax.specs.declared.codec_fault.CodecFault.TheVariants.{Short}
use Rattle.bl_syntax.specs.Reading.{◌>>=◌, Reading, map_reading}

-- Of more bytes the same is read, with what is longer by them left over, or there is some fault, if there was one other
-- than Short.
pub record Extended {X F : Type 0} (short : F) (longer : X → X) (r s : Result X F) : Type 0 where
  pub ok : (x : X) → r ≡ Ok x → s ≡ Ok (longer x)
  pub err : (fault : F) → r ≡ Err fault → (fault ≡ short → ⊥) → IsErr s

-- more bytes after those that are left over
abbrev pub behind : {A : Type 0} → List ℕ → A × List ℕ → A × List ℕ
behind more x = (x.0, x.1 ++ more)

-- one reading, and one of the same bytes and more after them
abbrev pub ReadsOn : {A : Type 0} → (List ℕ → Reading A) → (List ℕ → Reading A) → Type 0
ReadsOn first second = (bytes more : List ℕ) → Extended Short (behind more) (first bytes) (second (bytes ++ more))

-- a reading is steady if it makes no difference to it how long the whole input is, but for places
abbrev pub IsSteady : {A : Type 0} → (ℕ → List ℕ → Reading A) → Type 0
IsSteady at = (input onward : ℕ) → ReadsOn (at input) (at onward)

pub ok_is : {X F : Type 0} (x y : X) → (let done : X → Result X F = λ z. Ok z in done x ≡ done y) → x ≡ y
ok_is x y e = cc

err_is : {X F : Type 0} (d e : F) → (let failed : F → Result X F = λ fault. Err fault in failed d ≡ failed e) → d ≡ e
err_is d e is = cc

pub done : {X F : Type 0} (short : F) (longer : X → X) (x : X) → Extended short longer (Ok x) (Ok (longer x))
done {X} {F} short longer x = record {
  ok = λ y e. let failed : X → Result X F = λ z. Ok (longer z) in ap failed (ok_is x y e);
  err = λ fault e other. absurd cc;
}

pub cut : {X F : Type 0} (short : F) (longer : X → X) (s : Result X F) → Extended short longer (Err short) s
cut short longer s = record { ok = λ x e. absurd cc; err = λ fault e other. absurd (other (sym (err_is short fault e))) }

pub faults : {X F : Type 0} (short : F) (longer : X → X) (d e : F) → Extended short longer (Err d) (Err e)
faults short longer d e = record { ok = λ x is. absurd cc; err = λ fault is other. refl }

-- the two ways of a test
pub either_way : {X F : Type 0} (short : F) (longer : X → X) (b : Bool) (r s p q : Result X F) → Extended short longer r s → Extended short longer p q →
    Extended short longer (cond b r p) (cond b s q)
either_way short longer true r s p q first second = first
either_way short longer false r s p q first second = second

fails_on : {X Y : Type 0} (s : Result X CodecFault) (g : X → Result Y CodecFault) → IsErr s → IsErr (s >>= g)
fails_on (Ok x) g fails = absurd (false≢true fails)
fails_on (Err d) g fails = refl

-- one reading, and then another
pub one_then : {X Y : Type 0} (longer : X → X) (further : Y → Y) (r s : Result X CodecFault) (f g : X → Result Y CodecFault) →
    Extended Short longer r s → ((x : X) → Extended Short further (f x) (g (longer x))) → Extended Short further (r >>= f) (s >>= g)
one_then {X} {Y} longer further (Ok x) s f g first next =
    subst (λ (t : Result X CodecFault). Extended Short further (f x) (t >>= g)) (sym (first.ok x refl)) (next x)
one_then {X} {Y} longer further (Err d) s f g first next = record {
  ok = λ y e. absurd cc;
  err = λ fault e other. fails_on s g (first.err d refl (λ is. other (sym (err_is d fault e) ∙ is)));
}

-- what is made of what is read
pub made : {A B : Type 0} (f : A → B) (more : List ℕ) (r s : Reading A) → Extended Short (behind more) r s → Extended Short (behind more) (map_reading f r) (map_reading f s)
made {A} {B} f more r s first =
    one_then (behind more) (behind more) r s (λ x. Ok (f x.0, x.1)) (λ x. Ok (f x.0, x.1)) first (λ x. done Short (behind more) (f x.0, x.1))

by_test : {P : Type 0} (b : Bool) → (b ≡ true → P) → (b ≡ false → P) → P
by_test true when_true when_false = when_true refl
by_test false when_true when_false = when_false refl

-- so many bytes
pub taken : {A : Type 0} (count : ℕ) (f : List ℕ → A) → ReadsOn (λ bytes. cond (nat_lt (length bytes) count) (Err Short) (Ok (f (take count bytes), drop count bytes)))
    (λ bytes. cond (nat_lt (length bytes) count) (Err Short) (Ok (f (take count bytes), drop count bytes)))
taken count f bytes more =
    by_test (nat_lt (length bytes) count)
    (λ few. rw few (cut Short (behind more) _))
    (λ enough. let within : count ≤ length bytes = ltb-false (length bytes) count enough in
    let still : count ≤ length (bytes ++ more) = omega (arith, length-append bytes more) in
    rw (enough, le-ltb (length (bytes ++ more)) count still, take-append-le count bytes more within, drop-append-le count bytes more within)
    (done Short (behind more) (f (take count bytes), drop count bytes)))
