-- A field that is read is the field that was spelled, and what was spelled is read again.
use Rattle.std.proofs.Common.{◌≡◌, ℕ, ◌^◌, ◌<◌, ◌≤◌, ℤ, pos, Bool, true, false, cond, ltb, eqb, List, [], ◌∷◌, ◌++◌, length, take, drop, Option, Some, None, Result, Ok, Err, refl, sym, ap, subst, ◌∙◌, arith, inl, inr}
use Rattle.std.specs.Prelude.{T, IsTrue, int_le, negsuc, FitsSigned}
use Rattle.std.specs.Int.{Width, w16, w32, w64, byte_len, from_be_bytes, to_be_bytes, cast_signed, cast_unsigned}
use Rattle.std.proofs.lemmas.Bool.{cases_lt, ltb-false, le-ltb, eqb-true, and_parts, and_from, false≢true}
use Rattle.std.proofs.lemmas.List.{take_at, drop_at, take-append-drop, length-append, length-take, get_or-take, get_or_past}
use Rattle.std.proofs.lemmas.Nat.{be_bytes_2, be_bytes_4, be_bytes_8, from_be_bytes-to_be_bytes_2, from_be_bytes-to_be_bytes_4, from_be_bytes-to_be_bytes_8}
use Rattle.std.proofs.lemmas.Int.{ints, to_z-of_z, of_z-to_z}
use Rattle.bl_syntax.specs.declared.codec_fault.CodecFault.{CodecFault}
use Rattle.bl_syntax.specs.declared.codec_fault.CodecFault.TheVariants.{Short, NotCanonical, BadTag}
use Rattle.bl_syntax.specs.declared.codec_fault.CodecFault.TheVariants as faults
use Rattle.bl_syntax.specs.declared.terms.Sort.{Sort}
use Rattle.bl_syntax.specs.declared.terms.Sort.TheVariants as sorts
use Rattle.bl_syntax.specs.declared.terms.Perm.{Perm as Permission}
use Rattle.bl_syntax.specs.declared.terms.Perm.TheVariants as permissions
use Rattle.bl_syntax.specs.declared.terms.TimePoint.{TimePoint}
use Rattle.bl_syntax.specs.declared.terms.TimePoint.TheVariants.{NegInf, At, PosInf}
use Rattle.bl_syntax.specs.TimeOrder.{IsMoment, IsInRange}
use Rattle.bl_syntax.specs.Spelling.{with_length, permission_code, sort_code, time_spelling}
use Rattle.bl_syntax.specs.Reading.{place, number_at, with_length_at, word_at, is_moment, moment_at, time_at, permission_of, sort_of, look_up, coded_at}
use Rattle.bl_syntax.specs.Codec.{AreBytes}
use Rattle.bl_syntax.proofs.CodecLemmas.{bind_ok, by_test, ok_is, bind_memoryless, AreBytes-rest}

AreBytes-take : (n : ℕ) (bytes : List ℕ) → AreBytes bytes → AreBytes (take n bytes)
AreBytes-take n bytes h i =
    elim (cases_lt i n) [
      | inl lt ↦ rw (get_or-take n bytes i 0 lt) (h i)
      | inr le ↦ rw (get_or_past (take n bytes) i 0 (omega (arith, length-take n bytes))) (omega arith)
    ]

-- ---- numbers

-- what is known of the numbers of a width
pub record IsWide (w : Width) (limit : ℕ) : Type 0 where
  pub len : (n : ℕ) → length (to_be_bytes w n) ≡ byte_len w
  pub back : (bytes : List ℕ) → length bytes ≡ byte_len w → AreBytes bytes → to_be_bytes w (from_be_bytes w bytes) ≡ bytes
  pub again : (n : ℕ) → n < limit → from_be_bytes w (to_be_bytes w n) ≡ n
  pub below : (bytes : List ℕ) → AreBytes bytes → from_be_bytes w bytes < limit

pub wide16 : IsWide w16 (2 ^ 16)
wide16 = record {
  len = λ n. refl;
  back = λ bytes len fits. be_bytes_2 bytes _ len fits refl;
  again = λ n lt. from_be_bytes-to_be_bytes_2 n lt;
  below = λ bytes fits. omega (arith, fits 0, fits 1);
}

pub wide32 : IsWide w32 (2 ^ 32)
wide32 = record {
  len = λ n. refl;
  back = λ bytes len fits. be_bytes_4 bytes _ len fits refl;
  again = λ n lt. from_be_bytes-to_be_bytes_4 n lt;
  below = λ bytes fits. omega (arith, fits 0, fits 1, fits 2, fits 3);
}

pub wide64 : IsWide w64 (2 ^ 64)
wide64 = record {
  len = λ n. refl;
  back = λ bytes len fits. be_bytes_8 bytes _ len fits refl;
  again = λ n lt. from_be_bytes-to_be_bytes_8 n lt;
  below = λ bytes fits. omega (arith, fits 0, fits 1, fits 2, fits 3, fits 4, fits 5, fits 6, fits 7);
}

pub number_found : (w : Width) (limit : ℕ) (wide : IsWide w limit) (bytes : List ℕ) (n : ℕ) (rest : List ℕ) → AreBytes bytes → number_at w bytes ≡ Ok (n, rest) → (n < limit) × (bytes ≡ to_be_bytes w n ++ rest)
number_found w limit wide bytes n rest fits e =
    by_test (ltb (length bytes) (byte_len w)) (Err Short) (Ok (from_be_bytes w (take (byte_len w) bytes), drop (byte_len w) bytes)) (Ok (n, rest)) e (λ short fault. absurd cc) (λ long found.
    let pair = ok_is (from_be_bytes w (take (byte_len w) bytes), drop (byte_len w) bytes) (n, rest) found in
    let n-is : from_be_bytes w (take (byte_len w) bytes) ≡ n = ap (λ (p : ℕ × List ℕ). p.0) pair in
    let rest-is : drop (byte_len w) bytes ≡ rest = ap (λ (p : ℕ × List ℕ). p.1) pair in
    let enough : byte_len w ≤ length bytes = ltb-false _ _ long in
    let front : to_be_bytes w n ≡ take (byte_len w) bytes = rw (← n-is) (wide.back (take (byte_len w) bytes) (omega (arith, length-take (byte_len w) bytes)) (AreBytes-take (byte_len w) bytes fits)) in
    (rw (← n-is) (wide.below (take (byte_len w) bytes) (AreBytes-take (byte_len w) bytes fits)), rw (front, ← rest-is) (sym (take-append-drop (byte_len w) bytes))))

pub number_again : (w : Width) (limit : ℕ) (wide : IsWide w limit) (n : ℕ) (rest : List ℕ) → n < limit → number_at w (to_be_bytes w n ++ rest) ≡ Ok (n, rest)
number_again w limit wide n rest lt =
    let len = wide.len n in
    let long : ltb (length (to_be_bytes w n ++ rest)) (byte_len w) ≡ false = le-ltb _ _ (omega (arith, length-append (to_be_bytes w n) rest)) in
    rw (long, take_at (to_be_bytes w n) rest (byte_len w) len, drop_at (to_be_bytes w n) rest (byte_len w) len, wide.again n lt) refl

-- a test that fails with a fault of its own
test_memoryless : {A : Type 0} (b : Bool) (x y : Result A CodecFault) → (x ≡ Err faults.NoMemory → ⊥) → (y ≡ Err faults.NoMemory → ⊥) → cond b x y ≡ Err faults.NoMemory → ⊥
test_memoryless true x y first second e = first e
test_memoryless false x y first second e = second e

pub number_memoryless : (w : Width) (bytes : List ℕ) → number_at w bytes ≡ Err faults.NoMemory → ⊥
number_memoryless w bytes e = test_memoryless (ltb (length bytes) (byte_len w)) (Err Short) (Ok (from_be_bytes w (take (byte_len w) bytes), drop (byte_len w) bytes)) (λ h. cc) (λ h. cc) e

-- ---- words

counted_found : (least most input : ℕ) (bytes word rest : List ℕ) → with_length_at least most input bytes ≡ Ok (word, rest) → bytes ≡ with_length word ++ rest
unfolding with_length_at
counted_found least most input [] word rest e = absurd cc
counted_found least most input (len ∷ more) word rest e =
    by_test (ltb len least) _ _ _ e (λ _ fault. absurd cc) (λ _ e1.
    by_test (ltb most len) _ _ _ e1 (λ _ fault. absurd cc) (λ _ e2.
    by_test (ltb (length more) len) _ _ _ e2 (λ _ fault. absurd cc) (λ long found.
    let pair = ok_is (take len more, drop len more) (word, rest) found in
    let word-is : take len more ≡ word = ap (λ (p : List ℕ × List ℕ). p.0) pair in
    let rest-is : drop len more ≡ rest = ap (λ (p : List ℕ × List ℕ). p.1) pair in
    let enough : len ≤ length more = ltb-false _ _ long in
    let count : length (take len more) ≡ len = omega (arith, length-take len more) in
    rw (← word-is, ← rest-is, count, take-append-drop len more) refl)))

counted_again : (least most input : ℕ) (word rest : List ℕ) → least ≤ length word → length word ≤ most → with_length_at least most input (with_length word ++ rest) ≡ Ok (word, rest)
unfolding with_length_at
counted_again least most input word rest low high =
    let not_less : ltb (length word) least ≡ false = le-ltb _ _ low in
    let not_more : ltb most (length word) ≡ false = le-ltb _ _ high in
    let enough : ltb (length (word ++ rest)) (length word) ≡ false = le-ltb _ _ (omega (arith, length-append word rest)) in
    rw (not_less, not_more, enough, take_at word rest (length word) refl, drop_at word rest (length word) refl) refl

counted_memoryless : (least most input : ℕ) (bytes : List ℕ) → with_length_at least most input bytes ≡ Err faults.NoMemory → ⊥
unfolding with_length_at
counted_memoryless least most input [] e = cc
counted_memoryless least most input (len ∷ more) e =
    test_memoryless (ltb len least) _ _ (λ h. cc) (λ e1. test_memoryless (ltb most len) _ _ (λ h. cc) (λ e2. test_memoryless (ltb (length more) len) _ _ (λ h. cc) (λ h. cc) e2) e1) e

pub word_found : (least most : ℕ) (is_word : List ℕ → Bool) (input : ℕ) (bytes rest word : List ℕ) → AreBytes bytes → word_at least most is_word input bytes ≡ Ok (word, rest) → IsTrue (is_word word) × (bytes ≡ with_length word ++ rest)
unfolding word_at
word_found least most is_word input bytes rest word fits e =
    let a = bind_ok (with_length_at least most input bytes) (λ w. cond (is_word w.0) (Ok w) (Err (NotCanonical (place input bytes)))) (word, rest) e in
    by_test (is_word a.0.0) _ _ _ a.2 (λ is found.
    let pair = ok_is a.0 (word, rest) found in
    subst (λ (p : List ℕ × List ℕ). IsTrue (is_word p.0) × (bytes ≡ with_length p.0 ++ p.1)) pair (is, counted_found least most input bytes a.0.0 a.0.1 a.1)) (λ _ fault. absurd cc)

pub word_again : (least most : ℕ) (is_word : List ℕ → Bool) (input : ℕ) (word rest : List ℕ) → least ≤ length word → length word ≤ most → IsTrue (is_word word) → word_at least most is_word input (with_length word ++ rest) ≡ Ok (word, rest)
unfolding word_at
word_again least most is_word input word rest low high h = rw (counted_again least most input word rest low high, h) refl

pub word_memoryless : (least most : ℕ) (is_word : List ℕ → Bool) (input : ℕ) (bytes : List ℕ) → word_at least most is_word input bytes ≡ Err faults.NoMemory → ⊥
unfolding word_at
word_memoryless least most is_word input bytes e =
    bind_memoryless (with_length_at least most input bytes) (λ w. cond (is_word w.0) (Ok w) (Err (NotCanonical (place input bytes)))) (counted_memoryless least most input bytes)
    (λ w h. test_memoryless (is_word w.0) _ _ (λ k. cc) (λ k. cc) h) e

-- ---- points in time

T-from_true : (b : Bool) → b ≡ true → T b
T-from_true true e = tt
T-from_true false e = absurd (false≢true e)

true-from_T : (b : Bool) → T b → b ≡ true
true-from_T true t = refl
true-from_T false t = absurd t

moment_is : (second : ℤ) → is_moment second ≡ true → IsMoment second
moment_is second h =
    let parts = and_parts (int_le (negsuc 62135596799) second) (int_le second (pos 253402300799)) h in
    record { not_before = record { le = T-from_true _ parts.0 }; not_after = record { le = T-from_true _ parts.1 } }

is_moment-from : (second : ℤ) → IsMoment second → is_moment second ≡ true
is_moment-from second h = and_from (int_le (negsuc 62135596799) second) (int_le second (pos 253402300799)) (true-from_T _ h.not_before.le) (true-from_T _ h.not_after.le)

moment_found : (start : ℕ) (bytes rest : List ℕ) (t : TimePoint) → AreBytes bytes → moment_at start bytes ≡ Ok (t, rest) → IsInRange t × (1 ∷ bytes ≡ time_spelling t ++ rest)
unfolding moment_at time_spelling
moment_found start bytes rest t fits e =
    let a = bind_ok (number_at w64 bytes) (λ n. cond (is_moment (cast_signed w64 n.0)) (Ok (At (cast_signed w64 n.0), n.1)) (Err (NotCanonical start))) (t, rest) e in
    let number = number_found w64 (2 ^ 64) wide64 bytes a.0.0 a.0.1 fits a.1 in
    by_test (is_moment (cast_signed w64 a.0.0)) _ _ _ a.2 (λ is found.
    let pair = ok_is (At (cast_signed w64 a.0.0), a.0.1) (t, rest) found in
    let back : cast_unsigned w64 (cast_signed w64 a.0.0) ≡ a.0.0 = of_z-to_z w64 a.0.0 number.0 in
    let spelled : 1 ∷ bytes ≡ time_spelling (At (cast_signed w64 a.0.0)) ++ a.0.1 = rw back (ap (λ (b : List ℕ). 1 ∷ b) number.1) in
    subst (λ (p : TimePoint × List ℕ). IsInRange p.0 × (1 ∷ bytes ≡ time_spelling p.0 ++ p.1)) pair (moment_is (cast_signed w64 a.0.0) is, spelled)) (λ _ fault. absurd cc)

pub time_found : (input : ℕ) (bytes rest : List ℕ) (t : TimePoint) → AreBytes bytes → time_at input bytes ≡ Ok (t, rest) → IsInRange t × (bytes ≡ time_spelling t ++ rest)
unfolding time_at time_spelling
time_found input [] rest t fits e = absurd cc
time_found input (kind ∷ more) rest t fits e =
    by_test (eqb kind 0) _ _ _ e (λ is found. subst (λ (p : TimePoint × List ℕ). IsInRange p.0 × (kind ∷ more ≡ time_spelling p.0 ++ p.1)) (ok_is (NegInf, more) (t, rest) found) (tt, ap (λ (k : ℕ). k ∷ more) (eqb-true kind 0 is))) (λ _ e1.
    by_test (eqb kind 1) _ _ _ e1 (λ is found. let it = moment_found (place input (kind ∷ more)) more rest t (AreBytes-rest kind more fits) found in (it.0, ap (λ (k : ℕ). k ∷ more) (eqb-true kind 1 is) ∙ it.1)) (λ _ e2.
    by_test (eqb kind 2) _ _ _ e2 (λ is found. subst (λ (p : TimePoint × List ℕ). IsInRange p.0 × (kind ∷ more ≡ time_spelling p.0 ++ p.1)) (ok_is (PosInf, more) (t, rest) found) (tt, ap (λ (k : ℕ). k ∷ more) (eqb-true kind 2 is))) (λ _ fault. absurd cc)))

moment_fits : (second : ℤ) → IsMoment second → FitsSigned w64 second
moment_fits second h = omega (arith, ints)

pub time_again : (input : ℕ) (t : TimePoint) (rest : List ℕ) → IsInRange t → time_at input (time_spelling t ++ rest) ≡ Ok (t, rest)
unfolding time_at time_spelling moment_at
time_again input NegInf rest h = refl
time_again input (At second) rest h =
    let back : cast_signed w64 (cast_unsigned w64 second) ≡ second = to_z-of_z w64 second (moment_fits second h) in
    let low : cast_unsigned w64 second < 2 ^ 64 = omega (arith, ints) in
    rw (number_again w64 (2 ^ 64) wide64 (cast_unsigned w64 second) rest low, back, is_moment-from second h) refl
time_again input PosInf rest h = refl

moment_memoryless : (start : ℕ) (bytes : List ℕ) → moment_at start bytes ≡ Err faults.NoMemory → ⊥
unfolding moment_at
moment_memoryless start bytes e =
    bind_memoryless (number_at w64 bytes) (λ n. cond (is_moment (cast_signed w64 n.0)) (Ok (At (cast_signed w64 n.0), n.1)) (Err (NotCanonical start))) (number_memoryless w64 bytes)
    (λ n h. test_memoryless (is_moment (cast_signed w64 n.0)) _ _ (λ k. cc) (λ k. cc) h) e

pub time_memoryless : (input : ℕ) (bytes : List ℕ) → time_at input bytes ≡ Err faults.NoMemory → ⊥
unfolding time_at
time_memoryless input [] e = cc
time_memoryless input (kind ∷ more) e =
    test_memoryless (eqb kind 0) _ _ (λ h. cc) (λ e1. test_memoryless (eqb kind 1) _ _ (λ h. moment_memoryless (place input (kind ∷ more)) more h) (λ e2. test_memoryless (eqb kind 2) _ _ (λ h. cc) (λ h. cc) e2) e1) e

-- ---- bytes with a table

looked_found : {A : Type 0} (o : Option A) (more rest : List ℕ) (fault : CodecFault) (x : A) → look_up o more fault ≡ Ok (x, rest) → (o ≡ Some x) × (more ≡ rest)
looked_found None more rest fault x e = absurd cc
looked_found {A} (Some y) more rest fault x e =
    let pair = ok_is (y, more) (x, rest) e in
    (ap (λ (p : A × List ℕ). Some p.0) pair, ap (λ (p : A × List ℕ). p.1) pair)

pub coded_found : {A : Type 0} (table : ℕ → Option A) (code : A → ℕ) → ((n : ℕ) (x : A) → table n ≡ Some x → n ≡ code x)
    → (input : ℕ) (bytes rest : List ℕ) (x : A) → coded_at table input bytes ≡ Ok (x, rest) → bytes ≡ code x ∷ rest
unfolding coded_at
coded_found table code back input [] rest x e = absurd cc
coded_found table code back input (n ∷ more) rest x e =
    let it = looked_found (table n) more rest (BadTag (place input (n ∷ more))) x e in
    let same = back n x it.0 in
    rw (← same, ← it.1) refl

pub coded_again : {A : Type 0} (table : ℕ → Option A) (code : A → ℕ) → ((x : A) → table (code x) ≡ Some x) → (input : ℕ) (x : A) (rest : List ℕ) → coded_at table input (code x ∷ rest) ≡ Ok (x, rest)
unfolding coded_at
coded_again table code again input x rest = rw (again x) refl

looked_memoryless : {A : Type 0} (o : Option A) (more : List ℕ) (place : ℕ) → look_up o more (BadTag place) ≡ Err faults.NoMemory → ⊥
looked_memoryless None more place e = cc
looked_memoryless (Some y) more place e = cc

pub coded_memoryless : {A : Type 0} (table : ℕ → Option A) (input : ℕ) (bytes : List ℕ) → coded_at table input bytes ≡ Err faults.NoMemory → ⊥
unfolding coded_at
coded_memoryless table input [] e = cc
coded_memoryless table input (n ∷ more) e = looked_memoryless (table n) more (place input (n ∷ more)) e

option_is : {A : Type 0} (x y : A) → ◌≡◌ {A = Option A} (Some x) (Some y) → x ≡ y
option_is x y e = cc

pub permission_back : (n : ℕ) (x : Permission) → permission_of n ≡ Some x → n ≡ permission_code x
permission_back n x e =
    by_test (eqb n 1) _ _ _ e (λ is h. eqb-true n 1 is ∙ ap permission_code (option_is permissions.Read x h)) (λ _ e1.
    by_test (eqb n 2) _ _ _ e1 (λ is h. eqb-true n 2 is ∙ ap permission_code (option_is permissions.Write x h)) (λ _ e2.
    by_test (eqb n 3) _ _ _ e2 (λ is h. eqb-true n 3 is ∙ ap permission_code (option_is permissions.Execute x h)) (λ _ e3.
    by_test (eqb n 4) _ _ _ e3 (λ is h. eqb-true n 4 is ∙ ap permission_code (option_is permissions.Identity x h)) (λ _ e4.
    by_test (eqb n 5) _ _ _ e4 (λ is h. eqb-true n 5 is ∙ ap permission_code (option_is permissions.Govern x h)) (λ _ none. absurd cc)))))

pub permission_again : (x : Permission) → permission_of (permission_code x) ≡ Some x
permission_again permissions.Read = refl
permission_again permissions.Write = refl
permission_again permissions.Execute = refl
permission_again permissions.Identity = refl
permission_again permissions.Govern = refl

pub sort_back : (n : ℕ) (x : Sort) → sort_of n ≡ Some x → n ≡ sort_code x
sort_back n x e =
    by_test (eqb n 1) _ _ _ e (λ is h. eqb-true n 1 is ∙ ap sort_code (option_is sorts.Principal x h)) (λ _ e1.
    by_test (eqb n 2) _ _ _ e1 (λ is h. eqb-true n 2 is ∙ ap sort_code (option_is sorts.File x h)) (λ _ e2.
    by_test (eqb n 3) _ _ _ e2 (λ is h. eqb-true n 3 is ∙ ap sort_code (option_is sorts.Perm x h)) (λ _ e3.
    by_test (eqb n 4) _ _ _ e3 (λ is h. eqb-true n 4 is ∙ ap sort_code (option_is sorts.Time x h)) (λ _ e4.
    by_test (eqb n 5) _ _ _ e4 (λ is h. eqb-true n 5 is ∙ ap sort_code (option_is sorts.Text x h)) (λ _ none. absurd cc)))))

pub sort_again : (x : Sort) → sort_of (sort_code x) ≡ Some x
sort_again sorts.Principal = refl
sort_again sorts.File = refl
sort_again sorts.Perm = refl
sort_again sorts.Time = refl
sort_again sorts.Text = refl
