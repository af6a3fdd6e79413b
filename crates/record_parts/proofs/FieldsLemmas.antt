-- The fields of records: what is read is spelled so, and what is spelled so is read.
use Rattle.std.proofs.Common.{◌≡◌, ℕ, ℤ, ◌^◌, ◌<◌, ◌≤◌, true, false, cond, ltb, List, [], ◌∷◌, ◌++◌, length, take, drop, Ok, Err, refl, sym, ap, subst, ◌∙◌, append_assoc, arith}
use Rattle.std.specs.Int.{w32, w64, to_be_bytes, cast_signed}
use Rattle.std.proofs.lemmas.Bool.{ltb-false, le-ltb}
use Rattle.std.proofs.lemmas.List.{take_at, drop_at, take-append-drop, length-append, length-take}
use Rattle.bl_syntax.specs.declared.codec_fault.CodecFault.TheVariants.{Short, NotCanonical}
use Rattle.bl_syntax.specs.declared.codec_fault.CodecFault.TheVariants as faults
use Rattle.bl_syntax.specs.declared.terms.TimePoint.{TimePoint}
use Rattle.bl_syntax.specs.declared.terms.TimePoint.TheVariants.{At}
use Rattle.bl_syntax.specs.TimeOrder.{IsMoment}
use Rattle.bl_syntax.specs.Spelling.{with_length, time_spelling}
use Rattle.bl_syntax.specs.Reading.{place, number_at, is_moment, moment_at, time_at}
use Rattle.bl_syntax.specs.Codec.{AreBytes, IsCodec}
use Rattle.bl_syntax.proofs.CodecLemmas.{bind_ok, by_test, ok_is, bind_memoryless, codec}
use Rattle.bl_syntax.proofs.FieldLemmas.{wide32, wide64, number_found, number_again, number_memoryless, time_found, time_again}
use Rattle.procap.proofs.ItemsLemmas.{test_memoryless}
use Rattle.record_parts.specs.Fields.{u32_at, u64_at, number_spelling, IsSpellableNumber, node, node_spelling, node_at, IsSpellableNode, free_name_at, FitsOneByte, sized_bytes_spelling, sized_bytes_at, FitsFourBytes, moment_spelling, moment_field_at}
use Rattle.record_parts.proofs.CodecLemmas.{done, made_codec, AreBytes-more}

-- ---- numbers and nodes

pub u32_codec : IsCodec (λ (n : ℕ). n < 2 ^ 32) (to_be_bytes w32) (λ input. u32_at)
u32_codec = codec (λ n. n < 2 ^ 32) (to_be_bytes w32) (λ input. u32_at)
    (λ input bytes rest n fits e. number_found w32 (2 ^ 32) wide32 bytes n rest fits e) (λ input n rest low. number_again w32 (2 ^ 32) wide32 n rest low) (λ input bytes e. number_memoryless w32 bytes e)

pub u64_codec : IsCodec IsSpellableNumber number_spelling (λ input. u64_at)
unfolding number_spelling
u64_codec = codec IsSpellableNumber number_spelling (λ input. u64_at)
    (λ input bytes rest n fits e. number_found w64 (2 ^ 64) wide64 bytes n rest fits e) (λ input n rest low. number_again w64 (2 ^ 64) wide64 n rest low) (λ input bytes e. number_memoryless w64 bytes e)

pub node_codec : IsCodec IsSpellableNode node_spelling (λ input. node_at)
node_codec = made_codec IsSpellableNumber number_spelling (λ input. u64_at) IsSpellableNode node_spelling node (λ file. file.0) u64_codec (λ n h. h) (λ file h. h) (λ n. refl) (λ file. refl)

-- ---- names in no grammar

free_name_found : (bytes rest name : List ℕ) → AreBytes bytes → free_name_at bytes ≡ Ok (name, rest) → FitsOneByte name × (bytes ≡ with_length name ++ rest)
unfolding free_name_at
free_name_found [] rest name fits e = absurd cc
free_name_found (len ∷ more) rest name fits e =
    by_test (ltb (length more) len) _ _ _ e (λ _ fault. absurd cc) (λ long found.
    let enough : len ≤ length more = ltb-false _ _ long in
    let count : length (take len more) ≡ len = omega (arith, length-take len more) in
    let low : len < 256 = fits 0 in
    let few : length (take len more) ≤ 255 = omega (arith, count, low) in
    let whole : len ∷ more ≡ with_length (take len more) ++ drop len more = ap (λ (k : ℕ). k ∷ more) (sym count) ∙ ap (λ (b : List ℕ). length (take len more) ∷ b) (sym (take-append-drop len more)) in
    subst (λ (p : List ℕ × List ℕ). FitsOneByte p.0 × (len ∷ more ≡ with_length p.0 ++ p.1)) (ok_is (take len more, drop len more) (name, rest) found) (few, whole))

free_name_again : (name rest : List ℕ) → FitsOneByte name → free_name_at (with_length name ++ rest) ≡ Ok (name, rest)
unfolding free_name_at
free_name_again name rest few =
    let enough : ltb (length (name ++ rest)) (length name) ≡ false = le-ltb _ _ (omega (arith, length-append name rest)) in
    rw (enough, take_at name rest (length name) refl, drop_at name rest (length name) refl) refl

free_name_memoryless : (bytes : List ℕ) → free_name_at bytes ≡ Err faults.NoMemory → ⊥
unfolding free_name_at
free_name_memoryless [] e = cc
free_name_memoryless (len ∷ more) e = test_memoryless (ltb (length more) len) _ _ (λ h. cc) (λ h. cc) e

pub free_name_codec : IsCodec FitsOneByte with_length (λ input. free_name_at)
free_name_codec = codec FitsOneByte with_length (λ input. free_name_at) (λ input. free_name_found) (λ input. free_name_again) (λ input. free_name_memoryless)

-- ---- plain bytes

sized_bytes_found : (bytes rest plain : List ℕ) → AreBytes bytes → sized_bytes_at bytes ≡ Ok (plain, rest) → FitsFourBytes plain × (bytes ≡ sized_bytes_spelling plain ++ rest)
unfolding sized_bytes_at sized_bytes_spelling
sized_bytes_found bytes rest plain fits e =
    let a = bind_ok (number_at w32 bytes) (λ len. cond (ltb (length len.1) len.0) (Err Short) (done (take len.0 len.1, drop len.0 len.1))) (plain, rest) e in
    let number = number_found w32 (2 ^ 32) wide32 bytes a.0.0 a.0.1 fits a.1 in
    by_test (ltb (length a.0.1) a.0.0) _ _ _ a.2 (λ _ fault. absurd cc) (λ long found.
    let enough : a.0.0 ≤ length a.0.1 = ltb-false _ _ long in
    let count : length (take a.0.0 a.0.1) ≡ a.0.0 = omega (arith, length-take a.0.0 a.0.1) in
    let fit : length (take a.0.0 a.0.1) < 2 ^ 32 = rw count number.0 in
    let whole : bytes ≡ (to_be_bytes w32 a.0.0 ++ take a.0.0 a.0.1) ++ drop a.0.0 a.0.1 =
    number.1 ∙ ap (λ (end : List ℕ). to_be_bytes w32 a.0.0 ++ end) (sym (take-append-drop a.0.0 a.0.1)) ∙ sym (append_assoc (to_be_bytes w32 a.0.0) (take a.0.0 a.0.1) (drop a.0.0 a.0.1)) in
    let sized : bytes ≡ sized_bytes_spelling (take a.0.0 a.0.1) ++ drop a.0.0 a.0.1 = whole ∙ ap (λ (k : ℕ). (to_be_bytes w32 k ++ take a.0.0 a.0.1) ++ drop a.0.0 a.0.1) (sym count) in
    subst (λ (p : List ℕ × List ℕ). FitsFourBytes p.0 × (bytes ≡ sized_bytes_spelling p.0 ++ p.1)) (ok_is (take a.0.0 a.0.1, drop a.0.0 a.0.1) (plain, rest) found) (fit, sized))

sized_bytes_again : (plain rest : List ℕ) → FitsFourBytes plain → sized_bytes_at (sized_bytes_spelling plain ++ rest) ≡ Ok (plain, rest)
unfolding sized_bytes_at sized_bytes_spelling
sized_bytes_again plain rest fit =
    let enough : ltb (length (plain ++ rest)) (length plain) ≡ false = le-ltb _ _ (omega (arith, length-append plain rest)) in
    rw (number_again w32 (2 ^ 32) wide32 (length plain) (plain ++ rest) fit, enough, take_at plain rest (length plain) refl, drop_at plain rest (length plain) refl) refl

sized_bytes_memoryless : (bytes : List ℕ) → sized_bytes_at bytes ≡ Err faults.NoMemory → ⊥
unfolding sized_bytes_at
sized_bytes_memoryless bytes e =
    bind_memoryless (number_at w32 bytes) (λ len. cond (ltb (length len.1) len.0) (Err Short) (done (take len.0 len.1, drop len.0 len.1))) (number_memoryless w32 bytes)
    (λ len h. test_memoryless (ltb (length len.1) len.0) _ _ (λ k. cc) (λ k. cc) h) e

pub sized_bytes_codec : IsCodec FitsFourBytes sized_bytes_spelling (λ input. sized_bytes_at)
sized_bytes_codec = codec FitsFourBytes sized_bytes_spelling (λ input. sized_bytes_at) (λ input. sized_bytes_found) (λ input. sized_bytes_again) (λ input. sized_bytes_memoryless)

-- ---- moments: as the points in time that are written after a byte 1

read_time : (input : ℕ) (bytes : List ℕ) (n : ℕ × List ℕ) → number_at w64 bytes ≡ Ok n → is_moment (cast_signed w64 n.0) ≡ true → time_at input (1 ∷ bytes) ≡ Ok (At (cast_signed w64 n.0), n.1)
unfolding time_at moment_at
read_time input bytes n e is = rw (e, is) refl

read_moment : (input : ℕ) (bytes : List ℕ) (n : ℕ × List ℕ) → number_at w64 bytes ≡ Ok n → is_moment (cast_signed w64 n.0) ≡ true → moment_field_at input bytes ≡ Ok (cast_signed w64 n.0, n.1)
unfolding moment_field_at
read_moment input bytes n e is = rw (e, is) refl

as_time : (input : ℕ) (bytes rest : List ℕ) (second : ℤ) → moment_field_at input bytes ≡ Ok (second, rest) → time_at input (1 ∷ bytes) ≡ Ok (At second, rest)
unfolding moment_field_at time_at moment_at
as_time input bytes rest second e =
    let a = bind_ok (number_at w64 bytes) (λ n. cond (is_moment (cast_signed w64 n.0)) (done (cast_signed w64 n.0, n.1)) (Err (NotCanonical (place input bytes)))) (second, rest) e in
    by_test (is_moment (cast_signed w64 a.0.0)) _ _ _ a.2 (λ is found.
    let read = read_time input bytes a.0 a.1 is in
    subst (λ (p : ℤ × List ℕ). time_at input (1 ∷ bytes) ≡ Ok (At p.0, p.1)) (ok_is (cast_signed w64 a.0.0, a.0.1) (second, rest) found) read) (λ _ fault. absurd cc)

abbrev tail : List ℕ → List ℕ
tail [] = []
tail (byte ∷ bytes) = bytes

moment_field_found : (input : ℕ) (bytes rest : List ℕ) (second : ℤ) → AreBytes bytes → moment_field_at input bytes ≡ Ok (second, rest) → IsMoment second × (bytes ≡ moment_spelling second ++ rest)
unfolding time_at time_spelling moment_spelling
moment_field_found input bytes rest second fits e =
    let it = time_found input (1 ∷ bytes) rest (At second) (AreBytes-more 1 bytes (omega arith) fits) (as_time input bytes rest second e) in
    (it.0, ap tail it.1)

at_is : (a b : ℤ) → At a ≡ At b → a ≡ b
at_is a b e = cc

moment_field_again : (input : ℕ) (second : ℤ) (rest : List ℕ) → IsMoment second → moment_field_at input (moment_spelling second ++ rest) ≡ Ok (second, rest)
unfolding moment_field_at time_at moment_at time_spelling moment_spelling
moment_field_again input second rest h =
    let bytes : List ℕ = moment_spelling second ++ rest in
    let e : time_at input (time_spelling (At second) ++ rest) ≡ Ok (At second, rest) = time_again input (At second) rest h in
    let a = bind_ok (number_at w64 bytes) (λ n. cond (is_moment (cast_signed w64 n.0)) (done (At (cast_signed w64 n.0), n.1)) (Err (NotCanonical (place input (1 ∷ bytes))))) (At second, rest) e in
    by_test (is_moment (cast_signed w64 a.0.0)) _ _ _ a.2 (λ is found.
    let pair = ok_is (At (cast_signed w64 a.0.0), a.0.1) (At second, rest) found in
    let same : cast_signed w64 a.0.0 ≡ second = at_is _ _ (ap (λ (p : TimePoint × List ℕ). p.0) pair) in
    let behind : a.0.1 ≡ rest = ap (λ (p : TimePoint × List ℕ). p.1) pair in
    let read = read_moment input bytes a.0 a.1 is in
    read ∙ ap (λ (n : ℤ). done (n, a.0.1)) same ∙ ap (λ (end : List ℕ). done (second, end)) behind) (λ _ fault. absurd cc)

moment_field_memoryless : (input : ℕ) (bytes : List ℕ) → moment_field_at input bytes ≡ Err faults.NoMemory → ⊥
unfolding moment_field_at
moment_field_memoryless input bytes e =
    bind_memoryless (number_at w64 bytes) (λ n. cond (is_moment (cast_signed w64 n.0)) (done (cast_signed w64 n.0, n.1)) (Err (NotCanonical (place input bytes)))) (number_memoryless w64 bytes)
    (λ n h. test_memoryless (is_moment (cast_signed w64 n.0)) _ _ (λ k. cc) (λ k. cc) h) e

pub moment_codec : IsCodec IsMoment moment_spelling moment_field_at
moment_codec = codec IsMoment moment_spelling moment_field_at moment_field_found moment_field_again moment_field_memoryless
