-- The fields of nodes: what is read is spelled so, and what is spelled so is read.
use Rattle.std.proofs.Common.{◌≡◌, ℕ, ◌^◌, ◌<◌, true, cond, eqb, ltb, List, [], ◌∷◌, ◌++◌, Option, Some, Ok, Err, refl, ap, subst, ◌∙◌, arith, nat_cmp, Ordering, Less, Equal, Greater, is_lt}
use Rattle.std.specs.Prelude.{IsTrue}
use Rattle.std.specs.Int.{w64}
use Rattle.std.specs.Cmp.Lexicographic.{slice_cmp}
use Rattle.std.proofs.lemmas.Bool.{eqb-true, ltb-true, lt-ltb, and_parts, and_from, false≢true}
use Rattle.bl_syntax.specs.declared.codec_fault.CodecFault.TheVariants as faults
use Rattle.bl_syntax.specs.Spelling.{with_length}
use Rattle.bl_syntax.specs.Reading.{place}
use Rattle.bl_syntax.specs.Codec.{AreBytes, IsCodec}
use Rattle.bl_syntax.proofs.CodecLemmas.{bind_ok, by_test, ok_is, bind_memoryless, codec}
use Rattle.bl_syntax.proofs.FieldLemmas.{wide64, number_again, coded_found, coded_again, coded_memoryless, word_found, word_again, word_memoryless}
use Rattle.procap.proofs.ItemsLemmas.{test_memoryless}
use Rattle.file_world.specs.declared.operation.Kind.{Kind}
use Rattle.file_world.specs.declared.operation.Kind.TheVariants.{File, Directory}
use Rattle.file_world.specs.FileNames.{is_attribute_name}
use Rattle.node_rows.specs.Names.{is_name_or_none}
use Rattle.node_rows.proofs.NameLengthLemmas.{short_name_or_none, short_attribute_name}
use Rattle.record_parts.specs.Fields.{u64_at, number_spelling, IsSpellableNumber}
use Rattle.record_parts.proofs.CodecLemmas.{done}
use Rattle.record_parts.proofs.FieldsLemmas.{u64_codec}
use Rattle.checkpoint_image.specs.NodeSpelling.{kind_code}
use Rattle.checkpoint_image.specs.NodeReading.{kind_of, kind_at, number_after, is_name_after, attribute_name_at, node_name_at}

-- ---- kinds

option_is : {A : Type 0} (x y : A) → ◌≡◌ {A = Option A} (Some x) (Some y) → x ≡ y
option_is x y e = cc

kind_back : (n : ℕ) (kind : Kind) → kind_of n ≡ Some kind → n ≡ kind_code kind
kind_back n kind e =
    by_test (eqb n 1) _ _ _ e (λ is h. eqb-true n 1 is ∙ ap kind_code (option_is File kind h)) (λ _ e1.
    by_test (eqb n 2) _ _ _ e1 (λ is h. eqb-true n 2 is ∙ ap kind_code (option_is Directory kind h)) (λ _ none. absurd cc))

kind_again : (kind : Kind) → kind_of (kind_code kind) ≡ Some kind
kind_again File = refl
kind_again Directory = refl

abbrev pub AnyKind : Kind → Type 0
AnyKind kind = Unit {0}

abbrev pub kind_spelling : Kind → List ℕ
kind_spelling kind = kind_code kind ∷ []

pub kind_codec : IsCodec AnyKind kind_spelling kind_at
kind_codec = codec AnyKind kind_spelling kind_at
    (λ input bytes rest kind fits e. (tt, coded_found kind_of kind_code kind_back input bytes rest kind e)) (λ input kind rest h. coded_again kind_of kind_code kind_again input kind rest) (λ input bytes e. coded_memoryless kind_of input bytes e)

-- ---- numbers that rise

-- the number passes the previous one
abbrev pub IsNumberAfter : ℕ → ℕ → Type 0
IsNumberAfter previous number = (previous < number) × IsSpellableNumber number

after_found : (previous input : ℕ) (bytes rest : List ℕ) (number : ℕ) → AreBytes bytes → number_after previous input bytes ≡ Ok (number, rest) → IsNumberAfter previous number × (bytes ≡ number_spelling number ++ rest)
unfolding number_after
after_found previous input bytes rest number fits e =
    let a = bind_ok (u64_at bytes) (λ n. cond (ltb previous n.0) (done n) (Err (faults.NotCanonical (place input bytes)))) (number, rest) e in
    by_test (ltb previous a.0.0) _ _ _ a.2 (λ is found.
    let it = u64_codec.found input bytes a.0.1 a.0.0 fits a.1 in
    subst (λ (p : ℕ × List ℕ). IsNumberAfter previous p.0 × (bytes ≡ number_spelling p.0 ++ p.1)) (ok_is a.0 (number, rest) found) ((ltb-true previous a.0.0 is, it.0), it.1)) (λ _ fault. absurd cc)

after_again : (previous input number : ℕ) (rest : List ℕ) → IsNumberAfter previous number → number_after previous input (number_spelling number ++ rest) ≡ Ok (number, rest)
unfolding number_after number_spelling
after_again previous input number rest h = rw (number_again w64 (2 ^ 64) wide64 number rest h.1, lt-ltb previous number h.0) refl

after_memoryless : (previous input : ℕ) (bytes : List ℕ) → number_after previous input bytes ≡ Err faults.NoMemory → ⊥
unfolding number_after
after_memoryless previous input bytes e =
    bind_memoryless (u64_at bytes) (λ n. cond (ltb previous n.0) (done n) (Err (faults.NotCanonical (place input bytes)))) (u64_codec.memoryless input bytes)
    (λ n h. test_memoryless (ltb previous n.0) _ _ (λ k. cc) (λ k. cc) h) e

pub after_codec : (previous : ℕ) → IsCodec (IsNumberAfter previous) number_spelling (number_after previous)
after_codec previous = codec (IsNumberAfter previous) number_spelling (number_after previous) (after_found previous) (λ input number rest h. after_again previous input number rest h) (after_memoryless previous)

-- ---- names

abbrev pub IsNameOrNone : List ℕ → Type 0
IsNameOrNone name = IsTrue (is_name_or_none name)

pub node_name_codec : IsCodec IsNameOrNone with_length node_name_at
node_name_codec = codec IsNameOrNone with_length node_name_at (word_found 0 64 is_name_or_none)
    (λ input name rest h. word_again 0 64 is_name_or_none input name rest (omega arith) (short_name_or_none name h) h) (word_memoryless 0 64 is_name_or_none)

abbrev pub IsNameAfter : List ℕ → List ℕ → Type 0
IsNameAfter previous name = IsTrue (is_name_after previous name)

lt_is_less : (o : Ordering) → is_lt o ≡ true → o ≡ Less
lt_is_less Less h = refl
lt_is_less Equal h = absurd (false≢true h)
lt_is_less Greater h = absurd (false≢true h)

-- what it is to be a name after another
pub name_after_parts : (previous name : List ℕ) → IsNameAfter previous name → IsTrue (is_attribute_name name) × (slice_cmp nat_cmp previous name ≡ Less)
name_after_parts previous name h =
    let parts = and_parts (is_attribute_name name) (is_lt (slice_cmp nat_cmp previous name)) h in
    (parts.0, lt_is_less (slice_cmp nat_cmp previous name) parts.1)

pub name_after_from : (previous name : List ℕ) → IsTrue (is_attribute_name name) → slice_cmp nat_cmp previous name ≡ Less → IsNameAfter previous name
name_after_from previous name is less = and_from (is_attribute_name name) (is_lt (slice_cmp nat_cmp previous name)) is (ap is_lt less)

pub attribute_name_codec : (previous : List ℕ) → IsCodec (IsNameAfter previous) with_length (attribute_name_at previous)
attribute_name_codec previous = codec (IsNameAfter previous) with_length (attribute_name_at previous) (word_found 1 64 (is_name_after previous))
    (λ input name rest h. let short = short_attribute_name name (name_after_parts previous name h).0 in word_again 1 64 (is_name_after previous) input name rest short.not_below short.not_above h) (word_memoryless 1 64 (is_name_after previous))

-- every name comes after none
pub after_none : (name : List ℕ) → IsTrue (is_attribute_name name) → slice_cmp nat_cmp [] name ≡ Less
after_none [] h = let short = short_attribute_name [] h in absurd (omega (arith, short.not_below))
after_none (byte ∷ bytes) h = refl
