-- Proofs with their length, and lists of parts: what is read is spelled so, and what is spelled so is read.
use Rattle.std.proofs.Common.{◌≡◌, ℕ, zero, suc, ◌-◌, ◌^◌, ◌<◌, ◌≤◌, true, cond, eqb, List, [], ◌∷◌, ◌++◌, length, Result, Ok, Err, refl, sym, ap, subst, ◌∙◌, append_assoc, arith}
use Rattle.std.specs.List.{flat_map, AllByRecursion}
use Rattle.std.specs.Int.{w32, to_be_bytes}
use Rattle.std.proofs.lemmas.Bool.{eqb-true, eq-eqb}
use Rattle.std.proofs.lemmas.List.{length-append}
use Rattle.bl_syntax.specs.declared.codec_fault.CodecFault.TheVariants as faults
use Rattle.bl_syntax.specs.Reading.{◌>>=◌, Reading, place, number_at}
use Rattle.bl_syntax.specs.Codec.{AreBytes, IsCodec}
use Rattle.bl_syntax.proofs.CodecLemmas.{bind_ok, by_test, ok_is, bind_memoryless, AreBytes-rest, AreBytes-behind, codec}
use Rattle.bl_syntax.proofs.FieldLemmas.{wide32, number_found, number_again, number_memoryless}
use Rattle.proof_term.specs.declared.fault.ProofFault.{ProofFault}
use Rattle.proof_term.specs.declared.fault.ProofFault.TheVariants as proof_faults
use Rattle.proof_term.specs.Proof.{ProofView}
use Rattle.proof_term.specs.ProofSpelling.{proof_spelling, IsSpellableProof}
use Rattle.proof_term.specs.ProofReading.{kept_proof_at}
use Rattle.proof_term.proofs.CodecLemmas.{proofs_codec}
use Rattle.procap.specs.GrantSpelling.{list_spelling}
use Rattle.procap.proofs.ItemsLemmas.{test_memoryless}
use Rattle.record_parts.specs.Parts.{many_at, list_at, AreSpellable, as_part, sized_proof_spelling, sized_proof_at}
use Rattle.record_parts.proofs.CodecLemmas.{done}
use Rattle.record_parts.proofs.ProofLengthLemmas.{proof_is_short}
use Rattle.proof_term.proofs.MemoryLemmas.{kept_terms_memoryless}

-- ---- lists

-- so many that were read
record FoundMany {A : Type 0} (IsSpelled : A → Type 0) (spelling : A → List ℕ) (count : ℕ) (bytes : List ℕ) (items : List A) (rest : List ℕ) : Type 0 where
  count_is : length items ≡ count
  each : AllByRecursion IsSpelled items
  bytes_are : bytes ≡ flat_map spelling items ++ rest

many_found : {A : Type 0} (IsSpelled : A → Type 0) (spelling : A → List ℕ) (one_at : ℕ → List ℕ → Reading A) → IsCodec IsSpelled spelling one_at
    → (count input : ℕ) (bytes rest : List ℕ) (items : List A) → AreBytes bytes → many_at (one_at input) count bytes ≡ Ok (items, rest) → FoundMany IsSpelled spelling count bytes items rest
unfolding many_at
many_found {A} IsSpelled spelling one_at c zero input bytes rest items fits e =
    let pair = ok_is ([], bytes) (items, rest) e in
    subst (λ (p : List A × List ℕ). FoundMany IsSpelled spelling 0 bytes p.0 p.1) pair (record { count_is = refl; each = tt; bytes_are = refl })
many_found {A} IsSpelled spelling one_at c (suc count) input bytes rest items fits e =
    let a = bind_ok (one_at input bytes) (λ first. many_at (one_at input) count first.1 >>= λ others. done (first.0 ∷ others.0, others.1)) (items, rest) e in
    let b = bind_ok (many_at (one_at input) count a.0.1) (λ others. done (a.0.0 ∷ others.0, others.1)) (items, rest) a.2 in
    let one = c.found input bytes a.0.1 a.0.0 fits a.1 in
    let behind : AreBytes a.0.1 = AreBytes-behind (spelling a.0.0) a.0.1 (subst AreBytes one.1 fits) in
    let others = many_found IsSpelled spelling one_at c count input a.0.1 b.0.1 b.0.0 behind b.1 in
    let found : FoundMany IsSpelled spelling (suc count) bytes (a.0.0 ∷ b.0.0) b.0.1 = record {
      count_is = ap suc others.count_is;
      each = (one.0, others.each);
      bytes_are = one.1 ∙ ap (λ (end : List ℕ). spelling a.0.0 ++ end) others.bytes_are ∙ sym (append_assoc (spelling a.0.0) (flat_map spelling b.0.0) b.0.1);
    } in
    subst (λ (p : List A × List ℕ). FoundMany IsSpelled spelling (suc count) bytes p.0 p.1) (ok_is (a.0.0 ∷ b.0.0, b.0.1) (items, rest) b.2) found

many_again : {A : Type 0} (IsSpelled : A → Type 0) (spelling : A → List ℕ) (one_at : ℕ → List ℕ → Reading A) → IsCodec IsSpelled spelling one_at
    → (input : ℕ) (items : List A) (rest : List ℕ) → AllByRecursion IsSpelled items → many_at (one_at input) (length items) (flat_map spelling items ++ rest) ≡ Ok (items, rest)
unfolding many_at
many_again IsSpelled spelling one_at c input [] rest each = refl
many_again IsSpelled spelling one_at c input (x ∷ xs) rest each =
    rw (append_assoc (spelling x) (flat_map spelling xs) rest, c.again input x (flat_map spelling xs ++ rest) each.0, many_again IsSpelled spelling one_at c input xs rest each.1) refl

many_memoryless : {A : Type 0} (one_at : List ℕ → Reading A) → ((bytes : List ℕ) → one_at bytes ≡ Err faults.NoMemory → ⊥) → (count : ℕ) (bytes : List ℕ) → many_at one_at count bytes ≡ Err faults.NoMemory → ⊥
unfolding many_at
many_memoryless one_at h zero bytes e = cc
many_memoryless one_at h (suc count) bytes e =
    bind_memoryless (one_at bytes) (λ first. many_at one_at count first.1 >>= λ others. done (first.0 ∷ others.0, others.1)) (h bytes)
    (λ first k. bind_memoryless (many_at one_at count first.1) (λ others. done (first.0 ∷ others.0, others.1)) (many_memoryless one_at h count first.1) (λ others m. cc) k) e

list_found : {A : Type 0} (IsSpelled : A → Type 0) (spelling : A → List ℕ) (one_at : ℕ → List ℕ → Reading A) → IsCodec IsSpelled spelling one_at
    → (input : ℕ) (bytes rest : List ℕ) (items : List A) → AreBytes bytes → list_at (one_at input) bytes ≡ Ok (items, rest) → AreSpellable IsSpelled items × (bytes ≡ list_spelling spelling items ++ rest)
unfolding list_at
list_found IsSpelled spelling one_at c input [] rest items fits e = absurd cc
list_found IsSpelled spelling one_at c input (count ∷ more) rest items fits e =
    let it = many_found IsSpelled spelling one_at c count input more rest items (AreBytes-rest count more fits) e in
    let low : count < 256 = fits 0 in
    let few : length items ≤ 255 = omega (arith, it.count_is, low) in
    (record { few = few; each = it.each }, ap (λ (k : ℕ). k ∷ more) (sym it.count_is) ∙ ap (λ (b : List ℕ). length items ∷ b) it.bytes_are)

list_again : {A : Type 0} (IsSpelled : A → Type 0) (spelling : A → List ℕ) (one_at : ℕ → List ℕ → Reading A) → IsCodec IsSpelled spelling one_at
    → (input : ℕ) (items : List A) (rest : List ℕ) → AreSpellable IsSpelled items → list_at (one_at input) (list_spelling spelling items ++ rest) ≡ Ok (items, rest)
unfolding list_at
list_again IsSpelled spelling one_at c input items rest h = many_again IsSpelled spelling one_at c input items rest h.each

list_memoryless : {A : Type 0} (one_at : List ℕ → Reading A) → ((bytes : List ℕ) → one_at bytes ≡ Err faults.NoMemory → ⊥) → (bytes : List ℕ) → list_at one_at bytes ≡ Err faults.NoMemory → ⊥
unfolding list_at
list_memoryless one_at h [] e = cc
list_memoryless one_at h (count ∷ more) e = many_memoryless one_at h count more e

pub list_codec : {A : Type 0} (IsSpelled : A → Type 0) (spelling : A → List ℕ) (one_at : ℕ → List ℕ → Reading A) → IsCodec IsSpelled spelling one_at
    → IsCodec (AreSpellable IsSpelled) (list_spelling spelling) (λ input. list_at (one_at input))
list_codec IsSpelled spelling one_at c =
    codec (AreSpellable IsSpelled) (list_spelling spelling) (λ input. list_at (one_at input)) (list_found IsSpelled spelling one_at c) (list_again IsSpelled spelling one_at c)
    (λ input. list_memoryless (one_at input) (c.memoryless input))

-- ---- proofs with their length

as_part_ok : {A : Type 0} (r : Result A ProofFault) (x : A) → as_part r ≡ Ok x → r ≡ Ok x
as_part_ok (Ok y) x e = cc
as_part_ok (Err fault) x e = absurd cc

as_part_memoryless : {A : Type 0} (r : Result A ProofFault) → (r ≡ Err proof_faults.NoMemory → ⊥) → (r ≡ Err (proof_faults.BadTerm faults.NoMemory) → ⊥) → as_part r ≡ Err faults.NoMemory → ⊥
as_part_memoryless (Ok x) h k e = cc
as_part_memoryless (Err proof_faults.Short) h k e = cc
as_part_memoryless (Err (proof_faults.BadTag at)) h k e = cc
as_part_memoryless (Err (proof_faults.TooLarge at)) h k e = cc
as_part_memoryless (Err (proof_faults.TooDeep at)) h k e = cc
as_part_memoryless (Err (proof_faults.BadTerm faults.Short)) h k e = cc
as_part_memoryless (Err (proof_faults.BadTerm (faults.BadTag at))) h k e = cc
as_part_memoryless (Err (proof_faults.BadTerm (faults.NotCanonical at))) h k e = cc
as_part_memoryless (Err (proof_faults.BadTerm (faults.TooLarge at))) h k e = cc
as_part_memoryless (Err (proof_faults.BadTerm faults.NoMemory)) h k e = k refl
as_part_memoryless (Err proof_faults.NoMemory) h k e = h refl

-- the proof and the bytes after it, if its length is the one before it
abbrev pub of_length : ℕ → ℕ → List ℕ → ProofView × List ℕ → Reading ProofView
of_length start len bytes proof = cond (eqb (length bytes - length proof.1) len) (done proof) (Err (faults.NotCanonical start))

sized_found : (input : ℕ) (bytes rest : List ℕ) (d : ProofView) → AreBytes bytes → sized_proof_at input bytes ≡ Ok (d, rest) → IsSpellableProof d × (bytes ≡ sized_proof_spelling d ++ rest)
unfolding sized_proof_at sized_proof_spelling
sized_found input bytes rest d fits e =
    let a = bind_ok (number_at w32 bytes) (λ len. as_part (kept_proof_at input len.1) >>= of_length (place input bytes) len.0 len.1) (d, rest) e in
    let number = number_found w32 (2 ^ 32) wide32 bytes a.0.0 a.0.1 fits a.1 in
    let b = bind_ok (as_part (kept_proof_at input a.0.1)) (of_length (place input bytes) a.0.0 a.0.1) (d, rest) a.2 in
    let read : kept_proof_at input a.0.1 ≡ Ok (b.0.0, b.0.1) = as_part_ok (kept_proof_at input a.0.1) b.0 b.1 in
    let behind : AreBytes a.0.1 = AreBytes-behind (to_be_bytes w32 a.0.0) a.0.1 (subst AreBytes number.1 fits) in
    let it = proofs_codec.found input a.0.1 b.0.1 b.0.0 behind read in
    by_test (eqb (length a.0.1 - length b.0.1) a.0.0) _ _ _ b.2 (λ is found.
    let total : length a.0.1 ≡ length (proof_spelling b.0.0 ++ b.0.1) = ap length it.1 in
    let same : a.0.0 ≡ length (proof_spelling b.0.0) = omega (arith, eqb-true _ _ is, total, length-append (proof_spelling b.0.0) b.0.1) in
    let whole : bytes ≡ (to_be_bytes w32 a.0.0 ++ proof_spelling b.0.0) ++ b.0.1 =
    number.1 ∙ ap (λ (end : List ℕ). to_be_bytes w32 a.0.0 ++ end) it.1 ∙ sym (append_assoc (to_be_bytes w32 a.0.0) (proof_spelling b.0.0) b.0.1) in
    let sized : bytes ≡ sized_proof_spelling b.0.0 ++ b.0.1 = whole ∙ ap (λ (k : ℕ). (to_be_bytes w32 k ++ proof_spelling b.0.0) ++ b.0.1) same in
    subst (λ (p : ProofView × List ℕ). IsSpellableProof p.0 × (bytes ≡ sized_proof_spelling p.0 ++ p.1)) (ok_is b.0 (d, rest) found) (it.0, sized)) (λ _ fault. absurd cc)

sized_again : (input : ℕ) (d : ProofView) (rest : List ℕ) → IsSpellableProof d → sized_proof_at input (sized_proof_spelling d ++ rest) ≡ Ok (d, rest)
unfolding sized_proof_at sized_proof_spelling
sized_again input d rest h =
    let same : eqb (length (proof_spelling d ++ rest) - length rest) (length (proof_spelling d)) ≡ true = eq-eqb _ _ (omega (arith, length-append (proof_spelling d) rest)) in
    rw (append_assoc (to_be_bytes w32 (length (proof_spelling d))) (proof_spelling d) rest, number_again w32 (2 ^ 32) wide32 (length (proof_spelling d)) (proof_spelling d ++ rest) (proof_is_short d h), proofs_codec.again input d rest h, same) refl

sized_memoryless : (input : ℕ) (bytes : List ℕ) → sized_proof_at input bytes ≡ Err faults.NoMemory → ⊥
unfolding sized_proof_at
sized_memoryless input bytes e =
    bind_memoryless (number_at w32 bytes) (λ len. as_part (kept_proof_at input len.1) >>= of_length (place input bytes) len.0 len.1) (number_memoryless w32 bytes)
    (λ len h. bind_memoryless (as_part (kept_proof_at input len.1)) (of_length (place input bytes) len.0 len.1)
    (as_part_memoryless (kept_proof_at input len.1) (proofs_codec.memoryless input len.1) (kept_terms_memoryless input len.1))
    (λ proof k. test_memoryless (eqb (length len.1 - length proof.1) len.0) _ _ (λ m. cc) (λ m. cc) k) h) e

pub sized_codec : IsCodec IsSpellableProof sized_proof_spelling sized_proof_at
sized_codec = codec IsSpellableProof sized_proof_spelling sized_proof_at sized_found sized_again sized_memoryless
