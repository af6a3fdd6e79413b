-- What is read steadily and is cut short is Short.
use Rattle.std.proofs.Common.{◌≡◌, ℕ, List, [], ◌∷◌, ◌++◌, length, true, Result, Ok, Err, refl, sym, ap, ◌∙◌, arith}
use Rattle.std.specs.Prelude.{is_err, ◌-◌}
use Rattle.std.proofs.lemmas.Bool.{false≢true}
use Rattle.std.proofs.lemmas.List.{append-nil, length-append}
use Rattle.bl_syntax.specs.declared.codec_fault.CodecFault.{CodecFault}
use Rattle.bl_syntax.specs.declared.codec_fault.CodecFault.TheVariants as codec
use Rattle.bl_syntax.specs.Reading.{◌>>=◌, Reading, reading}
use Rattle.bl_syntax.specs.Codec.{IsCodec}
use Rattle.proof_term.specs.declared.fault.ProofFault.{ProofFault}
use Rattle.proof_term.specs.declared.fault.ProofFault.TheVariants as proof
use Rattle.proof_term.specs.Proof.{ProofView}
use Rattle.proof_term.specs.ProofSpelling.{proof_spelling, IsSpellableProof}
use Rattle.proof_term.specs.ProofReading as proofs
use Rattle.proof_term.specs.ProofReading.{kept_proof_at, proof_reading}
use Rattle.proof_term.specs.ProofCodec.{ProofsAreACodec}
use Rattle.procap.specs.Procap.{at_end}
use Rattle.reader_laws.specs.Cuts.{AreCutsRefused, IsLeftOverRefused}
use Rattle.reader_laws.proofs.ExtendedLemmas.{Extended, behind, IsSteady, ok_is}
use Rattle.reader_laws.proofs.ProofLemmas as steady

-- bytes that are left over are some
nothing_left : {A F : Type 0} (short : F) (x y : A) (end more : List ℕ) (byte : ℕ) → (let done : A × List ℕ → Result (A × List ℕ) F = λ z. Ok z in done (y, end ++ byte ∷ more) ≡ done (x, [])) → ⊥
nothing_left {A} {F} short x y end more byte e =
    let first : A × List ℕ = (y, end ++ byte ∷ more) in
    let second : A × List ℕ = (x, []) in
    let pair : first ≡ second = ok_is {F = F} first second e in
    omega (arith, ap length (ap (λ (p : A × List ℕ). p.1) pair), length-append end (byte ∷ more))

-- a reading that gave a value did not fail
fails_not : {A F : Type 0} (s : Result A F) (x : A) → s ≡ Ok x → is_err s ≡ true → ⊥
fails_not s x is fails = false≢true (sym (ap is_err is) ∙ fails)

-- a first part of what is read whole
cut_reading : {A : Type 0} (x : A) (byte : ℕ) (rest : List ℕ) (r s : Reading A) → Extended codec.Short (behind (byte ∷ rest)) r s → s ≡ Ok (x, []) → r ≡ Err codec.Short
cut_reading x byte rest (Ok y) s on is = absurd (nothing_left codec.Short x y.0 y.1 rest byte (sym (on.ok y refl) ∙ is))
cut_reading x byte rest (Err codec.Short) s on is = refl
cut_reading x byte rest (Err (codec.BadTag at)) s on is = absurd (fails_not s (x, []) is (on.err (codec.BadTag at) refl (λ e. cc)))
cut_reading x byte rest (Err (codec.NotCanonical at)) s on is = absurd (fails_not s (x, []) is (on.err (codec.NotCanonical at) refl (λ e. cc)))
cut_reading x byte rest (Err (codec.TooLarge at)) s on is = absurd (fails_not s (x, []) is (on.err (codec.TooLarge at) refl (λ e. cc)))
cut_reading x byte rest (Err codec.NoMemory) s on is = absurd (fails_not s (x, []) is (on.err codec.NoMemory refl (λ e. cc)))

-- a spelling that is cut short, wherever it stands
pub cut_at : {A : Type 0} (IsSpelled : A → Type 0) (spelling : A → List ℕ) (at : ℕ → List ℕ → Reading A) → IsCodec IsSpelled spelling at → IsSteady at →
    (input : ℕ) (x : A) (front : List ℕ) (byte : ℕ) (rest : List ℕ) → IsSpelled x → spelling x ≡ front ++ byte ∷ rest → at input front ≡ Err codec.Short
cut_at IsSpelled spelling at joined steady input x front byte rest spelled is =
    cut_reading x byte rest (at input front) (at 0 (front ++ byte ∷ rest)) (steady input 0 front (byte ∷ rest))
    (ap (at 0) (sym is ∙ sym (append-nil (spelling x))) ∙ joined.again 0 x [] spelled)

-- by a reader that tells how many bytes it took
pub cuts : {A : Type 0} (IsSpelled : A → Type 0) (spelling : A → List ℕ) (at : ℕ → List ℕ → Reading A) → IsCodec IsSpelled spelling at → IsSteady at →
    AreCutsRefused codec.Short IsSpelled spelling (reading at)
cuts {A} IsSpelled spelling at joined steady x front byte rest spelled is =
    ap (λ (r : Reading A). r >>= λ y. Ok (y.0, length front - length y.1)) (cut_at IsSpelled spelling at joined steady (length front) x front byte rest spelled is)

-- by a reader of the whole input
pub whole_cuts : {A : Type 0} (IsSpelled : A → Type 0) (spelling : A → List ℕ) (at : ℕ → List ℕ → Reading A) → IsCodec IsSpelled spelling at → IsSteady at →
    AreCutsRefused codec.Short IsSpelled spelling (λ bytes. at (length bytes) bytes >>= at_end (length bytes))
whole_cuts {A} IsSpelled spelling at joined steady x front byte rest spelled is =
    ap (λ (r : Reading A). r >>= at_end (length front)) (cut_at IsSpelled spelling at joined steady (length front) x front byte rest spelled is)

-- bytes after a spelling
pub left_over : {A : Type 0} (IsSpelled : A → Type 0) (spelling : A → List ℕ) (at : ℕ → List ℕ → Reading A) → IsCodec IsSpelled spelling at →
    IsLeftOverRefused IsSpelled spelling (λ bytes. at (length bytes) bytes >>= at_end (length bytes))
left_over {A} IsSpelled spelling at joined x byte rest spelled =
    let bytes : List ℕ = spelling x ++ byte ∷ rest in
    let read : at (length bytes) bytes ≡ Ok (x, byte ∷ rest) = joined.again (length bytes) x (byte ∷ rest) spelled in
    let place : length bytes - length (byte ∷ rest) ≡ length (spelling x) = omega (arith, length-append (spelling x) (byte ∷ rest)) in
    let refused : ℕ → Result A CodecFault = λ at. Err (codec.NotCanonical at) in
    ap (λ (r : Reading A). r >>= at_end (length bytes)) read ∙ ap refused place

-- ---- proofs

cut_proof_reading : (x : ProofView) (byte : ℕ) (rest : List ℕ) (r s : Result (ProofView × List ℕ) ProofFault) → Extended proof.Short (behind (byte ∷ rest)) r s → s ≡ Ok (x, []) → r ≡ Err proof.Short
cut_proof_reading x byte rest (Ok y) s on is = absurd (nothing_left proof.Short x y.0 y.1 rest byte (sym (on.ok y refl) ∙ is))
cut_proof_reading x byte rest (Err proof.Short) s on is = refl
cut_proof_reading x byte rest (Err (proof.BadTag at)) s on is = absurd (fails_not s (x, []) is (on.err (proof.BadTag at) refl (λ e. cc)))
cut_proof_reading x byte rest (Err (proof.TooLarge at)) s on is = absurd (fails_not s (x, []) is (on.err (proof.TooLarge at) refl (λ e. cc)))
cut_proof_reading x byte rest (Err (proof.TooDeep at)) s on is = absurd (fails_not s (x, []) is (on.err (proof.TooDeep at) refl (λ e. cc)))
cut_proof_reading x byte rest (Err (proof.BadTerm fault)) s on is = absurd (fails_not s (x, []) is (on.err (proof.BadTerm fault) refl (λ e. cc)))
cut_proof_reading x byte rest (Err proof.NoMemory) s on is = absurd (fails_not s (x, []) is (on.err proof.NoMemory refl (λ e. cc)))

cut_proof_at : ProofsAreACodec → (input : ℕ) (x : ProofView) (front : List ℕ) (byte : ℕ) (rest : List ℕ) → IsSpellableProof x → proof_spelling x ≡ front ++ byte ∷ rest →
    kept_proof_at input front ≡ Err proof.Short
cut_proof_at joined input x front byte rest spelled is =
    cut_proof_reading x byte rest (kept_proof_at input front) (kept_proof_at 0 (front ++ byte ∷ rest)) (steady.proofs input 0 front (byte ∷ rest))
    (ap (kept_proof_at 0) (sym is ∙ sym (append-nil (proof_spelling x))) ∙ joined.again 0 x [] spelled)

pub cut_proofs : ProofsAreACodec → AreCutsRefused proof.Short IsSpellableProof proof_spelling proof_reading
cut_proofs joined x front byte rest spelled is =
    ap (λ (r : Result (ProofView × List ℕ) ProofFault). proofs.◌>>=◌ r (λ y. Ok (y.0, length front - length y.1)))
    (cut_proof_at joined (length front) x front byte rest spelled is)
