-- What joins the spelling of proofs with their reading.
use Rattle.std.specs.Prelude.{◌≡◌, ◌↔◌, ℕ, List, ◌++◌, length, drop, Result, Ok, Err, IfOk, IfErr, IsErr}
use Rattle.bl_syntax.specs.Codec.{AreBytes, BeginsNone}
use Rattle.proof_term.specs.declared.fault.ProofFault.{ProofFault}
use Rattle.proof_term.specs.declared.fault.ProofFault.TheVariants as faults
use Rattle.proof_term.specs.Proof.{ProofView}
use Rattle.proof_term.specs.ProofSpelling.{proof_spelling, IsSpellableProof}
use Rattle.proof_term.specs.ProofReading.{kept_proof_at}

-- what is read is spelled so; what is spelled so is read, whatever follows; no spelling begins
-- another, and two proofs have two spellings;
-- a fault comes exactly if no spelling begins the bytes, and never because memory runs out
pub record ProofsAreACodec : Type 0 where
  pub found : (input : ℕ) (bytes rest : List ℕ) (d : ProofView) → AreBytes bytes →
      kept_proof_at input bytes ≡ Ok (d, rest) → IsSpellableProof d ×
      (bytes ≡ proof_spelling d ++ rest)
  pub again : (input : ℕ) (d : ProofView) (rest : List ℕ) → IsSpellableProof d →
      kept_proof_at input (proof_spelling d ++ rest) ≡ Ok (d, rest)
  pub apart : (d e : ProofView) (rest others : List ℕ) → IsSpellableProof d → IsSpellableProof e →
      proof_spelling d ++ rest ≡ proof_spelling e ++ others → (d ≡ e) × (rest ≡ others)
  pub refused : (input : ℕ) (bytes : List ℕ) → AreBytes bytes → IsErr (kept_proof_at input bytes) ↔
      BeginsNone IsSpellableProof proof_spelling bytes
  pub memoryless : (input : ℕ) (bytes : List ℕ) → kept_proof_at input bytes ≡ Err faults.NoMemory →
      ⊥

-- what a call read at the front of the bytes: the proof whose spelling begins them and the length
-- of that spelling, or a fault, which comes only if there is none, or because memory runs out
pub record ReadsProofBytes (bytes : List ℕ) (result : Result (ProofView × ℕ) ProofFault) : Type 0 where
  pub found : IfOk result (λ x. IsSpellableProof x.0 × ((bytes ≡ proof_spelling x.0 ++ drop x.1 bytes) × (x.1 ≡ length (proof_spelling x.0))))
  pub refused : IfErr result (λ fault. (fault ≡ faults.NoMemory → ⊥) → BeginsNone IsSpellableProof proof_spelling bytes)
