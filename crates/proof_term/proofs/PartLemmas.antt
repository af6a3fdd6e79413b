-- A proof that was read as a part of an input.
use Rattle.std.proofs.Common.{◌≡◌, ℕ, List, Ok, ap}
use Rattle.bl_syntax.specs.Codec.{AreBytes}
use Rattle.proof_term.specs.declared.fault.ProofFault.{ProofFault}
use Rattle.proof_term.specs.declared.fault.ProofFault.TheVariants as faults
use Rattle.proof_term.specs.Proof.{ProofView}
use Rattle.proof_term.specs.Limits.{IsKeptProof}
use Rattle.proof_term.specs.ProofReading.{◌>>=◌, ProofReading, proof_at, kept_proof_at, ReportsProofFault}
use Rattle.proof_term.proofs.ProofLemmas.{proof_found}
use Rattle.proof_term.proofs.CodecLemmas.{spellable}
use Rattle.proof_term.proofs.TimeLemmas.{IsKept-from_spellable}

pub is_kept : (input : ℕ) (bytes rest : List ℕ) (d : ProofView) (left : ℕ) → AreBytes bytes → proof_at 200 4096 input bytes ≡ Ok (d, (left, rest)) → IsKeptProof d
is_kept input bytes rest d left fits e = IsKept-from_spellable d (spellable bytes rest d left (proof_found 200 input 4096 bytes rest d left fits e)).0

pub part_ok : (input : ℕ) (bytes rest : List ℕ) (d : ProofView) (left : ℕ) → proof_at 200 4096 input bytes ≡ Ok (d, (left, rest)) → kept_proof_at input bytes ≡ Ok (d, rest)
unfolding kept_proof_at
part_ok input bytes rest d left e = ap (λ (r : ProofReading). r >>= λ x. Ok (x.0, x.1.1)) e

pub part_fails : (input : ℕ) (bytes : List ℕ) (fault : ProofFault) → ReportsProofFault fault (proof_at 200 4096 input bytes) → ReportsProofFault fault (kept_proof_at input bytes)
unfolding kept_proof_at
part_fails input bytes faults.Short e = ap (λ (r : ProofReading). r >>= λ x. Ok (x.0, x.1.1)) e
part_fails input bytes (faults.BadTag at) e = ap (λ (r : ProofReading). r >>= λ x. Ok (x.0, x.1.1)) e
part_fails input bytes (faults.TooLarge at) e = ap (λ (r : ProofReading). r >>= λ x. Ok (x.0, x.1.1)) e
part_fails input bytes (faults.TooDeep at) e = ap (λ (r : ProofReading). r >>= λ x. Ok (x.0, x.1.1)) e
part_fails input bytes (faults.BadTerm fault) e = ap (λ (r : ProofReading). r >>= λ x. Ok (x.0, x.1.1)) e
part_fails input bytes faults.NoMemory e = tt
