-- The laws of the spelling and the reading of proofs.
use Rattle.std.proofs.Common.{◌≡◌, ◌-◌, ℕ, List, ◌++◌, length, drop, Result, Ok, Err, refl, sym, ap, subst, ◌∙◌, arith}
use Rattle.std.specs.Prelude.{IsErr, is_err}
use Rattle.std.proofs.lemmas.Bool.{false≢true}
use Rattle.std.proofs.lemmas.List.{drop_at, length-append}
use Rattle.bl_syntax.specs.Codec.{AreBytes}
use Rattle.proof_term.specs.declared.fault.ProofFault.{ProofFault}
use Rattle.proof_term.specs.declared.fault.ProofFault.TheVariants as faults
use Rattle.proof_term.specs.Proof.{ProofView}
use Rattle.proof_term.specs.ProofSpelling.{proof_spelling, IsSpellableProof}
use Rattle.proof_term.specs.ProofReading.{◌>>=◌, ProofReading, proof_at, kept_proof_at, proof_reading, ReportsProofFault}
use Rattle.proof_term.specs.ProofCodec.{ProofsAreACodec, ReadsProofBytes}
use Rattle.proof_term.proofs.RuleLemmas.{bind_ok, ok_is}
use Rattle.proof_term.proofs.ProofLemmas.{proof_again, proof_found, FoundProof}
use Rattle.proof_term.proofs.MemoryLemmas.{kept_memoryless}

-- a proof and the bytes after it
abbrev Kept : Type 0
Kept = Result (ProofView × List ℕ) ProofFault

pub spellable : (bytes rest : List ℕ) (d : ProofView) (left : ℕ) → FoundProof 200 4096 bytes d left rest → IsSpellableProof d × (bytes ≡ proof_spelling d ++ rest)
spellable bytes rest d left found =
    let nodes_are = found.nodes_are in
    (record { within_limits = record { nodes = omega arith; levels = found.levels_are }; names = found.names }, found.bytes_are)

kept_found : (input : ℕ) (bytes rest : List ℕ) (d : ProofView) → AreBytes bytes → kept_proof_at input bytes ≡ Ok (d, rest) → IsSpellableProof d × (bytes ≡ proof_spelling d ++ rest)
unfolding kept_proof_at
kept_found input bytes rest d fits e =
    let b = bind_ok (proof_at 200 4096 input bytes) (λ x. Ok (x.0, x.1.1)) (d, rest) e in
    let it = spellable bytes b.0.1.1 b.0.0 b.0.1.0 (proof_found 200 input 4096 bytes b.0.1.1 b.0.0 b.0.1.0 fits b.1) in
    subst (λ (p : ProofView × List ℕ). IsSpellableProof p.0 × (bytes ≡ proof_spelling p.0 ++ p.1)) (ok_is (b.0.0, b.0.1.1) (d, rest) b.2) it

kept_again : (input : ℕ) (d : ProofView) (rest : List ℕ) → IsSpellableProof d → kept_proof_at input (proof_spelling d ++ rest) ≡ Ok (d, rest)
unfolding kept_proof_at
kept_again input d rest spelled =
    ap (λ (r : ProofReading). r >>= λ x. Ok (x.0, x.1.1)) (proof_again d 200 4096 input rest spelled.within_limits.levels spelled.within_limits.nodes spelled.names)

must_fail : (r : Kept) → ((d : ProofView) (rest : List ℕ) → r ≡ Ok (d, rest) → ⊥) → IsErr r
must_fail (Ok x) h = absurd (h x.0 x.1 refl)
must_fail (Err d) h = refl

fails_not : (r : Kept) (d : ProofView) (rest : List ℕ) → r ≡ Ok (d, rest) → IsErr r → ⊥
fails_not r d rest e h = false≢true (ap is_err (sym e) ∙ h)

pub proofs_codec : ProofsAreACodec
proofs_codec = record {
  found = kept_found;
  again = kept_again;
  apart = λ d e rest others first second is.
      let pair = ok_is (d, rest) (e, others) (sym (kept_again 0 d rest first) ∙ ap (kept_proof_at 0) is ∙ kept_again 0 e others second) in
      (ap (λ (p : ProofView × List ℕ). p.0) pair, ap (λ (p : ProofView × List ℕ). p.1) pair);
  refused = λ input bytes fits. (
    λ h d rest spelled is. fails_not (kept_proof_at input bytes) d rest (ap (kept_proof_at input) is ∙ kept_again input d rest spelled) h,
    λ none. must_fail (kept_proof_at input bytes) (λ d rest e. let it = kept_found input bytes rest d fits e in none d rest it.0 it.1),
  );
  memoryless = kept_memoryless;
}

-- a call that found a proof
pub reads_ok : (bytes rest : List ℕ) (d : ProofView) (count : ℕ) → AreBytes bytes → kept_proof_at (length bytes) bytes ≡ Ok (d, rest) → count ≡ length bytes - length rest → ReadsProofBytes bytes (Ok (d, count))
reads_ok bytes rest d count fits e is =
    let it = kept_found (length bytes) bytes rest d fits e in
    let counted : count ≡ length (proof_spelling d) = omega (arith, length-append (proof_spelling d) rest, ap length it.1) in
    let behind : drop count bytes ≡ rest = rw counted (ap (drop (length (proof_spelling d))) it.1 ∙ drop_at (proof_spelling d) rest (length (proof_spelling d)) refl) in
    record {
      found = (it.0, (it.1 ∙ ap (λ (end : List ℕ). proof_spelling d ++ end) (sym behind), counted));
      refused = tt;
    }

-- a call that found none
pub reads_err : (bytes : List ℕ) (fault : ProofFault) → AreBytes bytes → ((fault ≡ faults.NoMemory → ⊥) → kept_proof_at (length bytes) bytes ≡ Err fault) → ReadsProofBytes bytes (Err fault)
reads_err bytes fault fits e = record {
  found = tt;
  refused = λ memory. (proofs_codec.refused (length bytes) bytes fits).0 (ap is_err (e memory));
}

-- what was read of an input within the limits is the whole
pub kept_ok : (bytes rest : List ℕ) (d : ProofView) (left : ℕ) → proof_at 200 4096 (length bytes) bytes ≡ Ok (d, (left, rest)) → kept_proof_at (length bytes) bytes ≡ Ok (d, rest)
unfolding kept_proof_at
kept_ok bytes rest d left e = ap (λ (r : ProofReading). r >>= λ x. Ok (x.0, x.1.1)) e

kept_err : (bytes : List ℕ) (fault : ProofFault) → proof_at 200 4096 (length bytes) bytes ≡ Err fault → kept_proof_at (length bytes) bytes ≡ Err fault
unfolding kept_proof_at
kept_err bytes fault e = ap (λ (r : ProofReading). r >>= λ x. Ok (x.0, x.1.1)) e

-- a fault of the whole
pub fault_is : (bytes : List ℕ) (fault : ProofFault) → ReportsProofFault fault (proof_at 200 4096 (length bytes) bytes) → (fault ≡ faults.NoMemory → ⊥) → kept_proof_at (length bytes) bytes ≡ Err fault
fault_is bytes faults.Short e h = kept_err bytes faults.Short e
fault_is bytes (faults.BadTag at) e h = kept_err bytes (faults.BadTag at) e
fault_is bytes (faults.TooLarge at) e h = kept_err bytes (faults.TooLarge at) e
fault_is bytes (faults.TooDeep at) e h = kept_err bytes (faults.TooDeep at) e
fault_is bytes (faults.BadTerm fault) e h = kept_err bytes (faults.BadTerm fault) e
fault_is bytes faults.NoMemory e h = absurd (h refl)

read_err : (bytes : List ℕ) (fault : ProofFault) → kept_proof_at (length bytes) bytes ≡ Err fault → proof_reading bytes ≡ Err fault
read_err bytes fault e = ap (λ (r : Kept). r >>= λ x. Ok (x.0, length bytes - length x.1)) e

pub reading_fails : (bytes : List ℕ) (fault : ProofFault) → ReportsProofFault fault (proof_at 200 4096 (length bytes) bytes) → ReportsProofFault fault (proof_reading bytes)
reading_fails bytes faults.Short e = read_err bytes faults.Short (kept_err bytes faults.Short e)
reading_fails bytes (faults.BadTag at) e = read_err bytes (faults.BadTag at) (kept_err bytes (faults.BadTag at) e)
reading_fails bytes (faults.TooLarge at) e = read_err bytes (faults.TooLarge at) (kept_err bytes (faults.TooLarge at) e)
reading_fails bytes (faults.TooDeep at) e = read_err bytes (faults.TooDeep at) (kept_err bytes (faults.TooDeep at) e)
reading_fails bytes (faults.BadTerm fault) e = read_err bytes (faults.BadTerm fault) (kept_err bytes (faults.BadTerm fault) e)
reading_fails bytes faults.NoMemory e = tt

pub reading_ok : (bytes rest : List ℕ) (d : ProofView) (count : ℕ) → kept_proof_at (length bytes) bytes ≡ Ok (d, rest) → count ≡ length bytes - length rest → proof_reading bytes ≡ Ok (d, count)
reading_ok bytes rest d count e is = ap (λ (r : Kept). r >>= λ x. Ok (x.0, length bytes - length x.1)) e ∙ ap (λ (k : ℕ). Ok (d, k)) (sym is)
