-- A proof's fault is exact, and where it is not one of size no sentence goes on.
use Rattle.std.proofs.Common.{◌≡◌, ℕ, List, sym, ap, ◌∙◌, Some, ◌⊎◌, inl, inr}
use Rattle.std.specs.Prelude.{◌≢◌, Option}
use Rattle.bl_tokens.specs.declared.faults.TextFault.{TextFault}
use Rattle.bl_tokens.specs.declared.faults.TextFault.TheVariants.{TooLarge, NoMemory}
use Rattle.bl_text.specs.Texts.{AreOneFault}
use Rattle.proof_term.specs.Proof.{ProofView}
use Rattle.proof_text.specs.Cursor.{cursor_at, first_byte}
use Rattle.proof_text.specs.SameTokens.{fault_place, SameUpTo}
use Rattle.proof_text.specs.Sentences.{IsProofSentenceText}
use Rattle.proof_text.specs.Texts.{IsProofText, ProofTextFault}
use Rattle.proof_text.specs.Exact.{IsExactInProof}
use Rattle.proof_text.proofs.TextLemmas.{proof_or_fault, fault_once}
use Rattle.proof_text.proofs.SameTokensLemmas.{fault_settles}
use Rattle.proof_text.proofs.SentenceLemmas.{sentence_read}
use Rattle.proof_text.proofs.ViableLemmas.{viable_fault}

pub exact_proof : {text : List ℕ} {e : TextFault} → ProofTextFault text e → (e ≡ NoMemory) ⊎ IsExactInProof text e
exact_proof {text} {e} h = elim (viable_fault h) [
  | inl none ↦ inl none
  | inr v ↦ inr (record { prefix = v; same = λ o same. fault_settles text o e (first_byte text (cursor_at v.behind 0)) h v.next same })
]

memoryless : (e : TextFault) (at : ℕ) → fault_place e ≡ Some at → e ≡ NoMemory → ⊥
memoryless e at place none = let never : ◌≡◌ {A = Option ℕ} (fault_place NoMemory) (Some at) = ap fault_place (sym none) ∙ place in cc

differs : {e : TextFault} {place at : ℕ} → fault_place e ≡ Some place → ((n : ℕ) → e ≢ TooLarge n) → AreOneFault e (TooLarge at) → ⊥
differs {e} {place} is small (inl none) = memoryless e place is none
differs {at = at} is small (inr (inl none)) = let never : TooLarge at ≡ NoMemory = none in cc
differs {at = at} is small (inr (inr same)) = small at same

settled : {text : List ℕ} {e : TextFault} {place : ℕ} → fault_place e ≡ Some place → ((n : ℕ) → e ≢ TooLarge n) → ProofTextFault text e → ((p : ProofView) × IsProofText text p) ⊎ ((at : ℕ) × ProofTextFault text (TooLarge at)) → ⊥
settled {e = e} {place} is small h (inl (p, t)) = memoryless e place is (proof_or_fault t h)
settled is small h (inr (at, k)) = differs is small (fault_once h k)

pub no_proof_goes_on : {text other : List ℕ} {e : TextFault} → ((n : ℕ) → e ≢ TooLarge n) → (x : IsExactInProof text e) → SameUpTo text other (first_byte text (cursor_at x.prefix.behind 0)) → IsProofSentenceText other → ⊥
no_proof_goes_on {text} {other} small x same s = settled x.prefix.next small (x.same other same) (sentence_read s)
