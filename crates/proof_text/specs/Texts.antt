-- The texts of proofs, and their first faults (this project's own).
use Rattle.std.specs.Prelude.{◌≡◌, ℕ, List, Result, Ok, Err, if◌then◌else◌}
use Rattle.bl_syntax.specs.declared.limits.TheConstants.{MOST_PROOF_NODES, MOST_PROOF_LEVELS}
use Rattle.bl_tokens.specs.declared.faults.TextFault.{TextFault}
use Rattle.bl_tokens.specs.declared.faults.TextFault.TheVariants.{Unexpected}
use Rattle.bl_text.specs.Texts.{is_end}
use Rattle.proof_term.specs.Proof.{ProofView}
use Rattle.proof_text.specs.declared.cursor.ProofCursor.{ProofCursor}
use Rattle.proof_text.specs.Cursor.{cursor_at, token_at}
use Rattle.proof_text.specs.Proofs.{IsProof}
use Rattle.proof_text.specs.FirstFaults.{ProofHasFirstFault}

-- the beginning of a text. A proof may have only so many rules
abbrev pub beginning : ProofCursor
beginning = cursor_at 0 MOST_PROOF_NODES

-- nothing stands there but spaces
unfoldable pub at_end : List ℕ → ProofCursor → Result (Unit {0}) TextFault
at_end text here = if is_end (token_at text here).token then Ok tt else Err (Unexpected (token_at text here).at)

-- the whole text is one of the proof, which has only so many levels
pub data IsProofText (text : List ℕ) (d : ProofView) : Type 0 where
  whole_proof : (there : ProofCursor) → IsProof text MOST_PROOF_LEVELS beginning there d →
      at_end text there ≡ Ok tt → IsProofText text d

-- the text is none of a proof, and this is its first fault
pub data ProofTextFault (text : List ℕ) : TextFault → Type 0 where
  in_proof : (e : TextFault) → ProofHasFirstFault text MOST_PROOF_LEVELS beginning e → ProofTextFault text e
  behind_proof : (there : ProofCursor) (d : ProofView) (e : TextFault) →
      IsProof text MOST_PROOF_LEVELS beginning there d → at_end text there ≡ Err e → ProofTextFault text e
