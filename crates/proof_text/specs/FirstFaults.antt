-- The first fault of a proof's text (this project's own): what was read up to it is a text of a
-- part, and the part that comes next stops. Memory may be refused anywhere.
use Rattle.std.specs.Prelude.{◌≡◌, ℕ, ◌-◌, List, Ok, Err}
use Rattle.bl_tokens.specs.declared.faults.TextFault.{TextFault}
use Rattle.bl_tokens.specs.declared.faults.TextFault.TheVariants.{NoMemory}
use Rattle.bl_tokens.specs.declared.tokens.Sign.TheVariants as signs
use Rattle.proof_term.specs.declared.rule.OnePremise.{OnePremise}
use Rattle.proof_term.specs.declared.rule.TwoPremises.{TwoPremises}
use Rattle.proof_term.specs.declared.rule.Rule.TheVariants as rules
use Rattle.proof_term.specs.Proof.{ProofView}
use Rattle.proof_text.specs.declared.cursor.ProofCursor.{ProofCursor}
use Rattle.proof_text.specs.Cursor.{cursor_after_sign}
use Rattle.proof_text.specs.Heads.{head}
use Rattle.proof_text.specs.Proofs.{IsProof}

-- the proof at that place, of at most so many levels, stops
pub data ProofHasFirstFault (text : List ℕ) : ℕ → ProofCursor → TextFault → Type 0 where
  no_memory : (levels : ℕ) (here : ProofCursor) → ProofHasFirstFault text levels here NoMemory
  in_head : (levels : ℕ) (here : ProofCursor) (e : TextFault) → head text levels here ≡ Err e
      → ProofHasFirstFault text levels here e
  in_premise : (levels : ℕ) (here first : ProofCursor) (r : OnePremise) (e : TextFault)
      → head text levels here ≡ Ok (rules.One r, first)
      → ProofHasFirstFault text (levels - 1) first e → ProofHasFirstFault text levels here e
  behind_premise : (levels : ℕ) (here first mid : ProofCursor) (r : OnePremise) (p : ProofView) (e : TextFault)
      → head text levels here ≡ Ok (rules.One r, first) → IsProof text (levels - 1) first mid p
      → cursor_after_sign text signs.Close mid ≡ Err e → ProofHasFirstFault text levels here e
  in_first : (levels : ℕ) (here first : ProofCursor) (r : TwoPremises) (e : TextFault)
      → head text levels here ≡ Ok (rules.Two r, first)
      → ProofHasFirstFault text (levels - 1) first e → ProofHasFirstFault text levels here e
  behind_first : (levels : ℕ) (here first mid : ProofCursor) (r : TwoPremises) (p : ProofView) (e : TextFault)
      → head text levels here ≡ Ok (rules.Two r, first) → IsProof text (levels - 1) first mid p
      → cursor_after_sign text signs.Comma mid ≡ Err e → ProofHasFirstFault text levels here e
  in_second : (levels : ℕ) (here first mid second : ProofCursor) (r : TwoPremises) (p : ProofView) (e : TextFault)
      → head text levels here ≡ Ok (rules.Two r, first) → IsProof text (levels - 1) first mid p
      → cursor_after_sign text signs.Comma mid ≡ Ok second
      → ProofHasFirstFault text (levels - 1) second e → ProofHasFirstFault text levels here e
  behind_second : (levels : ℕ) (here first mid second last : ProofCursor) (r : TwoPremises) (p q : ProofView) (e : TextFault)
      → head text levels here ≡ Ok (rules.Two r, first)
      → IsProof text (levels - 1) first mid p → cursor_after_sign text signs.Comma mid ≡ Ok second
      → IsProof text (levels - 1) second last q → cursor_after_sign text signs.Close last ≡ Err e
      → ProofHasFirstFault text levels here e
