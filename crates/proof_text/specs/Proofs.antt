-- The texts of proofs (this project's own), as a relation between two places of a text: what stands
-- from the one up to the other is a text of the proof, which has at most so many levels. A place
-- has with
-- it how many rules are left from there on.
use Rattle.std.specs.Prelude.{◌≡◌, ℕ, ◌-◌, List, Ok}
use Rattle.bl_tokens.specs.declared.tokens.Sign.TheVariants as signs
use Rattle.proof_term.specs.declared.rule.Axiom.{Axiom}
use Rattle.proof_term.specs.declared.rule.OnePremise.{OnePremise}
use Rattle.proof_term.specs.declared.rule.TwoPremises.{TwoPremises}
use Rattle.proof_term.specs.declared.rule.Rule.TheVariants as rules
use Rattle.proof_term.specs.Proof.{ProofView}
use Rattle.proof_term.specs.Rules.{by_axiom, by_one, by_two}
use Rattle.proof_text.specs.declared.cursor.ProofCursor.{ProofCursor}
use Rattle.proof_text.specs.Cursor.{cursor_after_sign}
use Rattle.proof_text.specs.Heads.{head}

pub data IsProof (text : List ℕ) : ℕ → ProofCursor → ProofCursor → ProofView → Type 0 where
  no_premise : (levels : ℕ) (here there : ProofCursor) (r : Axiom) (d : ProofView)
      → head text levels here ≡ Ok (rules.Axiom r, there) → d ≡ by_axiom r
      → IsProof text levels here there d
  one_premise : (levels : ℕ) (here first mid there : ProofCursor) (r : OnePremise) (p d : ProofView)
      → head text levels here ≡ Ok (rules.One r, first) → IsProof text (levels - 1) first mid p
      → cursor_after_sign text signs.Close mid ≡ Ok there → d ≡ by_one r p
      → IsProof text levels here there d
  two_premises : (levels : ℕ) (here first mid second last there : ProofCursor) (r : TwoPremises) (p q d : ProofView)
      → head text levels here ≡ Ok (rules.Two r, first)
      → IsProof text (levels - 1) first mid p → cursor_after_sign text signs.Comma mid ≡ Ok second
      → IsProof text (levels - 1) second last q → cursor_after_sign text signs.Close last ≡ Ok there
      → d ≡ by_two r p q → IsProof text levels here there d
