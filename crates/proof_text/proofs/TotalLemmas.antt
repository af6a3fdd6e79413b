-- At each place of a text a proof is read, or it stops there for another reason than out of memory. So each text is one of a proof or has such a fault.
use Rattle.std.proofs.Common.{◌≡◌, ℕ, zero, suc, ◌-◌, ◌≤◌, List, refl, arith, Ok, ◌⊎◌, inl, inr}
use Rattle.std.specs.Prelude.{◌≢◌}
use Rattle.bl_tokens.specs.declared.faults.TextFault.{TextFault}
use Rattle.bl_tokens.specs.declared.faults.TextFault.TheVariants.{NoMemory}
use Rattle.bl_tokens.specs.declared.tokens.Sign.TheVariants as signs
use Rattle.bl_text.proofs.PieceTotalLemmas.{IsOfText, Any, answered}
use Rattle.proof_term.specs.declared.rule.Rule.{Rule}
use Rattle.proof_term.specs.declared.rule.Rule.TheVariants.{Axiom, One, Two}
use Rattle.proof_term.specs.Proof.{ProofView}
use Rattle.proof_term.specs.Rules.{by_axiom, by_one, by_two}
use Rattle.proof_text.specs.declared.cursor.ProofCursor.{ProofCursor}
use Rattle.proof_text.specs.Cursor.{cursor_after_sign}
use Rattle.proof_text.specs.Heads.{head}
use Rattle.proof_text.specs.Proofs.{IsProof, no_premise, one_premise, two_premises}
use Rattle.proof_text.specs.FirstFaults.{ProofHasFirstFault, in_head, in_premise, behind_premise, in_first, behind_first, in_second, behind_second}
use Rattle.proof_text.specs.Texts.{beginning, at_end, IsProofText, whole_proof, ProofTextFault, in_proof, behind_proof}
use Rattle.proof_text.proofs.HeadTotalLemmas.{sign_answers, ended_answers, head_answers}

-- a proof of at most so many levels is read there up to another place, or stops
data Outcome (text : List ℕ) (levels : ℕ) (here : ProofCursor) : Type 0 where
  reads : (there : ProofCursor) (d : ProofView) → IsProof text levels here there d → Outcome text levels here
  stops : (e : TextFault) → ProofHasFirstFault text levels here e → IsOfText e → Outcome text levels here

come_out : {text : List ℕ} {levels : ℕ} {here : ProofCursor} {V : Type 0} → Outcome text levels here → ((there : ProofCursor) (d : ProofView) → IsProof text levels here there d → V) → ((e : TextFault) → ProofHasFirstFault text levels here e → IsOfText e → V) → V
come_out (reads there d is) read stopped = read there d is
come_out (stops e h n) read stopped = stopped e h n

-- what stands after a head is read where its premises are
premises_out : (text : List ℕ) (levels : ℕ) (here : ProofCursor) (r : Rule) (first : ProofCursor) → head text levels here ≡ Ok (r, first) → ((place : ProofCursor) → Outcome text (levels - 1) place) → Outcome text levels here
premises_out text levels here (Axiom r) first is next = reads first (by_axiom r) (no_premise levels here first r (by_axiom r) is refl)
premises_out text levels here (One r) first is next =
    come_out (next first)
    (λ mid p i. answered Any (cursor_after_sign text signs.Close mid) (sign_answers text signs.Close mid)
    (λ there close _. reads there (by_one r p) (one_premise levels here first mid there r p (by_one r p) is i close refl))
    (λ e close n. stops e (behind_premise levels here first mid r p e is i close) n))
    (λ e h n. stops e (in_premise levels here first r e is h) n)
premises_out text levels here (Two r) first is next =
    come_out (next first)
    (λ mid p i. answered Any (cursor_after_sign text signs.Comma mid) (sign_answers text signs.Comma mid)
    (λ second comma _. come_out (next second)
    (λ last q j. answered Any (cursor_after_sign text signs.Close last) (sign_answers text signs.Close last)
    (λ there close _. reads there (by_two r p q) (two_premises levels here first mid second last there r p q (by_two r p q) is i comma j close refl))
    (λ e close n. stops e (behind_second levels here first mid second last r p q e is i comma j close) n))
    (λ e h n. stops e (in_second levels here first mid second r p e is i comma h) n))
    (λ e comma n. stops e (behind_first levels here first mid r p e is i comma) n))
    (λ e h n. stops e (in_first levels here first r e is h) n)

-- each rule takes a level
proof_out : (text : List ℕ) (most levels : ℕ) (here : ProofCursor) → levels ≤ most → Outcome text levels here
proof_out text zero levels here few = answered _ (head text levels here) (head_answers text levels here) (λ h is some. absurd (omega arith)) (λ e is n. stops e (in_head levels here e is) n)
proof_out text (suc most) levels here few =
    answered _ (head text levels here) (head_answers text levels here) (λ h is some. premises_out text levels here h.0 h.1 is (λ place. proof_out text most (levels - 1) place (omega arith))) (λ e is n. stops e (in_head levels here e is) n)

pub proof_or_its_fault : (text : List ℕ) → ((p : ProofView) × IsProofText text p) ⊎ ((e : TextFault) × ProofTextFault text e × (e ≢ NoMemory))
proof_or_its_fault text =
    come_out (proof_out text 200 200 beginning (omega arith))
    (λ there d i. answered Any (at_end text there) (ended_answers text there) (λ u end _. inl (d, whole_proof there i end)) (λ e more n. inr (e, behind_proof there d e i more, n)))
    (λ e h n. inr (e, in_proof e h, n))
