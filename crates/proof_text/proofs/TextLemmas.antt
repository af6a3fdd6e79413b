-- A text is one proof or has one fault.
use Rattle.std.proofs.Common.{◌≡◌, ℕ, List, sym, ap, ◌∙◌, Result, Ok, Err, inl, inr}
use Rattle.std.specs.Prelude.{IfOk, IfErr, MatchResult}
use Rattle.bl_tokens.specs.declared.faults.TextFault.{TextFault}
use Rattle.bl_tokens.specs.declared.faults.TextFault.TheVariants.{NoMemory}
use Rattle.bl_text.specs.Texts.{AreOneFault}
use Rattle.proof_term.specs.Proof.{ProofView}
use Rattle.proof_text.specs.declared.cursor.ProofCursor.{ProofCursor}
use Rattle.proof_text.specs.Proofs.{IsProof}
use Rattle.proof_text.specs.Texts.{at_end, IsProofText, whole_proof, ProofTextFault, in_proof, behind_proof}
use Rattle.proof_text.proofs.Reader.{Read, reads, Fails, stops}

one_value : {A : Type 0} {r : Result A TextFault} {x y : A} → r ≡ Ok x → r ≡ Ok y → x ≡ y
one_value {A} {r} {x} {y} h k = let both : ◌≡◌ {A = Result A TextFault} (Ok x) (Ok y) = sym h ∙ k in cc

one_error : {A : Type 0} {r : Result A TextFault} {e f : TextFault} → r ≡ Err e → r ≡ Err f → e ≡ f
one_error {A} {r} {e} {f} h k = let both : ◌≡◌ {A = Result A TextFault} (Err e) (Err f) = sym h ∙ k in cc

never_both : {A : Type 0} {r : Result A TextFault} {x : A} {e : TextFault} → r ≡ Ok x → r ≡ Err e → ⊥
never_both {A} {r} {x} {e} h k = let both : ◌≡◌ {A = Result A TextFault} (Ok x) (Err e) = sym h ∙ k in cc

-- what is read does not stop
read_or_stop : {r : Read} {p : ProofView × ProofCursor} {e : TextFault} → r ≡ Ok p → Fails r e → e ≡ NoMemory
read_or_stop h (inl k) = k
read_or_stop h (inr k) = absurd (never_both h k)

one_stop : {r : Read} {e f : TextFault} → Fails r e → Fails r f → AreOneFault e f
one_stop (inl h) k = inl h
one_stop (inr h) (inl k) = inr (inl k)
one_stop (inr h) (inr k) = inr (inr (one_error h k))

ends_once : {text : List ℕ} {levels : ℕ} {here there there' : ProofCursor} {d d' : ProofView} → IsProof text levels here there d → IsProof text levels here there' d' → there ≡ there'
ends_once h k = ap (λ (p : ProofView × ProofCursor). p.1) (one_value (reads h) (reads k))

pub proof_once : {text : List ℕ} {d d' : ProofView} → IsProofText text d → IsProofText text d' → d ≡ d'
proof_once (whole_proof there h end) (whole_proof there' k end') = ap (λ (p : ProofView × ProofCursor). p.0) (one_value (reads h) (reads k))

pub proof_or_fault : {text : List ℕ} {d : ProofView} {e : TextFault} → IsProofText text d → ProofTextFault text e → e ≡ NoMemory
proof_or_fault (whole_proof there h end) (in_proof e s) = read_or_stop (reads h) (stops s)
proof_or_fault {text} (whole_proof there h end) (behind_proof there' d' e k more) = absurd (never_both (ap (at_end text) (sym (ends_once h k)) ∙ end) more)

pub fault_once : {text : List ℕ} {e f : TextFault} → ProofTextFault text e → ProofTextFault text f → AreOneFault e f
fault_once (in_proof e s) (in_proof f t) = one_stop (stops s) (stops t)
fault_once (in_proof e s) (behind_proof there d f k more) = inl (read_or_stop (reads k) (stops s))
fault_once (behind_proof there d e k more) (in_proof f t) = inr (inl (read_or_stop (reads k) (stops t)))
fault_once {text} (behind_proof there d e h more) (behind_proof there' d' f k more') = inr (inr (one_error (ap (at_end text) (sym (ends_once h k)) ∙ more) more'))

-- ---- what a reading answers

pub only_proof : (text : List ℕ) (r : Result ProofView TextFault) → IfOk r (IsProofText text) → IfErr r (ProofTextFault text) → (d : ProofView) → IsProofText text d
    → MatchResult r (λ p. p ≡ d) (λ e. e ≡ NoMemory)
only_proof text (Ok p) read fault d is = proof_once read is
only_proof text (Err e) read fault d is = proof_or_fault is fault

pub only_fault : (text : List ℕ) (r : Result ProofView TextFault) → IfOk r (IsProofText text) → IfErr r (ProofTextFault text) → (e : TextFault) → ProofTextFault text e
    → MatchResult r (λ p. e ≡ NoMemory) (λ d. AreOneFault d e)
only_fault text (Ok p) read fault e h = proof_or_fault read h
only_fault text (Err d) read fault e h = fault_once fault h
