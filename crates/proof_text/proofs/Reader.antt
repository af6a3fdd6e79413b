-- A reader that computes what a text's first proof is, or its first fault. It serves the proof that the texts of proofs and their faults are determined; no contract speaks of it.
use Rattle.std.proofs.Common.{◌≡◌, ℕ, zero, suc, ◌-◌, Bool, true, false, List, refl, sym, ap, ◌∙◌, arith, Result, Ok, Err, ◌⊎◌, inl, inr}
use Rattle.std.specs.Prelude.{◌&&◌, nat_le, if◌then◌else◌}
use Rattle.bl_tokens.specs.declared.faults.TextFault.{TextFault}
use Rattle.bl_tokens.specs.declared.faults.TextFault.TheVariants.{TooLarge, NoMemory}
use Rattle.bl_tokens.specs.declared.tokens.Sign.TheVariants as signs
use Rattle.bl_text.specs.Pieces.{◌>>=◌}
use Rattle.proof_term.specs.declared.rule.Rule.{Rule}
use Rattle.proof_term.specs.declared.rule.Rule.TheVariants.{Axiom, One, Two}
use Rattle.proof_term.specs.Proof.{ProofView}
use Rattle.proof_term.specs.Rules.{by_axiom, by_one, by_two}
use Rattle.proof_text.specs.declared.cursor.ProofCursor.{ProofCursor}
use Rattle.proof_text.specs.Cursor.{first_byte, cursor_after_sign, rule_at, room, take_rule}
use Rattle.proof_text.specs.Heads.{head, named_head}
use Rattle.proof_text.specs.Proofs.{IsProof, no_premise, one_premise, two_premises}
use Rattle.proof_text.specs.FirstFaults.{ProofHasFirstFault, no_memory, in_head, in_premise, behind_premise, in_first, behind_first, in_second, behind_second}

abbrev pub Read : Type 0
Read = Result (ProofView × ProofCursor) TextFault

abbrev pub premises : (ProofCursor → Read) → List ℕ → Rule → ProofCursor → Read
premises at text (Axiom r) place = Ok (by_axiom r, place)
premises at text (One r) place = at place >>= (λ p. cursor_after_sign text signs.Close p.1 >>= (λ there. Ok (by_one r p.0, there)))
premises at text (Two r) place = at place >>= (λ p. cursor_after_sign text signs.Comma p.1 >>= (λ second. at second >>= (λ q. cursor_after_sign text signs.Close q.1 >>= (λ there. Ok (by_two r p.0 q.0, there)))))

abbrev pub reading : List ℕ → ℕ → ProofCursor → Read
reading text zero here = head text 0 here >>= (λ h. Err NoMemory)
reading text (suc n) here = head text (suc n) here >>= (λ h. premises (reading text n) text h.0 h.1)

-- ---- a head needs a level

bind_ok : {A B : Type 0} (r : Result A TextFault) (f : A → Result B TextFault) (y : B) → (r >>= f) ≡ Ok y → (x : A) × (r ≡ Ok x) × (f x ≡ Ok y)
bind_ok (Ok x) f y e = (x, refl, e)
bind_ok (Err d) f y e = absurd cc

no_level : (b : Bool) (e : TextFault) → ◌≡◌ {A = Result (Unit {0}) TextFault} (if b && nat_le 1 0 then Ok tt else Err e) (Err e)
no_level true e = refl
no_level false e = refl

no_room : (text : List ℕ) (here : ProofCursor) → room text 0 here ≡ Err (TooLarge (first_byte text here))
unfolding room
no_room text here = no_level (nat_le 1 here.left) (TooLarge (first_byte text here))

head_zero : (text : List ℕ) (here : ProofCursor) (h : Rule × ProofCursor) → head text 0 here ≡ Ok h → ⊥
unfolding head
head_zero text here h e =
    let named = bind_ok (rule_at text here) (λ name. room text 0 here >>= (λ _. named_head text name.0 (take_rule name.1))) h e in
    let taken = bind_ok (room text 0 here) (λ _. named_head text named.0.0 (take_rule named.0.1)) h named.2 in
    let never : ◌≡◌ {A = Result (Unit {0}) TextFault} (Err (TooLarge (first_byte text here))) (Ok taken.0) = sym (no_room text here) ∙ taken.1 in cc

-- ---- the reader finds each text, and each fault

step : (text : List ℕ) (levels : ℕ) (here : ProofCursor) (h : Rule × ProofCursor) → head text levels here ≡ Ok h → reading text levels here ≡ premises (reading text (levels - 1)) text h.0 h.1
step text zero here h e = absurd (head_zero text here h e)
step text (suc n) here h e =
    let below : n ≡ suc n - 1 = omega arith in
    ap (λ (r : Result (Rule × ProofCursor) TextFault). r >>= (λ h. premises (reading text n) text h.0 h.1)) e ∙ ap (λ k. premises (reading text k) text h.0 h.1) below

fails : (text : List ℕ) (levels : ℕ) (here : ProofCursor) (e : TextFault) → head text levels here ≡ Err e → reading text levels here ≡ Err e
fails text zero here e h = ap (λ (r : Result (Rule × ProofCursor) TextFault). r >>= (λ h. Err NoMemory)) h
fails text (suc n) here e h = ap (λ (r : Result (Rule × ProofCursor) TextFault). r >>= (λ h. premises (reading text n) text h.0 h.1)) h

pub reads : {text : List ℕ} {levels : ℕ} {here there : ProofCursor} {d : ProofView} → IsProof text levels here there d → reading text levels here ≡ Ok (d, there)
reads {text} (no_premise levels here there r d e is) = step text levels here (Axiom r, there) e ∙ ap (λ x. Ok (x, there)) (sym is)
reads {text} (one_premise levels here first mid there r p d e h close is) =
    step text levels here (One r, first) e
    ∙ ap (λ (x : Read). x >>= (λ p. cursor_after_sign text signs.Close p.1 >>= (λ there. Ok (by_one r p.0, there)))) (reads h)
    ∙ ap (λ (x : Result ProofCursor TextFault). x >>= (λ there. Ok (by_one r p, there))) close ∙ ap (λ x. Ok (x, there)) (sym is)
reads {text} (two_premises levels here first mid second last there r p q d e h comma k close is) =
    step text levels here (Two r, first) e
    ∙ ap (λ (x : Read). x >>= (λ p. cursor_after_sign text signs.Comma p.1 >>= (λ second. reading text (levels - 1) second >>= (λ q. cursor_after_sign text signs.Close q.1 >>= (λ there. Ok (by_two r p.0 q.0, there)))))) (reads h)
    ∙ ap (λ (x : Result ProofCursor TextFault). x >>= (λ second. reading text (levels - 1) second >>= (λ q. cursor_after_sign text signs.Close q.1 >>= (λ there. Ok (by_two r p q.0, there))))) comma
    ∙ ap (λ (x : Read). x >>= (λ q. cursor_after_sign text signs.Close q.1 >>= (λ there. Ok (by_two r p q.0, there)))) (reads k)
    ∙ ap (λ (x : Result ProofCursor TextFault). x >>= (λ there. Ok (by_two r p q, there))) close ∙ ap (λ x. Ok (x, there)) (sym is)

-- memory was refused, or the reader has the fault
abbrev pub Fails : Read → TextFault → Type 0
Fails r e = (e ≡ NoMemory) ⊎ (r ≡ Err e)

onward : {A B : Type 0} (r : Result A TextFault) (s : Result B TextFault) (e : TextFault) → (r ≡ Err e → s ≡ Err e) → (e ≡ NoMemory) ⊎ (r ≡ Err e) → (e ≡ NoMemory) ⊎ (s ≡ Err e)
onward r s e f (inl h) = inl h
onward r s e f (inr h) = inr (f h)

pub stops : {text : List ℕ} {levels : ℕ} {here : ProofCursor} {e : TextFault} → ProofHasFirstFault text levels here e → Fails (reading text levels here) e
stops {text} (no_memory levels here) = inl refl
stops {text} (in_head levels here e h) = inr (fails text levels here e h)
stops {text} (in_premise levels here first r e h s) =
    onward (reading text (levels - 1) first) (reading text levels here) e
    (λ k. step text levels here (One r, first) h ∙ ap (λ (x : Read). x >>= (λ p. cursor_after_sign text signs.Close p.1 >>= (λ there. Ok (by_one r p.0, there)))) k) (stops s)
stops {text} (behind_premise levels here first mid r p e h i close) =
    inr (step text levels here (One r, first) h
    ∙ ap (λ (x : Read). x >>= (λ p. cursor_after_sign text signs.Close p.1 >>= (λ there. Ok (by_one r p.0, there)))) (reads i)
    ∙ ap (λ (x : Result ProofCursor TextFault). x >>= (λ there. Ok (by_one r p, there))) close)
stops {text} (in_first levels here first r e h s) =
    onward (reading text (levels - 1) first) (reading text levels here) e
    (λ k. step text levels here (Two r, first) h
    ∙ ap (λ (x : Read). x >>= (λ p. cursor_after_sign text signs.Comma p.1 >>= (λ second. reading text (levels - 1) second >>= (λ q. cursor_after_sign text signs.Close q.1 >>= (λ there. Ok (by_two r p.0 q.0, there)))))) k) (stops s)
stops {text} (behind_first levels here first mid r p e h i comma) =
    inr (step text levels here (Two r, first) h
    ∙ ap (λ (x : Read). x >>= (λ p. cursor_after_sign text signs.Comma p.1 >>= (λ second. reading text (levels - 1) second >>= (λ q. cursor_after_sign text signs.Close q.1 >>= (λ there. Ok (by_two r p.0 q.0, there)))))) (reads i)
    ∙ ap (λ (x : Result ProofCursor TextFault). x >>= (λ second. reading text (levels - 1) second >>= (λ q. cursor_after_sign text signs.Close q.1 >>= (λ there. Ok (by_two r p q.0, there))))) comma)
stops {text} (in_second levels here first mid second r p e h i comma s) =
    onward (reading text (levels - 1) second) (reading text levels here) e
    (λ k. step text levels here (Two r, first) h
    ∙ ap (λ (x : Read). x >>= (λ p. cursor_after_sign text signs.Comma p.1 >>= (λ second. reading text (levels - 1) second >>= (λ q. cursor_after_sign text signs.Close q.1 >>= (λ there. Ok (by_two r p.0 q.0, there)))))) (reads i)
    ∙ ap (λ (x : Result ProofCursor TextFault). x >>= (λ second. reading text (levels - 1) second >>= (λ q. cursor_after_sign text signs.Close q.1 >>= (λ there. Ok (by_two r p q.0, there))))) comma
    ∙ ap (λ (x : Read). x >>= (λ q. cursor_after_sign text signs.Close q.1 >>= (λ there. Ok (by_two r p q.0, there)))) k) (stops s)
stops {text} (behind_second levels here first mid second last r p q e h i comma j close) =
    inr (step text levels here (Two r, first) h
    ∙ ap (λ (x : Read). x >>= (λ p. cursor_after_sign text signs.Comma p.1 >>= (λ second. reading text (levels - 1) second >>= (λ q. cursor_after_sign text signs.Close q.1 >>= (λ there. Ok (by_two r p.0 q.0, there)))))) (reads i)
    ∙ ap (λ (x : Result ProofCursor TextFault). x >>= (λ second. reading text (levels - 1) second >>= (λ q. cursor_after_sign text signs.Close q.1 >>= (λ there. Ok (by_two r p q.0, there))))) comma
    ∙ ap (λ (x : Read). x >>= (λ q. cursor_after_sign text signs.Close q.1 >>= (λ there. Ok (by_two r p q.0, there)))) (reads j)
    ∙ ap (λ (x : Result ProofCursor TextFault). x >>= (λ there. Ok (by_two r p q, there))) close)
