-- Reading a proof's bytes takes no memory: neither a proof nor a term of it has the fault that memory ran out.
use Rattle.std.proofs.Common.{◌≡◌, ◌-◌, ℕ, zero, suc, Bool, true, false, cond, eqb, List, [], ◌∷◌, Result, Ok, Err, refl, subst}
use Rattle.std.specs.Prelude.{◌||◌}
use Rattle.std.specs.Int.{w16}
use Rattle.bl_syntax.specs.declared.codec_fault.CodecFault.{CodecFault}
use Rattle.bl_syntax.specs.declared.codec_fault.CodecFault.TheVariants as codec
use Rattle.bl_syntax.specs.declared.terms.Term.{Term}
use Rattle.bl_syntax.specs.Reading.{place, number_at, term_at}
use Rattle.bl_syntax.proofs.FieldLemmas.{number_memoryless}
use Rattle.bl_syntax.proofs.TermLemmas.{term_memoryless}
use Rattle.proof_term.specs.declared.fault.ProofFault.{ProofFault}
use Rattle.proof_term.specs.declared.fault.ProofFault.TheVariants.{Short, BadTag, BadTerm, TooLarge, TooDeep, NoMemory}
use Rattle.proof_term.specs.declared.rule.Rule.{Rule}
use Rattle.proof_term.specs.declared.rule.Rule.TheVariants.{Axiom, One, Two}
use Rattle.proof_term.specs.declared.rule.Axiom.TheVariants.{Init, FalseL}
use Rattle.proof_term.specs.declared.rule.OnePremise.TheVariants.{ExistsR, ConsL, InterL, AndL, ForallL, ExistsL, SaysL, Claim, AtL}
use Rattle.proof_term.specs.declared.rule.TwoPremises.TheVariants.{OrL, ImpL}
use Rattle.proof_term.specs.Faults.{of_field}
use Rattle.proof_term.specs.Rules.{by_one, by_two}
use Rattle.proof_term.specs.ProofReading.{◌>>=◌, field, ProofReading, of_hypothesis, of_term, interval_at, is_right, is_left, right_rule_at, left_rule_at, rule_at, rule_within, premises_at, proof_at, kept_proof_at}

-- a fault other than that memory ran out, in the proof or in a term of it
abbrev IsOfBytes : ProofFault → Type 0
IsOfBytes Short = Unit {0}
IsOfBytes (BadTag at) = Unit {0}
IsOfBytes (BadTerm codec.Short) = Unit {0}
IsOfBytes (BadTerm (codec.BadTag at)) = Unit {0}
IsOfBytes (BadTerm (codec.NotCanonical at)) = Unit {0}
IsOfBytes (BadTerm (codec.TooLarge at)) = Unit {0}
IsOfBytes (BadTerm codec.NoMemory) = ⊥
IsOfBytes (TooLarge at) = Unit {0}
IsOfBytes (TooDeep at) = Unit {0}
IsOfBytes NoMemory = ⊥

-- a reading that fails, if it does, by its bytes
abbrev IsMemoryless : {A : Type 0} → Result A ProofFault → Type 0
IsMemoryless (Ok x) = Unit {0}
IsMemoryless (Err d) = IsOfBytes d

-- a step fails by its bytes if the first part does, and the second
bind_memoryless : {A B : Type 0} (r : Result A ProofFault) (f : A → Result B ProofFault) → IsMemoryless r → ((x : A) → IsMemoryless (f x)) → IsMemoryless (r >>= f)
bind_memoryless (Ok x) f first second = second x
bind_memoryless (Err d) f first second = first

test_memoryless : {A : Type 0} (b : Bool) (x y : Result A ProofFault) → IsMemoryless x → IsMemoryless y → IsMemoryless (cond b x y)
test_memoryless true x y first second = first
test_memoryless false x y first second = second

of_field_memoryless : (d : CodecFault) → (d ≡ codec.NoMemory → ⊥) → IsOfBytes (of_field d)
of_field_memoryless codec.Short h = tt
of_field_memoryless (codec.BadTag at) h = tt
of_field_memoryless (codec.NotCanonical at) h = tt
of_field_memoryless (codec.TooLarge at) h = tt
of_field_memoryless codec.NoMemory h = h refl

field_memoryless : {A : Type 0} (r : Result A CodecFault) → (r ≡ Err codec.NoMemory → ⊥) → IsMemoryless (field r)
field_memoryless (Ok x) h = tt
field_memoryless (Err d) h = of_field_memoryless d (λ is. h cc)

hypothesis_memoryless : (bytes : List ℕ) → IsMemoryless (field (number_at w16 bytes))
hypothesis_memoryless bytes = field_memoryless (number_at w16 bytes) (number_memoryless w16 bytes)

named_memoryless : (input : ℕ) (bytes : List ℕ) → IsMemoryless (field (term_at input bytes))
named_memoryless input bytes = field_memoryless (term_at input bytes) (term_memoryless input bytes)

of_hypothesis_memoryless : (rule : ℕ → Rule) (bytes : List ℕ) → IsMemoryless (of_hypothesis rule bytes)
of_hypothesis_memoryless rule bytes = bind_memoryless (field (number_at w16 bytes)) (λ h. Ok (rule h.0, h.1)) (hypothesis_memoryless bytes) (λ x. tt)

of_term_memoryless : (rule : Term → Rule) (input : ℕ) (bytes : List ℕ) → IsMemoryless (of_term rule input bytes)
of_term_memoryless rule input bytes = bind_memoryless (field (term_at input bytes)) (λ t. Ok (rule t.0, t.1)) (named_memoryless input bytes) (λ x. tt)

interval_memoryless : (input h : ℕ) (bytes : List ℕ) → IsMemoryless (interval_at input h bytes)
interval_memoryless input h bytes =
    bind_memoryless (field (term_at input bytes)) (λ t. of_term (λ u. Two (ImpL h t.0 u)) input t.1) (named_memoryless input bytes) (λ x. of_term_memoryless (λ u. Two (ImpL h x.0 u)) input x.1)

right_memoryless : (input start tag : ℕ) (rest : List ℕ) → IsMemoryless (right_rule_at input start tag rest)
unfolding right_rule_at
right_memoryless input start tag rest =
    test_memoryless (eqb tag 0x01) _ _ (of_hypothesis_memoryless (λ k. Axiom (Init k)) rest) (
    test_memoryless (eqb tag 0x02) _ _ tt (
    test_memoryless (eqb tag 0x03) _ _ tt (
    test_memoryless (eqb tag 0x04) _ _ tt (
    test_memoryless (eqb tag 0x05) _ _ tt (
    test_memoryless (eqb tag 0x06) _ _ tt (
    test_memoryless (eqb tag 0x07) _ _ tt (
    test_memoryless (eqb tag 0x08) _ _ tt (
    test_memoryless (eqb tag 0x09) _ _ tt (
    test_memoryless (eqb tag 0x0a) _ _ (of_term_memoryless (λ k. One (ExistsR k)) input rest) (
    test_memoryless (eqb tag 0x0b) _ _ tt (
    test_memoryless (eqb tag 0x0c) _ _ tt tt)))))))))))

left_memoryless : (input start tag : ℕ) (rest : List ℕ) → IsMemoryless (left_rule_at input start tag rest)
unfolding left_rule_at
left_memoryless input start tag rest =
    test_memoryless (eqb tag 0x11) _ _ (of_hypothesis_memoryless (λ k. One (ConsL k)) rest) (
    test_memoryless (eqb tag 0x12) _ _ (of_hypothesis_memoryless (λ k. One (InterL k)) rest) (
    test_memoryless (eqb tag 0x13) _ _ (of_hypothesis_memoryless (λ k. One (AndL k)) rest) (
    test_memoryless (eqb tag 0x14) _ _ (of_hypothesis_memoryless (λ k. Two (OrL k)) rest) (
    test_memoryless (eqb tag 0x15) _ _ (of_hypothesis_memoryless (λ k. Axiom (FalseL k)) rest) (
    test_memoryless (eqb tag 0x16) _ _ (bind_memoryless (field (number_at w16 rest)) (λ x. interval_at input x.0 x.1) (hypothesis_memoryless rest) (λ x. interval_memoryless input x.0 x.1)) (
    test_memoryless (eqb tag 0x17) _ _ (bind_memoryless (field (number_at w16 rest)) (λ x. of_term (λ u. One (ForallL x.0 u)) input x.1) (hypothesis_memoryless rest) (λ x. of_term_memoryless (λ u. One (ForallL x.0 u)) input x.1)) (
    test_memoryless (eqb tag 0x18) _ _ (of_hypothesis_memoryless (λ k. One (ExistsL k)) rest) (
    test_memoryless (eqb tag 0x19) _ _ (of_hypothesis_memoryless (λ k. One (SaysL k)) rest) (
    test_memoryless (eqb tag 0x1a) _ _ (of_hypothesis_memoryless (λ k. One (Claim k)) rest) (
    test_memoryless (eqb tag 0x1b) _ _ (of_hypothesis_memoryless (λ k. One (AtL k)) rest) tt))))))))))

rule_memoryless : (levels nodes input : ℕ) (bytes : List ℕ) → IsMemoryless (rule_within levels nodes input bytes)
unfolding rule_within rule_at
rule_memoryless levels nodes input [] = tt
rule_memoryless levels nodes input (tag ∷ rest) =
    test_memoryless (is_right tag || is_left tag) _ _ (
    test_memoryless (eqb nodes 0) _ _ tt (
    test_memoryless (eqb levels 0) _ _ tt (
    test_memoryless (is_right tag) _ _ (right_memoryless input (place input (tag ∷ rest)) tag rest) (left_memoryless input (place input (tag ∷ rest)) tag rest)))) tt

-- each reading at some levels fails by its bytes
abbrev AreMemoryless : (ℕ → List ℕ → ProofReading) → Type 0
AreMemoryless at = (nodes : ℕ) (bytes : List ℕ) → IsMemoryless (at nodes bytes)

premises_memoryless : (at : ℕ → List ℕ → ProofReading) → AreMemoryless at → (r : Rule) (nodes : ℕ) (bytes : List ℕ) → IsMemoryless (premises_at at r nodes bytes)
premises_memoryless at h (Axiom r) nodes bytes = tt
premises_memoryless at h (One r) nodes bytes = bind_memoryless (at nodes bytes) (λ p. Ok (by_one r p.0, p.1)) (h nodes bytes) (λ x. tt)
premises_memoryless at h (Two r) nodes bytes =
    bind_memoryless (at nodes bytes) (λ p. at p.1.0 p.1.1 >>= λ q. Ok (by_two r p.0 q.0, q.1)) (h nodes bytes)
    (λ x. bind_memoryless (at x.1.0 x.1.1) (λ q. Ok (by_two r x.0 q.0, q.1)) (h x.1.0 x.1.1) (λ y. tt))

proof_memoryless : (levels input : ℕ) → AreMemoryless (λ nodes bytes. proof_at levels nodes input bytes)
unfolding proof_at
proof_memoryless zero input nodes bytes = bind_memoryless (rule_within 0 nodes input bytes) (λ rule. Err Short) (rule_memoryless 0 nodes input bytes) (λ x. tt)
proof_memoryless (suc levels) input nodes bytes =
    bind_memoryless (rule_within (suc levels) nodes input bytes) (λ rule. premises_at (λ some next. proof_at levels some input next) rule.0 (nodes - 1) rule.1) (rule_memoryless (suc levels) nodes input bytes)
    (λ x. premises_memoryless (λ some next. proof_at levels some input next) (proof_memoryless levels input) x.0 (nodes - 1) x.1)

kept_fails_by_bytes : (input : ℕ) (bytes : List ℕ) → IsMemoryless (kept_proof_at input bytes)
unfolding kept_proof_at
kept_fails_by_bytes input bytes = bind_memoryless (proof_at 200 4096 input bytes) (λ x. Ok (x.0, x.1.1)) (proof_memoryless 200 input 4096 bytes) (λ x. tt)

pub kept_memoryless : (input : ℕ) (bytes : List ℕ) → kept_proof_at input bytes ≡ Err NoMemory → ⊥
kept_memoryless input bytes e = subst IsMemoryless e (kept_fails_by_bytes input bytes)

-- no term of a proof that is read has that fault either
pub kept_terms_memoryless : (input : ℕ) (bytes : List ℕ) → kept_proof_at input bytes ≡ Err (BadTerm codec.NoMemory) → ⊥
kept_terms_memoryless input bytes e = subst IsMemoryless e (kept_fails_by_bytes input bytes)
