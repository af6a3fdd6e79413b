-- Proofs are read steadily.
use Rattle.std.proofs.Common.{◌≡◌, ℕ, zero, suc, ◌-◌, List, [], ◌∷◌, ◌++◌, Result, Ok, Err, refl, sym, ap, subst, ◌∙◌}
use Rattle.std.specs.Prelude.{◌==◌, ◌||◌, IsErr}
use Rattle.std.specs.Int.{w16}
use Rattle.std.proofs.lemmas.Bool.{false≢true}
use Rattle.bl_syntax.specs.declared.codec_fault.CodecFault.{CodecFault}
use Rattle.bl_syntax.specs.declared.codec_fault.CodecFault.TheVariants as codec
use Rattle.bl_syntax.specs.declared.terms.Term.{Term}
use Rattle.bl_syntax.specs.Reading.{number_at, term_at}
use Rattle.proof_term.specs.declared.fault.ProofFault.{ProofFault}
use Rattle.proof_term.specs.declared.fault.ProofFault.TheVariants.{Short}
use Rattle.proof_term.specs.declared.rule.Rule.{Rule}
use Rattle.proof_term.specs.declared.rule.Rule.TheVariants.{Axiom, One, Two}
use Rattle.proof_term.specs.declared.rule.Axiom.TheVariants.{Init, ConsR, InterR, TrueR, FalseL}
use Rattle.proof_term.specs.declared.rule.OnePremise.TheVariants.{OrR1, OrR2, ImpR, ForallR, ExistsR, SaysR, AtR, ConsL, InterL, AndL, ForallL, ExistsL, SaysL, Claim, AtL}
use Rattle.proof_term.specs.declared.rule.TwoPremises.TheVariants.{AndR, OrL, ImpL}
use Rattle.proof_term.specs.Rules.{by_axiom, by_one, by_two}
use Rattle.proof_term.specs.Faults.{of_field}
use Rattle.proof_term.specs.ProofReading.{◌>>=◌, field, RuleReading, ProofReading, of_hypothesis, of_term, of_instance, interval_at, is_right, is_left, right_rule_at, left_rule_at, rule_at, premises_at, rule_within, proof_at, kept_proof_at}
use Rattle.reader_laws.proofs.ExtendedLemmas.{Extended, behind, done, cut, faults, either_way}
use Rattle.reader_laws.proofs.FieldLemmas.{numbers, terms}

err_is : {X : Type 0} (d e : ProofFault) → (let failed : ProofFault → Result X ProofFault = λ fault. Err fault in failed d ≡ failed e) → d ≡ e
err_is d e is = cc

fails_on : {X Y : Type 0} (s : Result X ProofFault) (g : X → Result Y ProofFault) → IsErr s → IsErr (s >>= g)
fails_on (Ok x) g fails = absurd (false≢true fails)
fails_on (Err d) g fails = refl

-- one reading, and then another
one_then : {X Y : Type 0} (longer : X → X) (further : Y → Y) (r s : Result X ProofFault) (f g : X → Result Y ProofFault) →
    Extended Short longer r s → ((x : X) → Extended Short further (f x) (g (longer x))) → Extended Short further (r >>= f) (s >>= g)
one_then {X} {Y} longer further (Ok x) s f g first next =
    subst (λ (t : Result X ProofFault). Extended Short further (f x) (t >>= g)) (sym (first.ok x refl)) (next x)
one_then {X} {Y} longer further (Err d) s f g first next = record {
  ok = λ y e. absurd cc;
  err = λ fault e other. fails_on s g (first.err d refl (λ is. other (sym (err_is d fault e) ∙ is)));
}

fails_as_field : {A : Type 0} (s : Result A CodecFault) → IsErr s → IsErr (field s)
fails_as_field (Ok x) fails = absurd (false≢true fails)
fails_as_field (Err d) fails = refl

-- a field
fielded : {A : Type 0} (longer : A → A) (r s : Result A CodecFault) → Extended codec.Short longer r s → Extended Short longer (field r) (field s)
fielded {A} longer (Ok x) s first =
    subst (λ (t : Result A CodecFault). Extended Short longer (Ok x) (field t)) (sym (first.ok x refl)) (done Short longer x)
fielded {A} longer (Err d) s first = record {
  ok = λ y e. absurd cc;
  err = λ fault e other. fails_as_field s (first.err d refl (λ is. other (sym (err_is (of_field d) fault e) ∙ ap of_field is)));
}

-- one reading of a rule, and one of the same bytes and more after them
abbrev RulesOn : (List ℕ → RuleReading) → (List ℕ → RuleReading) → Type 0
RulesOn first second = (bytes more : List ℕ) → Extended Short (behind more) (first bytes) (second (bytes ++ more))

hypotheses : (rule : ℕ → Rule) → RulesOn (of_hypothesis rule) (of_hypothesis rule)
hypotheses rule bytes more =
    one_then (behind more) (behind more) (field (number_at w16 bytes)) (field (number_at w16 (bytes ++ more))) _ _ (fielded (behind more) _ _ (numbers w16 bytes more))
    (λ h. done Short (behind more) (rule h.0, h.1))

named_terms : (rule : Term → Rule) (input onward : ℕ) → RulesOn (of_term rule input) (of_term rule onward)
named_terms rule input onward bytes more =
    one_then (behind more) (behind more) (field (term_at input bytes)) (field (term_at onward (bytes ++ more))) _ _ (fielded (behind more) _ _ (terms input onward bytes more))
    (λ t. done Short (behind more) (rule t.0, t.1))

instances : (rule : ℕ → Term → Rule) (input onward : ℕ) → RulesOn (of_instance rule input) (of_instance rule onward)
instances rule input onward bytes more =
    one_then (behind more) (behind more) (field (number_at w16 bytes)) (field (number_at w16 (bytes ++ more))) _ _ (fielded (behind more) _ _ (numbers w16 bytes more))
    (λ h. named_terms (rule h.0) input onward h.1 more)

intervals : (input onward h : ℕ) → RulesOn (interval_at input h) (interval_at onward h)
intervals input onward h bytes more =
    one_then (behind more) (behind more) (field (term_at input bytes)) (field (term_at onward (bytes ++ more))) _ _ (fielded (behind more) _ _ (terms input onward bytes more))
    (λ t1. named_terms (λ t2. Two (ImpL h t1.0 t2)) input onward t1.1 more)

right_rules : (input onward start other tag : ℕ) → RulesOn (right_rule_at input start tag) (right_rule_at onward other tag)
unfolding right_rule_at
right_rules input onward start other tag rest more =
    let longer : Rule × List ℕ → Rule × List ℕ = behind more in
    either_way Short longer (tag == 0x01) _ _ _ _ (hypotheses (λ h. Axiom (Init h)) rest more)
    (either_way Short longer (tag == 0x02) _ _ _ _ (done Short longer (Axiom ConsR, rest))
    (either_way Short longer (tag == 0x03) _ _ _ _ (done Short longer (Axiom InterR, rest))
    (either_way Short longer (tag == 0x04) _ _ _ _ (done Short longer (Two AndR, rest))
    (either_way Short longer (tag == 0x05) _ _ _ _ (done Short longer (One OrR1, rest))
    (either_way Short longer (tag == 0x06) _ _ _ _ (done Short longer (One OrR2, rest))
    (either_way Short longer (tag == 0x07) _ _ _ _ (done Short longer (Axiom TrueR, rest))
    (either_way Short longer (tag == 0x08) _ _ _ _ (done Short longer (One ImpR, rest))
    (either_way Short longer (tag == 0x09) _ _ _ _ (done Short longer (One ForallR, rest))
    (either_way Short longer (tag == 0x0a) _ _ _ _ (named_terms (λ t. One (ExistsR t)) input onward rest more)
    (either_way Short longer (tag == 0x0b) _ _ _ _ (done Short longer (One SaysR, rest))
    (either_way Short longer (tag == 0x0c) _ _ _ _ (done Short longer (One AtR, rest)) (faults Short longer _ _))))))))))))

left_rules : (input onward start other tag : ℕ) → RulesOn (left_rule_at input start tag) (left_rule_at onward other tag)
unfolding left_rule_at
left_rules input onward start other tag rest more =
    let longer : Rule × List ℕ → Rule × List ℕ = behind more in
    either_way Short longer (tag == 0x11) _ _ _ _ (hypotheses (λ h. One (ConsL h)) rest more)
    (either_way Short longer (tag == 0x12) _ _ _ _ (hypotheses (λ h. One (InterL h)) rest more)
    (either_way Short longer (tag == 0x13) _ _ _ _ (hypotheses (λ h. One (AndL h)) rest more)
    (either_way Short longer (tag == 0x14) _ _ _ _ (hypotheses (λ h. Two (OrL h)) rest more)
    (either_way Short longer (tag == 0x15) _ _ _ _ (hypotheses (λ h. Axiom (FalseL h)) rest more)
    (either_way Short longer (tag == 0x16) _ _ _ _
    (one_then (behind more) longer (field (number_at w16 rest)) (field (number_at w16 (rest ++ more))) _ _ (fielded (behind more) _ _ (numbers w16 rest more)) (λ h. intervals input onward h.0 h.1 more))
    (either_way Short longer (tag == 0x17) _ _ _ _ (instances (λ h t. One (ForallL h t)) input onward rest more)
    (either_way Short longer (tag == 0x18) _ _ _ _ (hypotheses (λ h. One (ExistsL h)) rest more)
    (either_way Short longer (tag == 0x19) _ _ _ _ (hypotheses (λ h. One (SaysL h)) rest more)
    (either_way Short longer (tag == 0x1a) _ _ _ _ (hypotheses (λ h. One (Claim h)) rest more)
    (either_way Short longer (tag == 0x1b) _ _ _ _ (hypotheses (λ h. One (AtL h)) rest more) (faults Short longer _ _)))))))))))

rules : (input onward start other tag : ℕ) → RulesOn (rule_at input start tag) (rule_at onward other tag)
unfolding rule_at
rules input onward start other tag rest more =
    either_way Short (behind more) (is_right tag) _ _ _ _ (right_rules input onward start other tag rest more) (left_rules input onward start other tag rest more)

-- more bytes after those that are left over, beside how many nodes may come
abbrev counted_behind : {A : Type 0} → List ℕ → A × (ℕ × List ℕ) → A × (ℕ × List ℕ)
counted_behind more x = (x.0, (x.1.0, x.1.1 ++ more))

abbrev ProofsOn : (List ℕ → ProofReading) → (List ℕ → ProofReading) → Type 0
ProofsOn first second = (bytes more : List ℕ) → Extended Short (counted_behind more) (first bytes) (second (bytes ++ more))

premises : (at onward : ℕ → List ℕ → ProofReading) → ((nodes : ℕ) → ProofsOn (at nodes) (onward nodes)) → (rule : Rule) (nodes : ℕ) → ProofsOn (premises_at at rule nodes) (premises_at onward rule nodes)
premises at onward goes_on (Axiom r) nodes bytes more = done Short (counted_behind more) (by_axiom r, (nodes, bytes))
premises at onward goes_on (One r) nodes bytes more =
    one_then (counted_behind more) (counted_behind more) (at nodes bytes) (onward nodes (bytes ++ more)) _ _ (goes_on nodes bytes more)
    (λ p. done Short (counted_behind more) (by_one r p.0, p.1))
premises at onward goes_on (Two r) nodes bytes more =
    one_then (counted_behind more) (counted_behind more) (at nodes bytes) (onward nodes (bytes ++ more)) _ _ (goes_on nodes bytes more)
    (λ p. one_then (counted_behind more) (counted_behind more) (at p.1.0 p.1.1) (onward p.1.0 (p.1.1 ++ more)) _ _ (goes_on p.1.0 p.1.1 more)
    (λ q. done Short (counted_behind more) (by_two r p.0 q.0, q.1)))

roots : (levels nodes input onward : ℕ) → RulesOn (rule_within levels nodes input) (rule_within levels nodes onward)
unfolding rule_within
roots levels nodes input onward [] more = cut Short (behind more) _
roots levels nodes input onward (tag ∷ rest) more =
    either_way Short (behind more) (is_right tag || is_left tag) _ _ _ _
    (either_way Short (behind more) (nodes == 0) _ _ _ _ (faults Short (behind more) _ _)
    (either_way Short (behind more) (levels == 0) _ _ _ _ (faults Short (behind more) _ _) (rules input onward _ _ tag rest more)))
    (faults Short (behind more) _ _)

within : (levels nodes input onward : ℕ) → ProofsOn (proof_at levels nodes input) (proof_at levels nodes onward)
unfolding proof_at
within zero nodes input onward bytes more =
    one_then (behind more) (counted_behind more) (rule_within 0 nodes input bytes) (rule_within 0 nodes onward (bytes ++ more)) _ _ (roots 0 nodes input onward bytes more)
    (λ rule. cut Short (counted_behind more) _)
within (suc levels) nodes input onward bytes more =
    one_then (behind more) (counted_behind more) (rule_within (suc levels) nodes input bytes) (rule_within (suc levels) nodes onward (bytes ++ more)) _ _ (roots (suc levels) nodes input onward bytes more)
    (λ rule. premises (λ left rest. proof_at levels left input rest) (λ left rest. proof_at levels left onward rest) (λ left. within levels left input onward) rule.0 (nodes - 1) rule.1 more)

pub proofs : (input onward : ℕ) (bytes more : List ℕ) → Extended Short (behind more) (kept_proof_at input bytes) (kept_proof_at onward (bytes ++ more))
unfolding kept_proof_at
proofs input onward bytes more =
    one_then (counted_behind more) (behind more) (proof_at 200 4096 input bytes) (proof_at 200 4096 onward (bytes ++ more)) _ _ (within 200 4096 input onward bytes more)
    (λ x. done Short (behind more) (x.0, x.1.1))
