-- Reading a proof's canonical bytes from the left: the proof and the bytes after it, or the first
-- fault. The order of the faults is this project's own.
-- At a node the tag is tested first, then the number of nodes, then the depth, and then the fields
-- in order.
use Rattle.std.specs.Prelude.{◌≡◌, ◌-◌, ℕ, zero, suc, List, [], ◌∷◌, length, Bool, ◌&&◌, ◌||◌, nat_le, ◌==◌, if◌then◌else◌, Result, Ok, Err}
use Rattle.std.specs.Int.{w16}
use Rattle.bl_syntax.specs.declared.limits.TheConstants.{MOST_PROOF_NODES, MOST_PROOF_LEVELS}
use Rattle.bl_syntax.specs.declared.codec_fault.CodecFault.{CodecFault}
use Rattle.bl_syntax.specs.declared.terms.Term.{Term}
use Rattle.bl_syntax.specs.Reading.{place, number_at, term_at}
use Rattle.proof_term.specs.declared.fault.ProofFault.{ProofFault}
use Rattle.proof_term.specs.declared.fault.ProofFault.TheVariants.{Short, BadTag, TooLarge, TooDeep, BadTerm, NoMemory}
use Rattle.proof_term.specs.declared.rule.Rule.{Rule}
use Rattle.proof_term.specs.declared.rule.Rule.TheVariants.{Axiom, One, Two}
use Rattle.proof_term.specs.declared.rule.Axiom.TheVariants.{Init, ConsR, InterR, TrueR, FalseL}
use Rattle.proof_term.specs.declared.rule.OnePremise.TheVariants.{OrR1, OrR2, ImpR, ForallR, ExistsR, SaysR, AtR, ConsL, InterL, AndL, ForallL, ExistsL, SaysL, Claim, AtL}
use Rattle.proof_term.specs.declared.rule.TwoPremises.TheVariants.{AndR, OrL, ImpL}
use Rattle.proof_term.specs.Proof.{ProofView}
use Rattle.proof_term.specs.Rules.{by_axiom, by_one, by_two}
use Rattle.proof_term.specs.Faults.{of_field}

-- one reading, and then another of the bytes after it, unless the first has a fault
infixl 10 ◌>>=◌
abbrev pub ◌>>=◌ : {A B : Type 0} → Result A ProofFault → (A → Result B ProofFault) →
    Result B ProofFault
(Ok x) >>= f = f x
(Err e) >>= f = Err e

-- a field, with its fault as one of the proof
abbrev pub field : {A : Type 0} → Result A CodecFault → Result A ProofFault
field (Ok x) = Ok x
field (Err e) = Err (of_field e)

-- a rule and the bytes after its fields, or a fault
abbrev pub RuleReading : Type 0
RuleReading = Result (Rule × List ℕ) ProofFault

-- the rule that names a hypothesis
abbrev pub of_hypothesis : (ℕ → Rule) → List ℕ → RuleReading
of_hypothesis rule bytes = do
  h ← field (number_at w16 bytes)
  Ok (rule h.0, h.1)

-- the rule that names a term
abbrev pub of_term : (Term → Rule) → ℕ → List ℕ → RuleReading
of_term rule input bytes = do
  t ← field (term_at input bytes)
  Ok (rule t.0, t.1)

-- the rule that names a hypothesis and a term
abbrev pub of_instance : (ℕ → Term → Rule) → ℕ → List ℕ → RuleReading
of_instance rule input bytes = do
  h ← field (number_at w16 bytes)
  of_term (rule h.0) input h.1

-- the two times between which a hypothesis is used that is an implication
abbrev pub interval_at : ℕ → ℕ → List ℕ → RuleReading
interval_at input h bytes = do
  t1 ← field (term_at input bytes)
  of_term (λ t2. Two (ImpL h t1.0 t2)) input t1.1

-- the tag of a right rule
abbrev pub is_right : ℕ → Bool
is_right tag = nat_le 0x01 tag && nat_le tag 0x0c

-- the tag of a left rule
abbrev pub is_left : ℕ → Bool
is_left tag = nat_le 0x11 tag && nat_le tag 0x1b

-- the right rule with this tag, which stands at the place: its fields
unfoldable pub right_rule_at : ℕ → ℕ → ℕ → List ℕ → RuleReading
right_rule_at input start tag rest =
    if tag == 0x01 then of_hypothesis (λ h. Axiom (Init h)) rest else
    if tag == 0x02 then Ok (Axiom ConsR, rest) else
    if tag == 0x03 then Ok (Axiom InterR, rest) else
    if tag == 0x04 then Ok (Two AndR, rest) else
    if tag == 0x05 then Ok (One OrR1, rest) else
    if tag == 0x06 then Ok (One OrR2, rest) else
    if tag == 0x07 then Ok (Axiom TrueR, rest) else
    if tag == 0x08 then Ok (One ImpR, rest) else
    if tag == 0x09 then Ok (One ForallR, rest) else
    if tag == 0x0a then of_term (λ t. One (ExistsR t)) input rest else
    if tag == 0x0b then Ok (One SaysR, rest) else
    if tag == 0x0c then Ok (One AtR, rest) else
    Err (BadTag start)

-- the left rule with this tag, which stands at the place: its fields
unfoldable pub left_rule_at : ℕ → ℕ → ℕ → List ℕ → RuleReading
left_rule_at input start tag rest =
    if tag == 0x11 then of_hypothesis (λ h. One (ConsL h)) rest else
    if tag == 0x12 then of_hypothesis (λ h. One (InterL h)) rest else
    if tag == 0x13 then of_hypothesis (λ h. One (AndL h)) rest else
    if tag == 0x14 then of_hypothesis (λ h. Two (OrL h)) rest else
    if tag == 0x15 then of_hypothesis (λ h. Axiom (FalseL h)) rest else
    if tag == 0x16 then (field (number_at w16 rest) >>= λ h. interval_at input h.0 h.1) else
    if tag == 0x17 then of_instance (λ h t. One (ForallL h t)) input rest else
    if tag == 0x18 then of_hypothesis (λ h. One (ExistsL h)) rest else
    if tag == 0x19 then of_hypothesis (λ h. One (SaysL h)) rest else
    if tag == 0x1a then of_hypothesis (λ h. One (Claim h)) rest else
    if tag == 0x1b then of_hypothesis (λ h. One (AtL h)) rest else
    Err (BadTag start)

-- the rule with this tag
unfoldable pub rule_at : ℕ → ℕ → ℕ → List ℕ → RuleReading
rule_at input start tag rest = if is_right tag then right_rule_at input start tag rest else left_rule_at input start tag rest

-- a proof, how many nodes are left of those that may still be read, and the bytes after it, or a
-- fault
abbrev pub ProofReading : Type 0
ProofReading = Result (ProofView × (ℕ × List ℕ)) ProofFault

-- the proof by a rule, whose premises are read in order
abbrev pub premises_at : (ℕ → List ℕ → ProofReading) → Rule → ℕ → List ℕ → ProofReading
premises_at at (Axiom r) nodes bytes = Ok (by_axiom r, (nodes, bytes))
premises_at at (One r) nodes bytes = do
  p ← at nodes bytes
  Ok (by_one r p.0, p.1)
premises_at at (Two r) nodes bytes = do
  p ← at nodes bytes
  q ← at p.1.0 p.1.1
  Ok (by_two r p.0 q.0, q.1)

-- the rule at the root of a proof of at most so many levels and nodes
unfoldable pub rule_within : ℕ → ℕ → ℕ → List ℕ → RuleReading
rule_within levels nodes input [] = Err Short
rule_within levels nodes input (tag ∷ rest) =
    if is_right tag || is_left tag then
    if nodes == 0 then Err (TooLarge (place input (tag ∷ rest))) else
    if levels == 0 then Err (TooDeep (place input (tag ∷ rest))) else
    rule_at input (place input (tag ∷ rest)) tag rest
    else Err (BadTag (place input (tag ∷ rest)))

-- a proof of at most so many levels and nodes; one of no level has a fault at its root
unfoldable pub proof_at : ℕ → ℕ → ℕ → List ℕ → ProofReading
proof_at zero nodes input bytes = rule_within 0 nodes input bytes >>= λ rule. Err Short
proof_at (suc levels) nodes input bytes =
    rule_within (suc levels) nodes input bytes >>= λ rule. premises_at (λ left rest. proof_at levels left input rest) rule.0 (nodes - 1) rule.1

-- a proof within the limits and the bytes after it, or the first fault
unfoldable pub kept_proof_at : ℕ → List ℕ → Result (ProofView × List ℕ) ProofFault
kept_proof_at input bytes = proof_at MOST_PROOF_LEVELS MOST_PROOF_NODES input bytes >>= λ x. Ok (x.0, x.1.1)

-- the proof that begins an input and how many bytes it takes, or the first fault
abbrev pub proof_reading : List ℕ → Result (ProofView × ℕ) ProofFault
proof_reading bytes = kept_proof_at (length bytes) bytes >>= λ x. Ok (x.0, length bytes - length x.1)

-- what a function returned, seen by view, is what is read, unless there was no memory
abbrev pub ReportsProofFault : {Y : Type 0} → ProofFault → Result Y ProofFault → Type 0
ReportsProofFault NoMemory read = Unit {0}
ReportsProofFault Short read = read ≡ Err Short
ReportsProofFault (BadTag at) read = read ≡ Err (BadTag at)
ReportsProofFault (TooLarge at) read = read ≡ Err (TooLarge at)
ReportsProofFault (TooDeep at) read = read ≡ Err (TooDeep at)
ReportsProofFault (BadTerm fault) read = read ≡ Err (BadTerm fault)

abbrev pub GivesProofReading : {X Y : Type 0} → (X → Y) → Result X ProofFault →
    Result Y ProofFault → Type 0
GivesProofReading view (Ok x) read = read ≡ Ok (view x)
GivesProofReading view (Err e) read = ReportsProofFault e read
