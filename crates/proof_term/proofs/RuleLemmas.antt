-- A rule that is read is the rule that was spelled, and what was spelled is read again.
use Rattle.std.proofs.Common.{◌≡◌, ℕ, ◌<◌, ◌^◌, zero, suc, true, false, eqb, List, [], ◌∷◌, ◌++◌, Result, Ok, Err, refl, sym, ap, subst, ◌∙◌, append_assoc, arith}
use Rattle.std.specs.Prelude.{◌||◌}
use Rattle.std.specs.Int.{w16}
use Rattle.std.proofs.lemmas.Bool.{eqb-true, eqb-false, ne_eqb}
use Rattle.bl_syntax.specs.declared.codec_fault.CodecFault.{CodecFault}
use Rattle.bl_syntax.specs.declared.terms.Term.{Term}
use Rattle.bl_syntax.specs.Spelling.{IsSpellable, term_spelling}
use Rattle.bl_syntax.specs.Reading.{place, number_at, term_at}
use Rattle.bl_syntax.specs.Codec.{AreBytes}
use Rattle.bl_syntax.proofs.CodecLemmas.{by_test, AreBytes-rest, AreBytes-behind}
use Rattle.bl_syntax.proofs.FieldLemmas.{wide16, number_found, number_again}
use Rattle.bl_syntax.proofs.TermLemmas.{term_found, term_again}
use Rattle.proof_term.specs.declared.fault.ProofFault.{ProofFault}
use Rattle.proof_term.specs.declared.rule.Rule.{Rule}
use Rattle.proof_term.specs.declared.rule.Rule.TheVariants.{Axiom, One, Two}
use Rattle.proof_term.specs.declared.rule.Axiom.{Axiom as AxiomRule}
use Rattle.proof_term.specs.declared.rule.OnePremise.{OnePremise}
use Rattle.proof_term.specs.declared.rule.TwoPremises.{TwoPremises}
use Rattle.proof_term.specs.declared.rule.Axiom.TheVariants.{Init, ConsR, InterR, TrueR, FalseL}
use Rattle.proof_term.specs.declared.rule.OnePremise.TheVariants.{OrR1, OrR2, ImpR, ForallR, ExistsR, SaysR, AtR, ConsL, InterL, AndL, ForallL, ExistsL, SaysL, Claim, AtL}
use Rattle.proof_term.specs.declared.rule.TwoPremises.TheVariants.{AndR, OrL, ImpL}
use Rattle.proof_term.specs.ProofSpelling.{hypothesis, axiom_spelling, one_spelling, two_spelling, IsSpellableHypothesis, IsSpellableAxiom, IsSpellableOne, IsSpellableTwo}
use Rattle.proof_term.specs.ProofReading.{◌>>=◌, field, of_hypothesis, of_term, of_instance, interval_at, is_right, is_left, right_rule_at, left_rule_at, rule_at, rule_within}

unfoldable pub rule_spelling : Rule → List ℕ
rule_spelling (Axiom r) = axiom_spelling r
rule_spelling (One r) = one_spelling r
rule_spelling (Two r) = two_spelling r

abbrev pub IsSpellableRule : Rule → Type 0
IsSpellableRule (Axiom r) = IsSpellableAxiom r
IsSpellableRule (One r) = IsSpellableOne r
IsSpellableRule (Two r) = IsSpellableTwo r

-- ---- steps

-- the value of a step that did not fail
pub bind_ok : {A B : Type 0} (r : Result A ProofFault) (f : A → Result B ProofFault) (y : B) → (r >>= f) ≡ Ok y → (x : A) × (r ≡ Ok x) × (f x ≡ Ok y)
bind_ok (Ok x) f y e = (x, refl, e)
bind_ok (Err d) f y e = absurd cc

abbrev done : {A : Type 0} → A → Result A ProofFault
done x = Ok x

pub ok_is : {A : Type 0} (x y : A) → done x ≡ done y → x ≡ y
ok_is x y e = cc

field_ok : {A : Type 0} (r : Result A CodecFault) (x : A) → field r ≡ Ok x → r ≡ Ok x
field_ok (Ok y) x e = cc
field_ok (Err d) x e = absurd cc

-- ---- what was spelled is read again

hypothesis_again : {B : Type 0} (f : ℕ × List ℕ → Result B ProofFault) (h : ℕ) (rest : List ℕ) → IsSpellableHypothesis h → (field (number_at w16 (hypothesis h ++ rest)) >>= f) ≡ f (h, rest)
hypothesis_again {B} f h rest lt = ap (λ (r : Result (ℕ × List ℕ) CodecFault). field r >>= f) (number_again w16 (2 ^ 16) wide16 h rest lt)

named_again : {B : Type 0} (f : Term × List ℕ → Result B ProofFault) (input : ℕ) (t : Term) (rest : List ℕ) → IsSpellable t → (field (term_at input (term_spelling t ++ rest)) >>= f) ≡ f (t, rest)
named_again {B} f input t rest spelled = ap (λ (r : Result (Term × List ℕ) CodecFault). field r >>= f) (term_again input t rest spelled)

of_hypothesis_again : (rule : ℕ → Rule) (h : ℕ) (rest : List ℕ) → IsSpellableHypothesis h → of_hypothesis rule (hypothesis h ++ rest) ≡ Ok (rule h, rest)
of_hypothesis_again rule h rest lt = hypothesis_again (λ x. Ok (rule x.0, x.1)) h rest lt

of_term_again : (rule : Term → Rule) (input : ℕ) (t : Term) (rest : List ℕ) → IsSpellable t → of_term rule input (term_spelling t ++ rest) ≡ Ok (rule t, rest)
of_term_again rule input t rest spelled = named_again (λ x. Ok (rule x.0, x.1)) input t rest spelled

of_instance_again : (rule : ℕ → Term → Rule) (input h : ℕ) (t : Term) (rest : List ℕ) → IsSpellableHypothesis h → IsSpellable t → of_instance rule input ((hypothesis h ++ term_spelling t) ++ rest) ≡ Ok (rule h t, rest)
of_instance_again rule input h t rest lt spelled =
    ap (of_instance rule input) (append_assoc (hypothesis h) (term_spelling t) rest)
    ∙ hypothesis_again (λ x. of_term (rule x.0) input x.1) h (term_spelling t ++ rest) lt
    ∙ of_term_again (rule h) input t rest spelled

interval_again : (input h : ℕ) (t1 t2 : Term) (rest : List ℕ) → IsSpellable t1 → IsSpellable t2 → interval_at input h ((term_spelling t1 ++ term_spelling t2) ++ rest) ≡ Ok (Two (ImpL h t1 t2), rest)
interval_again input h t1 t2 rest first second =
    ap (interval_at input h) (append_assoc (term_spelling t1) (term_spelling t2) rest)
    ∙ named_again (λ t. of_term (λ u. Two (ImpL h t.0 u)) input t.1) input t1 (term_spelling t2 ++ rest) first
    ∙ of_term_again (λ u. Two (ImpL h t1 u)) input t2 rest second

implication_again : (input h : ℕ) (t1 t2 : Term) (rest : List ℕ) → IsSpellableHypothesis h → IsSpellable t1 → IsSpellable t2
    → (field (number_at w16 ((hypothesis h ++ (term_spelling t1 ++ term_spelling t2)) ++ rest)) >>= λ x. interval_at input x.0 x.1) ≡ Ok (Two (ImpL h t1 t2), rest)
implication_again input h t1 t2 rest lt first second =
    ap (λ (bytes : List ℕ). field (number_at w16 bytes) >>= λ x. interval_at input x.0 x.1) (append_assoc (hypothesis h) (term_spelling t1 ++ term_spelling t2) rest)
    ∙ hypothesis_again (λ x. interval_at input x.0 x.1) h ((term_spelling t1 ++ term_spelling t2) ++ rest) lt
    ∙ interval_again input h t1 t2 rest first second

-- where a tag and the limits allow it, the rule is read
within : (levels nodes input tag : ℕ) (rest : List ℕ) → 0 < levels → 0 < nodes → (is_right tag || is_left tag) ≡ true → rule_within levels nodes input (tag ∷ rest) ≡ rule_at input (place input (tag ∷ rest)) tag rest
unfolding rule_within
within levels nodes input tag rest some_level some_node known =
    rw (known, ne_eqb nodes 0 (λ (e : nodes ≡ 0). omega arith), ne_eqb levels 0 (λ (e : levels ≡ 0). omega arith)) refl

module _ (levels nodes input : ℕ) (some_level : 0 < levels) (some_node : 0 < nodes) where
  axiom_again : (r : AxiomRule) (rest : List ℕ) → IsSpellableAxiom r → rule_within levels nodes input (axiom_spelling r ++ rest) ≡ Ok (Axiom r, rest)
  unfolding rule_at right_rule_at left_rule_at axiom_spelling
  axiom_again (Init h) rest lt = within levels nodes input 0x01 (hypothesis h ++ rest) some_level some_node refl ∙ of_hypothesis_again (λ k. Axiom (Init k)) h rest lt
  axiom_again ConsR rest s = within levels nodes input 0x02 rest some_level some_node refl
  axiom_again InterR rest s = within levels nodes input 0x03 rest some_level some_node refl
  axiom_again TrueR rest s = within levels nodes input 0x07 rest some_level some_node refl
  axiom_again (FalseL h) rest lt = within levels nodes input 0x15 (hypothesis h ++ rest) some_level some_node refl ∙ of_hypothesis_again (λ k. Axiom (FalseL k)) h rest lt

  one_again : (r : OnePremise) (rest : List ℕ) → IsSpellableOne r → rule_within levels nodes input (one_spelling r ++ rest) ≡ Ok (One r, rest)
  unfolding rule_at right_rule_at left_rule_at one_spelling
  one_again OrR1 rest s = within levels nodes input 0x05 rest some_level some_node refl
  one_again OrR2 rest s = within levels nodes input 0x06 rest some_level some_node refl
  one_again ImpR rest s = within levels nodes input 0x08 rest some_level some_node refl
  one_again ForallR rest s = within levels nodes input 0x09 rest some_level some_node refl
  one_again SaysR rest s = within levels nodes input 0x0b rest some_level some_node refl
  one_again AtR rest s = within levels nodes input 0x0c rest some_level some_node refl
  one_again (ExistsR t) rest s = within levels nodes input 0x0a (term_spelling t ++ rest) some_level some_node refl ∙ of_term_again (λ u. One (ExistsR u)) input t rest s
  one_again (ConsL h) rest lt = within levels nodes input 0x11 (hypothesis h ++ rest) some_level some_node refl ∙ of_hypothesis_again (λ k. One (ConsL k)) h rest lt
  one_again (InterL h) rest lt = within levels nodes input 0x12 (hypothesis h ++ rest) some_level some_node refl ∙ of_hypothesis_again (λ k. One (InterL k)) h rest lt
  one_again (AndL h) rest lt = within levels nodes input 0x13 (hypothesis h ++ rest) some_level some_node refl ∙ of_hypothesis_again (λ k. One (AndL k)) h rest lt
  one_again (ExistsL h) rest lt = within levels nodes input 0x18 (hypothesis h ++ rest) some_level some_node refl ∙ of_hypothesis_again (λ k. One (ExistsL k)) h rest lt
  one_again (SaysL h) rest lt = within levels nodes input 0x19 (hypothesis h ++ rest) some_level some_node refl ∙ of_hypothesis_again (λ k. One (SaysL k)) h rest lt
  one_again (Claim h) rest lt = within levels nodes input 0x1a (hypothesis h ++ rest) some_level some_node refl ∙ of_hypothesis_again (λ k. One (Claim k)) h rest lt
  one_again (AtL h) rest lt = within levels nodes input 0x1b (hypothesis h ++ rest) some_level some_node refl ∙ of_hypothesis_again (λ k. One (AtL k)) h rest lt
  one_again (ForallL h t) rest s = within levels nodes input 0x17 ((hypothesis h ++ term_spelling t) ++ rest) some_level some_node refl ∙ of_instance_again (λ k u. One (ForallL k u)) input h t rest s.0 s.1

  two_again : (r : TwoPremises) (rest : List ℕ) → IsSpellableTwo r → rule_within levels nodes input (two_spelling r ++ rest) ≡ Ok (Two r, rest)
  unfolding rule_at right_rule_at left_rule_at two_spelling
  two_again AndR rest s = within levels nodes input 0x04 rest some_level some_node refl
  two_again (OrL h) rest lt = within levels nodes input 0x14 (hypothesis h ++ rest) some_level some_node refl ∙ of_hypothesis_again (λ k. Two (OrL k)) h rest lt
  two_again (ImpL h t1 t2) rest s = within levels nodes input 0x16 ((hypothesis h ++ (term_spelling t1 ++ term_spelling t2)) ++ rest) some_level some_node refl ∙ implication_again input h t1 t2 rest s.0 s.1.0 s.1.1

  pub rule_again : (r : Rule) (rest : List ℕ) → IsSpellableRule r → rule_within levels nodes input (rule_spelling r ++ rest) ≡ Ok (r, rest)
  unfolding rule_spelling
  rule_again (Axiom r) rest s = axiom_again r rest s
  rule_again (One r) rest s = one_again r rest s
  rule_again (Two r) rest s = two_again r rest s

-- ---- what is read was spelled so

-- the bytes are those of a rule that has a spelling, and the rest
abbrev pub Spells : List ℕ → Rule → List ℕ → Type 0
Spells bytes r rest = IsSpellableRule r × (bytes ≡ rule_spelling r ++ rest)

-- a rule that names nothing
bare_found : (rule : Rule) (code : ℕ) → IsSpellableRule rule → rule_spelling rule ≡ code ∷ [] → (tag : ℕ) (more rest : List ℕ) (r : Rule) → eqb tag code ≡ true → done {A = Rule × List ℕ} (rule, more) ≡ Ok (r, rest) → Spells (tag ∷ more) r rest
bare_found rule code fits spelled tag more rest r is e =
    subst (λ (p : Rule × List ℕ). Spells (tag ∷ more) p.0 p.1) (ok_is (rule, more) (r, rest) e)
    (fits, ap (λ (k : ℕ). k ∷ more) (eqb-true tag code is) ∙ ap (λ (b : List ℕ). b ++ more) (sym spelled))

-- a rule whose fields were read
fields_found : (tag code : ℕ) (more fields rest : List ℕ) (rule r : Rule) → eqb tag code ≡ true → IsSpellableRule rule → rule_spelling rule ≡ code ∷ fields → more ≡ fields ++ rest → rule ≡ r → Spells (tag ∷ more) r rest
fields_found tag code more fields rest rule r is fits spelled parts same =
    subst (λ (x : Rule). Spells (tag ∷ more) x rest) same
    (fits, ap (λ (k : ℕ). k ∷ more) (eqb-true tag code is) ∙ ap (λ (b : List ℕ). code ∷ b) parts ∙ ap (λ (b : List ℕ). b ++ rest) (sym spelled))

-- the hypothesis that was read
hypothesis_found : (more rest : List ℕ) (h : ℕ) → AreBytes more → field (number_at w16 more) ≡ Ok (h, rest) → IsSpellableHypothesis h × (more ≡ hypothesis h ++ rest)
hypothesis_found more rest h fits e = number_found w16 (2 ^ 16) wide16 more h rest fits (field_ok (number_at w16 more) (h, rest) e)

-- the term that was read
named_found : (input : ℕ) (more rest : List ℕ) (t : Term) → AreBytes more → field (term_at input more) ≡ Ok (t, rest) → IsSpellable t × (more ≡ term_spelling t ++ rest)
named_found input more rest t fits e = term_found input more rest t fits (field_ok (term_at input more) (t, rest) e)

of_hypothesis_found : (rule : ℕ → Rule) (code : ℕ) → ((h : ℕ) → IsSpellableHypothesis h → IsSpellableRule (rule h)) → ((h : ℕ) → rule_spelling (rule h) ≡ code ∷ hypothesis h)
    → (tag : ℕ) (more rest : List ℕ) (r : Rule) → eqb tag code ≡ true → AreBytes more → of_hypothesis rule more ≡ Ok (r, rest) → Spells (tag ∷ more) r rest
of_hypothesis_found rule code fits spelled tag more rest r is bytes e =
    let b = bind_ok (field (number_at w16 more)) (λ h. Ok (rule h.0, h.1)) (r, rest) e in
    let h = hypothesis_found more b.0.1 b.0.0 bytes b.1 in
    let pair = ok_is (rule b.0.0, b.0.1) (r, rest) b.2 in
    let end : b.0.1 ≡ rest = ap (λ (p : Rule × List ℕ). p.1) pair in
    fields_found tag code more (hypothesis b.0.0) rest (rule b.0.0) r is (fits b.0.0 h.0) (spelled b.0.0) (h.1 ∙ ap (λ (x : List ℕ). hypothesis b.0.0 ++ x) end) (ap (λ (p : Rule × List ℕ). p.0) pair)

-- the last term of a rule
last_found : (rule : Term → Rule) (input : ℕ) (more rest : List ℕ) (r : Rule) → AreBytes more → of_term rule input more ≡ Ok (r, rest) → (t : Term) × (IsSpellable t × ((more ≡ term_spelling t ++ rest) × (rule t ≡ r)))
last_found rule input more rest r bytes e =
    let b = bind_ok (field (term_at input more)) (λ t. Ok (rule t.0, t.1)) (r, rest) e in
    let t = named_found input more b.0.1 b.0.0 bytes b.1 in
    let pair = ok_is (rule b.0.0, b.0.1) (r, rest) b.2 in
    let end : b.0.1 ≡ rest = ap (λ (p : Rule × List ℕ). p.1) pair in
    (b.0.0, (t.0, (t.1 ∙ ap (λ (x : List ℕ). term_spelling b.0.0 ++ x) end, ap (λ (p : Rule × List ℕ). p.0) pair)))

of_term_found : (rule : Term → Rule) (code : ℕ) → ((t : Term) → IsSpellable t → IsSpellableRule (rule t)) → ((t : Term) → rule_spelling (rule t) ≡ code ∷ term_spelling t)
    → (input tag : ℕ) (more rest : List ℕ) (r : Rule) → eqb tag code ≡ true → AreBytes more → of_term rule input more ≡ Ok (r, rest) → Spells (tag ∷ more) r rest
of_term_found rule code fits spelled input tag more rest r is bytes e =
    let t = last_found rule input more rest r bytes e in
    fields_found tag code more (term_spelling t.0) rest (rule t.0) r is (fits t.0 t.1.0) (spelled t.0) t.1.1.0 t.1.1.1

-- two fields after one another
two_parts : (more x middle y rest : List ℕ) → more ≡ x ++ middle → middle ≡ y ++ rest → more ≡ (x ++ y) ++ rest
two_parts more x middle y rest first second = first ∙ ap (λ (b : List ℕ). x ++ b) second ∙ sym (append_assoc x y rest)

AreBytes-part : (more x middle : List ℕ) → AreBytes more → more ≡ x ++ middle → AreBytes middle
AreBytes-part more x middle bytes e = AreBytes-behind x middle (subst AreBytes e bytes)

of_instance_found : (input tag : ℕ) (more rest : List ℕ) (r : Rule) → eqb tag 0x17 ≡ true → AreBytes more → of_instance (λ h t. One (ForallL h t)) input more ≡ Ok (r, rest) → Spells (tag ∷ more) r rest
unfolding rule_spelling one_spelling
of_instance_found input tag more rest r is bytes e =
    let b = bind_ok (field (number_at w16 more)) (λ h. of_term (λ t. One (ForallL h.0 t)) input h.1) (r, rest) e in
    let h = hypothesis_found more b.0.1 b.0.0 bytes b.1 in
    let t = last_found (λ t. One (ForallL b.0.0 t)) input b.0.1 rest r (AreBytes-part more (hypothesis b.0.0) b.0.1 bytes h.1) b.2 in
    fields_found tag 0x17 more (hypothesis b.0.0 ++ term_spelling t.0) rest (One (ForallL b.0.0 t.0)) r is (h.0, t.1.0) refl (two_parts more (hypothesis b.0.0) b.0.1 (term_spelling t.0) rest h.1 t.1.1.0) t.1.1.1

implication_found : (input tag : ℕ) (more rest : List ℕ) (r : Rule) → eqb tag 0x16 ≡ true → AreBytes more → (field (number_at w16 more) >>= λ h. interval_at input h.0 h.1) ≡ Ok (r, rest) → Spells (tag ∷ more) r rest
unfolding rule_spelling two_spelling
implication_found input tag more rest r is bytes e =
    let b = bind_ok (field (number_at w16 more)) (λ h. interval_at input h.0 h.1) (r, rest) e in
    let h = hypothesis_found more b.0.1 b.0.0 bytes b.1 in
    let behind = AreBytes-part more (hypothesis b.0.0) b.0.1 bytes h.1 in
    let d = bind_ok (field (term_at input b.0.1)) (λ t. of_term (λ u. Two (ImpL b.0.0 t.0 u)) input t.1) (r, rest) b.2 in
    let t = named_found input b.0.1 d.0.1 d.0.0 behind d.1 in
    let u = last_found (λ u. Two (ImpL b.0.0 d.0.0 u)) input d.0.1 rest r (AreBytes-part b.0.1 (term_spelling d.0.0) d.0.1 behind t.1) d.2 in
    let terms = two_parts b.0.1 (term_spelling d.0.0) d.0.1 (term_spelling u.0) rest t.1 u.1.1.0 in
    fields_found tag 0x16 more (hypothesis b.0.0 ++ (term_spelling d.0.0 ++ term_spelling u.0)) rest (Two (ImpL b.0.0 d.0.0 u.0)) r is (h.0, (t.0, u.1.0)) refl
    (two_parts more (hypothesis b.0.0) b.0.1 (term_spelling d.0.0 ++ term_spelling u.0) rest h.1 terms) u.1.1.1

right_found : (input start tag : ℕ) (more rest : List ℕ) (r : Rule) → AreBytes more → right_rule_at input start tag more ≡ Ok (r, rest) → Spells (tag ∷ more) r rest
unfolding right_rule_at rule_spelling axiom_spelling one_spelling two_spelling
right_found input start tag more rest r bytes e =
    by_test (eqb tag 0x01) _ _ _ e (λ is h. of_hypothesis_found (λ k. Axiom (Init k)) 0x01 (λ k s. s) (λ k. refl) tag more rest r is bytes h) (λ _ e1.
    by_test (eqb tag 0x02) _ _ _ e1 (λ is h. bare_found (Axiom ConsR) 0x02 tt refl tag more rest r is h) (λ _ e2.
    by_test (eqb tag 0x03) _ _ _ e2 (λ is h. bare_found (Axiom InterR) 0x03 tt refl tag more rest r is h) (λ _ e3.
    by_test (eqb tag 0x04) _ _ _ e3 (λ is h. bare_found (Two AndR) 0x04 tt refl tag more rest r is h) (λ _ e4.
    by_test (eqb tag 0x05) _ _ _ e4 (λ is h. bare_found (One OrR1) 0x05 tt refl tag more rest r is h) (λ _ e5.
    by_test (eqb tag 0x06) _ _ _ e5 (λ is h. bare_found (One OrR2) 0x06 tt refl tag more rest r is h) (λ _ e6.
    by_test (eqb tag 0x07) _ _ _ e6 (λ is h. bare_found (Axiom TrueR) 0x07 tt refl tag more rest r is h) (λ _ e7.
    by_test (eqb tag 0x08) _ _ _ e7 (λ is h. bare_found (One ImpR) 0x08 tt refl tag more rest r is h) (λ _ e8.
    by_test (eqb tag 0x09) _ _ _ e8 (λ is h. bare_found (One ForallR) 0x09 tt refl tag more rest r is h) (λ _ e9.
    by_test (eqb tag 0x0a) _ _ _ e9 (λ is h. of_term_found (λ k. One (ExistsR k)) 0x0a (λ k s. s) (λ k. refl) input tag more rest r is bytes h) (λ _ e10.
    by_test (eqb tag 0x0b) _ _ _ e10 (λ is h. bare_found (One SaysR) 0x0b tt refl tag more rest r is h) (λ _ e11.
    by_test (eqb tag 0x0c) _ _ _ e11 (λ is h. bare_found (One AtR) 0x0c tt refl tag more rest r is h) (λ _ fault. absurd cc))))))))))))

left_found : (input start tag : ℕ) (more rest : List ℕ) (r : Rule) → AreBytes more → left_rule_at input start tag more ≡ Ok (r, rest) → Spells (tag ∷ more) r rest
unfolding left_rule_at rule_spelling axiom_spelling one_spelling two_spelling
left_found input start tag more rest r bytes e =
    by_test (eqb tag 0x11) _ _ _ e (λ is h. of_hypothesis_found (λ k. One (ConsL k)) 0x11 (λ k s. s) (λ k. refl) tag more rest r is bytes h) (λ _ e1.
    by_test (eqb tag 0x12) _ _ _ e1 (λ is h. of_hypothesis_found (λ k. One (InterL k)) 0x12 (λ k s. s) (λ k. refl) tag more rest r is bytes h) (λ _ e2.
    by_test (eqb tag 0x13) _ _ _ e2 (λ is h. of_hypothesis_found (λ k. One (AndL k)) 0x13 (λ k s. s) (λ k. refl) tag more rest r is bytes h) (λ _ e3.
    by_test (eqb tag 0x14) _ _ _ e3 (λ is h. of_hypothesis_found (λ k. Two (OrL k)) 0x14 (λ k s. s) (λ k. refl) tag more rest r is bytes h) (λ _ e4.
    by_test (eqb tag 0x15) _ _ _ e4 (λ is h. of_hypothesis_found (λ k. Axiom (FalseL k)) 0x15 (λ k s. s) (λ k. refl) tag more rest r is bytes h) (λ _ e5.
    by_test (eqb tag 0x16) _ _ _ e5 (λ is h. implication_found input tag more rest r is bytes h) (λ _ e6.
    by_test (eqb tag 0x17) _ _ _ e6 (λ is h. of_instance_found input tag more rest r is bytes h) (λ _ e7.
    by_test (eqb tag 0x18) _ _ _ e7 (λ is h. of_hypothesis_found (λ k. One (ExistsL k)) 0x18 (λ k s. s) (λ k. refl) tag more rest r is bytes h) (λ _ e8.
    by_test (eqb tag 0x19) _ _ _ e8 (λ is h. of_hypothesis_found (λ k. One (SaysL k)) 0x19 (λ k s. s) (λ k. refl) tag more rest r is bytes h) (λ _ e9.
    by_test (eqb tag 0x1a) _ _ _ e9 (λ is h. of_hypothesis_found (λ k. One (Claim k)) 0x1a (λ k s. s) (λ k. refl) tag more rest r is bytes h) (λ _ e10.
    by_test (eqb tag 0x1b) _ _ _ e10 (λ is h. of_hypothesis_found (λ k. One (AtL k)) 0x1b (λ k s. s) (λ k. refl) tag more rest r is bytes h) (λ _ fault. absurd cc)))))))))))

-- the rule that was read, and room for its node
pub record Found (levels nodes : ℕ) (bytes : List ℕ) (r : Rule) (rest : List ℕ) : Type 0 where
  pub spelled : Spells bytes r rest
  pub some_level : 0 < levels
  pub some_node : 0 < nodes

positive : (n : ℕ) → (n ≡ 0 → ⊥) → 0 < n
positive zero h = absurd (h refl)
positive (suc n) h = omega arith

some : (n : ℕ) → eqb n 0 ≡ false → 0 < n
some n e = positive n (eqb-false n 0 e)

pub rule_found : (levels nodes input : ℕ) (bytes rest : List ℕ) (r : Rule) → AreBytes bytes → rule_within levels nodes input bytes ≡ Ok (r, rest) → Found levels nodes bytes r rest
unfolding rule_within rule_at
rule_found levels nodes input [] rest r fits e = absurd cc
rule_found levels nodes input (tag ∷ more) rest r fits e =
    let behind = AreBytes-rest tag more fits in
    by_test (is_right tag || is_left tag) _ _ _ e (λ _ known.
    by_test (eqb nodes 0) _ _ _ known (λ _ fault. absurd cc) (λ some_node e1.
    by_test (eqb levels 0) _ _ _ e1 (λ _ fault. absurd cc) (λ some_level e2.
    record {
      spelled = by_test (is_right tag) _ _ _ e2 (λ _ h. right_found input (place input (tag ∷ more)) tag more rest r behind h) (λ _ h. left_found input (place input (tag ∷ more)) tag more rest r behind h);
      some_level = some levels some_level;
      some_node = some nodes some_node;
    }))) (λ _ fault. absurd cc)
