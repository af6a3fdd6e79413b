-- A proof that is read is the proof that was spelled, and what was spelled is read again.
use Rattle.std.proofs.Common.{◌≡◌, ℕ, ◌<◌, ◌≤◌, ◌+◌, ◌-◌, zero, suc, List, ◌++◌, Ok, Err, sym, ap, subst, ◌∙◌, append_assoc, arith}
use Rattle.bl_syntax.specs.Codec.{AreBytes}
use Rattle.bl_syntax.proofs.CodecLemmas.{AreBytes-behind}
use Rattle.proof_term.specs.declared.fault.ProofFault.TheVariants.{Short}
use Rattle.proof_term.specs.declared.rule.Axiom.{Axiom as AxiomRule}
use Rattle.proof_term.specs.declared.rule.OnePremise.{OnePremise}
use Rattle.proof_term.specs.declared.rule.TwoPremises.{TwoPremises}
use Rattle.proof_term.specs.declared.rule.Rule.{Rule}
use Rattle.proof_term.specs.declared.rule.Rule.TheVariants.{Axiom, One, Two}
use Rattle.proof_term.specs.Proof.{ProofView}
use Rattle.proof_term.specs.Limits.{size, depth}
use Rattle.proof_term.specs.Rules.{by_axiom, by_one, by_two}
use Rattle.proof_term.specs.ProofSpelling.{axiom_spelling, one_spelling, two_spelling, proof_spelling, IsSpellableAxiom, IsSpellableOne, IsSpellableTwo, NamesSpellable}
use Rattle.proof_term.specs.ProofReading.{◌>>=◌, ProofReading, rule_within, premises_at, proof_at}
use Rattle.proof_term.proofs.ShapeLemmas.{folded_axiom, folded_one, folded_two, size_axiom, size_one, size_two, depth_axiom, depth_one, depth_two, by_premises}
use Rattle.proof_term.proofs.RuleLemmas.{rule_spelling, bind_ok, ok_is, rule_again, Found, rule_found}
use Rattle.proof_term.proofs.ReadingLemmas.{proof_at-ok}

-- ---- spellings by the rule at the root

spelling_axiom : (r : AxiomRule) → proof_spelling (by_axiom r) ≡ axiom_spelling r
spelling_axiom r = folded_axiom axiom_spelling (λ r p. one_spelling r ++ p) (λ r p q. two_spelling r ++ (p ++ q)) r

spelling_one : (r : OnePremise) (p : ProofView) → proof_spelling (by_one r p) ≡ one_spelling r ++ proof_spelling p
spelling_one r p = folded_one axiom_spelling (λ r p. one_spelling r ++ p) (λ r p q. two_spelling r ++ (p ++ q)) r p

spelling_two : (r : TwoPremises) (p q : ProofView) → proof_spelling (by_two r p q) ≡ two_spelling r ++ (proof_spelling p ++ proof_spelling q)
spelling_two r p q = folded_two axiom_spelling (λ r p. one_spelling r ++ p) (λ r p q. two_spelling r ++ (p ++ q)) r p q

pub same : {A B : Type 0} → A ≡ B → A → B
same e x = subst (λ (X : Type 0). X) e x

names_axiom : (r : AxiomRule) → NamesSpellable (by_axiom r) ≡ IsSpellableAxiom r
names_axiom r = folded_axiom IsSpellableAxiom (λ r P. IsSpellableOne r × P) (λ r P Q. IsSpellableTwo r × (P × Q)) r

pub names_one : (r : OnePremise) (p : ProofView) → NamesSpellable (by_one r p) ≡ (IsSpellableOne r × NamesSpellable p)
names_one r p = folded_one IsSpellableAxiom (λ r P. IsSpellableOne r × P) (λ r P Q. IsSpellableTwo r × (P × Q)) r p

pub names_two : (r : TwoPremises) (p q : ProofView) → NamesSpellable (by_two r p q) ≡ (IsSpellableTwo r × (NamesSpellable p × NamesSpellable q))
names_two r p q = folded_two IsSpellableAxiom (λ r P. IsSpellableOne r × P) (λ r P Q. IsSpellableTwo r × (P × Q)) r p q

-- ---- what was spelled is read again

abbrev Again : ProofView → Type 0
Again d = (levels nodes input : ℕ) (rest : List ℕ) → depth d ≤ levels → size d ≤ nodes → NamesSpellable d → proof_at levels nodes input (proof_spelling d ++ rest) ≡ Ok (d, (nodes - size d, rest))

again_axiom : (r : AxiomRule) → Again (by_axiom r)
unfolding rule_spelling
again_axiom r levels nodes input rest deep large names =
    let some_level : 0 < levels = omega (arith, depth_axiom r) in
    let some_node : 0 < nodes = omega (arith, size_axiom r) in
    let root = ap (λ (b : List ℕ). rule_within levels nodes input (b ++ rest)) (spelling_axiom r) ∙ rule_again levels nodes input some_level some_node (Axiom r) rest (same (names_axiom r) names) in
    proof_at-ok levels nodes input (proof_spelling (by_axiom r) ++ rest) rest (Axiom r) some_level root
    ∙ ap (λ (k : ℕ). Ok (by_axiom r, (nodes - k, rest))) (sym (size_axiom r))

again_one : (r : OnePremise) (p : ProofView) → Again p → Again (by_one r p)
unfolding rule_spelling
again_one r p again levels nodes input rest deep large names =
    let some_level : 0 < levels = omega (arith, depth_one r p) in
    let some_node : 0 < nodes = omega (arith, size_one r p) in
    let parts = same (names_one r p) names in
    let bytes_are = ap (λ (b : List ℕ). b ++ rest) (spelling_one r p) ∙ append_assoc (one_spelling r) (proof_spelling p) rest in
    let root = ap (rule_within levels nodes input) bytes_are ∙ rule_again levels nodes input some_level some_node (One r) (proof_spelling p ++ rest) parts.0 in
    let inner = again (levels - 1) (nodes - 1) input rest (omega (arith, depth_one r p)) (omega (arith, size_one r p)) parts.1 in
    let left : (nodes - 1) - size p ≡ nodes - size (by_one r p) = omega (arith, size_one r p) in
    proof_at-ok levels nodes input (proof_spelling (by_one r p) ++ rest) (proof_spelling p ++ rest) (One r) some_level root
    ∙ ap (λ (x : ProofReading). x >>= λ y. Ok (by_one r y.0, y.1)) inner
    ∙ ap (λ (k : ℕ). Ok (by_one r p, (k, rest))) left

again_two : (r : TwoPremises) (p q : ProofView) → Again p → Again q → Again (by_two r p q)
unfolding rule_spelling
again_two r p q again_p again_q levels nodes input rest deep large names =
    let some_level : 0 < levels = omega (arith, depth_two r p q) in
    let some_node : 0 < nodes = omega (arith, size_two r p q) in
    let parts = same (names_two r p q) names in
    let bytes_are = ap (λ (b : List ℕ). b ++ rest) (spelling_two r p q) ∙ append_assoc (two_spelling r) (proof_spelling p ++ proof_spelling q) rest
    ∙ ap (λ (b : List ℕ). two_spelling r ++ b) (append_assoc (proof_spelling p) (proof_spelling q) rest) in
    let root = ap (rule_within levels nodes input) bytes_are ∙ rule_again levels nodes input some_level some_node (Two r) (proof_spelling p ++ (proof_spelling q ++ rest)) parts.0 in
    let first = again_p (levels - 1) (nodes - 1) input (proof_spelling q ++ rest) (omega (arith, depth_two r p q)) (omega (arith, size_two r p q)) parts.1.0 in
    let second = again_q (levels - 1) ((nodes - 1) - size p) input rest (omega (arith, depth_two r p q)) (omega (arith, size_two r p q)) parts.1.1 in
    let left : ((nodes - 1) - size p) - size q ≡ nodes - size (by_two r p q) = omega (arith, size_two r p q) in
    proof_at-ok levels nodes input (proof_spelling (by_two r p q) ++ rest) (proof_spelling p ++ (proof_spelling q ++ rest)) (Two r) some_level root
    ∙ ap (λ (x : ProofReading). x >>= λ y. proof_at (levels - 1) y.1.0 input y.1.1 >>= λ z. Ok (by_two r y.0 z.0, z.1)) first
    ∙ ap (λ (x : ProofReading). x >>= λ z. Ok (by_two r p z.0, z.1)) second
    ∙ ap (λ (k : ℕ). Ok (by_two r p q, (k, rest))) left

pub proof_again : (d : ProofView) → Again d
proof_again d = by_premises Again again_axiom again_one again_two d

-- ---- what is read was spelled so

pub record FoundProof (levels nodes : ℕ) (bytes : List ℕ) (d : ProofView) (left : ℕ) (rest : List ℕ) : Type 0 where
  pub names : NamesSpellable d
  pub bytes_are : bytes ≡ proof_spelling d ++ rest
  pub nodes_are : size d + left ≡ nodes
  pub levels_are : depth d ≤ levels

-- what is read at some levels was spelled so
abbrev Finds : ℕ → ℕ → Type 0
Finds levels input = (nodes : ℕ) (bytes rest : List ℕ) (d : ProofView) (left : ℕ) → AreBytes bytes → proof_at levels nodes input bytes ≡ Ok (d, (left, rest)) → FoundProof levels nodes bytes d left rest

behind : (bytes front rest : List ℕ) → AreBytes bytes → bytes ≡ front ++ rest → AreBytes rest
behind bytes front rest fits e = AreBytes-behind front rest (subst AreBytes e fits)

whole : (levels nodes : ℕ) (bytes : List ℕ) (x y : ProofView × (ℕ × List ℕ)) → ◌≡◌ {A = ProofReading} (Ok x) (Ok y) → FoundProof levels nodes bytes x.0 x.1.0 x.1.1 → FoundProof levels nodes bytes y.0 y.1.0 y.1.1
whole levels nodes bytes x y e found = subst (λ (z : ProofView × (ℕ × List ℕ)). FoundProof levels nodes bytes z.0 z.1.0 z.1.1) (ok_is x y e) found

premises_found : (levels input : ℕ) → Finds levels input → (nodes : ℕ) (bytes more rest : List ℕ) (r : Rule) (d : ProofView) (left : ℕ) → AreBytes more → Found (suc levels) nodes bytes r more
    → premises_at (λ some next. proof_at levels some input next) r (nodes - 1) more ≡ Ok (d, (left, rest)) → FoundProof (suc levels) nodes bytes d left rest
unfolding rule_spelling
premises_found levels input finds nodes bytes more rest (Axiom r) d left fits root e =
    let some_node = root.some_node in
    whole (suc levels) nodes bytes (by_axiom r, (nodes - 1, more)) (d, (left, rest)) e (record {
      names = same (sym (names_axiom r)) root.spelled.0;
      bytes_are = root.spelled.1 ∙ ap (λ (b : List ℕ). b ++ more) (sym (spelling_axiom r));
      nodes_are = omega (arith, size_axiom r);
      levels_are = omega (arith, depth_axiom r);
    })
premises_found levels input finds nodes bytes more rest (One r) d left fits root e =
    let some_node = root.some_node in
    let b = bind_ok (proof_at levels (nodes - 1) input more) (λ y. Ok (by_one r y.0, y.1)) (d, (left, rest)) e in
    let inner = finds (nodes - 1) more b.0.1.1 b.0.0 b.0.1.0 fits b.1 in
    let nodes_are = inner.nodes_are in
    let levels_are = inner.levels_are in
    whole (suc levels) nodes bytes (by_one r b.0.0, b.0.1) (d, (left, rest)) b.2 (record {
      names = same (sym (names_one r b.0.0)) (root.spelled.0, inner.names);
      bytes_are = root.spelled.1 ∙ ap (λ (x : List ℕ). one_spelling r ++ x) inner.bytes_are ∙ sym (append_assoc (one_spelling r) (proof_spelling b.0.0) b.0.1.1) ∙ ap (λ (x : List ℕ). x ++ b.0.1.1) (sym (spelling_one r b.0.0));
      nodes_are = omega (arith, size_one r b.0.0);
      levels_are = omega (arith, depth_one r b.0.0);
    })
premises_found levels input finds nodes bytes more rest (Two r) d left fits root e =
    let some_node = root.some_node in
    let b = bind_ok (proof_at levels (nodes - 1) input more) (λ y. proof_at levels y.1.0 input y.1.1 >>= λ z. Ok (by_two r y.0 z.0, z.1)) (d, (left, rest)) e in
    let c = bind_ok (proof_at levels b.0.1.0 input b.0.1.1) (λ z. Ok (by_two r b.0.0 z.0, z.1)) (d, (left, rest)) b.2 in
    let first = finds (nodes - 1) more b.0.1.1 b.0.0 b.0.1.0 fits b.1 in
    let second = finds b.0.1.0 b.0.1.1 c.0.1.1 c.0.0 c.0.1.0 (behind more (proof_spelling b.0.0) b.0.1.1 fits first.bytes_are) c.1 in
    let nodes_first = first.nodes_are in
    let nodes_second = second.nodes_are in
    let levels_first = first.levels_are in
    let levels_second = second.levels_are in
    whole (suc levels) nodes bytes (by_two r b.0.0 c.0.0, c.0.1) (d, (left, rest)) c.2 (record {
      names = same (sym (names_two r b.0.0 c.0.0)) (root.spelled.0, (first.names, second.names));
      bytes_are = root.spelled.1 ∙ ap (λ (x : List ℕ). two_spelling r ++ x) (first.bytes_are ∙ ap (λ (x : List ℕ). proof_spelling b.0.0 ++ x) second.bytes_are ∙ sym (append_assoc (proof_spelling b.0.0) (proof_spelling c.0.0) c.0.1.1))
          ∙ sym (append_assoc (two_spelling r) (proof_spelling b.0.0 ++ proof_spelling c.0.0) c.0.1.1) ∙ ap (λ (x : List ℕ). x ++ c.0.1.1) (sym (spelling_two r b.0.0 c.0.0));
      nodes_are = omega (arith, size_two r b.0.0 c.0.0);
      levels_are = omega (arith, depth_two r b.0.0 c.0.0);
    })

none : (x : ProofView × (ℕ × List ℕ)) → ◌≡◌ {A = ProofReading} (Err Short) (Ok x) → ⊥
none x e = cc

pub proof_found : (levels input : ℕ) → Finds levels input
unfolding proof_at
proof_found zero input nodes bytes rest d left fits e =
    let b = bind_ok (rule_within 0 nodes input bytes) (λ rule. Err Short) (d, (left, rest)) e in
    absurd (none (d, (left, rest)) b.2)
proof_found (suc levels) input nodes bytes rest d left fits e =
    let b = bind_ok (rule_within (suc levels) nodes input bytes) (λ rule. premises_at (λ some next. proof_at levels some input next) rule.0 (nodes - 1) rule.1) (d, (left, rest)) e in
    let root = rule_found (suc levels) nodes input bytes b.0.1 b.0.0 fits b.1 in
    premises_found levels input (proof_found levels input) nodes bytes b.0.1 rest b.0.0 d left (behind bytes (rule_spelling b.0.0) b.0.1 fits root.spelled.1) root b.2
