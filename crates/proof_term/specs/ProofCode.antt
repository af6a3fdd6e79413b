-- Proofs can be told apart: each is given back by its nodes, children first.
use Rattle.std.specs.Prelude.{◌≡◌, ℕ, List, [], ◌∷◌, ◌++◌, refl, ◌==◌, if◌then◌else◌}
use Rattle.std.proofs.Common.{ap, sym, ◌∙◌, append_assoc}
use Rattle.std.proofs.lemmas.List.{append-nil}
use Rattle.std.specs.Coded.{Coded, code_by, coded×, coded_ℕ, coded_list}
use Rattle.bl_syntax.specs.declared.terms.Term.{Term}
use Rattle.bl_syntax.specs.contracts.terms.Term as term
use Rattle.proof_term.specs.Proof.{ProofView, init, cons_r, inter_r, and_r, or_r1, or_r2, true_r, imp_r, forall_r, exists_r, says_r, at_r, cons_l, inter_l, and_l, or_l, false_l, imp_l, forall_l, exists_l, says_l, claim, at_l}

-- a node without its children: its rule, its hypothesis (0 where the rule names none) and its terms
abbrev ProofNode : Type 0
ProofNode = ℕ × (ℕ × List Term)

abbrev node_code : Coded ProofNode
node_code = coded× coded_ℕ (coded× coded_ℕ (coded_list term.the_row.coded))

abbrev node : ℕ → ℕ → List Term → ProofNode
node rule h terms = (rule, (h, terms))

-- the nodes of a proof, children first
abbrev nodes : ProofView → List ProofNode
nodes (init h) = node 0 h [] ∷ []
nodes cons_r = node 1 0 [] ∷ []
nodes inter_r = node 2 0 [] ∷ []
nodes (and_r p q) = nodes p ++ (nodes q ++ node 3 0 [] ∷ [])
nodes (or_r1 p) = nodes p ++ node 4 0 [] ∷ []
nodes (or_r2 p) = nodes p ++ node 5 0 [] ∷ []
nodes true_r = node 6 0 [] ∷ []
nodes (imp_r p) = nodes p ++ node 7 0 [] ∷ []
nodes (forall_r p) = nodes p ++ node 8 0 [] ∷ []
nodes (exists_r t p) = nodes p ++ node 9 0 (t ∷ []) ∷ []
nodes (says_r p) = nodes p ++ node 10 0 [] ∷ []
nodes (at_r p) = nodes p ++ node 11 0 [] ∷ []
nodes (cons_l h p) = nodes p ++ node 12 h [] ∷ []
nodes (inter_l h p) = nodes p ++ node 13 h [] ∷ []
nodes (and_l h p) = nodes p ++ node 14 h [] ∷ []
nodes (or_l h p q) = nodes p ++ (nodes q ++ node 15 h [] ∷ [])
nodes (false_l h) = node 16 h [] ∷ []
nodes (imp_l h t1 t2 p q) = nodes p ++ (nodes q ++ node 17 h (t1 ∷ t2 ∷ []) ∷ [])
nodes (forall_l h t p) = nodes p ++ node 18 h (t ∷ []) ∷ []
nodes (exists_l h p) = nodes p ++ node 19 h [] ∷ []
nodes (says_l h p) = nodes p ++ node 20 h [] ∷ []
nodes (claim h p) = nodes p ++ node 21 h [] ∷ []
nodes (at_l h p) = nodes p ++ node 22 h [] ∷ []

-- the two newest proofs become one
abbrev join : (ProofView → ProofView → ProofView) → List ProofView → List ProofView
join f (q ∷ p ∷ rest) = f p q ∷ rest
join f _ = []

-- the newest proof becomes another
abbrev wrap : (ProofView → ProofView) → List ProofView → List ProofView
wrap f (p ∷ rest) = f p ∷ rest
wrap f _ = []

abbrev by_term : (Term → ProofView → ProofView) → List Term → List ProofView → List ProofView
by_term f (t ∷ []) proofs = wrap (f t) proofs
by_term f _ proofs = []

abbrev by_terms : (Term → Term → ProofView → ProofView → ProofView) → List Term → List ProofView →
    List ProofView
by_terms f (t1 ∷ t2 ∷ []) proofs = join (f t1 t2) proofs
by_terms f _ proofs = []

-- the proofs so far, after one more node
abbrev after_node : ProofNode → List ProofView → List ProofView
after_node n proofs =
    if n.0 == 0 then init n.1.0 ∷ proofs else
    if n.0 == 1 then cons_r ∷ proofs else
    if n.0 == 2 then inter_r ∷ proofs else
    if n.0 == 3 then join and_r proofs else
    if n.0 == 4 then wrap or_r1 proofs else
    if n.0 == 5 then wrap or_r2 proofs else
    if n.0 == 6 then true_r ∷ proofs else
    if n.0 == 7 then wrap imp_r proofs else
    if n.0 == 8 then wrap forall_r proofs else
    if n.0 == 9 then by_term exists_r n.1.1 proofs else
    if n.0 == 10 then wrap says_r proofs else
    if n.0 == 11 then wrap at_r proofs else
    if n.0 == 12 then wrap (cons_l n.1.0) proofs else
    if n.0 == 13 then wrap (inter_l n.1.0) proofs else
    if n.0 == 14 then wrap (and_l n.1.0) proofs else
    if n.0 == 15 then join (or_l n.1.0) proofs else
    if n.0 == 16 then false_l n.1.0 ∷ proofs else
    if n.0 == 17 then by_terms (imp_l n.1.0) n.1.1 proofs else
    if n.0 == 18 then by_term (forall_l n.1.0) n.1.1 proofs else
    if n.0 == 19 then wrap (exists_l n.1.0) proofs else
    if n.0 == 20 then wrap (says_l n.1.0) proofs else
    if n.0 == 21 then wrap (claim n.1.0) proofs else
    wrap (at_l n.1.0) proofs

abbrev build : List ProofNode → List ProofView → List ProofView
build [] proofs = proofs
build (n ∷ ns) proofs = build ns (after_node n proofs)

-- the nodes of a proof make it
abbrev MakesProof : ProofView → Type 0
MakesProof d = (rest : List ProofNode) (proofs : List ProofView) →
    build (nodes d ++ rest) proofs ≡ build rest (d ∷ proofs)

after_two : (p q : ProofView) (n : ProofNode) → MakesProof p → MakesProof q →
    (rest : List ProofNode) (proofs : List ProofView) →
    build ((nodes p ++ (nodes q ++ n ∷ [])) ++ rest) proofs ≡ build rest (after_node n (q ∷ p ∷ proofs))
after_two p q n makes_p makes_q rest proofs =
    ap (λ (ns : List ProofNode). build ns proofs) (append_assoc (nodes p) (nodes q ++ n ∷ []) rest
    ∙ ap (λ (ns : List ProofNode). nodes p ++ ns) (append_assoc (nodes q) (n ∷ []) rest))
    ∙ makes_p (nodes q ++ (n ∷ rest)) proofs ∙ makes_q (n ∷ rest) (p ∷ proofs)

after_one : (p : ProofView) (n : ProofNode) → MakesProof p →
    (rest : List ProofNode) (proofs : List ProofView) →
    build ((nodes p ++ n ∷ []) ++ rest) proofs ≡ build rest (after_node n (p ∷ proofs))
after_one p n makes_p rest proofs =
    ap (λ (ns : List ProofNode). build ns proofs) (append_assoc (nodes p) (n ∷ []) rest) ∙ makes_p (n ∷ rest) proofs

built-nodes : (d : ProofView) → MakesProof d
built-nodes (init h) rest proofs = refl
built-nodes cons_r rest proofs = refl
built-nodes inter_r rest proofs = refl
built-nodes (and_r p q) rest proofs = after_two p q (node 3 0 []) (built-nodes p) (built-nodes q) rest proofs
built-nodes (or_r1 p) rest proofs = after_one p (node 4 0 []) (built-nodes p) rest proofs
built-nodes (or_r2 p) rest proofs = after_one p (node 5 0 []) (built-nodes p) rest proofs
built-nodes true_r rest proofs = refl
built-nodes (imp_r p) rest proofs = after_one p (node 7 0 []) (built-nodes p) rest proofs
built-nodes (forall_r p) rest proofs = after_one p (node 8 0 []) (built-nodes p) rest proofs
built-nodes (exists_r t p) rest proofs = after_one p (node 9 0 (t ∷ [])) (built-nodes p) rest proofs
built-nodes (says_r p) rest proofs = after_one p (node 10 0 []) (built-nodes p) rest proofs
built-nodes (at_r p) rest proofs = after_one p (node 11 0 []) (built-nodes p) rest proofs
built-nodes (cons_l h p) rest proofs = after_one p (node 12 h []) (built-nodes p) rest proofs
built-nodes (inter_l h p) rest proofs = after_one p (node 13 h []) (built-nodes p) rest proofs
built-nodes (and_l h p) rest proofs = after_one p (node 14 h []) (built-nodes p) rest proofs
built-nodes (or_l h p q) rest proofs = after_two p q (node 15 h []) (built-nodes p) (built-nodes q) rest proofs
built-nodes (false_l h) rest proofs = refl
built-nodes (imp_l h t1 t2 p q) rest proofs = after_two p q (node 17 h (t1 ∷ t2 ∷ [])) (built-nodes p) (built-nodes q) rest proofs
built-nodes (forall_l h t p) rest proofs = after_one p (node 18 h (t ∷ [])) (built-nodes p) rest proofs
built-nodes (exists_l h p) rest proofs = after_one p (node 19 h []) (built-nodes p) rest proofs
built-nodes (says_l h p) rest proofs = after_one p (node 20 h []) (built-nodes p) rest proofs
built-nodes (claim h p) rest proofs = after_one p (node 21 h []) (built-nodes p) rest proofs
built-nodes (at_l h p) rest proofs = after_one p (node 22 h []) (built-nodes p) rest proofs

abbrev newest_proof : List ProofView → ProofView
newest_proof [] = true_r
newest_proof (d ∷ proofs) = d

pub rebuild : (d : ProofView) → newest_proof (build (nodes d) []) ≡ d
rebuild d = ap (λ (ns : List ProofNode). newest_proof (build ns [])) (sym (append-nil (nodes d))) ∙ ap newest_proof (built-nodes d [] [])

-- a proof is told apart by its nodes
abbrev pub proof_code : Coded ProofView
proof_code = code_by (List ProofNode) (coded_list node_code) nodes (λ ns. newest_proof (build ns [])) rebuild
