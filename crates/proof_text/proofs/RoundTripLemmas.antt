-- What is written is read again.
use Rattle.std.proofs.Common.{◌≡◌, ℕ, ◌+◌, ◌-◌, ◌≤◌, List, [], ◌∷◌, ◌++◌, length, refl, sym, ap, ◌∙◌, subst, arith, Result, Ok, Err, append_assoc}
use Rattle.std.specs.Prelude.{if◌then◌else◌, codes}
use Rattle.std.proofs.lemmas.List.{length-append, append-nil}
use Rattle.bl_tokens.specs.declared.classes.Class.TheVariants as classes
use Rattle.bl_tokens.specs.declared.faults.TextFault.{TextFault}
use Rattle.bl_tokens.specs.declared.tokens.Token.TheVariants as tokens
use Rattle.bl_tokens.specs.declared.tokens.Cursor.{Cursor}
use Rattle.bl_tokens.specs.Classes.{is_in}
use Rattle.bl_tokens.specs.Tokens.{sized_lexeme}
use Rattle.bl_text.specs.Texts.{is_end}
use Rattle.proof_term.specs.declared.rule.Axiom.{Axiom}
use Rattle.proof_term.specs.declared.rule.OnePremise.{OnePremise}
use Rattle.proof_term.specs.declared.rule.TwoPremises.{TwoPremises}
use Rattle.proof_term.specs.Proof.{ProofView}
use Rattle.proof_term.specs.Limits.{size, depth}
use Rattle.proof_term.specs.Rules.{by_axiom, by_one, by_two}
use Rattle.proof_term.proofs.ProofLemmas.{same}
use Rattle.proof_term.proofs.ShapeLemmas.{folded_axiom, folded_one, folded_two, size_axiom, size_one, size_two, depth_axiom, depth_one, depth_two, by_premises}
use Rattle.proof_text.specs.declared.cursor.ProofCursor.{ProofCursor}
use Rattle.proof_text.specs.Cursor.{cursor_at}
use Rattle.proof_text.specs.RoundTrip.{IsSayableAxiom, IsSayableOne, IsSayableTwo, NamesSayable, IsPrintableProof}
use Rattle.proof_text.specs.Printed.{axiom_text, one_text, two_text, proof_text}
use Rattle.proof_text.specs.Proofs.{IsProof, no_premise, one_premise, two_premises}
use Rattle.proof_text.specs.Texts.{at_end, IsProofText, whole_proof}
use Rattle.proof_text.proofs.LexLemmas.{Ends, At, token_written, close_written, comma_written}
use Rattle.proof_text.proofs.HeadTexts.{at_behind, at_next, axiom_headed, one_headed, two_headed}

-- the text of the proof is read, wherever it stands
abbrev Written : ProofView → Type 0
Written d = (text ys : List ℕ) (levels from left : ℕ) → NamesSayable d → depth d ≤ levels → size d ≤ left → Ends (is_in classes.Word) ys → At text from (proof_text d ++ ys)
    → IsProof text levels (cursor_at from left) (cursor_at (from + length (proof_text d)) (left - size d)) d

-- a proof up to another place, which is the same
up_to : {text : List ℕ} {levels : ℕ} {here : ProofCursor} {d : ProofView} (from left from' left' : ℕ) → from ≡ from' → left ≡ left' → IsProof text levels here (cursor_at from left) d → IsProof text levels here (cursor_at from' left') d
up_to {text} {levels} {here} {d} from left from' left' same_from same_left h =
    subst (λ k. IsProof text levels here (cursor_at from' k) d) same_left (subst (λ k. IsProof text levels here (cursor_at k left) d) same_from h)

text_axiom : (r : Axiom) → proof_text (by_axiom r) ≡ axiom_text r
text_axiom r = folded_axiom axiom_text (λ r p. one_text r ++ (p ++ codes ")")) (λ r p q. two_text r ++ (p ++ (codes "," ++ (q ++ codes ")")))) r

text_one : (r : OnePremise) (p : ProofView) → proof_text (by_one r p) ≡ one_text r ++ (proof_text p ++ 41 ∷ [])
text_one r p = folded_one axiom_text (λ r p. one_text r ++ (p ++ codes ")")) (λ r p q. two_text r ++ (p ++ (codes "," ++ (q ++ codes ")")))) r p

text_two : (r : TwoPremises) (p q : ProofView) → proof_text (by_two r p q) ≡ two_text r ++ (proof_text p ++ 44 ∷ (proof_text q ++ 41 ∷ []))
text_two r p q = folded_two axiom_text (λ r p. one_text r ++ (p ++ codes ")")) (λ r p q. two_text r ++ (p ++ (codes "," ++ (q ++ codes ")")))) r p q

names_axiom : (r : Axiom) → NamesSayable (by_axiom r) ≡ IsSayableAxiom r
names_axiom r = folded_axiom IsSayableAxiom (λ r P. IsSayableOne r × P) (λ r P Q. IsSayableTwo r × (P × Q)) r

names_one : (r : OnePremise) (p : ProofView) → NamesSayable (by_one r p) ≡ (IsSayableOne r × NamesSayable p)
names_one r p = folded_one IsSayableAxiom (λ r P. IsSayableOne r × P) (λ r P Q. IsSayableTwo r × (P × Q)) r p

names_two : (r : TwoPremises) (p q : ProofView) → NamesSayable (by_two r p q) ≡ (IsSayableTwo r × (NamesSayable p × NamesSayable q))
names_two r p q = folded_two IsSayableAxiom (λ r P. IsSayableOne r × P) (λ r P Q. IsSayableTwo r × (P × Q)) r p q

axiom_written : (r : Axiom) → Written (by_axiom r)
axiom_written r text ys levels from left names few some ends here =
    let size_is = size_axiom r in
    let depth_is = depth_axiom r in
    let says = same (names_axiom r) names in
    let here' : At text from (axiom_text r ++ ys) = here ∙ ap (λ (bs : List ℕ). bs ++ ys) (text_axiom r) in
    up_to (from + length (axiom_text r)) (left - 1) _ _ (ap (λ (bs : List ℕ). from + length bs) (sym (text_axiom r))) (ap (λ n. left - n) (sym size_is))
    (no_premise levels (cursor_at from left) _ r (by_axiom r) (axiom_headed text levels from left (omega (arith, some, size_is)) (omega (arith, few, depth_is)) r ys says ends here') refl)

one_written : (r : OnePremise) (p : ProofView) → Written p → Written (by_one r p)
one_written r p inner text ys levels from left names few some ends here =
    let size_is = size_one r p in
    let depth_is = depth_one r p in
    let says = same (names_one r p) names in
    let here' : At text from (one_text r ++ (proof_text p ++ 41 ∷ ys)) =
    here ∙ ap (λ (bs : List ℕ). bs ++ ys) (text_one r p) ∙ append_assoc (one_text r) (proof_text p ++ 41 ∷ []) ys ∙ ap (λ (bs : List ℕ). one_text r ++ bs) (append_assoc (proof_text p) (41 ∷ []) ys) in
    let first = from + length (one_text r) in
    let premise = at_behind text from (one_text r) (proof_text p ++ 41 ∷ ys) here' in
    let close = at_behind text (from + length (one_text r)) (proof_text p) (41 ∷ ys) premise in
    let whole = length-append (one_text r) (proof_text p ++ 41 ∷ []) in
    let part = length-append (proof_text p) (41 ∷ []) in
    let text_is = ap (λ (bs : List ℕ). length bs) (text_one r p) in
    up_to (from + length (one_text r) + length (proof_text p) + 1) (left - 1 - size p) _ _ (omega (arith, whole, part, text_is)) (omega (arith, size_is, some))
    (one_premise levels (cursor_at from left) (cursor_at (from + length (one_text r)) (left - 1)) (cursor_at (from + length (one_text r) + length (proof_text p)) (left - 1 - size p)) _ r p (by_one r p)
    (one_headed text levels from left (omega (arith, some, size_is)) (omega (arith, few, depth_is)) r (proof_text p ++ 41 ∷ ys) says.0 here')
    (inner text (41 ∷ ys) (levels - 1) (from + length (one_text r)) (left - 1) says.1 (omega (arith, few, depth_is)) (omega (arith, some, size_is)) refl premise)
    (close_written text (from + length (one_text r) + length (proof_text p)) (left - 1 - size p) ys close) refl)

two_written : (r : TwoPremises) (p q : ProofView) → Written p → Written q → Written (by_two r p q)
two_written r p q inner further text ys levels from left names few some ends here =
    let size_is = size_two r p q in
    let depth_is = depth_two r p q in
    let says = same (names_two r p q) names in
    let here' : At text from (two_text r ++ (proof_text p ++ 44 ∷ (proof_text q ++ 41 ∷ ys))) =
    here ∙ ap (λ (bs : List ℕ). bs ++ ys) (text_two r p q) ∙ append_assoc (two_text r) (proof_text p ++ 44 ∷ (proof_text q ++ 41 ∷ [])) ys
    ∙ ap (λ (bs : List ℕ). two_text r ++ bs) (append_assoc (proof_text p) (44 ∷ (proof_text q ++ 41 ∷ [])) ys)
    ∙ ap (λ (bs : List ℕ). two_text r ++ (proof_text p ++ 44 ∷ bs)) (append_assoc (proof_text q) (41 ∷ []) ys) in
    let first = from + length (two_text r) in
    let mid = from + length (two_text r) + length (proof_text p) in
    let premise = at_behind text from (two_text r) (proof_text p ++ 44 ∷ (proof_text q ++ 41 ∷ ys)) here' in
    let comma = at_behind text (from + length (two_text r)) (proof_text p) (44 ∷ (proof_text q ++ 41 ∷ ys)) premise in
    let second = at_next text (from + length (two_text r) + length (proof_text p)) 44 (proof_text q ++ 41 ∷ ys) comma in
    let close = at_behind text (from + length (two_text r) + length (proof_text p) + 1) (proof_text q) (41 ∷ ys) second in
    let whole = length-append (two_text r) (proof_text p ++ 44 ∷ (proof_text q ++ 41 ∷ [])) in
    let part = length-append (proof_text p) (44 ∷ (proof_text q ++ 41 ∷ [])) in
    let last = length-append (proof_text q) (41 ∷ []) in
    let text_is = ap (λ (bs : List ℕ). length bs) (text_two r p q) in
    up_to (from + length (two_text r) + length (proof_text p) + 1 + length (proof_text q) + 1) (left - 1 - size p - size q) _ _ (omega (arith, whole, part, last, text_is)) (omega (arith, size_is, some))
    (two_premises levels (cursor_at from left) (cursor_at (from + length (two_text r)) (left - 1)) (cursor_at (from + length (two_text r) + length (proof_text p)) (left - 1 - size p))
    (cursor_at (from + length (two_text r) + length (proof_text p) + 1) (left - 1 - size p)) (cursor_at (from + length (two_text r) + length (proof_text p) + 1 + length (proof_text q)) (left - 1 - size p - size q)) _ r p q (by_two r p q)
    (two_headed text levels from left (omega (arith, some, size_is)) (omega (arith, few, depth_is)) r (proof_text p ++ 44 ∷ (proof_text q ++ 41 ∷ ys)) says.0 here')
    (inner text (44 ∷ (proof_text q ++ 41 ∷ ys)) (levels - 1) (from + length (two_text r)) (left - 1) says.1.0 (omega (arith, few, depth_is)) (omega (arith, some, size_is)) refl premise)
    (comma_written text (from + length (two_text r) + length (proof_text p)) (left - 1 - size p) (proof_text q ++ 41 ∷ ys) comma)
    (further text (41 ∷ ys) (levels - 1) (from + length (two_text r) + length (proof_text p) + 1) (left - 1 - size p) says.1.1 (omega (arith, few, depth_is)) (omega (arith, some, size_is)) refl second)
    (close_written text (from + length (two_text r) + length (proof_text p) + 1 + length (proof_text q)) (left - 1 - size p - size q) ys close) refl)

written : (d : ProofView) → Written d
written d = by_premises Written axiom_written one_written two_written d

abbrev end_by : Cursor → Result (Unit {0}) TextFault
end_by token = if is_end token.token then Ok tt else Err (TextFault.Unexpected token.at)

ended_written : (text : List ℕ) (from left : ℕ) → At text from [] → at_end text (cursor_at from left) ≡ Ok tt
unfolding at_end
ended_written text from left here = ap end_by (token_written text from left [] (sized_lexeme tokens.End 0) here refl refl)

pub text_is_read : (d : ProofView) → IsPrintableProof d → IsProofText (proof_text d) d
text_is_read d says =
    let all : At (proof_text d) 0 (proof_text d ++ []) = sym (append-nil (proof_text d)) in
    let end = at_behind (proof_text d) 0 (proof_text d) [] all in
    whole_proof (cursor_at (0 + length (proof_text d)) (4096 - size d)) (written d (proof_text d) [] 200 0 4096 says.names says.within_limits.levels says.within_limits.nodes tt all)
    (ended_written (proof_text d) (0 + length (proof_text d)) (4096 - size d) end)
