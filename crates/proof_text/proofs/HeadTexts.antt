-- The heads of proofs as they are written.
use Rattle.std.proofs.Common.{◌≡◌, ℕ, zero, suc, ◌+◌, ◌-◌, ◌^◌, ◌<◌, ◌≤◌, Bool, true, false, List, [], ◌∷◌, ◌++◌, length, drop, refl, ap, ◌∙◌, arith, IsTrue, Some, Result, Ok, Err, append_assoc}
use Rattle.std.specs.Prelude.{if◌then◌else◌, ◌&&◌, nat_le, codes}
use Rattle.std.specs.List.{list_all}
use Rattle.std.specs.Fmt.{decimal}
use Rattle.std.proofs.lemmas.Bool.Decides.{nat_tests}
use Rattle.std.proofs.lemmas.List.{length-append}
use Rattle.std.proofs.Math.Seq.{drop-append_seam}
use Rattle.bl_syntax.specs.declared.terms.Sort.TheVariants as sorts
use Rattle.bl_syntax.specs.declared.terms.Term.{Term}
use Rattle.bl_syntax.specs.declared.terms.Term.TheVariants as terms
use Rattle.bl_syntax.specs.Spelling.{IsSpellable}
use Rattle.bl_tokens.specs.declared.classes.Class.TheVariants as classes
use Rattle.bl_tokens.specs.declared.faults.TextFault.{TextFault}
use Rattle.bl_tokens.specs.declared.tokens.Sign.TheVariants as signs
use Rattle.bl_tokens.specs.declared.tokens.Cursor.{Cursor}
use Rattle.bl_tokens.specs.Classes.{is_in}
use Rattle.bl_tokens.specs.Tokens.{token_from, sized_lexeme}
use Rattle.bl_text.specs.Pieces.{◌>>=◌, term_of, require_sort}
use Rattle.bl_text.specs.Printed.{term_text}
use Rattle.proof_term.specs.declared.rule.Rule.{Rule}
use Rattle.proof_term.specs.declared.rule.Rule.TheVariants as rules
use Rattle.proof_term.specs.declared.rule.Axiom.{Axiom}
use Rattle.proof_term.specs.declared.rule.Axiom.TheVariants as axioms
use Rattle.proof_term.specs.declared.rule.OnePremise.{OnePremise}
use Rattle.proof_term.specs.declared.rule.OnePremise.TheVariants as one
use Rattle.proof_term.specs.declared.rule.TwoPremises.{TwoPremises}
use Rattle.proof_term.specs.declared.rule.TwoPremises.TheVariants as two
use Rattle.proof_text.specs.declared.names.PlainRule.{PlainRule}
use Rattle.proof_text.specs.declared.names.PlainRule.TheVariants.{ConsR, InterR, AndR, OrR1, OrR2, TrueR, ImpR, ForallR, ExistsR, SaysR, AtR}
use Rattle.proof_text.specs.declared.names.CitingRule.{CitingRule}
use Rattle.proof_text.specs.declared.names.CitingRule.TheVariants.{Init, ConsL, InterL, AndL, OrL, FalseL, ImpL, ForallL, ExistsL, SaysL, Claim, AtL}
use Rattle.proof_text.specs.declared.names.RuleName.{RuleName}
use Rattle.proof_text.specs.declared.names.RuleName.TheVariants.{Plain, Citing}
use Rattle.proof_text.specs.declared.cursor.ProofCursor.{ProofCursor}
use Rattle.proof_text.specs.Rules.{rule_named}
use Rattle.proof_text.specs.Cursor.{cursor_at, first_byte, cursor_after_token, cursor_after_sign, term_at, time_at, hypothesis_at, is_word_start, room, take_rule}
use Rattle.proof_text.specs.Heads.{premise_head, finish_head, start_head, with_term, plain_head, with_instance, with_interval, citing_head, with_hypothesis, named_head, head}
use Rattle.proof_text.specs.RoundTrip.{IsClosedTerm, IsTimeTerm, IsHypothesisNumber, IsSayableAxiom, IsSayableOne, IsSayableTwo}
use Rattle.proof_text.specs.Printed.{cited_text, term_field, axiom_text, one_text, two_text}
use Rattle.proof_text.proofs.LexLemmas.{Ends, At, made, hypothesis_written, rule_written, token_written, open_written, close_written, comma_written}
use Rattle.proof_text.proofs.TermLemmas.{token_of, term_lexeme, term_unspaced}
use Rattle.bl_text.proofs.PlaceLemmas.{drop_plus}

-- ---- what stands after what was read

drop_nothing : (n : ℕ) → ◌≡◌ {A = List ℕ} (drop n []) []
drop_nothing zero = refl
drop_nothing (suc n) = refl

pub at_behind : (text : List ℕ) (from : ℕ) (xs ys : List ℕ) → At text from (xs ++ ys) → At text (from + length xs) ys
at_behind text from xs ys here = drop_plus from (length xs) text ∙ ap (drop (length xs)) here ∙ drop-append_seam xs ys

pub at_next : (text : List ℕ) (from : ℕ) (x : ℕ) (ys : List ℕ) → At text from (x ∷ ys) → At text (from + 1) ys
at_next text from x ys here = at_behind text from (x ∷ []) ys here

-- ---- terms

term_token : (text : List ℕ) (from left : ℕ) (t : Term) (ys : List ℕ) → IsSpellable t → IsClosedTerm t → At text from (term_text 0 t ++ 44 ∷ ys)
    → token_from text from left ≡ made from left (sized_lexeme (token_of t) (length (term_text 0 t)))
term_token text from left t ys spelled finish_head here =
    token_written text from left (term_text 0 t ++ 44 ∷ ys) (sized_lexeme (token_of t) (length (term_text 0 t))) here (term_unspaced t ys spelled finish_head) (term_lexeme t ys spelled finish_head)

abbrev term_by : Cursor → Result (Term × ProofCursor) TextFault
term_by token = term_of [] token >>= (λ t. Ok (t, cursor_after_token token))

abbrev time_by : Cursor → Result (Term × ProofCursor) TextFault
time_by token = term_of [] token >>= (λ t. require_sort [] sorts.Time token.at t >>= (λ _. Ok (t, cursor_after_token token)))

term_again : (from left size : ℕ) (t : Term) → IsClosedTerm t → term_by (made from left (sized_lexeme (token_of t) size)) ≡ Ok (t, cursor_at (from + size) left)
unfolding term_of
term_again from left size (terms.Prin name) finish_head = refl
term_again from left size (terms.File n) finish_head = refl
term_again from left size (terms.Perm permission) finish_head = refl
term_again from left size (terms.Time point) finish_head = refl
term_again from left size (terms.Text c) finish_head = refl
term_again from left size terms.Ctime finish_head = refl
term_again from left size (terms.Param n) finish_head = refl
term_again from left size (terms.Bound n) finish_head = absurd finish_head

pub term_written : (text : List ℕ) (from left : ℕ) (t : Term) (ys : List ℕ) → IsSpellable t → IsClosedTerm t → At text from (term_text 0 t ++ 44 ∷ ys)
    → term_at text (cursor_at from left) ≡ Ok (t, cursor_at (from + length (term_text 0 t)) left)
unfolding term_at
term_written text from left t ys spelled finish_head here = ap term_by (term_token text from left t ys spelled finish_head here) ∙ term_again from left (length (term_text 0 t)) t finish_head

time_again : (from left size : ℕ) (t : Term) → IsTimeTerm t → time_by (made from left (sized_lexeme (token_of t) size)) ≡ Ok (t, cursor_at (from + size) left)
unfolding term_of require_sort
time_again from left size (terms.Prin name) timed = absurd timed
time_again from left size (terms.File n) timed = absurd timed
time_again from left size (terms.Perm permission) timed = absurd timed
time_again from left size (terms.Time point) timed = refl
time_again from left size (terms.Text c) timed = absurd timed
time_again from left size terms.Ctime timed = refl
time_again from left size (terms.Param n) timed = refl
time_again from left size (terms.Bound n) timed = absurd timed

time_closed : (t : Term) → IsTimeTerm t → IsClosedTerm t
time_closed (terms.Prin name) timed = tt
time_closed (terms.File n) timed = tt
time_closed (terms.Perm permission) timed = tt
time_closed (terms.Time point) timed = tt
time_closed (terms.Text c) timed = tt
time_closed terms.Ctime timed = tt
time_closed (terms.Param n) timed = tt
time_closed (terms.Bound n) timed = timed

pub time_written : (text : List ℕ) (from left : ℕ) (t : Term) (ys : List ℕ) → IsSpellable t → IsTimeTerm t → At text from (term_text 0 t ++ 44 ∷ ys)
    → time_at text (cursor_at from left) ≡ Ok (t, cursor_at (from + length (term_text 0 t)) left)
unfolding time_at
time_written text from left t ys spelled timed here = ap time_by (term_token text from left t ys spelled (time_closed t timed) here) ∙ time_again from left (length (term_text 0 t)) t timed

-- ---- rules

abbrev room_by : Bool → ℕ → Result (Unit {0}) TextFault
room_by b at = if b then Ok tt else Err (TextFault.TooLarge at)

some_room : (m n : ℕ) → 1 ≤ m → 1 ≤ n → (nat_le 1 m && nat_le 1 n) ≡ true
some_room m n h k = grind (arith, nat_tests)

room_there : (text : List ℕ) (levels : ℕ) (here : ProofCursor) → 1 ≤ here.left → 1 ≤ levels → room text levels here ≡ Ok tt
unfolding room
room_there text levels here some level = ap (λ b. room_by b (first_byte text here)) (some_room here.left levels some level)

-- a name in a text, as it is written
record IsNamed (x : ℕ) (xs : List ℕ) (name : RuleName) : Type 0 where
  known : rule_named (x ∷ xs) ≡ Some name
  letter : is_word_start (x ∷ xs) ≡ true
  all : IsTrue (list_all (is_in classes.Word) (x ∷ xs))

module _ (text : List ℕ) (levels from left : ℕ) (some : 1 ≤ left) (level : 1 ≤ levels) where
  abbrev Headed : Result (Rule × ProofCursor) TextFault → Type 0
  Headed r = head text levels (cursor_at from left) ≡ r

  name_headed : (x : ℕ) (xs ys : List ℕ) (name : RuleName) → IsNamed x xs name → Ends (is_in classes.Word) ys → At text from ((x ∷ xs) ++ ys) → Headed (named_head text name (cursor_at (from + length (x ∷ xs)) (left - 1)))
  unfolding head
  name_headed x xs ys name is ends here =
      ap (λ (r : Result (RuleName × ProofCursor) TextFault). r >>= (λ n. room text levels (cursor_at from left) >>= (λ _. named_head text n.0 (take_rule n.1)))) (rule_written text from left x xs ys name is.known is.letter is.all ends here)
      ∙ ap (λ (r : Result (Unit {0}) TextFault). r >>= (λ _. named_head text name (take_rule (cursor_at (from + length (x ∷ xs)) left)))) (room_there text levels (cursor_at from left) some level)

  -- a rule without fields
  bare_headed : (x : ℕ) (xs ys : List ℕ) (rule : PlainRule) (r : Rule) → IsNamed x xs (Plain rule) → ((p : ProofCursor) → named_head text (Plain rule) p ≡ Ok (r, p)) → Ends (is_in classes.Word) ys → At text from ((x ∷ xs) ++ ys)
      → Headed (Ok (r, cursor_at (from + length (x ∷ xs)) (left - 1)))
  bare_headed x xs ys rule r is bare ends here = name_headed x xs ys (Plain rule) is ends here ∙ bare _

  -- a rule whose first field is a proof
  open_headed : (x : ℕ) (xs ys : List ℕ) (rule : PlainRule) (r : Rule) → IsNamed x xs (Plain rule) → ((p : ProofCursor) → named_head text (Plain rule) p ≡ start_head text r p) → At text from ((x ∷ xs) ++ 40 ∷ ys)
      → Headed (Ok (r, cursor_at (from + length (x ∷ xs) + 1) (left - 1)))
  unfolding start_head
  open_headed x xs ys rule r is opens here =
      name_headed x xs (40 ∷ ys) (Plain rule) is refl here ∙ opens _
      ∙ ap (λ (s : Result ProofCursor TextFault). s >>= (λ there. Ok (r, there))) (open_written text (from + length (x ∷ xs)) (left - 1) ys (at_behind text from (x ∷ xs) (40 ∷ ys) here))

  -- a rule whose first field is the number of a hypothesis
  citing_headed : (x : ℕ) (xs : List ℕ) (c : ℕ) (ys : List ℕ) (rule : CitingRule) (h : ℕ) → IsNamed x xs (Citing rule) → h < 2 ^ 16 → is_in classes.Digit c ≡ false → At text from ((x ∷ xs) ++ 40 ∷ (decimal h ++ c ∷ ys))
      → Headed (citing_head text rule h (cursor_at (from + length (x ∷ xs) + 1 + length (decimal h)) (left - 1)))
  unfolding named_head with_hypothesis
  citing_headed x xs c ys rule h is lt ends here =
      let opens = at_behind text from (x ∷ xs) (40 ∷ (decimal h ++ c ∷ ys)) here in
      let behind = at_next text (from + length (x ∷ xs)) 40 (decimal h ++ c ∷ ys) opens in
      name_headed x xs (40 ∷ (decimal h ++ c ∷ ys)) (Citing rule) is refl here
      ∙ ap (λ (s : Result ProofCursor TextFault). s >>= (λ place. hypothesis_at text place >>= (λ n. citing_head text rule n.0 n.1))) (open_written text (from + length (x ∷ xs)) (left - 1) (decimal h ++ c ∷ ys) opens)
      ∙ ap (λ (s : Result (ℕ × ProofCursor) TextFault). s >>= (λ n. citing_head text rule n.0 n.1)) (hypothesis_written text (from + length (x ∷ xs) + 1) (left - 1) h (c ∷ ys) lt ends behind)

  -- what stands after the number
  behind_number : (x : ℕ) (xs : List ℕ) (c : ℕ) (ys : List ℕ) (h : ℕ) → At text from ((x ∷ xs) ++ 40 ∷ (decimal h ++ c ∷ ys)) → At text (from + length (x ∷ xs) + 1 + length (decimal h)) (c ∷ ys)
  behind_number x xs c ys h here =
      at_behind text (from + length (x ∷ xs) + 1) (decimal h) (c ∷ ys) (at_next text (from + length (x ∷ xs)) 40 (decimal h ++ c ∷ ys) (at_behind text from (x ∷ xs) (40 ∷ (decimal h ++ c ∷ ys)) here))

  comma_headed : (x : ℕ) (xs ys : List ℕ) (rule : CitingRule) (r : Rule) (h : ℕ) → IsNamed x xs (Citing rule) → h < 2 ^ 16 → ((p : ProofCursor) → citing_head text rule h p ≡ premise_head text r p)
      → At text from ((x ∷ xs) ++ 40 ∷ (decimal h ++ 44 ∷ ys)) → Headed (Ok (r, cursor_at (from + length (x ∷ xs) + 1 + length (decimal h) + 1) (left - 1)))
  unfolding premise_head
  comma_headed x xs ys rule r h is lt goes here =
      citing_headed x xs 44 ys rule h is lt refl here ∙ goes _
      ∙ ap (λ (s : Result ProofCursor TextFault). s >>= (λ there. Ok (r, there))) (comma_written text (from + length (x ∷ xs) + 1 + length (decimal h)) (left - 1) ys (behind_number x xs 44 ys h here))

  close_headed : (x : ℕ) (xs ys : List ℕ) (rule : CitingRule) (r : Rule) (h : ℕ) → IsNamed x xs (Citing rule) → h < 2 ^ 16 → ((p : ProofCursor) → citing_head text rule h p ≡ finish_head text r p)
      → At text from ((x ∷ xs) ++ 40 ∷ (decimal h ++ 41 ∷ ys)) → Headed (Ok (r, cursor_at (from + length (x ∷ xs) + 1 + length (decimal h) + 1) (left - 1)))
  unfolding finish_head
  close_headed x xs ys rule r h is lt goes here =
      citing_headed x xs 41 ys rule h is lt refl here ∙ goes _
      ∙ ap (λ (s : Result ProofCursor TextFault). s >>= (λ there. Ok (r, there))) (close_written text (from + length (x ∷ xs) + 1 + length (decimal h)) (left - 1) ys (behind_number x xs 41 ys h here))

  -- ---- rules with what they name

  cited_length : (w : List ℕ) (h c : ℕ) → from + length w + 1 + length (decimal h) + 1 ≡ from + length (w ++ 40 ∷ (decimal h ++ c ∷ []))
  cited_length w h c =
      let whole = length-append w (40 ∷ (decimal h ++ c ∷ [])) in
      let inner = length-append (decimal h) (c ∷ []) in omega (arith, whole, inner)

  cited_at : (w : List ℕ) (h c : ℕ) (ys : List ℕ) → At text from ((w ++ 40 ∷ (decimal h ++ c ∷ [])) ++ ys) → At text from (w ++ 40 ∷ (decimal h ++ c ∷ ys))
  cited_at w h c ys here = here ∙ append_assoc w (40 ∷ (decimal h ++ c ∷ [])) ys ∙ ap (λ (bs : List ℕ). w ++ 40 ∷ bs) (append_assoc (decimal h) (c ∷ []) ys)

  comma_text : (x : ℕ) (xs ys : List ℕ) (rule : CitingRule) (r : Rule) (h : ℕ) → IsNamed x xs (Citing rule) → h < 2 ^ 16 → ((p : ProofCursor) → citing_head text rule h p ≡ premise_head text r p)
      → At text from (((x ∷ xs) ++ 40 ∷ (decimal h ++ 44 ∷ [])) ++ ys) → Headed (Ok (r, cursor_at (from + length ((x ∷ xs) ++ 40 ∷ (decimal h ++ 44 ∷ []))) (left - 1)))
  comma_text x xs ys rule r h is lt goes here =
      comma_headed x xs ys rule r h is lt goes (cited_at (x ∷ xs) h 44 ys here) ∙ ap (λ n. Ok (r, cursor_at n (left - 1))) (cited_length (x ∷ xs) h 44)

  close_text : (x : ℕ) (xs ys : List ℕ) (rule : CitingRule) (r : Rule) (h : ℕ) → IsNamed x xs (Citing rule) → h < 2 ^ 16 → ((p : ProofCursor) → citing_head text rule h p ≡ finish_head text r p)
      → At text from (((x ∷ xs) ++ 40 ∷ (decimal h ++ 41 ∷ [])) ++ ys) → Headed (Ok (r, cursor_at (from + length ((x ∷ xs) ++ 40 ∷ (decimal h ++ 41 ∷ []))) (left - 1)))
  close_text x xs ys rule r h is lt goes here =
      close_headed x xs ys rule r h is lt goes (cited_at (x ∷ xs) h 41 ys here) ∙ ap (λ n. Ok (r, cursor_at n (left - 1))) (cited_length (x ∷ xs) h 41)

  open_text : (x : ℕ) (xs ys : List ℕ) (rule : PlainRule) (r : Rule) → IsNamed x xs (Plain rule) → ((p : ProofCursor) → named_head text (Plain rule) p ≡ start_head text r p) → At text from (((x ∷ xs) ++ 40 ∷ []) ++ ys)
      → Headed (Ok (r, cursor_at (from + length ((x ∷ xs) ++ 40 ∷ [])) (left - 1)))
  open_text x xs ys rule r is opens here =
      let whole = length-append (x ∷ xs) (40 ∷ []) in
      let same : from + length (x ∷ xs) + 1 ≡ from + length ((x ∷ xs) ++ 40 ∷ []) = omega (arith, whole) in
      open_headed x xs ys rule r is opens (here ∙ append_assoc (x ∷ xs) (40 ∷ []) ys) ∙ ap (λ n. Ok (r, cursor_at n (left - 1))) same

  -- ---- rules that name terms

  field_at : (w : List ℕ) (t : Term) (ys : List ℕ) → At text from ((w ++ (term_text 0 t ++ 44 ∷ [])) ++ ys) → At text from (w ++ (term_text 0 t ++ 44 ∷ ys))
  field_at w t ys here = here ∙ append_assoc w (term_text 0 t ++ 44 ∷ []) ys ∙ ap (λ (bs : List ℕ). w ++ bs) (append_assoc (term_text 0 t) (44 ∷ []) ys)

  exists_headed : (t : Term) (ys : List ℕ) → IsSpellable t → IsClosedTerm t → At text from ((codes "existsR(" ++ (term_text 0 t ++ 44 ∷ [])) ++ ys)
      → Headed (Ok (rules.One (one.ExistsR t), cursor_at (from + length (codes "existsR(" ++ (term_text 0 t ++ 44 ∷ []))) (left - 1)))
  unfolding rule_named named_head plain_head with_term premise_head
  exists_headed t ys spelled finish_head here =
      let opens = field_at (codes "existsR(") t ys here in
      let name = at_behind text from (codes "existsR") (40 ∷ (term_text 0 t ++ 44 ∷ ys)) opens in
      let term = at_next text (from + 7) 40 (term_text 0 t ++ 44 ∷ ys) name in
      let comma = at_behind text (from + 7 + 1) (term_text 0 t) (44 ∷ ys) term in
      let field = length-append (term_text 0 t) (44 ∷ []) in
      let same : from + 7 + 1 + length (term_text 0 t) + 1 ≡ from + length (codes "existsR(" ++ (term_text 0 t ++ 44 ∷ [])) = omega (arith, field) in
      name_headed 101 (codes "xistsR") (40 ∷ (term_text 0 t ++ 44 ∷ ys)) (Plain ExistsR) (record { known = refl; letter = refl; all = refl }) refl opens
      ∙ ap (λ (s : Result ProofCursor TextFault). s >>= (λ place. term_at text place >>= (λ u. cursor_after_sign text signs.Comma u.1 >>= (λ there. Ok (rules.One (one.ExistsR u.0), there))))) (open_written text (from + 7) (left - 1) (term_text 0 t ++ 44 ∷ ys) name)
      ∙ ap (λ (s : Result (Term × ProofCursor) TextFault). s >>= (λ u. cursor_after_sign text signs.Comma u.1 >>= (λ there. Ok (rules.One (one.ExistsR u.0), there)))) (term_written text (from + 7 + 1) (left - 1) t ys spelled finish_head term)
      ∙ ap (λ (s : Result ProofCursor TextFault). s >>= (λ there. Ok (rules.One (one.ExistsR t), there))) (comma_written text (from + 7 + 1 + length (term_text 0 t)) (left - 1) ys comma)
      ∙ ap (λ n. Ok (rules.One (one.ExistsR t), cursor_at n (left - 1))) same

  -- after the number of a hypothesis stands a term
  forall_headed : (h : ℕ) (t : Term) (ys : List ℕ) → IsHypothesisNumber h → IsSpellable t → IsClosedTerm t → At text from ((cited_text (codes "forallL(") h (codes ",") ++ term_field t) ++ ys)
      → Headed (Ok (rules.One (one.ForallL h t), cursor_at (from + length (cited_text (codes "forallL(") h (codes ",") ++ term_field t)) (left - 1)))
  unfolding rule_named citing_head with_instance premise_head
  forall_headed h t ys lt spelled finish_head here =
      let field = field_at (cited_text (codes "forallL(") h (codes ",")) t ys here in
      let opens = cited_at (codes "forallL") h 44 (term_text 0 t ++ 44 ∷ ys) field in
      let number = behind_number 102 (codes "orallL") 44 (term_text 0 t ++ 44 ∷ ys) h opens in
      let term = at_next text (from + 7 + 1 + length (decimal h)) 44 (term_text 0 t ++ 44 ∷ ys) number in
      let comma = at_behind text (from + 7 + 1 + length (decimal h) + 1) (term_text 0 t) (44 ∷ ys) term in
      let whole = length-append (cited_text (codes "forallL(") h (codes ",")) (term_field t) in
      let inner = length-append (decimal h) (44 ∷ []) in
      let last = length-append (term_text 0 t) (44 ∷ []) in
      let same : from + 7 + 1 + length (decimal h) + 1 + length (term_text 0 t) + 1 ≡ from + length (cited_text (codes "forallL(") h (codes ",") ++ term_field t) = omega (arith, whole, inner, last) in
      citing_headed 102 (codes "orallL") 44 (term_text 0 t ++ 44 ∷ ys) ForallL h (record { known = refl; letter = refl; all = refl }) lt refl opens
      ∙ ap (λ (s : Result ProofCursor TextFault). s >>= (λ place. term_at text place >>= (λ u. cursor_after_sign text signs.Comma u.1 >>= (λ there. Ok (rules.One (one.ForallL h u.0), there)))))
      (comma_written text (from + 7 + 1 + length (decimal h)) (left - 1) (term_text 0 t ++ 44 ∷ ys) number)
      ∙ ap (λ (s : Result (Term × ProofCursor) TextFault). s >>= (λ u. cursor_after_sign text signs.Comma u.1 >>= (λ there. Ok (rules.One (one.ForallL h u.0), there)))) (term_written text (from + 7 + 1 + length (decimal h) + 1) (left - 1) t ys spelled finish_head term)
      ∙ ap (λ (s : Result ProofCursor TextFault). s >>= (λ there. Ok (rules.One (one.ForallL h t), there))) (comma_written text (from + 7 + 1 + length (decimal h) + 1 + length (term_text 0 t)) (left - 1) ys comma)
      ∙ ap (λ n. Ok (rules.One (one.ForallL h t), cursor_at n (left - 1))) same

  -- and two times
  interval_headed : (h : ℕ) (t u : Term) (ys : List ℕ) → IsHypothesisNumber h → IsSpellable t → IsTimeTerm t → IsSpellable u → IsTimeTerm u → At text from ((cited_text (codes "impL(") h (codes ",") ++ (term_field t ++ term_field u)) ++ ys)
      → Headed (Ok (rules.Two (two.ImpL h t u), cursor_at (from + length (cited_text (codes "impL(") h (codes ",") ++ (term_field t ++ term_field u))) (left - 1)))
  unfolding rule_named citing_head with_interval premise_head
  interval_headed h t u ys lt spelled timed spelled' timed' here =
      let apart : At text from (cited_text (codes "impL(") h (codes ",") ++ (term_field t ++ (term_field u ++ ys))) =
      here ∙ append_assoc (cited_text (codes "impL(") h (codes ",")) (term_field t ++ term_field u) ys ∙ ap (λ (bs : List ℕ). cited_text (codes "impL(") h (codes ",") ++ bs) (append_assoc (term_field t) (term_field u) ys) in
      let opens = cited_at (codes "impL") h 44 (term_field t ++ (term_field u ++ ys)) apart in
      let number = behind_number 105 (codes "mpL") 44 (term_field t ++ (term_field u ++ ys)) h opens in
      let low = at_next text (from + 4 + 1 + length (decimal h)) 44 (term_field t ++ (term_field u ++ ys)) number ∙ append_assoc (term_text 0 t) (44 ∷ []) (term_field u ++ ys) in
      let middle = at_behind text (from + 4 + 1 + length (decimal h) + 1) (term_text 0 t) (44 ∷ (term_field u ++ ys)) low in
      let high = at_next text (from + 4 + 1 + length (decimal h) + 1 + length (term_text 0 t)) 44 (term_field u ++ ys) middle ∙ append_assoc (term_text 0 u) (44 ∷ []) ys in
      let comma = at_behind text (from + 4 + 1 + length (decimal h) + 1 + length (term_text 0 t) + 1) (term_text 0 u) (44 ∷ ys) high in
      let whole = length-append (cited_text (codes "impL(") h (codes ",")) (term_field t ++ term_field u) in
      let fields = length-append (term_field t) (term_field u) in
      let inner = length-append (decimal h) (44 ∷ []) in
      let first = length-append (term_text 0 t) (44 ∷ []) in
      let last = length-append (term_text 0 u) (44 ∷ []) in
      let same : from + 4 + 1 + length (decimal h) + 1 + length (term_text 0 t) + 1 + length (term_text 0 u) + 1 ≡ from + length (cited_text (codes "impL(") h (codes ",") ++ (term_field t ++ term_field u)) =
      omega (arith, whole, fields, inner, first, last) in
      citing_headed 105 (codes "mpL") 44 (term_field t ++ (term_field u ++ ys)) ImpL h (record { known = refl; letter = refl; all = refl }) lt refl opens
      ∙ ap (λ (s : Result ProofCursor TextFault). s >>= (λ place. time_at text place >>= (λ v. cursor_after_sign text signs.Comma v.1 >>= (λ second. time_at text second >>= (λ w. cursor_after_sign text signs.Comma w.1 >>= (λ there. Ok (rules.Two (two.ImpL h v.0 w.0), there)))))))
      (comma_written text (from + 4 + 1 + length (decimal h)) (left - 1) (term_field t ++ (term_field u ++ ys)) number)
      ∙ ap (λ (s : Result (Term × ProofCursor) TextFault). s >>= (λ v. cursor_after_sign text signs.Comma v.1 >>= (λ second. time_at text second >>= (λ w. cursor_after_sign text signs.Comma w.1 >>= (λ there. Ok (rules.Two (two.ImpL h v.0 w.0), there))))))
      (time_written text (from + 4 + 1 + length (decimal h) + 1) (left - 1) t (term_field u ++ ys) spelled timed low)
      ∙ ap (λ (s : Result ProofCursor TextFault). s >>= (λ second. time_at text second >>= (λ w. cursor_after_sign text signs.Comma w.1 >>= (λ there. Ok (rules.Two (two.ImpL h t w.0), there)))))
      (comma_written text (from + 4 + 1 + length (decimal h) + 1 + length (term_text 0 t)) (left - 1) (term_field u ++ ys) middle)
      ∙ ap (λ (s : Result (Term × ProofCursor) TextFault). s >>= (λ w. cursor_after_sign text signs.Comma w.1 >>= (λ there. Ok (rules.Two (two.ImpL h t w.0), there))))
      (time_written text (from + 4 + 1 + length (decimal h) + 1 + length (term_text 0 t) + 1) (left - 1) u ys spelled' timed' high)
      ∙ ap (λ (s : Result ProofCursor TextFault). s >>= (λ there. Ok (rules.Two (two.ImpL h t u), there)))
      (comma_written text (from + 4 + 1 + length (decimal h) + 1 + length (term_text 0 t) + 1 + length (term_text 0 u)) (left - 1) ys comma)
      ∙ ap (λ n. Ok (rules.Two (two.ImpL h t u), cursor_at n (left - 1))) same

  -- ---- all rules

  pub axiom_headed : (r : Axiom) (ys : List ℕ) → IsSayableAxiom r → Ends (is_in classes.Word) ys → At text from (axiom_text r ++ ys) → Headed (Ok (rules.Axiom r, cursor_at (from + length (axiom_text r)) (left - 1)))
  unfolding rule_named named_head plain_head citing_head
  axiom_headed (axioms.Init h) ys says ends here = close_text 105 (codes "nit") ys Init (rules.Axiom (axioms.Init h)) h (record { known = refl; letter = refl; all = refl }) says (λ p. refl) here
  axiom_headed axioms.ConsR ys says ends here = bare_headed 99 (codes "onsR") ys ConsR (rules.Axiom axioms.ConsR) (record { known = refl; letter = refl; all = refl }) (λ p. refl) ends here
  axiom_headed axioms.InterR ys says ends here = bare_headed 105 (codes "nterR") ys InterR (rules.Axiom axioms.InterR) (record { known = refl; letter = refl; all = refl }) (λ p. refl) ends here
  axiom_headed axioms.TrueR ys says ends here = bare_headed 116 (codes "rueR") ys TrueR (rules.Axiom axioms.TrueR) (record { known = refl; letter = refl; all = refl }) (λ p. refl) ends here
  axiom_headed (axioms.FalseL h) ys says ends here = close_text 102 (codes "alseL") ys FalseL (rules.Axiom (axioms.FalseL h)) h (record { known = refl; letter = refl; all = refl }) says (λ p. refl) here

  pub one_headed : (r : OnePremise) (ys : List ℕ) → IsSayableOne r → At text from (one_text r ++ ys) → Headed (Ok (rules.One r, cursor_at (from + length (one_text r)) (left - 1)))
  unfolding rule_named named_head plain_head citing_head
  one_headed one.OrR1 ys says here = open_text 111 (codes "rR1") ys OrR1 (rules.One one.OrR1) (record { known = refl; letter = refl; all = refl }) (λ p. refl) here
  one_headed one.OrR2 ys says here = open_text 111 (codes "rR2") ys OrR2 (rules.One one.OrR2) (record { known = refl; letter = refl; all = refl }) (λ p. refl) here
  one_headed one.ImpR ys says here = open_text 105 (codes "mpR") ys ImpR (rules.One one.ImpR) (record { known = refl; letter = refl; all = refl }) (λ p. refl) here
  one_headed one.ForallR ys says here = open_text 102 (codes "orallR") ys ForallR (rules.One one.ForallR) (record { known = refl; letter = refl; all = refl }) (λ p. refl) here
  one_headed (one.ExistsR t) ys says here = exists_headed t ys says.0 says.1 here
  one_headed one.SaysR ys says here = open_text 115 (codes "aysR") ys SaysR (rules.One one.SaysR) (record { known = refl; letter = refl; all = refl }) (λ p. refl) here
  one_headed one.AtR ys says here = open_text 97 (codes "tR") ys AtR (rules.One one.AtR) (record { known = refl; letter = refl; all = refl }) (λ p. refl) here
  one_headed (one.ConsL h) ys says here = comma_text 99 (codes "onsL") ys ConsL (rules.One (one.ConsL h)) h (record { known = refl; letter = refl; all = refl }) says (λ p. refl) here
  one_headed (one.InterL h) ys says here = comma_text 105 (codes "nterL") ys InterL (rules.One (one.InterL h)) h (record { known = refl; letter = refl; all = refl }) says (λ p. refl) here
  one_headed (one.AndL h) ys says here = comma_text 97 (codes "ndL") ys AndL (rules.One (one.AndL h)) h (record { known = refl; letter = refl; all = refl }) says (λ p. refl) here
  one_headed (one.ForallL h t) ys says here = forall_headed h t ys says.0 says.1.0 says.1.1 here
  one_headed (one.ExistsL h) ys says here = comma_text 101 (codes "xistsL") ys ExistsL (rules.One (one.ExistsL h)) h (record { known = refl; letter = refl; all = refl }) says (λ p. refl) here
  one_headed (one.SaysL h) ys says here = comma_text 115 (codes "aysL") ys SaysL (rules.One (one.SaysL h)) h (record { known = refl; letter = refl; all = refl }) says (λ p. refl) here
  one_headed (one.Claim h) ys says here = comma_text 99 (codes "laim") ys Claim (rules.One (one.Claim h)) h (record { known = refl; letter = refl; all = refl }) says (λ p. refl) here
  one_headed (one.AtL h) ys says here = comma_text 97 (codes "tL") ys AtL (rules.One (one.AtL h)) h (record { known = refl; letter = refl; all = refl }) says (λ p. refl) here

  pub two_headed : (r : TwoPremises) (ys : List ℕ) → IsSayableTwo r → At text from (two_text r ++ ys) → Headed (Ok (rules.Two r, cursor_at (from + length (two_text r)) (left - 1)))
  unfolding rule_named named_head plain_head citing_head
  two_headed two.AndR ys says here = open_text 97 (codes "ndR") ys AndR (rules.Two two.AndR) (record { known = refl; letter = refl; all = refl }) (λ p. refl) here
  two_headed (two.OrL h) ys says here = comma_text 111 (codes "rL") ys OrL (rules.Two (two.OrL h)) h (record { known = refl; letter = refl; all = refl }) says (λ p. refl) here
  two_headed (two.ImpL h t u) ys says here = interval_headed h t u ys says.0 says.1.0.0 says.1.0.1 says.1.1.0 says.1.1.1 here
