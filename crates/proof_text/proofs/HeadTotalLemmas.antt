-- Each piece of a proof's text answers, and never because memory runs out. A head is read only if a level is left.
use Rattle.std.proofs.Common.{◌≡◌, ℕ, ◌≤◌, ◌^◌, Bool, true, false, List, [], length, arith, Option, Some, None, Result, Ok, Err}
use Rattle.std.specs.Prelude.{◌&&◌, nat_le, drop}
use Rattle.std.specs.List.{take_while}
use Rattle.std.proofs.lemmas.Bool.Decides.{nat_tests}
use Rattle.bl_syntax.specs.declared.terms.Sort.TheVariants as sorts
use Rattle.bl_tokens.specs.declared.classes.Class.TheVariants as classes
use Rattle.bl_tokens.specs.declared.faults.TextFault.{TextFault}
use Rattle.bl_tokens.specs.declared.faults.TextFault.TheVariants.{Unexpected, TooLarge}
use Rattle.bl_tokens.specs.declared.tokens.Sign.{Sign as Sign'}
use Rattle.bl_tokens.specs.declared.tokens.Sign.TheVariants as signs
use Rattle.bl_tokens.specs.Classes.{is_in}
use Rattle.bl_tokens.specs.Numerals.{numeral_below}
use Rattle.bl_tokens.specs.Tokens.{is_sign}
use Rattle.bl_text.specs.Pieces.{◌>>=◌, term_of, require_sort}
use Rattle.bl_text.specs.Met.{unexpected, unknown_name}
use Rattle.bl_text.specs.Texts.{is_end}
use Rattle.bl_text.proofs.PieceLemmas.{too_large, term_errs, sorted_errs}
use Rattle.bl_text.proofs.PieceTotalLemmas.{IsOfText, of_text, misread_of_text, Answers, Any, chained, decided, errs_answers}
use Rattle.proof_term.specs.declared.rule.Rule.{Rule}
use Rattle.proof_term.specs.declared.rule.Rule.TheVariants as rules
use Rattle.proof_term.specs.declared.rule.Axiom.TheVariants as axioms
use Rattle.proof_term.specs.declared.rule.OnePremise.TheVariants as one
use Rattle.proof_term.specs.declared.rule.TwoPremises.TheVariants as two
use Rattle.proof_text.specs.declared.names.PlainRule.{PlainRule}
use Rattle.proof_text.specs.declared.names.PlainRule.TheVariants.{ConsR, InterR, AndR, OrR1, OrR2, TrueR, ImpR, ForallR, ExistsR, SaysR, AtR}
use Rattle.proof_text.specs.declared.names.CitingRule.{CitingRule}
use Rattle.proof_text.specs.declared.names.CitingRule.TheVariants.{Init, ConsL, InterL, AndL, OrL, FalseL, ImpL, ForallL, ExistsL, SaysL, Claim, AtL}
use Rattle.proof_text.specs.declared.names.RuleName.{RuleName}
use Rattle.proof_text.specs.declared.names.RuleName.TheVariants.{Plain, Citing}
use Rattle.proof_text.specs.declared.cursor.ProofCursor.{ProofCursor}
use Rattle.proof_text.specs.Rules.{rule_named}
use Rattle.proof_text.specs.Cursor.{first_byte, token_at, cursor_after_token, cursor_after_sign, term_at, time_at, hypothesis_reading, hypothesis_at, rule_reading, rule_of_word, is_word_start, rule_at, room, take_rule}
use Rattle.proof_text.specs.Heads.{premise_head, finish_head, start_head, with_term, plain_head, with_instance, with_interval, citing_head, with_hypothesis, named_head, head}
use Rattle.proof_text.specs.Texts.{at_end}

answers_then : {A B : Type 0} (Q : B → Type 0) (r : Result A TextFault) (k : A → Result B TextFault) → Answers r Any → ((a : A) → Answers (k a) Q) → Answers (r >>= k) Q
answers_then Q r k h more = chained IsOfText Any Q r k h (λ a _. more a)

-- ---- places

pub sign_answers : (text : List ℕ) (sign : Sign') (here : ProofCursor) → Answers (cursor_after_sign text sign here) Any
unfolding cursor_after_sign
sign_answers text sign here =
    let token = token_at text here in decided IsOfText Any (is_sign sign token.token) (Ok (cursor_after_token token)) (Err (Unexpected token.at)) (λ is. tt) (λ other. misread_of_text unexpected)

pub ended_answers : (text : List ℕ) (here : ProofCursor) → Answers (at_end text here) Any
unfolding at_end
ended_answers text here = let token = token_at text here in decided IsOfText Any (is_end token.token) (Ok tt) (Err (Unexpected token.at)) (λ is. tt) (λ other. misread_of_text unexpected)

term_answers : (text : List ℕ) (here : ProofCursor) → Answers (term_at text here) Any
unfolding term_at
term_answers text here = answers_then Any (term_of [] (token_at text here)) _ (errs_answers _ _ (term_errs [] (token_at text here))) (λ t. tt)

time_answers : (text : List ℕ) (here : ProofCursor) → Answers (time_at text here) Any
unfolding time_at
time_answers text here =
    let token = token_at text here in
    answers_then Any (term_of [] token) _ (errs_answers _ _ (term_errs [] token)) (λ t. answers_then Any (require_sort [] sorts.Time token.at t) _ (errs_answers _ _ (sorted_errs [] sorts.Time token.at t)) (λ _. tt))

numbered_answers : (at size left : ℕ) (o : Option ℕ) → Answers (hypothesis_reading at size left o) Any
numbered_answers at size left None = misread_of_text unexpected
numbered_answers at size left (Some n) = tt

hypothesis_answers : (text : List ℕ) (here : ProofCursor) → Answers (hypothesis_at text here) Any
unfolding hypothesis_at
hypothesis_answers text here =
    let digits = take_while (is_in classes.Digit) (drop (first_byte text here) text) in numbered_answers (first_byte text here) (length digits) here.left (numeral_below (2 ^ 16) digits)

named_answers : (at size left : ℕ) (o : Option RuleName) → Answers (rule_reading at size left o) Any
named_answers at size left None = misread_of_text unknown_name
named_answers at size left (Some name) = tt

rule_answers : (text : List ℕ) (here : ProofCursor) → Answers (rule_at text here) Any
unfolding rule_at
rule_answers text here =
    let at = first_byte text here in
    let bytes = drop at text in
    let word = take_while (is_in classes.Word) bytes in
    decided IsOfText Any (is_word_start bytes) (rule_of_word at here.left word) (Err (Unexpected at)) (λ is. named_answers at (length word) here.left (rule_named word)) (λ none. misread_of_text unexpected)

some_level : (a : Bool) (levels : ℕ) → (a && nat_le 1 levels) ≡ true → 1 ≤ levels
some_level true levels h = grind (arith, nat_tests)
some_level false levels h = absurd (let never : false ≡ true = h in cc)

room_answers : (text : List ℕ) (levels : ℕ) (here : ProofCursor) → Answers (room text levels here) (λ _. 1 ≤ levels)
unfolding room
room_answers text levels here =
    decided IsOfText (λ _. 1 ≤ levels) (nat_le 1 here.left && nat_le 1 levels) (Ok tt) (Err (TooLarge (first_byte text here))) (λ some. some_level (nat_le 1 here.left) levels some) (λ none. of_text too_large)

-- ---- heads

comma_answers : (text : List ℕ) (rule : Rule) (here : ProofCursor) → Answers (premise_head text rule here) Any
unfolding premise_head
comma_answers text rule here = answers_then Any (cursor_after_sign text signs.Comma here) _ (sign_answers text signs.Comma here) (λ there. tt)

close_answers : (text : List ℕ) (rule : Rule) (here : ProofCursor) → Answers (finish_head text rule here) Any
unfolding finish_head
close_answers text rule here = answers_then Any (cursor_after_sign text signs.Close here) _ (sign_answers text signs.Close here) (λ there. tt)

open_answers : (text : List ℕ) (rule : Rule) (here : ProofCursor) → Answers (start_head text rule here) Any
unfolding start_head
open_answers text rule here = answers_then Any (cursor_after_sign text signs.Open here) _ (sign_answers text signs.Open here) (λ there. tt)

with_term_answers : (text : List ℕ) (here : ProofCursor) → Answers (with_term text here) Any
unfolding with_term
with_term_answers text here =
    answers_then Any (cursor_after_sign text signs.Open here) _ (sign_answers text signs.Open here)
    (λ place. answers_then Any (term_at text place) _ (term_answers text place) (λ t. comma_answers text (rules.One (one.ExistsR t.0)) t.1))

plain_answers : (text : List ℕ) (rule : PlainRule) (here : ProofCursor) → Answers (plain_head text rule here) Any
unfolding plain_head
plain_answers text ConsR here = tt
plain_answers text InterR here = tt
plain_answers text TrueR here = tt
plain_answers text AndR here = open_answers text (rules.Two two.AndR) here
plain_answers text OrR1 here = open_answers text (rules.One one.OrR1) here
plain_answers text OrR2 here = open_answers text (rules.One one.OrR2) here
plain_answers text ImpR here = open_answers text (rules.One one.ImpR) here
plain_answers text ForallR here = open_answers text (rules.One one.ForallR) here
plain_answers text ExistsR here = with_term_answers text here
plain_answers text SaysR here = open_answers text (rules.One one.SaysR) here
plain_answers text AtR here = open_answers text (rules.One one.AtR) here

instance_answers : (text : List ℕ) (h : ℕ) (here : ProofCursor) → Answers (with_instance text h here) Any
unfolding with_instance
instance_answers text h here =
    answers_then Any (cursor_after_sign text signs.Comma here) _ (sign_answers text signs.Comma here)
    (λ place. answers_then Any (term_at text place) _ (term_answers text place) (λ t. comma_answers text (rules.One (one.ForallL h t.0)) t.1))

interval_answers : (text : List ℕ) (h : ℕ) (here : ProofCursor) → Answers (with_interval text h here) Any
unfolding with_interval
interval_answers text h here =
    answers_then Any (cursor_after_sign text signs.Comma here) _ (sign_answers text signs.Comma here) (λ first. answers_then Any (time_at text first) _ (time_answers text first)
    (λ from. answers_then Any (cursor_after_sign text signs.Comma from.1) _ (sign_answers text signs.Comma from.1) (λ second. answers_then Any (time_at text second) _ (time_answers text second)
    (λ to. comma_answers text (rules.Two (two.ImpL h from.0 to.0)) to.1))))

citing_answers : (text : List ℕ) (rule : CitingRule) (h : ℕ) (here : ProofCursor) → Answers (citing_head text rule h here) Any
unfolding citing_head
citing_answers text Init h here = close_answers text (rules.Axiom (axioms.Init h)) here
citing_answers text FalseL h here = close_answers text (rules.Axiom (axioms.FalseL h)) here
citing_answers text ConsL h here = comma_answers text (rules.One (one.ConsL h)) here
citing_answers text InterL h here = comma_answers text (rules.One (one.InterL h)) here
citing_answers text AndL h here = comma_answers text (rules.One (one.AndL h)) here
citing_answers text OrL h here = comma_answers text (rules.Two (two.OrL h)) here
citing_answers text ImpL h here = interval_answers text h here
citing_answers text ForallL h here = instance_answers text h here
citing_answers text ExistsL h here = comma_answers text (rules.One (one.ExistsL h)) here
citing_answers text SaysL h here = comma_answers text (rules.One (one.SaysL h)) here
citing_answers text Claim h here = comma_answers text (rules.One (one.Claim h)) here
citing_answers text AtL h here = comma_answers text (rules.One (one.AtL h)) here

hypothesis_head_answers : (text : List ℕ) (rule : CitingRule) (here : ProofCursor) → Answers (with_hypothesis text rule here) Any
unfolding with_hypothesis
hypothesis_head_answers text rule here =
    answers_then Any (cursor_after_sign text signs.Open here) _ (sign_answers text signs.Open here)
    (λ place. answers_then Any (hypothesis_at text place) _ (hypothesis_answers text place) (λ h. citing_answers text rule h.0 h.1))

named_head_answers : (text : List ℕ) (name : RuleName) (here : ProofCursor) → Answers (named_head text name here) Any
unfolding named_head
named_head_answers text (Plain rule) here = plain_answers text rule here
named_head_answers text (Citing rule) here = hypothesis_head_answers text rule here

pub head_answers : (text : List ℕ) (levels : ℕ) (here : ProofCursor) → Answers (head text levels here) (λ _. 1 ≤ levels)
unfolding head
head_answers text levels here =
    answers_then (λ _. 1 ≤ levels) (rule_at text here) _ (rule_answers text here) (λ name. chained IsOfText (λ _. 1 ≤ levels) (λ _. 1 ≤ levels) (room text levels here) _ (room_answers text levels here)
    (λ _ some. chosen name.0 (take_rule name.1) some))
  where
    kept : {A : Type 0} (r : Result A TextFault) → Answers r Any → 1 ≤ levels → Answers r (λ _. 1 ≤ levels)
    kept (Ok a) h some = some
    kept (Err e) h some = h

    chosen : (name : RuleName) (place : ProofCursor) → 1 ≤ levels → Answers (named_head text name place) (λ _. 1 ≤ levels)
    chosen name place some = kept (named_head text name place) (named_head_answers text name place) some
