-- The text of a proof names no time outside the range of moments.
use Rattle.std.proofs.Common.{◌≡◌, ℕ, List, [], Option, Some, None, Result, Ok, Err, refl, sym, ◌∙◌, subst}
use Rattle.bl_syntax.specs.Terms.{HasTimeInRange}
use Rattle.bl_syntax.specs.declared.terms.Sort.TheVariants as sorts
use Rattle.bl_syntax.specs.declared.terms.Term.{Term}
use Rattle.bl_syntax.specs.declared.terms.Term.TheVariants.{Prin, File, Perm, Time, Text, Ctime, Param, Bound}
use Rattle.bl_tokens.specs.declared.faults.TextFault.{TextFault}
use Rattle.bl_tokens.specs.declared.tokens.Cursor.{Cursor}
use Rattle.bl_tokens.specs.declared.tokens.Sign.TheVariants as signs
use Rattle.bl_tokens.specs.declared.tokens.Token.{Token}
use Rattle.bl_tokens.specs.declared.tokens.Token.TheVariants.{Name, LongWord, Constant, BadDate, SortName, Keyword, End, Bad}
use Rattle.bl_tokens.specs.declared.tokens.Token.TheVariants as tokens
use Rattle.bl_text.specs.Pieces.{◌>>=◌, term_of, require_sort}
use Rattle.bl_text.specs.Scope.{place_of}
use Rattle.bl_text.proofs.LexedLemmas.{IsWritten, IsLexed, token_lexed}
use Rattle.bl_text.proofs.IsStatementLemmas.{unread_speaker, at_place, variable_term}
use Rattle.proof_term.specs.declared.rule.Axiom.TheVariants as axioms
use Rattle.proof_term.specs.declared.rule.OnePremise.TheVariants as one
use Rattle.proof_term.specs.declared.rule.TwoPremises.TheVariants as two
use Rattle.proof_term.specs.declared.rule.Rule.{Rule}
use Rattle.proof_term.specs.declared.rule.Rule.TheVariants.{Axiom as AxiomRule, One, Two}
use Rattle.proof_term.specs.Limits.{HasTimesInRange}
use Rattle.proof_term.specs.Proof.{ProofView}
use Rattle.proof_term.proofs.TimeLemmas.{times_axiom, times_one, times_two}
use Rattle.proof_text.specs.declared.cursor.ProofCursor.{ProofCursor}
use Rattle.proof_text.specs.declared.names.PlainRule.{PlainRule}
use Rattle.proof_text.specs.declared.names.PlainRule.TheVariants.{ConsR, InterR, AndR, OrR1, OrR2, TrueR, ImpR, ForallR, ExistsR, SaysR, AtR}
use Rattle.proof_text.specs.declared.names.CitingRule.{CitingRule}
use Rattle.proof_text.specs.declared.names.CitingRule.TheVariants.{Init, ConsL, InterL, AndL, OrL, FalseL, ImpL, ForallL, ExistsL, SaysL, Claim, AtL}
use Rattle.proof_text.specs.declared.names.RuleName.{RuleName}
use Rattle.proof_text.specs.declared.names.RuleName.TheVariants.{Plain, Citing}
use Rattle.proof_text.specs.Cursor.{token_at, cursor_after_token, cursor_after_sign, term_at, time_at, hypothesis_at, rule_at, room, take_rule}
use Rattle.proof_text.specs.Heads.{premise_head, finish_head, start_head, with_term, plain_head, with_instance, with_interval, citing_head, with_hypothesis, named_head, head}
use Rattle.proof_text.specs.Proofs.{IsProof, no_premise, one_premise, two_premises}
use Rattle.proof_text.specs.Read.{IsRuleInRange}
use Rattle.proof_text.specs.Texts.{IsProofText, whole_proof}

-- ---- values of readings

value_is : {A : Type 0} (x y : A) → ◌≡◌ {A = Result A TextFault} (Ok x) (Ok y) → x ≡ y
value_is x y h = cc

no_value : {A B : Type 0} (e : TextFault) (x : A) → ◌≡◌ {A = Result A TextFault} (Err e) (Ok x) → B
no_value e x h = absurd (cc)

bind_ok : {A B : Type 0} (r : Result A TextFault) (f : A → Result B TextFault) (y : B) → (r >>= f) ≡ Ok y → (x : A) × ((r ≡ Ok x) × (f x ≡ Ok y))
bind_ok (Ok x) f y h = (x, (refl, h))
bind_ok (Err e) f y h = no_value e y h

-- ---- terms

written_in_range : (t : Term) → IsWritten t → HasTimeInRange t
written_in_range (Prin name) h = absurd h
written_in_range (File number) h = tt
written_in_range (Perm permission) h = tt
written_in_range (Time point) h = h
written_in_range (Text constant) h = tt
written_in_range Ctime h = tt
written_in_range (Param n) h = tt
written_in_range (Bound n) h = absurd h

name_term : (here : Cursor) (name : List ℕ) → here.token ≡ Name name → term_of [] here ≡ Ok (Prin name)
unfolding term_of
name_term here name is = rw is

constant_term : (here : Cursor) (c : Term) → here.token ≡ Constant c → term_of [] here ≡ Ok c
unfolding term_of
constant_term here c is = rw is

by_place : (at : ℕ) (o : Option ℕ) (t : Term) → at_place at o ≡ Ok t → HasTimeInRange t
by_place at None t h = no_value _ t h
by_place at (Some inner) t h = subst HasTimeInRange (value_is (Bound inner) t h) tt

term_by : (here : Cursor) (t : Term) (token : Token) → here.token ≡ token → IsLexed token → term_of [] here ≡ Ok t → HasTimeInRange t
term_by here t (Name name) is lexed h = subst HasTimeInRange (value_is (Prin name) t (sym (name_term here name is) ∙ h)) tt
term_by here t (Constant c) is lexed h = subst HasTimeInRange (value_is c t (sym (constant_term here c is) ∙ h)) (written_in_range c lexed)
term_by here t (tokens.Variable name) is lexed h = by_place here.at (place_of [] name) t (sym (variable_term [] here name is) ∙ h)
term_by here t LongWord is lexed h = absurd (unread_speaker [] here t LongWord is refl h)
term_by here t BadDate is lexed h = absurd (unread_speaker [] here t BadDate is refl h)
term_by here t (SortName s) is lexed h = absurd (unread_speaker [] here t (SortName s) is refl h)
term_by here t (Keyword word) is lexed h = absurd (unread_speaker [] here t (Keyword word) is refl h)
term_by here t (tokens.Sign sign) is lexed h = absurd (unread_speaker [] here t (tokens.Sign sign) is refl h)
term_by here t End is lexed h = absurd (unread_speaker [] here t End is refl h)
term_by here t Bad is lexed h = absurd (unread_speaker [] here t Bad is refl h)

term_of_in_range : (text : List ℕ) (here : ProofCursor) (t : Term) → term_of [] (token_at text here) ≡ Ok t → HasTimeInRange t
term_of_in_range text here t h = term_by (token_at text here) t (token_at text here).token refl (token_lexed text here.from here.left) h

term_at_in_range : (text : List ℕ) (here : ProofCursor) (x : Term × ProofCursor) → term_at text here ≡ Ok x → HasTimeInRange x.0
unfolding term_at
term_at_in_range text here x h =
    let b = bind_ok (term_of [] (token_at text here)) (λ t. Ok (t, cursor_after_token (token_at text here))) x h in
    subst (λ (p : Term × ProofCursor). HasTimeInRange p.0) (value_is _ x b.1.1) (term_of_in_range text here b.0 b.1.0)

time_at_in_range : (text : List ℕ) (here : ProofCursor) (x : Term × ProofCursor) → time_at text here ≡ Ok x → HasTimeInRange x.0
unfolding time_at
time_at_in_range text here x h =
    let b = bind_ok (term_of [] (token_at text here)) (λ t. require_sort [] sorts.Time (token_at text here).at t >>= λ _. Ok (t, cursor_after_token (token_at text here))) x h in
    let c = bind_ok (require_sort [] sorts.Time (token_at text here).at b.0) (λ _. Ok (b.0, cursor_after_token (token_at text here))) x b.1.1 in
    subst (λ (p : Term × ProofCursor). HasTimeInRange p.0) (value_is _ x c.1.1) (term_of_in_range text here b.0 b.1.0)

-- ---- heads of rules

premise_rule : (text : List ℕ) (rule : Rule) (here : ProofCursor) (x : Rule × ProofCursor) → premise_head text rule here ≡ Ok x → IsRuleInRange rule → IsRuleInRange x.0
unfolding premise_head
premise_rule text rule here x h ranged =
    let b = bind_ok (cursor_after_sign text signs.Comma here) (λ there. Ok (rule, there)) x h in
    subst (λ (p : Rule × ProofCursor). IsRuleInRange p.0) (value_is _ x b.1.1) ranged

finish_rule : (text : List ℕ) (rule : Rule) (here : ProofCursor) (x : Rule × ProofCursor) → finish_head text rule here ≡ Ok x → IsRuleInRange rule → IsRuleInRange x.0
unfolding finish_head
finish_rule text rule here x h ranged =
    let b = bind_ok (cursor_after_sign text signs.Close here) (λ there. Ok (rule, there)) x h in
    subst (λ (p : Rule × ProofCursor). IsRuleInRange p.0) (value_is _ x b.1.1) ranged

start_rule : (text : List ℕ) (rule : Rule) (here : ProofCursor) (x : Rule × ProofCursor) → start_head text rule here ≡ Ok x → IsRuleInRange rule → IsRuleInRange x.0
unfolding start_head
start_rule text rule here x h ranged =
    let b = bind_ok (cursor_after_sign text signs.Open here) (λ there. Ok (rule, there)) x h in
    subst (λ (p : Rule × ProofCursor). IsRuleInRange p.0) (value_is _ x b.1.1) ranged

term_rule : (text : List ℕ) (here : ProofCursor) (x : Rule × ProofCursor) → with_term text here ≡ Ok x → IsRuleInRange x.0
unfolding with_term
term_rule text here x h =
    let b = bind_ok (cursor_after_sign text signs.Open here) (λ place. term_at text place >>= λ t. premise_head text (One (one.ExistsR t.0)) t.1) x h in
    let c = bind_ok (term_at text b.0) (λ t. premise_head text (One (one.ExistsR t.0)) t.1) x b.1.1 in
    premise_rule text (One (one.ExistsR c.0.0)) c.0.1 x c.1.1 (term_at_in_range text b.0 c.0 c.1.0)

plain_rule : (text : List ℕ) (rule : PlainRule) (here : ProofCursor) (x : Rule × ProofCursor) → plain_head text rule here ≡ Ok x → IsRuleInRange x.0
unfolding plain_head
plain_rule text ConsR here x h = subst (λ (p : Rule × ProofCursor). IsRuleInRange p.0) (value_is _ x h) tt
plain_rule text InterR here x h = subst (λ (p : Rule × ProofCursor). IsRuleInRange p.0) (value_is _ x h) tt
plain_rule text TrueR here x h = subst (λ (p : Rule × ProofCursor). IsRuleInRange p.0) (value_is _ x h) tt
plain_rule text AndR here x h = start_rule text (Two two.AndR) here x h tt
plain_rule text OrR1 here x h = start_rule text (One one.OrR1) here x h tt
plain_rule text OrR2 here x h = start_rule text (One one.OrR2) here x h tt
plain_rule text ImpR here x h = start_rule text (One one.ImpR) here x h tt
plain_rule text ForallR here x h = start_rule text (One one.ForallR) here x h tt
plain_rule text ExistsR here x h = term_rule text here x h
plain_rule text SaysR here x h = start_rule text (One one.SaysR) here x h tt
plain_rule text AtR here x h = start_rule text (One one.AtR) here x h tt

instance_rule : (text : List ℕ) (n : ℕ) (here : ProofCursor) (x : Rule × ProofCursor) → with_instance text n here ≡ Ok x → IsRuleInRange x.0
unfolding with_instance
instance_rule text n here x h =
    let b = bind_ok (cursor_after_sign text signs.Comma here) (λ place. term_at text place >>= λ t. premise_head text (One (one.ForallL n t.0)) t.1) x h in
    let c = bind_ok (term_at text b.0) (λ t. premise_head text (One (one.ForallL n t.0)) t.1) x b.1.1 in
    premise_rule text (One (one.ForallL n c.0.0)) c.0.1 x c.1.1 (term_at_in_range text b.0 c.0 c.1.0)

interval_rule : (text : List ℕ) (n : ℕ) (here : ProofCursor) (x : Rule × ProofCursor) → with_interval text n here ≡ Ok x → IsRuleInRange x.0
unfolding with_interval
interval_rule text n here x h =
    let first = bind_ok (cursor_after_sign text signs.Comma here) _ x h in
    let from = bind_ok (time_at text first.0) _ x first.1.1 in
    let second = bind_ok (cursor_after_sign text signs.Comma from.0.1) _ x from.1.1 in
    let to = bind_ok (time_at text second.0) _ x second.1.1 in
    premise_rule text (Two (two.ImpL n from.0.0 to.0.0)) to.0.1 x to.1.1 (time_at_in_range text first.0 from.0 from.1.0, time_at_in_range text second.0 to.0 to.1.0)

citing_rule : (text : List ℕ) (rule : CitingRule) (n : ℕ) (here : ProofCursor) (x : Rule × ProofCursor) → citing_head text rule n here ≡ Ok x → IsRuleInRange x.0
unfolding citing_head
citing_rule text Init n here x h = finish_rule text (AxiomRule (axioms.Init n)) here x h tt
citing_rule text FalseL n here x h = finish_rule text (AxiomRule (axioms.FalseL n)) here x h tt
citing_rule text ConsL n here x h = premise_rule text (One (one.ConsL n)) here x h tt
citing_rule text InterL n here x h = premise_rule text (One (one.InterL n)) here x h tt
citing_rule text AndL n here x h = premise_rule text (One (one.AndL n)) here x h tt
citing_rule text OrL n here x h = premise_rule text (Two (two.OrL n)) here x h tt
citing_rule text ImpL n here x h = interval_rule text n here x h
citing_rule text ForallL n here x h = instance_rule text n here x h
citing_rule text ExistsL n here x h = premise_rule text (One (one.ExistsL n)) here x h tt
citing_rule text SaysL n here x h = premise_rule text (One (one.SaysL n)) here x h tt
citing_rule text Claim n here x h = premise_rule text (One (one.Claim n)) here x h tt
citing_rule text AtL n here x h = premise_rule text (One (one.AtL n)) here x h tt

hypothesis_rule : (text : List ℕ) (rule : CitingRule) (here : ProofCursor) (x : Rule × ProofCursor) → with_hypothesis text rule here ≡ Ok x → IsRuleInRange x.0
unfolding with_hypothesis
hypothesis_rule text rule here x h =
    let b = bind_ok (cursor_after_sign text signs.Open here) (λ place. hypothesis_at text place >>= λ n. citing_head text rule n.0 n.1) x h in
    let c = bind_ok (hypothesis_at text b.0) (λ n. citing_head text rule n.0 n.1) x b.1.1 in
    citing_rule text rule c.0.0 c.0.1 x c.1.1

named_rule : (text : List ℕ) (name : RuleName) (here : ProofCursor) (x : Rule × ProofCursor) → named_head text name here ≡ Ok x → IsRuleInRange x.0
unfolding named_head
named_rule text (Plain rule) here x h = plain_rule text rule here x h
named_rule text (Citing rule) here x h = hypothesis_rule text rule here x h

head_rule : (text : List ℕ) (levels : ℕ) (here : ProofCursor) (x : Rule × ProofCursor) → head text levels here ≡ Ok x → IsRuleInRange x.0
unfolding head
head_rule text levels here x h =
    let b = bind_ok (rule_at text here) (λ name. room text levels here >>= λ _. named_head text name.0 (take_rule name.1)) x h in
    let c = bind_ok (room text levels here) (λ _. named_head text b.0.0 (take_rule b.0.1)) x b.1.1 in
    named_rule text b.0.0 (take_rule b.0.1) x c.1.1

-- ---- proofs

proof_times : {text : List ℕ} {levels : ℕ} {here there : ProofCursor} {d : ProofView} → IsProof text levels here there d → HasTimesInRange d
proof_times (no_premise levels here there r d begins same) = subst HasTimesInRange (sym same) (times_axiom r)
proof_times {text} (one_premise levels here first mid there r p d begins more closes same) =
    subst HasTimesInRange (sym same) (times_one r p (head_rule text levels here (One r, first) begins) (proof_times more))
proof_times {text} (two_premises levels here first mid second last there r p q d begins more comma others closes same) =
    subst HasTimesInRange (sym same) (times_two r p q (head_rule text levels here (Two r, first) begins) (proof_times more) (proof_times others))

pub IsProofText-times : {text : List ℕ} {d : ProofView} → IsProofText text d → HasTimesInRange d
IsProofText-times (whole_proof there is ends) = proof_times is
