-- A proof that a text says can be printed: a text can say what its rules name, and it is within the limits.
use Rattle.std.proofs.Common.{◌≡◌, ℕ, ◌+◌, ◌-◌, ◌≤◌, ◌^◌, true, List, [], length, drop, Option, Some, None, Ok, refl, sym, ap, ◌∙◌, subst, arith}
use Rattle.std.specs.Prelude.{nat_le, ◌&&◌}
use Rattle.std.specs.List.{take_while}
use Rattle.std.proofs.lemmas.Bool.{false≢true, and_parts, leb-true}
use Rattle.bl_syntax.specs.Spelling.{IsSpellable}
use Rattle.bl_syntax.specs.declared.terms.Sort.TheVariants as sorts
use Rattle.bl_syntax.specs.declared.terms.Term.{Term}
use Rattle.bl_syntax.specs.declared.terms.Term.TheVariants.{Prin, File, Perm, Time, Text, Ctime, Param, Bound}
use Rattle.bl_tokens.specs.declared.classes.Class.TheVariants as classes
use Rattle.bl_tokens.specs.declared.faults.TextFault.TheVariants as faults
use Rattle.bl_tokens.specs.declared.tokens.Sign.{Sign}
use Rattle.bl_tokens.specs.declared.tokens.Sign.TheVariants as signs
use Rattle.bl_tokens.specs.declared.tokens.Token.{Token}
use Rattle.bl_tokens.specs.declared.tokens.Token.TheVariants.{Name, LongWord, Constant, BadDate, SortName, Keyword, End, Bad}
use Rattle.bl_tokens.specs.declared.tokens.Token.TheVariants as tokens
use Rattle.bl_tokens.specs.Classes.{is_in}
use Rattle.bl_tokens.specs.Numerals.{numeral_below}
use Rattle.bl_tokens.specs.Tokens.{token_from, is_sign}
use Rattle.bl_text.specs.Pieces.{◌>>=◌, term_of, require_sort}
use Rattle.bl_text.specs.Scope.{is_of_wanted_sort}
use Rattle.bl_text.proofs.LexedLemmas.{IsWritten, IsLexed, token_lexed}
use Rattle.bl_text.proofs.PieceLemmas.{bind_ok}
use Rattle.bl_text.proofs.IsStatementLemmas.{ok_same, if_ok, refused}
use Rattle.proof_term.specs.declared.rule.Axiom.{Axiom}
use Rattle.proof_term.specs.declared.rule.Axiom.TheVariants as axioms
use Rattle.proof_term.specs.declared.rule.OnePremise.{OnePremise}
use Rattle.proof_term.specs.declared.rule.OnePremise.TheVariants as one
use Rattle.proof_term.specs.declared.rule.TwoPremises.{TwoPremises}
use Rattle.proof_term.specs.declared.rule.TwoPremises.TheVariants as two
use Rattle.proof_term.specs.declared.rule.Rule.{Rule}
use Rattle.proof_term.specs.declared.rule.Rule.TheVariants.{Axiom as AxiomRule, One, Two}
use Rattle.proof_term.specs.Limits.{size, depth}
use Rattle.proof_term.specs.Proof.{ProofView}
use Rattle.proof_term.specs.Rules.{by_axiom, by_one, by_two}
use Rattle.proof_term.proofs.ProofLemmas.{same}
use Rattle.proof_term.proofs.ShapeLemmas.{folded_axiom, folded_one, folded_two, size_axiom, size_one, size_two, depth_axiom, depth_one, depth_two}
use Rattle.proof_text.specs.declared.cursor.ProofCursor.{ProofCursor}
use Rattle.proof_text.specs.declared.names.PlainRule.{PlainRule}
use Rattle.proof_text.specs.declared.names.PlainRule.TheVariants.{ConsR, InterR, AndR, OrR1, OrR2, TrueR, ImpR, ForallR, ExistsR, SaysR, AtR}
use Rattle.proof_text.specs.declared.names.CitingRule.{CitingRule}
use Rattle.proof_text.specs.declared.names.CitingRule.TheVariants.{Init, ConsL, InterL, AndL, OrL, FalseL, ImpL, ForallL, ExistsL, SaysL, Claim, AtL}
use Rattle.proof_text.specs.declared.names.RuleName.{RuleName}
use Rattle.proof_text.specs.declared.names.RuleName.TheVariants.{Plain, Citing}
use Rattle.proof_text.specs.Cursor.{first_byte, token_at, cursor_after_token, cursor_after_sign, term_at, time_at, hypothesis_reading, hypothesis_at, rule_reading, is_word_start, rule_at, room, take_rule}
use Rattle.proof_text.specs.Heads.{premise_head, finish_head, start_head, with_term, plain_head, with_instance, with_interval, citing_head, with_hypothesis, named_head, head}
use Rattle.proof_text.specs.Proofs.{IsProof, no_premise, one_premise, two_premises}
use Rattle.proof_text.specs.RoundTrip.{IsClosedTerm, IsTimeTerm, IsHypothesisNumber, IsSayableAxiom, IsSayableOne, IsSayableTwo, NamesSayable, IsPrintableProof}
use Rattle.proof_text.specs.Rules.{rule_named}
use Rattle.proof_text.specs.Texts.{IsProofText, whole_proof}
use Rattle.text_laws.proofs.TokenLemmas.{IsInGrammar, IsTokenInGrammar, IsBelow, numeral_fits, token_fits}

-- ---- terms

abbrev IsSayableTerm : Term → Type 0
IsSayableTerm t = IsSpellable t × IsClosedTerm t

constant_said : (t : Term) → IsWritten t → IsInGrammar t → IsSayableTerm t
constant_said (Prin name) written fits = absurd written
constant_said (File number) written fits = (fits, tt)
constant_said (Perm permission) written fits = (tt, tt)
constant_said (Time point) written fits = (written, tt)
constant_said (Text constant) written fits = (fits, tt)
constant_said Ctime written fits = (tt, tt)
constant_said (Param n) written fits = (fits, tt)
constant_said (Bound n) written fits = absurd written

term_by : (at : ℕ) (token : Token) (end left : ℕ) (t : Term) → IsLexed token → IsTokenInGrammar token → term_of [] (record { at = at; token = token; end = end; left = left }) ≡ Ok t → IsSayableTerm t
unfolding term_of
term_by at (Name name) end left t lexed fits h = subst IsSayableTerm (ok_same h) (fits, tt)
term_by at (Constant c) end left t lexed fits h = subst IsSayableTerm (ok_same h) (constant_said c lexed fits)
term_by at (tokens.Variable name) end left t lexed fits h = absurd (refused h)
term_by at LongWord end left t lexed fits h = absurd (refused h)
term_by at BadDate end left t lexed fits h = absurd (refused h)
term_by at (SortName s) end left t lexed fits h = absurd (refused h)
term_by at (Keyword word) end left t lexed fits h = absurd (refused h)
term_by at (tokens.Sign sign) end left t lexed fits h = absurd (refused h)
term_by at End end left t lexed fits h = absurd (refused h)
term_by at Bad end left t lexed fits h = absurd (refused h)

term_said : (text : List ℕ) (here : ProofCursor) (t : Term) → term_of [] (token_at text here) ≡ Ok t → IsSayableTerm t
term_said text here t h =
    term_by (token_at text here).at (token_at text here).token (token_at text here).end (token_at text here).left t (token_lexed text here.from here.left) (token_fits text here.from here.left) h

-- a term that is no variable, where a time is wanted
timed : (t : Term) → IsClosedTerm t → is_of_wanted_sort [] sorts.Time t ≡ true → IsTimeTerm t
timed (Prin name) closed fit = absurd (false≢true fit)
timed (File number) closed fit = absurd (false≢true fit)
timed (Perm permission) closed fit = absurd (false≢true fit)
timed (Time point) closed fit = tt
timed (Text constant) closed fit = absurd (false≢true fit)
timed Ctime closed fit = tt
timed (Param n) closed fit = tt
timed (Bound n) closed fit = absurd closed

sorted_fits : (at : ℕ) (t : Term) (u : Unit {0}) → require_sort [] sorts.Time at t ≡ Ok u → is_of_wanted_sort [] sorts.Time t ≡ true
unfolding require_sort
sorted_fits at t u h = (if_ok (is_of_wanted_sort [] sorts.Time t) (Ok tt) (faults.Sort at) u h).0

-- ---- fields, and how many rules are left after them

left_same : (text : List ℕ) (from left : ℕ) → (token_from text from left).left ≡ left
unfolding token_from
left_same text from left = refl

sign_left : (text : List ℕ) (sign : Sign) (here there : ProofCursor) → cursor_after_sign text sign here ≡ Ok there → there.left ≡ here.left
unfolding cursor_after_sign
sign_left text sign here there h =
    let found = if_ok (is_sign sign (token_at text here).token) (Ok (cursor_after_token (token_at text here))) (faults.Unexpected (token_at text here).at) there h in
    let same_place = ok_same found.1 in sym (ap (λ (p : ProofCursor). p.left) same_place) ∙ left_same text here.from here.left

-- the term can be said, and so many rules are left after it
abbrev IsTermSaid : ℕ → Term × ProofCursor → Type 0
IsTermSaid left x = IsSayableTerm x.0 × (x.1.left ≡ left)

abbrev IsTimeSaid : ℕ → Term × ProofCursor → Type 0
IsTimeSaid left x = (IsSpellable x.0 × IsTimeTerm x.0) × (x.1.left ≡ left)

term_at_said : (text : List ℕ) (here : ProofCursor) (x : Term × ProofCursor) → term_at text here ≡ Ok x → IsTermSaid here.left x
unfolding term_at
term_at_said text here x h =
    let b = bind_ok (term_of [] (token_at text here)) (λ t. Ok (t, cursor_after_token (token_at text here))) x h in
    subst (IsTermSaid here.left) (ok_same b.1.1) (term_said text here b.0 b.1.0, left_same text here.from here.left)

time_at_said : (text : List ℕ) (here : ProofCursor) (x : Term × ProofCursor) → time_at text here ≡ Ok x → IsTimeSaid here.left x
unfolding time_at
time_at_said text here x h =
    let b = bind_ok (term_of [] (token_at text here)) (λ t. require_sort [] sorts.Time (token_at text here).at t >>= λ _. Ok (t, cursor_after_token (token_at text here))) x h in
    let c = bind_ok (require_sort [] sorts.Time (token_at text here).at b.0) (λ _. Ok (b.0, cursor_after_token (token_at text here))) x b.1.1 in
    let term = term_said text here b.0 b.1.0 in
    let time : IsTimeTerm b.0 = timed b.0 term.1 (sorted_fits (token_at text here).at b.0 c.0 c.1.0) in
    subst (IsTimeSaid here.left) (ok_same c.1.1) ((term.0, time), left_same text here.from here.left)

abbrev IsNumberSaid : ℕ → ℕ × ProofCursor → Type 0
IsNumberSaid left x = IsHypothesisNumber x.0 × (x.1.left ≡ left)

number_by : (at size left : ℕ) (o : Option ℕ) (x : ℕ × ProofCursor) → IsBelow (2 ^ 16) o → hypothesis_reading at size left o ≡ Ok x → IsNumberSaid left x
number_by at size left None x below h = absurd (refused h)
number_by at size left (Some n) x below h = subst (IsNumberSaid left) (ok_same h) (below, refl)

hypothesis_said : (text : List ℕ) (here : ProofCursor) (x : ℕ × ProofCursor) → hypothesis_at text here ≡ Ok x → IsNumberSaid here.left x
unfolding hypothesis_at
hypothesis_said text here x h =
    let digits = take_while (is_in classes.Digit) (drop (first_byte text here) text) in
    number_by (first_byte text here) (length digits) here.left (numeral_below (2 ^ 16) digits) x (numeral_fits (2 ^ 16) digits) h

name_by : (at size left : ℕ) (o : Option RuleName) (x : RuleName × ProofCursor) → rule_reading at size left o ≡ Ok x → x.1.left ≡ left
name_by at size left None x h = absurd (refused h)
name_by at size left (Some name) x h = let found = ok_same h in sym (ap (λ (p : RuleName × ProofCursor). p.1.left) found)

name_left : (text : List ℕ) (here : ProofCursor) (x : RuleName × ProofCursor) → rule_at text here ≡ Ok x → x.1.left ≡ here.left
unfolding rule_at
name_left text here x h =
    let bytes = drop (first_byte text here) text in
    let word = take_while (is_in classes.Word) bytes in
    let found = if_ok (is_word_start bytes) (rule_reading (first_byte text here) (length word) here.left (rule_named word)) (faults.Unexpected (first_byte text here)) x h in
    name_by (first_byte text here) (length word) here.left (rule_named word) x found.1

room_left : (text : List ℕ) (levels : ℕ) (here : ProofCursor) (u : Unit {0}) → room text levels here ≡ Ok u → (1 ≤ here.left) × (1 ≤ levels)
unfolding room
room_left text levels here u h =
    let some = if_ok (nat_le 1 here.left && nat_le 1 levels) (Ok tt) (faults.TooLarge (first_byte text here)) u h in
    let parts = and_parts (nat_le 1 here.left) (nat_le 1 levels) some.0 in
    (leb-true 1 here.left parts.0, leb-true 1 levels parts.1)

-- ---- heads of rules

abbrev IsSayableRule : Rule → Type 0
IsSayableRule (AxiomRule r) = IsSayableAxiom r
IsSayableRule (One r) = IsSayableOne r
IsSayableRule (Two r) = IsSayableTwo r

-- a text can say what the rule names, and so many rules are left after it
abbrev IsRuleSaid : ℕ → Rule × ProofCursor → Type 0
IsRuleSaid left x = IsSayableRule x.0 × (x.1.left ≡ left)

-- the same number of rules, named otherwise
rule_as : (left left' : ℕ) (x : Rule × ProofCursor) → left ≡ left' → IsRuleSaid left x → IsRuleSaid left' x
rule_as left left' x is h = (h.0, h.1 ∙ is)

premise_said : (text : List ℕ) (rule : Rule) (here : ProofCursor) (x : Rule × ProofCursor) → premise_head text rule here ≡ Ok x → IsSayableRule rule → IsRuleSaid here.left x
unfolding premise_head
premise_said text rule here x h says =
    let b = bind_ok (cursor_after_sign text signs.Comma here) (λ there. Ok (rule, there)) x h in
    subst (IsRuleSaid here.left) (ok_same b.1.1) (says, sign_left text signs.Comma here b.0 b.1.0)

finish_said : (text : List ℕ) (rule : Rule) (here : ProofCursor) (x : Rule × ProofCursor) → finish_head text rule here ≡ Ok x → IsSayableRule rule → IsRuleSaid here.left x
unfolding finish_head
finish_said text rule here x h says =
    let b = bind_ok (cursor_after_sign text signs.Close here) (λ there. Ok (rule, there)) x h in
    subst (IsRuleSaid here.left) (ok_same b.1.1) (says, sign_left text signs.Close here b.0 b.1.0)

start_said : (text : List ℕ) (rule : Rule) (here : ProofCursor) (x : Rule × ProofCursor) → start_head text rule here ≡ Ok x → IsSayableRule rule → IsRuleSaid here.left x
unfolding start_head
start_said text rule here x h says =
    let b = bind_ok (cursor_after_sign text signs.Open here) (λ there. Ok (rule, there)) x h in
    subst (IsRuleSaid here.left) (ok_same b.1.1) (says, sign_left text signs.Open here b.0 b.1.0)

with_term_said : (text : List ℕ) (here : ProofCursor) (x : Rule × ProofCursor) → with_term text here ≡ Ok x → IsRuleSaid here.left x
unfolding with_term
with_term_said text here x h =
    let b = bind_ok (cursor_after_sign text signs.Open here) (λ place. term_at text place >>= λ t. premise_head text (One (one.ExistsR t.0)) t.1) x h in
    let c = bind_ok (term_at text b.0) (λ t. premise_head text (One (one.ExistsR t.0)) t.1) x b.1.1 in
    let term = term_at_said text b.0 c.0 c.1.0 in
    rule_as c.0.1.left here.left x (term.1 ∙ sign_left text signs.Open here b.0 b.1.0) (premise_said text (One (one.ExistsR c.0.0)) c.0.1 x c.1.1 term.0)

plain_said : (text : List ℕ) (rule : PlainRule) (here : ProofCursor) (x : Rule × ProofCursor) → plain_head text rule here ≡ Ok x → IsRuleSaid here.left x
unfolding plain_head
plain_said text ConsR here x h = subst (IsRuleSaid here.left) (ok_same h) (tt, refl)
plain_said text InterR here x h = subst (IsRuleSaid here.left) (ok_same h) (tt, refl)
plain_said text TrueR here x h = subst (IsRuleSaid here.left) (ok_same h) (tt, refl)
plain_said text AndR here x h = start_said text (Two two.AndR) here x h tt
plain_said text OrR1 here x h = start_said text (One one.OrR1) here x h tt
plain_said text OrR2 here x h = start_said text (One one.OrR2) here x h tt
plain_said text ImpR here x h = start_said text (One one.ImpR) here x h tt
plain_said text ForallR here x h = start_said text (One one.ForallR) here x h tt
plain_said text ExistsR here x h = with_term_said text here x h
plain_said text SaysR here x h = start_said text (One one.SaysR) here x h tt
plain_said text AtR here x h = start_said text (One one.AtR) here x h tt

with_instance_said : (text : List ℕ) (n : ℕ) (here : ProofCursor) (x : Rule × ProofCursor) → with_instance text n here ≡ Ok x → IsHypothesisNumber n → IsRuleSaid here.left x
unfolding with_instance
with_instance_said text n here x h few =
    let b = bind_ok (cursor_after_sign text signs.Comma here) (λ place. term_at text place >>= λ t. premise_head text (One (one.ForallL n t.0)) t.1) x h in
    let c = bind_ok (term_at text b.0) (λ t. premise_head text (One (one.ForallL n t.0)) t.1) x b.1.1 in
    let term = term_at_said text b.0 c.0 c.1.0 in
    rule_as c.0.1.left here.left x (term.1 ∙ sign_left text signs.Comma here b.0 b.1.0) (premise_said text (One (one.ForallL n c.0.0)) c.0.1 x c.1.1 (few, term.0))

with_interval_said : (text : List ℕ) (n : ℕ) (here : ProofCursor) (x : Rule × ProofCursor) → with_interval text n here ≡ Ok x → IsHypothesisNumber n → IsRuleSaid here.left x
unfolding with_interval
with_interval_said text n here x h few =
    let first = bind_ok (cursor_after_sign text signs.Comma here) _ x h in
    let from = bind_ok (time_at text first.0) _ x first.1.1 in
    let second = bind_ok (cursor_after_sign text signs.Comma from.0.1) _ x from.1.1 in
    let to = bind_ok (time_at text second.0) _ x second.1.1 in
    let low = time_at_said text first.0 from.0 from.1.0 in
    let high = time_at_said text second.0 to.0 to.1.0 in
    let left : to.0.1.left ≡ here.left = high.1 ∙ sign_left text signs.Comma from.0.1 second.0 second.1.0 ∙ low.1 ∙ sign_left text signs.Comma here first.0 first.1.0 in
    rule_as to.0.1.left here.left x left (premise_said text (Two (two.ImpL n from.0.0 to.0.0)) to.0.1 x to.1.1 (few, (low.0, high.0)))

citing_said : (text : List ℕ) (rule : CitingRule) (n : ℕ) (here : ProofCursor) (x : Rule × ProofCursor) → citing_head text rule n here ≡ Ok x → IsHypothesisNumber n → IsRuleSaid here.left x
unfolding citing_head
citing_said text Init n here x h few = finish_said text (AxiomRule (axioms.Init n)) here x h few
citing_said text FalseL n here x h few = finish_said text (AxiomRule (axioms.FalseL n)) here x h few
citing_said text ConsL n here x h few = premise_said text (One (one.ConsL n)) here x h few
citing_said text InterL n here x h few = premise_said text (One (one.InterL n)) here x h few
citing_said text AndL n here x h few = premise_said text (One (one.AndL n)) here x h few
citing_said text OrL n here x h few = premise_said text (Two (two.OrL n)) here x h few
citing_said text ImpL n here x h few = with_interval_said text n here x h few
citing_said text ForallL n here x h few = with_instance_said text n here x h few
citing_said text ExistsL n here x h few = premise_said text (One (one.ExistsL n)) here x h few
citing_said text SaysL n here x h few = premise_said text (One (one.SaysL n)) here x h few
citing_said text Claim n here x h few = premise_said text (One (one.Claim n)) here x h few
citing_said text AtL n here x h few = premise_said text (One (one.AtL n)) here x h few

with_hypothesis_said : (text : List ℕ) (rule : CitingRule) (here : ProofCursor) (x : Rule × ProofCursor) → with_hypothesis text rule here ≡ Ok x → IsRuleSaid here.left x
unfolding with_hypothesis
with_hypothesis_said text rule here x h =
    let b = bind_ok (cursor_after_sign text signs.Open here) (λ place. hypothesis_at text place >>= λ n. citing_head text rule n.0 n.1) x h in
    let c = bind_ok (hypothesis_at text b.0) (λ n. citing_head text rule n.0 n.1) x b.1.1 in
    let number = hypothesis_said text b.0 c.0 c.1.0 in
    rule_as c.0.1.left here.left x (number.1 ∙ sign_left text signs.Open here b.0 b.1.0) (citing_said text rule c.0.0 c.0.1 x c.1.1 number.0)

named_said : (text : List ℕ) (name : RuleName) (here : ProofCursor) (x : Rule × ProofCursor) → named_head text name here ≡ Ok x → IsRuleSaid here.left x
unfolding named_head
named_said text (Plain rule) here x h = plain_said text rule here x h
named_said text (Citing rule) here x h = with_hypothesis_said text rule here x h

-- a text can say what the rule names, which takes a rule and a level
record IsHeadSaid (levels : ℕ) (here : ProofCursor) (x : Rule × ProofCursor) : Type 0 where
  pub says : IsSayableRule x.0
  pub left : x.1.left + 1 ≡ here.left
  pub some : 1 ≤ levels

head_said : (text : List ℕ) (levels : ℕ) (here : ProofCursor) (x : Rule × ProofCursor) → head text levels here ≡ Ok x → IsHeadSaid levels here x
unfolding head
head_said text levels here x h =
    let b = bind_ok (rule_at text here) (λ name. room text levels here >>= λ _. named_head text name.0 (take_rule name.1)) x h in
    let c = bind_ok (room text levels here) (λ _. named_head text b.0.0 (take_rule b.0.1)) x b.1.1 in
    let some = room_left text levels here c.0 c.1.0 in
    let name : b.0.1.left ≡ here.left = name_left text here b.0 b.1.0 in
    let rule = named_said text b.0.0 (take_rule b.0.1) x c.1.1 in
    let last : x.1.left ≡ b.0.1.left - 1 = rule.1 in
    record { says = rule.0; left = omega (arith, some.0, name, last); some = some.1 }

-- ---- proofs

-- what is said of a proof that was read from the one place up to the other
record IsProofSaid (levels : ℕ) (here there : ProofCursor) (d : ProofView) : Type 0 where
  pub names : NamesSayable d
  pub nodes : size d + there.left ≡ here.left
  pub levels_are : depth d ≤ levels

names_axiom : (r : Axiom) → NamesSayable (by_axiom r) ≡ IsSayableAxiom r
names_axiom r = folded_axiom IsSayableAxiom (λ r P. IsSayableOne r × P) (λ r P Q. IsSayableTwo r × (P × Q)) r

names_one : (r : OnePremise) (p : ProofView) → NamesSayable (by_one r p) ≡ (IsSayableOne r × NamesSayable p)
names_one r p = folded_one IsSayableAxiom (λ r P. IsSayableOne r × P) (λ r P Q. IsSayableTwo r × (P × Q)) r p

names_two : (r : TwoPremises) (p q : ProofView) → NamesSayable (by_two r p q) ≡ (IsSayableTwo r × (NamesSayable p × NamesSayable q))
names_two r p q = folded_two IsSayableAxiom (λ r P. IsSayableOne r × P) (λ r P Q. IsSayableTwo r × (P × Q)) r p q

axiom_said : {levels : ℕ} {here there : ProofCursor} (r : Axiom) → IsHeadSaid levels here (AxiomRule r, there) → IsProofSaid levels here there (by_axiom r)
axiom_said {levels} {here} {there} r h =
    let size_is = size_axiom r in
    let depth_is = depth_axiom r in
    let left : there.left + 1 ≡ here.left = h.left in
    record { names = same (sym (names_axiom r)) h.says; nodes = omega (arith, size_is, left); levels_are = omega (arith, depth_is, h.some) }

one_said : {levels : ℕ} {here first mid there : ProofCursor} (r : OnePremise) (p : ProofView) → IsHeadSaid levels here (One r, first) → IsProofSaid (levels - 1) first mid p → there.left ≡ mid.left → IsProofSaid levels here there (by_one r p)
one_said {levels} {here} {first} {mid} {there} r p h premise close =
    let size_is = size_one r p in
    let depth_is = depth_one r p in
    let left : first.left + 1 ≡ here.left = h.left in
    record { names = same (sym (names_one r p)) (h.says, premise.names); nodes = omega (arith, size_is, left, premise.nodes, close); levels_are = omega (arith, depth_is, h.some, premise.levels_are) }

two_said : {levels : ℕ} {here first mid second last there : ProofCursor} (r : TwoPremises) (p q : ProofView) → IsHeadSaid levels here (Two r, first) → IsProofSaid (levels - 1) first mid p → second.left ≡ mid.left → IsProofSaid (levels - 1) second last q
    → there.left ≡ last.left → IsProofSaid levels here there (by_two r p q)
two_said {levels} {here} {first} {mid} {second} {last} {there} r p q h premise comma other close =
    let size_is = size_two r p q in
    let depth_is = depth_two r p q in
    let left : first.left + 1 ≡ here.left = h.left in
    record {
      names = same (sym (names_two r p q)) (h.says, (premise.names, other.names));
      nodes = omega (arith, size_is, left, premise.nodes, comma, other.nodes, close);
      levels_are = omega (arith, depth_is, h.some, premise.levels_are, other.levels_are);
    }

proof_said : {text : List ℕ} {levels : ℕ} {here there : ProofCursor} {d : ProofView} → IsProof text levels here there d → IsProofSaid levels here there d
proof_said {text} (no_premise levels here there r d begins is) = subst (IsProofSaid levels here there) (sym is) (axiom_said r (head_said text levels here (AxiomRule r, there) begins))
proof_said {text} (one_premise levels here first mid there r p d begins more closes is) =
    subst (IsProofSaid levels here there) (sym is) (one_said r p (head_said text levels here (One r, first) begins) (proof_said more) (sign_left text signs.Close mid there closes))
proof_said {text} (two_premises levels here first mid second last there r p q d begins more comma others closes is) =
    subst (IsProofSaid levels here there) (sym is)
    (two_said r p q (head_said text levels here (Two r, first) begins) (proof_said more) (sign_left text signs.Comma mid second comma) (proof_said others) (sign_left text signs.Close last there closes))

pub proof_printable : {text : List ℕ} {d : ProofView} → IsProofText text d → IsPrintableProof d
proof_printable {text} {d} (whole_proof there is ends) =
    let said = proof_said is in
    let nodes : size d + there.left ≡ 4096 = said.nodes in
    record { within_limits = record { nodes = omega arith; levels = said.levels_are }; names = said.names }
