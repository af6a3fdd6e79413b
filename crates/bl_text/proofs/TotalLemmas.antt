-- At each place of a text a formula is read, as far as it goes on, or it stops there for another reason than out of memory. So each text is one of a formula or has such a fault.
use Rattle.std.proofs.Common.{◌≡◌, ℕ, zero, suc, ◌+◌, ◌-◌, ◌*◌, ◌<◌, ◌≤◌, Bool, true, false, List, [], ◌∷◌, ◌++◌, length, refl, arith, Ok, ◌⊎◌, inl, inr}
use Rattle.std.specs.Prelude.{nat_lt, ◌||◌}
use Rattle.std.proofs.lemmas.Bool.Decides.{nat_tests}
use Rattle.bl_syntax.specs.declared.terms.Sort.{Sort as TermSort}
use Rattle.bl_syntax.specs.declared.terms.Term.{Term}
use Rattle.bl_syntax.specs.Formula.{FormulaView, both, either, implies, forall_, exists_, says, on}
use Rattle.bl_syntax.specs.Names.{is_predicate_name}
use Rattle.bl_syntax.specs.Statement.{StatementView}
use Rattle.bl_syntax.specs.Statement as statements
use Rattle.bl_tokens.specs.declared.faults.TextFault.{TextFault}
use Rattle.bl_tokens.specs.declared.faults.TextFault.TheVariants.{Unexpected, TooLarge}
use Rattle.bl_tokens.specs.declared.tokens.Sign.TheVariants as signs
use Rattle.bl_tokens.specs.declared.tokens.Keyword.TheVariants as keywords
use Rattle.bl_tokens.specs.declared.tokens.Cursor.{Cursor}
use Rattle.bl_tokens.specs.Tokens.{cursor_after, cursor_after_node, is_sign, is_word}
use Rattle.bl_text.specs.Scope.{Variable}
use Rattle.bl_text.specs.Pieces.{count, expect_sign, argument, next_argument, interval, binder, speaker, apply_predicate, simple_formula}
use Rattle.bl_text.specs.Grammar.{Level, formula, disjunction, conjunction, unary, postfix, primary, is_quantifier, is_saying, is_call, is_continued_by, AreArguments, one, further, IsCall, call, Is, for_every, for_some, implication, one_disjunction, or_further, one_conjunction, and_further, one_unary, saying, one_postfix, on_interval, one_primary, group, called, one_simple}
use Rattle.bl_text.specs.FirstFaults.{ArgumentsHaveFirstFault, in_first_argument, in_argument, CallHasFirstFault, at_name, in_arguments, before_close, by_sorts, HasFirstFault, in_binder, in_body, in_premise, at_implies, in_conclusion, in_first_disjunct, at_or, in_disjunct, in_first_conjunct, at_and, in_conjunct, in_speaker, in_said, in_postfix, in_primary, in_interval, too_deep, in_group, not_closed, in_call, in_simple}
use Rattle.bl_text.specs.Texts.{beginning, is_end, IsFormulaText, whole, FormulaFault, in_formula, behind_formula, opening, span, IsSayingText, whole_saying, IsStatementText, StatementFault, in_opening, in_span}
use Rattle.bl_text.specs.Texts as texts
use Rattle.bl_text.specs.Met.{unexpected}
use Rattle.bl_text.proofs.ReadLemmas.{expected-Ok, is_call-name, formula_ended}
use Rattle.bl_text.proofs.IsStatementLemmas.{statement_said}
use Rattle.bl_text.proofs.PieceLemmas.{too_large, left_behind, left_node}
use Rattle.bl_text.proofs.PieceTotalLemmas.{IsOfText, of_text, misread_of_text, Any, answered, count_answers, expected_answers, argument_answers, next_argument_answers, interval_answers, binder_answers, speaker_answers, applied_answers, simple_answers, opening_answers, span_answers}
use Rattle.std.proofs.lemmas.Bool.{or_from}

-- ---- tests

pub by_test : {V : Type 0} (b : Bool) → (b ≡ true → V) → (b ≡ false → V) → V
by_test true holds fails = holds refl
by_test false holds fails = fails refl

or_parts : {V : Type 0} (a b : Bool) → (a || b) ≡ true → (a ≡ true → V) → (b ≡ true → V) → V
or_parts true b h left right = left refl
or_parts false b h left right = right h

ended_three : (o a t : Bool) → o ≡ false → (a || t) ≡ false → (o || a || t) ≡ false
ended_three false a t h rest = rest
ended_three true a t h rest = absurd (let never : true ≡ false = h in cc)

-- ---- outcomes

-- what stands at that place is read up to another, where no sign goes on with it and fewer nodes are left, or stops
pub data Outcome (text : List ℕ) (st : Bool) (level : Level) (scope : List Variable) (depth : ℕ) (here : Cursor) : Type 0 where
  reads : (place : Cursor) (f : FormulaView) → Is text st level scope depth here place f → is_continued_by level place.token ≡ false → place.left + 1 ≤ here.left → Outcome text st level scope depth here
  stops : (e : TextFault) → HasFirstFault text st level scope depth here e → IsOfText e → Outcome text st level scope depth here

come_out : {text : List ℕ} {st : Bool} {level : Level} {scope : List Variable} {depth : ℕ} {here : Cursor} {V : Type 0} → Outcome text st level scope depth here
    → ((place : Cursor) (f : FormulaView) → Is text st level scope depth here place f → is_continued_by level place.token ≡ false → place.left + 1 ≤ here.left → V) → ((e : TextFault) → HasFirstFault text st level scope depth here e → IsOfText e → V) → V
come_out (reads place f d ended left) read stopped = read place f d ended left
come_out (stops e h n) read stopped = stopped e h n

-- a node that is taken, or a parenthesis that is opened, makes less room for what is left; within one place the level falls
abbrev rank : Level → ℕ
rank formula = 5
rank disjunction = 4
rank conjunction = 3
rank unary = 2
rank postfix = 1
rank primary = 0

abbrev measure : Level → ℕ → Cursor → ℕ
measure level depth here = (here.left + (512 - depth)) * 6 + rank level

-- the outcomes at all places and levels with less room
abbrev Below : List ℕ → Bool → ℕ → Type 0
Below text st room = (level : Level) (scope : List Variable) (depth : ℕ) (here : Cursor) → measure level depth here < room → Outcome text st level scope depth here

-- ---- predicates

further_out : {V : Type 0} (text : List ℕ) (st : Bool) (scope : List Variable) (is_atom : Bool) (here : Cursor)
    → ((mid : Cursor) (terms : List Term) → AreArguments text st scope is_atom here mid terms → is_sign signs.Comma mid.token ≡ false → mid.left + 1 ≤ here.left → V) → ((e : TextFault) → ArgumentsHaveFirstFault text st scope is_atom here e → IsOfText e → V)
    → (k : ℕ) (mid : Cursor) (terms : List Term) → mid.left < k → AreArguments text st scope is_atom here mid terms → mid.left + 1 ≤ here.left → V
further_out text st scope is_atom here read stopped zero mid terms few args left = absurd (omega arith)
further_out text st scope is_atom here read stopped (suc k) mid terms few args left =
    by_test (is_sign signs.Comma mid.token)
    (λ sign.
    let comma = expected-Ok text signs.Comma mid sign in
    answered _ (next_argument st scope is_atom (length terms) (cursor_after text mid)) (next_argument_answers st scope is_atom (length terms) (cursor_after text mid))
    (λ t is some. further_out text st scope is_atom here read stopped k (cursor_after_node text (cursor_after text mid)) (terms ++ t ∷ []) (omega (arith, left_behind text mid, left_node text (cursor_after text mid)))
    (further mid (cursor_after text mid) terms t args comma is) (omega (arith, left_behind text mid, left_node text (cursor_after text mid))))
    (λ e is n. stopped e (in_argument mid (cursor_after text mid) terms e args comma is) n))
    (λ no. read mid terms args no left)

arguments_out : {V : Type 0} (text : List ℕ) (st : Bool) (scope : List Variable) (is_atom : Bool) (here : Cursor)
    → ((mid : Cursor) (terms : List Term) → AreArguments text st scope is_atom here mid terms → is_sign signs.Comma mid.token ≡ false → mid.left + 1 ≤ here.left → V) → ((e : TextFault) → ArgumentsHaveFirstFault text st scope is_atom here e → IsOfText e → V) → V
arguments_out text st scope is_atom here read stopped =
    answered _ (argument st scope here) (argument_answers st scope here)
    (λ t is some. further_out text st scope is_atom here read stopped here.left (cursor_after_node text here) (t ∷ []) (omega (arith, left_node text here)) (one t is) (omega (arith, left_node text here)))
    (λ e is n. stopped e (in_first_argument e is) n)

call_out : {V : Type 0} (text : List ℕ) (st : Bool) (scope : List Variable) (here : Cursor) → is_call text here ≡ true
    → ((place : Cursor) (f : FormulaView) → IsCall text st scope here place f → place.left + 1 ≤ here.left → V) → ((e : TextFault) → CallHasFirstFault text st scope here e → IsOfText e → V) → V
call_out text st scope here calls read stopped =
    let name = is_call-name text here calls in
    answered _ (count here) (count_answers here)
    (λ u room some. arguments_out text st scope (is_predicate_name name.0) (cursor_after text (cursor_after_node text here))
    (λ mid terms args no_comma left. answered _ (expect_sign text signs.Close mid) (expected_answers text signs.Close mid)
    (λ place close same. answered Any (apply_predicate scope here.at name.0 terms) (applied_answers scope here.at name.0 terms)
    (λ f is _. read place f (call name.0 mid place terms f name.1 room args close is) (omega (arith, left_node text here, left_behind text (cursor_after_node text here))))
    (λ e wrong n. stopped e (by_sorts name.0 mid place terms e name.1 room args close wrong) n))
    (λ e close n. stopped e (before_close name.0 mid terms e name.1 room args no_comma close) n))
    (λ e h n. stopped e (in_arguments name.0 e name.1 room h) n))
    (λ e full n. stopped e (at_name e full) n)

-- ---- levels

primary_out : (text : List ℕ) (st : Bool) (scope : List Variable) (depth : ℕ) (here : Cursor) → Below text st (measure primary depth here) → Outcome text st primary scope depth here
primary_out text st scope depth here below =
    by_test (is_sign signs.Open here.token)
    (λ opens. by_test (nat_lt depth 512)
    (λ room.
    let deep : depth < 512 = grind (arith, nat_tests) in
    come_out (below formula scope (depth + 1) (cursor_after text here) (omega (arith, left_behind text here)))
    (λ mid a d ended left. answered _ (expect_sign text signs.Close mid) (expected_answers text signs.Close mid)
    (λ place close same. reads place a (group scope depth here mid place a opens room d close) refl (omega (arith, left_behind text here)))
    (λ e close n. stops e (not_closed scope depth here mid a e opens room d ended close) n))
    (λ e h n. stops e (in_group scope depth here e opens room h) n))
    (λ full. stops (TooLarge here.at) (too_deep scope depth here opens full) (of_text too_large)))
    (λ closed. by_test (is_call text here)
    (λ calls. call_out text st scope here calls (λ place a c left. reads place a (called scope depth here place a closed calls c) refl left) (λ e h n. stops e (in_call scope depth here e closed calls h) n))
    (λ no_call. answered _ (simple_formula text st scope here) (simple_answers text st scope here)
    (λ v is left. reads v.1 v.0 (one_simple scope depth here v.1 v.0 closed no_call is) refl left)
    (λ e is n. stops e (in_simple scope depth here e closed no_call is) n)))

at_out : (text : List ℕ) (st : Bool) (scope : List Variable) (depth : ℕ) (here : Cursor) (k : ℕ) (mid : Cursor) (a : FormulaView) → mid.left < k → Is text st postfix scope depth here mid a → mid.left + 1 ≤ here.left → Outcome text st postfix scope depth here
at_out text st scope depth here zero mid a few d left = absurd (omega arith)
at_out text st scope depth here (suc k) mid a few d left =
    by_test (is_sign signs.At mid.token)
    (λ sign. answered _ (interval text st scope mid) (interval_answers text st scope mid)
    (λ v is less. at_out text st scope depth here k v.2 (on a v.0 v.1) (omega arith) (on_interval scope depth here mid v.2 a v.0 v.1 d sign is) (omega arith))
    (λ e is n. stops e (in_interval scope depth here mid a e d sign is) n))
    (λ no. reads mid a d no left)

postfix_out : (text : List ℕ) (st : Bool) (scope : List Variable) (depth : ℕ) (here : Cursor) → Below text st (measure postfix depth here) → Outcome text st postfix scope depth here
postfix_out text st scope depth here below =
    come_out (below primary scope depth here (omega arith)) (λ mid a d ended left. at_out text st scope depth here here.left mid a (omega arith) (one_primary scope depth here mid a d) left) (λ e h n. stops e (in_primary scope depth here e h) n)

unary_out : (text : List ℕ) (st : Bool) (scope : List Variable) (depth : ℕ) (here : Cursor) → Below text st (measure unary depth here) → Outcome text st unary scope depth here
unary_out text st scope depth here below =
    by_test (is_saying text here)
    (λ said. answered _ (speaker text scope here) (speaker_answers text scope here)
    (λ v is less. come_out (below unary scope depth v.1 (omega arith))
    (λ place a d ended left. reads place (says v.0 a) (saying scope depth here v.1 place v.0 a said is d) ended (omega arith))
    (λ e h n. stops e (in_said scope depth here v.1 v.0 e said is h) n))
    (λ e is n. stops e (in_speaker scope depth here e said is) n))
    (λ none. come_out (below postfix scope depth here (omega arith)) (λ place a d ended left. reads place a (one_postfix scope depth here place a none d) ended left) (λ e h n. stops e (in_postfix scope depth here e none h) n))

and_out : (text : List ℕ) (st : Bool) (scope : List Variable) (depth : ℕ) (here : Cursor) → ((place : Cursor) → place.left < here.left → Outcome text st unary scope depth place) → (k : ℕ) (mid : Cursor) (a : FormulaView) → mid.left < k
    → Is text st conjunction scope depth here mid a → is_continued_by unary mid.token ≡ false → mid.left + 1 ≤ here.left → Outcome text st conjunction scope depth here
and_out text st scope depth here next zero mid a few d ended left = absurd (omega arith)
and_out text st scope depth here next (suc k) mid a few d ended left =
    by_test (is_sign signs.And mid.token)
    (λ sign. answered _ (count mid) (count_answers mid)
    (λ u room some. come_out (next (cursor_after_node text mid) (omega (arith, left_node text mid)))
    (λ place b e ended' less. and_out text st scope depth here next k place (both a b) (omega (arith, left_node text mid)) (and_further scope depth here mid place a b d sign room e) ended' (omega (arith, left_node text mid)))
    (λ e h n. stops e (in_conjunct scope depth here mid a e d sign room h) n))
    (λ e full n. stops e (at_and scope depth here mid a e d sign full) n))
    (λ no. reads mid a d (or_from _ _ no ended) left)

conjunction_out : (text : List ℕ) (st : Bool) (scope : List Variable) (depth : ℕ) (here : Cursor) → Below text st (measure conjunction depth here) → Outcome text st conjunction scope depth here
conjunction_out text st scope depth here below =
    come_out (below unary scope depth here (omega arith))
    (λ mid a d ended left. and_out text st scope depth here (λ place less. below unary scope depth place (omega arith)) here.left mid a (omega arith) (one_unary scope depth here mid a d) ended left)
    (λ e h n. stops e (in_first_conjunct scope depth here e h) n)

or_out : (text : List ℕ) (st : Bool) (scope : List Variable) (depth : ℕ) (here : Cursor) → ((place : Cursor) → place.left < here.left → Outcome text st conjunction scope depth place) → (k : ℕ) (mid : Cursor) (a : FormulaView) → mid.left < k
    → Is text st disjunction scope depth here mid a → is_continued_by conjunction mid.token ≡ false → mid.left + 1 ≤ here.left → Outcome text st disjunction scope depth here
or_out text st scope depth here next zero mid a few d ended left = absurd (omega arith)
or_out text st scope depth here next (suc k) mid a few d ended left =
    by_test (is_sign signs.Or mid.token)
    (λ sign. answered _ (count mid) (count_answers mid)
    (λ u room some. come_out (next (cursor_after_node text mid) (omega (arith, left_node text mid)))
    (λ place b e ended' less. or_out text st scope depth here next k place (either a b) (omega (arith, left_node text mid)) (or_further scope depth here mid place a b d sign room e) ended' (omega (arith, left_node text mid)))
    (λ e h n. stops e (in_disjunct scope depth here mid a e d sign room h) n))
    (λ e full n. stops e (at_or scope depth here mid a e d sign full) n))
    (λ no. reads mid a d (ended_three _ _ _ no ended) left)

disjunction_out : (text : List ℕ) (st : Bool) (scope : List Variable) (depth : ℕ) (here : Cursor) → Below text st (measure disjunction depth here) → Outcome text st disjunction scope depth here
disjunction_out text st scope depth here below =
    come_out (below conjunction scope depth here (omega arith))
    (λ mid a d ended left. or_out text st scope depth here (λ place less. below conjunction scope depth place (omega arith)) here.left mid a (omega arith) (one_conjunction scope depth here mid a d) ended left)
    (λ e h n. stops e (in_first_disjunct scope depth here e h) n)

-- what stands after a binder is a text of the quantified formula
pub quantified_reads : {text : List ℕ} {st : Bool} {scope : List Variable} {depth : ℕ} {here mid place : Cursor} {name : List ℕ} {s : TermSort} {a : FormulaView} → is_quantifier here.token ≡ true → binder text here ≡ Ok (name, s, mid)
    → Is text st formula ((name, s) ∷ scope) depth mid place a → (f : FormulaView) × Is text st formula scope depth here place f
quantified_reads {text} {st} {scope} {depth} {here} {mid} {place} {name} {s} {a} word is d =
    or_parts (is_word keywords.Forall here.token) (is_word keywords.Exists here.token) word
    (λ every. (forall_ s a, for_every scope depth here mid place name s a every is d)) (λ some. (exists_ s a, for_some scope depth here mid place name s a some is d))

formula_out : (text : List ℕ) (st : Bool) (scope : List Variable) (depth : ℕ) (here : Cursor) → Below text st (measure formula depth here) → Outcome text st formula scope depth here
formula_out text st scope depth here below =
    by_test (is_quantifier here.token)
    (λ word. answered _ (binder text here) (binder_answers text here)
    (λ v is less. come_out (below formula ((v.0, v.1) ∷ scope) depth v.2 (omega arith))
    (λ place a d ended left. let all = quantified_reads {name = v.0} {s = v.1} word is d in reads place all.0 all.1 ended (omega arith))
    (λ e h n. stops e (in_body scope depth here v.2 v.0 v.1 e word is h) n))
    (λ e is n. stops e (in_binder scope depth here e word is) n))
    (λ none. come_out (below disjunction scope depth here (omega arith))
    (λ mid a d ended left. by_test (is_sign signs.Implies mid.token)
    (λ sign. answered _ (count mid) (count_answers mid)
    (λ u room some. come_out (below formula scope depth (cursor_after_node text mid) (omega (arith, left_node text mid)))
    (λ place b e ended' less. reads place (implies a b) (implication scope depth here mid place a b none d sign room e) ended' (omega (arith, left_node text mid)))
    (λ e h n. stops e (in_conclusion scope depth here mid a e none d sign room h) n))
    (λ e full n. stops e (at_implies scope depth here mid a e none d sign full) n))
    (λ no. reads mid a (one_disjunction scope depth here mid a none d) (formula_ended mid.token no ended) left))
    (λ e h n. stops e (in_premise scope depth here e none h) n))

one_level : (text : List ℕ) (st : Bool) (level : Level) (scope : List Variable) (depth : ℕ) (here : Cursor) → Below text st (measure level depth here) → Outcome text st level scope depth here
one_level text st formula scope depth here below = formula_out text st scope depth here below
one_level text st disjunction scope depth here below = disjunction_out text st scope depth here below
one_level text st conjunction scope depth here below = conjunction_out text st scope depth here below
one_level text st unary scope depth here below = unary_out text st scope depth here below
one_level text st postfix scope depth here below = postfix_out text st scope depth here below
one_level text st primary scope depth here below = primary_out text st scope depth here below

below_all : (text : List ℕ) (st : Bool) (room : ℕ) → Below text st room
below_all text st zero level scope depth here few = absurd (omega arith)
below_all text st (suc room) level scope depth here few = one_level text st level scope depth here (λ level' scope' depth' here' less. below_all text st room level' scope' depth' here' (omega arith))

pub outcome : (text : List ℕ) (st : Bool) (level : Level) (scope : List Variable) (depth : ℕ) (here : Cursor) → Outcome text st level scope depth here
outcome text st level scope depth here = below_all text st (suc (measure level depth here)) level scope depth here (omega arith)

-- ---- whole texts

pub formula_or_its_fault : (text : List ℕ) → ((f : FormulaView) × IsFormulaText text f) ⊎ ((e : TextFault) × FormulaFault text e × IsOfText e)
formula_or_its_fault text =
    come_out (outcome text false formula [] 0 (beginning text))
    (λ place f d ended left. by_test (is_end place.token) (λ end. inl (f, whole place d end)) (λ more. inr (Unexpected place.at, behind_formula place f d ended more, misread_of_text unexpected)))
    (λ e h n. inr (e, in_formula e h, n))

pub stated : {text : List ℕ} {s : StatementView} → IsSayingText text s → IsStatementText text s
stated h = record { is_text = h; is_statement = statement_said h }

pub statement_or_its_fault : (text : List ℕ) → ((s : StatementView) × IsStatementText text s) ⊎ ((e : TextFault) × StatementFault text e × IsOfText e)
statement_or_its_fault text =
    answered Any (opening text (beginning text)) (opening_answers text (beginning text))
    (λ o opens _. come_out (outcome text true formula [] 0 o.1)
    (λ place f d ended left. answered Any (span text place) (span_answers text place)
    (λ times is _. inl (statements.statement_view o.0 f times.0 times.1, stated (whole_saying o.0 o.1 place f times.0 times.1 opens d is)))
    (λ e is n. inr (e, in_span o.0 o.1 place f e opens d ended is, n)))
    (λ e h n. inr (e, texts.in_body o.0 o.1 e opens h, n)))
    (λ e is n. inr (e, in_opening e is, n))
