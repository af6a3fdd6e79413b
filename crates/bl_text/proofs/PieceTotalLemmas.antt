-- Each piece of a text answers, and never because memory runs out. What it takes is counted.
use Rattle.std.proofs.Common.{◌≡◌, ℕ, ◌+◌, ◌≤◌, Bool, true, false, List, [], refl, arith, Result, Ok, Err}
use Rattle.std.specs.Prelude.{◌≢◌, ◌&&◌, nat_le, MatchResult, if◌then◌else◌}
use Rattle.std.proofs.lemmas.Bool.Decides.{nat_tests}
use Rattle.bl_syntax.specs.declared.terms.Sort.TheVariants as sorts
use Rattle.bl_syntax.specs.declared.terms.Term.{Term}
use Rattle.bl_syntax.specs.Formula.{FormulaView, truth, falsity}
use Rattle.bl_tokens.specs.declared.faults.TextFault.{TextFault}
use Rattle.bl_tokens.specs.declared.faults.TextFault.TheVariants.{Unexpected, TooLarge, Sort, NoMemory}
use Rattle.bl_tokens.specs.declared.tokens.Sign.{Sign as Sign'}
use Rattle.bl_tokens.specs.declared.tokens.Sign.TheVariants as signs
use Rattle.bl_tokens.specs.declared.tokens.Keyword.{Keyword as Word}
use Rattle.bl_tokens.specs.declared.tokens.Keyword.TheVariants as keywords
use Rattle.bl_tokens.specs.declared.tokens.Token.{Token}
use Rattle.bl_tokens.specs.declared.tokens.Token.TheVariants as tokens
use Rattle.bl_tokens.specs.declared.tokens.Cursor.{Cursor}
use Rattle.bl_tokens.specs.Tokens.{cursor_after, cursor_after_node, is_sign, is_word}
use Rattle.bl_text.specs.Scope.{Variable}
use Rattle.bl_text.specs.Pieces.{◌>>=◌, count, expect_sign, term_of, require_sayable, require_sort, argument, next_argument, time_argument, interval, variable_name, sort_at, binder, speaker, less_sign, comparison, apply_predicate, bare_predicate, named_time, name_alone, constant_formula, simple_by, simple_formula}
use Rattle.bl_text.specs.Texts.{expect_word, time_constant, principal_name, opening, at_end, span}
use Rattle.bl_text.specs.Met.{IsMisread, unexpected, unknown_name, bad_date}
use Rattle.bl_text.proofs.PieceLemmas.{IsAt, misread_there, wrong_sort, too_large, ErrsAt, Misreads, term_errs, sayable_errs, sorted_errs, variable_misreads_by, sort_misreads_by, less_misreads, applied_errs, name_misreads_by, time_misreads_by, ended_misreads, left_behind, left_node}

-- a fault of the text itself
abbrev pub IsOfText : TextFault → Type 0
IsOfText e = e ≢ NoMemory

pub misread_of_text : {at : ℕ} {e : TextFault} → IsMisread at e → IsOfText e
misread_of_text {at} unexpected = λ same. (let never : Unexpected at ≡ NoMemory = same in cc)
misread_of_text {at} unknown_name = λ same. (let never : TextFault.UnknownName at ≡ NoMemory = same in cc)
misread_of_text {at} bad_date = λ same. (let never : TextFault.BadDate at ≡ NoMemory = same in cc)

pub of_text : {at : ℕ} {e : TextFault} → IsAt at e → IsOfText e
of_text (misread_there e h) = misread_of_text h
of_text {at} wrong_sort = λ same. (let never : Sort at ≡ NoMemory = same in cc)
of_text {at} too_large = λ same. (let never : TooLarge at ≡ NoMemory = same in cc)

-- there is an answer: a value of which that holds, or a fault of the text
abbrev pub Answers : {A : Type 0} → Result A TextFault → (A → Type 0) → Type 0
Answers r P = MatchResult r P IsOfText

pub chained : {A B : Type 0} (F : TextFault → Type 0) (P : A → Type 0) (Q : B → Type 0) (r : Result A TextFault) (k : A → Result B TextFault) → MatchResult r P F → ((a : A) → P a → MatchResult (k a) Q F) → MatchResult (r >>= k) Q F
chained F P Q (Ok a) k h more = more a h
chained F P Q (Err e) k h more = h

pub resolved : {A V : Type 0} (F : TextFault → Type 0) (P : A → Type 0) (r : Result A TextFault) → MatchResult r P F → ((a : A) → r ≡ Ok a → P a → V) → ((e : TextFault) → r ≡ Err e → F e → V) → V
resolved F P (Ok a) h read stopped = read a refl h
resolved F P (Err e) h read stopped = stopped e refl h

pub decided : {A : Type 0} (F : TextFault → Type 0) (P : A → Type 0) (b : Bool) (x y : Result A TextFault) → (b ≡ true → MatchResult x P F) → (b ≡ false → MatchResult y P F) → MatchResult (if b then x else y) P F
decided F P true x y hx hy = hx refl
decided F P false x y hx hy = hy refl

answers_then : {A B : Type 0} (P : A → Type 0) (Q : B → Type 0) (r : Result A TextFault) (k : A → Result B TextFault) → Answers r P → ((a : A) → P a → Answers (k a) Q) → Answers (r >>= k) Q
answers_then P Q r k h more = chained IsOfText P Q r k h more

pub answered : {A V : Type 0} (P : A → Type 0) (r : Result A TextFault) → Answers r P → ((a : A) → r ≡ Ok a → P a → V) → ((e : TextFault) → r ≡ Err e → IsOfText e → V) → V
answered P r h read stopped = resolved IsOfText P r h read stopped

-- of anything
abbrev pub Any : {A : Type 0} → A → Type 0
Any a = Unit {0}

pub errs_answers : {A : Type 0} (at : ℕ) (r : Result A TextFault) → ErrsAt at r → Answers r Any
errs_answers at (Ok a) h = tt
errs_answers at (Err e) h = of_text h

misreads_answer : {A : Type 0} (at : ℕ) (r : Result A TextFault) → Misreads at r → Answers r Any
misreads_answer at (Ok a) h = tt
misreads_answer at (Err e) h = misread_of_text h

if_answers : {A : Type 0} (P : A → Type 0) (b : Bool) (x y : Result A TextFault) → (b ≡ true → Answers x P) → (b ≡ false → Answers y P) → Answers (if b then x else y) P
if_answers P b x y hx hy = decided IsOfText P b x y hx hy

-- ---- the nodes that are left

pub count_answers : (here : Cursor) → Answers (count here) (λ u. 1 ≤ here.left)
unfolding count
count_answers here = if_answers (λ u. 1 ≤ here.left) (nat_le 1 here.left) (Ok tt) (Err (TooLarge here.at)) (λ some. grind (arith, nat_tests)) (λ none. of_text too_large)

pub expected_answers : (text : List ℕ) (sign : Sign') (here : Cursor) → Answers (expect_sign text sign here) (λ place. place.left ≡ here.left)
unfolding expect_sign
expected_answers text sign here = if_answers (λ (place : Cursor). place.left ≡ here.left) (is_sign sign here.token) (Ok (cursor_after text here)) (Err (Unexpected here.at)) (λ is. left_behind text here) (λ other. misread_of_text unexpected)

-- ---- arguments

pub argument_answers : (st : Bool) (scope : List Variable) (here : Cursor) → Answers (argument st scope here) (λ t. 1 ≤ here.left)
unfolding argument
argument_answers st scope here =
    answers_then Any _ (term_of scope here) _ (errs_answers _ _ (term_errs scope here)) (λ t _. answers_then Any _ (require_sayable st here.at t) _ (errs_answers _ _ (sayable_errs st here.at t))
    (λ _ _. answers_then _ _ (count here) _ (count_answers here) (λ _ some. some)))

pub next_argument_answers : (st : Bool) (scope : List Variable) (is_atom : Bool) (others : ℕ) (here : Cursor) → Answers (next_argument st scope is_atom others here) (λ t. 1 ≤ here.left)
unfolding next_argument
next_argument_answers st scope is_atom others here =
    answers_then _ _ (argument st scope here) _ (argument_answers st scope here)
    (λ t some. if_answers (λ _. 1 ≤ here.left) (is_atom && nat_le 8 others) (Err (TooLarge here.at)) (Ok t) (λ _. of_text too_large) (λ _. some))

time_argument_answers : (st : Bool) (scope : List Variable) (here : Cursor) → Answers (time_argument st scope here) (λ t. 1 ≤ here.left)
unfolding time_argument
time_argument_answers st scope here =
    answers_then Any _ (term_of scope here) _ (errs_answers _ _ (term_errs scope here)) (λ t _. answers_then Any _ (require_sayable st here.at t) _ (errs_answers _ _ (sayable_errs st here.at t))
    (λ _ _. answers_then Any _ (require_sort scope sorts.Time here.at t) _ (errs_answers _ _ (sorted_errs scope sorts.Time here.at t)) (λ _ _. answers_then _ _ (count here) _ (count_answers here) (λ _ some. some))))

-- ---- intervals, binders and speakers

pub interval_answers : (text : List ℕ) (st : Bool) (scope : List Variable) (here : Cursor) → Answers (interval text st scope here) (λ v. v.2.left + 1 ≤ here.left)
unfolding interval
interval_answers text st scope here =
    answers_then _ _ (count here) _ (count_answers here) (λ _ some. answers_then _ _ (expect_sign text signs.OpenInterval (cursor_after_node text here)) _ (expected_answers text signs.OpenInterval (cursor_after_node text here))
    (λ first one. answers_then _ _ (time_argument st scope first) _ (time_argument_answers st scope first) (λ from _. answers_then _ _ (expect_sign text signs.Comma (cursor_after_node text first)) _ (expected_answers text signs.Comma (cursor_after_node text first))
    (λ second two. answers_then _ _ (time_argument st scope second) _ (time_argument_answers st scope second) (λ to _. answers_then _ _ (expect_sign text signs.CloseInterval (cursor_after_node text second)) _ (expected_answers text signs.CloseInterval (cursor_after_node text second))
    (λ place three. omega (arith, left_node text here, left_node text first, left_node text second)))))))

pub binder_answers : (text : List ℕ) (here : Cursor) → Answers (binder text here) (λ v. v.2.left + 1 ≤ here.left)
unfolding binder
binder_answers text here =
    answers_then _ _ (count here) _ (count_answers here) (λ _ some. answers_then Any _ (variable_name (cursor_after_node text here)) _ (misreads_answer _ _ (variable_misreads_by (cursor_after_node text here) (cursor_after_node text here).token refl))
    (λ name _. answers_then _ _ (expect_sign text signs.Colon (cursor_after text (cursor_after_node text here))) _ (expected_answers text signs.Colon (cursor_after text (cursor_after_node text here)))
    (λ place one. answers_then Any _ (sort_at place) _ (misreads_answer _ _ (sort_misreads_by place place.token refl)) (λ s _. answers_then _ _ (expect_sign text signs.Dot (cursor_after text place)) _ (expected_answers text signs.Dot (cursor_after text place))
    (λ last two. omega (arith, left_node text here, left_behind text (cursor_after_node text here), left_behind text place))))))

pub speaker_answers : (text : List ℕ) (scope : List Variable) (here : Cursor) → Answers (speaker text scope here) (λ v. v.1.left + 1 ≤ here.left)
unfolding speaker
speaker_answers text scope here =
    answers_then Any _ (term_of scope here) _ (errs_answers _ _ (term_errs scope here)) (λ who _. answers_then _ _ (count here) _ (count_answers here)
    (λ _ some. answers_then Any _ (require_sort scope sorts.Principal here.at who) _ (errs_answers _ _ (sorted_errs scope sorts.Principal here.at who)) (λ _ _. answers_then _ _ (count (cursor_after_node text here)) _ (count_answers (cursor_after_node text here))
    (λ _ more. omega (arith, left_node text here, left_node text (cursor_after_node text here))))))

-- ---- formulas without parentheses

pub applied_answers : (scope : List Variable) (at : ℕ) (name : List ℕ) (terms : List Term) → Answers (apply_predicate scope at name terms) Any
applied_answers scope at name terms = errs_answers _ _ (applied_errs scope at name terms)

comparison_answers : (text : List ℕ) (st : Bool) (scope : List Variable) (here : Cursor) → Answers (comparison text st scope here) (λ v. v.1.left + 1 ≤ here.left)
unfolding comparison
comparison_answers text st scope here =
    answers_then Any _ (term_of scope here) _ (errs_answers _ _ (term_errs scope here)) (λ low _. answers_then _ _ (count here) _ (count_answers here)
    (λ _ some. answers_then Any _ (less_sign (cursor_after_node text here)) _ (misreads_answer _ _ (less_misreads (cursor_after_node text here))) (λ _ _. answers_then Any _ (require_sayable st here.at low) _ (errs_answers _ _ (sayable_errs st here.at low))
    (λ _ _. answers_then Any _ (require_sort scope sorts.Time here.at low) _ (errs_answers _ _ (sorted_errs scope sorts.Time here.at low)) (λ _ _. answers_then _ _ (count (cursor_after_node text here)) _ (count_answers (cursor_after_node text here))
    (λ _ _. answers_then _ _ (time_argument st scope (cursor_after_node text (cursor_after_node text here))) _ (time_argument_answers st scope (cursor_after_node text (cursor_after_node text here)))
    (λ high _. omega (arith, left_node text here, left_node text (cursor_after_node text here), left_node text (cursor_after_node text (cursor_after_node text here))))))))))

name_alone_answers : (text : List ℕ) (scope : List Variable) (name : List ℕ) (here : Cursor) → Answers (name_alone text scope name here) (λ v. v.1.left + 1 ≤ here.left)
unfolding name_alone named_time bare_predicate
name_alone_answers text scope name here =
    if_answers (λ (v : FormulaView × Cursor). v.1.left + 1 ≤ here.left) (is_sign signs.UpTo (cursor_after_node text here).token) (named_time here) (bare_predicate text scope name here)
    (λ _. answers_then _ _ (count here) _ (count_answers here) (λ _ some. of_text wrong_sort))
    (λ _. answers_then Any _ (apply_predicate scope here.at name []) _ (applied_answers scope here.at name []) (λ f _. answers_then _ _ (count here) _ (count_answers here) (λ _ some. omega (arith, left_node text here))))

constant_answers : (text : List ℕ) (f : FormulaView) (here : Cursor) → Answers (constant_formula text f here) (λ v. v.1.left + 1 ≤ here.left)
unfolding constant_formula
constant_answers text f here = answers_then _ _ (count here) _ (count_answers here) (λ _ some. omega (arith, left_node text here))

simple_by_answers : (text : List ℕ) (st : Bool) (scope : List Variable) (here : Cursor) (token : Token) → Answers (simple_by text st scope here token) (λ v. v.1.left + 1 ≤ here.left)
simple_by_answers text st scope here (tokens.Keyword keywords.True) = constant_answers text truth here
simple_by_answers text st scope here (tokens.Keyword keywords.False) = constant_answers text falsity here
simple_by_answers text st scope here (tokens.Name name) = name_alone_answers text scope name here
simple_by_answers text st scope here _ = comparison_answers text st scope here

pub simple_answers : (text : List ℕ) (st : Bool) (scope : List Variable) (here : Cursor) → Answers (simple_formula text st scope here) (λ v. v.1.left + 1 ≤ here.left)
unfolding simple_formula
simple_answers text st scope here = simple_by_answers text st scope here here.token

-- ---- the parts of a statement

word_answers : (text : List ℕ) (word : Word) (here : Cursor) → Answers (expect_word text word here) Any
unfolding expect_word
word_answers text word here = if_answers Any (is_word word here.token) (Ok (cursor_after text here)) (Err (Unexpected here.at)) (λ is. tt) (λ other. misread_of_text unexpected)

time_answers : (here : Cursor) → Answers (time_constant here) Any
time_answers here = misreads_answer _ _ (time_misreads_by here here.token refl)

pub opening_answers : (text : List ℕ) (here : Cursor) → Answers (opening text here) Any
unfolding opening
opening_answers text here =
    answers_then Any _ (principal_name here) _ (misreads_answer _ _ (name_misreads_by here here.token refl)) (λ who _. answers_then Any _ (expect_word text keywords.Says (cursor_after text here)) _ (word_answers text keywords.Says (cursor_after text here)) (λ place _. tt))

pub span_answers : (text : List ℕ) (here : Cursor) → Answers (span text here) Any
unfolding span
span_answers text here =
    answers_then Any _ (expect_word text keywords.From here) _ (word_answers text keywords.From here) (λ first _. answers_then Any _ (time_constant first) _ (time_answers first)
    (λ from _. answers_then Any _ (expect_word text keywords.To (cursor_after text first)) _ (word_answers text keywords.To (cursor_after text first)) (λ second _. answers_then Any _ (time_constant second) _ (time_answers second)
    (λ to _. answers_then Any _ (at_end (cursor_after text second)) _ (misreads_answer _ _ (ended_misreads (cursor_after text second))) (λ _ _. tt)))))
