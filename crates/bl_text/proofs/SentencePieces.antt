-- The pieces of a text whose tokens are those of a sentence are read, or stop for sorts or for want of room.
use Rattle.std.proofs.Common.{◌≡◌, ℕ, ◌-◌, Bool, true, false, List, [], ◌∷◌, refl, sym, ap, ◌∙◌, subst, Result, Ok, Err}
use Rattle.std.specs.Prelude.{◌&&◌, nat_le, Option, Some, None, IsSome, MatchResult, if◌then◌else◌}
use Rattle.std.proofs.lemmas.Bool.{false≢true}
use Rattle.bl_syntax.specs.declared.terms.Sort.{Sort as TermSort}
use Rattle.bl_syntax.specs.declared.terms.Sort.TheVariants as sorts
use Rattle.bl_syntax.specs.declared.terms.Term.{Term}
use Rattle.bl_syntax.specs.declared.terms.Term.TheVariants.{Time, Ctime, Param}
use Rattle.bl_syntax.specs.declared.terms.TimePoint.{TimePoint}
use Rattle.bl_syntax.specs.Formula.{FormulaView, truth, falsity}
use Rattle.bl_tokens.specs.declared.faults.TextFault.{TextFault}
use Rattle.bl_tokens.specs.declared.faults.TextFault.TheVariants.{Unexpected, Sort, TooLarge}
use Rattle.bl_tokens.specs.declared.tokens.Sign.{Sign as Sign'}
use Rattle.bl_tokens.specs.declared.tokens.Sign.TheVariants as signs
use Rattle.bl_tokens.specs.declared.tokens.Keyword.{Keyword as Word}
use Rattle.bl_tokens.specs.declared.tokens.Keyword.TheVariants as keywords
use Rattle.bl_tokens.specs.declared.tokens.Token.{Token}
use Rattle.bl_tokens.specs.declared.tokens.Token.TheVariants as tokens
use Rattle.bl_tokens.specs.declared.tokens.Cursor.{Cursor}
use Rattle.bl_tokens.specs.Tokens.{token_from, cursor_after, cursor_after_node, is_sign, is_word}
use Rattle.bl_text.specs.Scope.{Variable, place_of, is_of_wanted_sort}
use Rattle.bl_text.specs.Pieces.{count, expect_sign, term_of, require_sayable, require_sort, argument, next_argument, time_argument, interval, variable_name, sort_at, binder, speaker, less_sign, comparison, apply_predicate, bare_predicate, named_time, name_alone, constant_formula, simple_by, simple_formula}
use Rattle.bl_text.specs.Texts.{is_end, expect_word, time_constant, principal_name, opening, at_end, span}
use Rattle.bl_text.specs.Sentences.{IsSign, IsTerm, principal, constant, variable, IsSpeaker, named, bound}
use Rattle.bl_text.proofs.FirstTokensLemmas.{bare as bared, bare_token}
use Rattle.bl_text.proofs.PieceLemmas.{Only, applied_only}
use Rattle.bl_text.proofs.ReadLemmas.{expected-Ok}
use Rattle.bl_text.proofs.IsStatementLemmas.{at_place, variable_term}
use Rattle.bl_text.proofs.PieceTotalLemmas.{Any, chained, decided}

-- ---- tokens that stand one after another

-- these tokens stand at that place and after it
abbrev pub StandAt : List ℕ → Cursor → List Token → Type 0
StandAt text here [] = Unit {0}
StandAt text here (t ∷ ts) = (here.token ≡ t) × StandAt text (token_from text here.end 0) ts

stand_bared : (text : List ℕ) (here : Cursor) (ts : List Token) → StandAt text here ts → StandAt text (bared here) ts
stand_bared text here [] h = tt
stand_bared text here (t ∷ ts) h = h

stand_again : (text : List ℕ) (here : Cursor) (ts : List Token) → StandAt text (bared here) ts → StandAt text here ts
stand_again text here [] h = tt
stand_again text here (t ∷ ts) h = h

stand_same : (text : List ℕ) (here here' : Cursor) (ts : List Token) → bared here ≡ bared here' → StandAt text here ts → StandAt text here' ts
stand_same text here here' ts same h = stand_again text here' ts (subst (λ (p : Cursor). StandAt text p ts) same (stand_bared text here ts h))

stand_from : (text : List ℕ) (from left : ℕ) (ts : List Token) → StandAt text (token_from text from 0) ts → StandAt text (token_from text from left) ts
stand_from text from left ts h = stand_same text (token_from text from 0) (token_from text from left) ts (bare_token text from 0 ∙ sym (bare_token text from left)) h

pub stand_behind : (text : List ℕ) (here : Cursor) (t : Token) (ts : List Token) → StandAt text here (t ∷ ts) → StandAt text (cursor_after text here) ts
unfolding cursor_after
stand_behind text here t ts h = stand_from text here.end here.left ts h.1

pub stand_node : (text : List ℕ) (here : Cursor) (t : Token) (ts : List Token) → StandAt text here (t ∷ ts) → StandAt text (cursor_after_node text here) ts
unfolding cursor_after_node
stand_node text here t ts h = stand_from text here.end (here.left - 1) ts h.1

-- the first of them
pub sign_stands : {t : Token} (sign : Sign') (here : Cursor) → IsSign sign t → here.token ≡ t → is_sign sign here.token ≡ true
sign_stands sign here is h = ap (is_sign sign) h ∙ is

-- ---- faults that ask for more than a sentence

-- a fault of sorts, or of numbers
abbrev pub IsLimit : TextFault → Type 0
IsLimit (Sort at) = Unit {0}
IsLimit (TooLarge at) = Unit {0}
IsLimit _ = ⊥

-- a value of which that holds, or such a fault
abbrev pub Limited : {A : Type 0} → Result A TextFault → (A → Type 0) → Type 0
Limited r P = MatchResult r P IsLimit

-- a piece that has the answer
found : {A : Type 0} (F : TextFault → Type 0) (P : A → Type 0) (r : Result A TextFault) (a : A) → r ≡ Ok a → P a → MatchResult r P F
found F P r a is h = subst (λ r'. MatchResult r' P F) (sym is) h

pub count_limited : (here : Cursor) → Limited (count here) Any
unfolding count
count_limited here = decided IsLimit Any (nat_le 1 here.left) (Ok tt) (Err (TooLarge here.at)) (λ _. tt) (λ _. tt)

pub expected_found : (F : TextFault → Type 0) (text : List ℕ) (sign : Sign') (here : Cursor) (t : Token) (ts : List Token) → IsSign sign t → StandAt text here (t ∷ ts) → MatchResult (expect_sign text sign here) (λ place. StandAt text place ts) F
expected_found F text sign here t ts is h = found F (λ (place : Cursor). StandAt text place ts) (expect_sign text sign here) (cursor_after text here) (expected-Ok text sign here (sign_stands sign here is h.0)) (stand_behind text here t ts h)

-- ---- arguments

by_place : (at : ℕ) (o : Option ℕ) → IsSome o → Limited (at_place at o) Any
by_place at None none = absurd (false≢true none)
by_place at (Some inner) some = tt

term_limited : {scope : List Variable} {t : Token} (here : Cursor) → IsTerm scope t → here.token ≡ t → Limited (term_of scope here) Any
unfolding term_of
term_limited here (principal name) is = rw is tt
term_limited here (constant t) is = rw is tt
term_limited {scope} here (variable name some) is = subst (λ r. Limited r Any) (sym (variable_term scope here name is)) (by_place here.at (place_of scope name) some)

unless_limited : (at : ℕ) (b : Bool) → Limited {A = Unit {0}} (if b then Err (Sort at) else Ok tt) Any
unless_limited at b = decided IsLimit Any b (Err (Sort at)) (Ok tt) (λ _. tt) (λ _. tt)

pub sayable_limited : (st : Bool) (at : ℕ) (t : Term) → Limited (require_sayable st at t) Any
unfolding require_sayable
sayable_limited st at Ctime = unless_limited at st
sayable_limited st at (Param n) = unless_limited at st
sayable_limited st at _ = tt

pub sorted_limited : (scope : List Variable) (wanted : TermSort) (at : ℕ) (t : Term) → Limited (require_sort scope wanted at t) Any
unfolding require_sort
sorted_limited scope wanted at t = decided IsLimit Any (is_of_wanted_sort scope wanted t) (Ok tt) (Err (Sort at)) (λ _. tt) (λ _. tt)

pub argument_limited : {scope : List Variable} {t : Token} (st : Bool) (here : Cursor) → IsTerm scope t → here.token ≡ t → Limited (argument st scope here) Any
unfolding argument
argument_limited {scope} st here term is =
    chained IsLimit Any Any (term_of scope here) _ (term_limited here term is) (λ t _. chained IsLimit Any Any (require_sayable st here.at t) _ (sayable_limited st here.at t) (λ _ _. chained IsLimit Any Any (count here) _ (count_limited here) (λ _ _. tt)))

pub next_argument_limited : {scope : List Variable} {t : Token} (st is_atom : Bool) (others : ℕ) (here : Cursor) → IsTerm scope t → here.token ≡ t → Limited (next_argument st scope is_atom others here) Any
unfolding next_argument
next_argument_limited {scope} st is_atom others here term is =
    chained IsLimit Any Any (argument st scope here) _ (argument_limited st here term is) (λ t _. decided IsLimit Any (is_atom && nat_le 8 others) (Err (TooLarge here.at)) (Ok t) (λ _. tt) (λ _. tt))

time_argument_limited : {scope : List Variable} {t : Token} (st : Bool) (here : Cursor) → IsTerm scope t → here.token ≡ t → Limited (time_argument st scope here) Any
unfolding time_argument
time_argument_limited {scope} st here term is =
    chained IsLimit Any Any (term_of scope here) _ (term_limited here term is) (λ t _. chained IsLimit Any Any (require_sayable st here.at t) _ (sayable_limited st here.at t)
    (λ _ _. chained IsLimit Any Any (require_sort scope sorts.Time here.at t) _ (sorted_limited scope sorts.Time here.at t) (λ _ _. chained IsLimit Any Any (count here) _ (count_limited here) (λ _ _. tt))))

unsorted_limited : {A : Type 0} (at : ℕ) (r : Result A TextFault) → Only (Sort at) r → Limited r Any
unsorted_limited at (Ok a) h = tt
unsorted_limited at (Err e) h = subst IsLimit (sym h) tt

pub applied_limited : (scope : List Variable) (at : ℕ) (name : List ℕ) (terms : List Term) → Limited (apply_predicate scope at name terms) Any
applied_limited scope at name terms = unsorted_limited at _ (applied_only scope at name terms)

-- ---- intervals, binders and speakers

pub interval_limited : {scope : List Variable} {sign open_ from comma to close : Token} (text : List ℕ) (st : Bool) (here : Cursor) (ts : List Token) → IsSign signs.OpenInterval open_ → IsTerm scope from → IsSign signs.Comma comma → IsTerm scope to
    → IsSign signs.CloseInterval close → StandAt text here (sign ∷ open_ ∷ from ∷ comma ∷ to ∷ close ∷ ts) → Limited (interval text st scope here) (λ v. StandAt text v.2 ts)
unfolding interval
interval_limited {scope} {sign} {open_} {from} {comma} {to} {close} text st here ts opens low commas high closes h =
    chained IsLimit Any _ (count here) _ (count_limited here)
    (λ _ _. chained IsLimit _ _ (expect_sign text signs.OpenInterval (cursor_after_node text here)) _ (expected_found IsLimit text signs.OpenInterval (cursor_after_node text here) open_ (from ∷ comma ∷ to ∷ close ∷ ts) opens (stand_node text here sign (open_ ∷ from ∷ comma ∷ to ∷ close ∷ ts) h))
    (λ first one. chained IsLimit Any _ (time_argument st scope first) _ (time_argument_limited st first low one.0)
    (λ _ _. chained IsLimit _ _ (expect_sign text signs.Comma (cursor_after_node text first)) _ (expected_found IsLimit text signs.Comma (cursor_after_node text first) comma (to ∷ close ∷ ts) commas (stand_node text first from (comma ∷ to ∷ close ∷ ts) one))
    (λ second two. chained IsLimit Any _ (time_argument st scope second) _ (time_argument_limited st second high two.0)
    (λ _ _. chained IsLimit _ _ (expect_sign text signs.CloseInterval (cursor_after_node text second)) _ (expected_found IsLimit text signs.CloseInterval (cursor_after_node text second) close ts closes (stand_node text second to (close ∷ ts) two))
    (λ place three. three))))))

variable_found : (F : TextFault → Type 0) (here : Cursor) (name : List ℕ) → here.token ≡ tokens.Variable name → MatchResult (variable_name here) (λ n. n ≡ name) F
unfolding variable_name
variable_found F here name is = rw is refl

sort_found : (F : TextFault → Type 0) (here : Cursor) (s : TermSort) → here.token ≡ tokens.SortName s → MatchResult (sort_at here) (λ s'. s' ≡ s) F
unfolding sort_at
sort_found F here s is = rw is refl

-- the binder that was read, and what stands after it
pub record BinderRead (text : List ℕ) (name : List ℕ) (s : TermSort) (ts : List Token) (v : List ℕ × TermSort × Cursor) : Type 0 where
  pub name_is : v.0 ≡ name
  pub sort_is : v.1 ≡ s
  pub stands : StandAt text v.2 ts

pub binder_limited : {word colon dot : Token} (text : List ℕ) (here : Cursor) (name : List ℕ) (s : TermSort) (ts : List Token) → IsSign signs.Colon colon → IsSign signs.Dot dot
    → StandAt text here (word ∷ tokens.Variable name ∷ colon ∷ tokens.SortName s ∷ dot ∷ ts) → Limited (binder text here) (BinderRead text name s ts)
unfolding binder
binder_limited {word} {colon} {dot} text here name s ts colons dots h =
    let one = stand_node text here word (tokens.Variable name ∷ colon ∷ tokens.SortName s ∷ dot ∷ ts) h in
    let two = stand_behind text (cursor_after_node text here) (tokens.Variable name) (colon ∷ tokens.SortName s ∷ dot ∷ ts) one in
    chained IsLimit Any _ (count here) _ (count_limited here) (λ _ _. chained IsLimit _ _ (variable_name (cursor_after_node text here)) _ (variable_found IsLimit (cursor_after_node text here) name one.0)
    (λ n name_is. chained IsLimit _ _ (expect_sign text signs.Colon (cursor_after text (cursor_after_node text here))) _ (expected_found IsLimit text signs.Colon (cursor_after text (cursor_after_node text here)) colon (tokens.SortName s ∷ dot ∷ ts) colons two)
    (λ place three. chained IsLimit _ _ (sort_at place) _ (sort_found IsLimit place s three.0)
    (λ s' sort_is. chained IsLimit _ _ (expect_sign text signs.Dot (cursor_after text place)) _ (expected_found IsLimit text signs.Dot (cursor_after text place) dot ts dots (stand_behind text place (tokens.SortName s) (dot ∷ ts) three))
    (λ last four. record { name_is = name_is; sort_is = sort_is; stands = four })))))

speaker_term : {scope : List Variable} {t : Token} → IsSpeaker scope t → IsTerm scope t
speaker_term (named name) = principal name
speaker_term (bound name some) = variable name some

pub speaker_limited : {scope : List Variable} {who word : Token} (text : List ℕ) (here : Cursor) (ts : List Token) → IsSpeaker scope who → StandAt text here (who ∷ word ∷ ts) → Limited (speaker text scope here) (λ v. StandAt text v.1 ts)
unfolding speaker
speaker_limited {scope} {who} {word} text here ts speaks h =
    chained IsLimit Any _ (term_of scope here) _ (term_limited here (speaker_term speaks) h.0) (λ t _. chained IsLimit Any _ (count here) _ (count_limited here)
    (λ _ _. chained IsLimit Any _ (require_sort scope sorts.Principal here.at t) _ (sorted_limited scope sorts.Principal here.at t) (λ _ _. chained IsLimit Any _ (count (cursor_after_node text here)) _ (count_limited (cursor_after_node text here))
    (λ _ _. stand_node text (cursor_after_node text here) word ts (stand_node text here who (word ∷ ts) h)))))

-- ---- formulas without parentheses

constant_limited : (text : List ℕ) (f : FormulaView) (here : Cursor) (t : Token) (ts : List Token) → StandAt text here (t ∷ ts) → Limited (constant_formula text f here) (λ v. StandAt text v.1 ts)
unfolding constant_formula
constant_limited text f here t ts h = chained IsLimit Any _ (count here) _ (count_limited here) (λ _ _. stand_node text here t ts h)

-- a name that stands alone, or before `<=`
name_limited : (text : List ℕ) (scope : List Variable) (name : List ℕ) (here : Cursor) (ts : List Token) → (is_sign signs.UpTo (cursor_after_node text here).token ≡ false → StandAt text (cursor_after_node text here) ts)
    → Limited (name_alone text scope name here) (λ v. StandAt text v.1 ts)
unfolding name_alone named_time bare_predicate
name_limited text scope name here ts h =
    decided IsLimit (λ (v : FormulaView × Cursor). StandAt text v.1 ts) (is_sign signs.UpTo (cursor_after_node text here).token) (named_time here) (bare_predicate text scope name here)
    (λ _. chained IsLimit Any _ (count here) _ (count_limited here) (λ _ _. tt))
    (λ other. chained IsLimit Any _ (apply_predicate scope here.at name []) _ (applied_limited scope here.at name []) (λ f _. chained IsLimit Any _ (count here) _ (count_limited here) (λ _ _. h other)))

less_found : (F : TextFault → Type 0) (here : Cursor) → is_sign signs.UpTo here.token ≡ true → MatchResult (less_sign here) Any F
unfolding less_sign
less_found F here is = decided F Any (is_sign signs.UpTo here.token) (Ok tt) (Err (Unexpected here.at)) (λ _. tt) (λ other. absurd (false≢true (sym other ∙ is)))

comparison_limited : {scope : List Variable} {low sign high : Token} (text : List ℕ) (st : Bool) (here : Cursor) (ts : List Token) → IsTerm scope low → IsSign signs.UpTo sign → IsTerm scope high → StandAt text here (low ∷ sign ∷ high ∷ ts)
    → Limited (comparison text st scope here) (λ v. StandAt text v.1 ts)
unfolding comparison
comparison_limited {scope} {low} {sign} {high} text st here ts lows is highs h =
    let one = stand_node text here low (sign ∷ high ∷ ts) h in
    let two = stand_node text (cursor_after_node text here) sign (high ∷ ts) one in
    chained IsLimit Any _ (term_of scope here) _ (term_limited here lows h.0) (λ t _. chained IsLimit Any _ (count here) _ (count_limited here)
    (λ _ _. chained IsLimit Any _ (less_sign (cursor_after_node text here)) _ (less_found IsLimit (cursor_after_node text here) (sign_stands signs.UpTo (cursor_after_node text here) is one.0)) (λ _ _. chained IsLimit Any _ (require_sayable st here.at t) _ (sayable_limited st here.at t)
    (λ _ _. chained IsLimit Any _ (require_sort scope sorts.Time here.at t) _ (sorted_limited scope sorts.Time here.at t) (λ _ _. chained IsLimit Any _ (count (cursor_after_node text here)) _ (count_limited (cursor_after_node text here))
    (λ _ _. chained IsLimit Any _ (time_argument st scope (cursor_after_node text (cursor_after_node text here))) _ (time_argument_limited st (cursor_after_node text (cursor_after_node text here)) highs two.0)
    (λ _ _. stand_node text (cursor_after_node text (cursor_after_node text here)) high ts two)))))))

simple_of : (text : List ℕ) (st : Bool) (scope : List Variable) (here : Cursor) (ts : List Token) (t : Token) → here.token ≡ t → Limited (simple_by text st scope here t) (λ v. StandAt text v.1 ts) → Limited (simple_formula text st scope here) (λ v. StandAt text v.1 ts)
unfolding simple_formula
simple_of text st scope here ts t is h = subst (λ t'. Limited (simple_by text st scope here t') (λ v. StandAt text v.1 ts)) (sym is) h

pub true_limited : (text : List ℕ) (st : Bool) (scope : List Variable) (here : Cursor) (ts : List Token) → StandAt text here (tokens.Keyword keywords.True ∷ ts) → Limited (simple_formula text st scope here) (λ v. StandAt text v.1 ts)
true_limited text st scope here ts h = simple_of text st scope here ts (tokens.Keyword keywords.True) h.0 (constant_limited text truth here (tokens.Keyword keywords.True) ts h)

pub false_limited : (text : List ℕ) (st : Bool) (scope : List Variable) (here : Cursor) (ts : List Token) → StandAt text here (tokens.Keyword keywords.False ∷ ts) → Limited (simple_formula text st scope here) (λ v. StandAt text v.1 ts)
false_limited text st scope here ts h = simple_of text st scope here ts (tokens.Keyword keywords.False) h.0 (constant_limited text falsity here (tokens.Keyword keywords.False) ts h)

pub alone_limited : (text : List ℕ) (st : Bool) (scope : List Variable) (name : List ℕ) (here : Cursor) (ts : List Token) → StandAt text here (tokens.Name name ∷ ts) → Limited (simple_formula text st scope here) (λ v. StandAt text v.1 ts)
alone_limited text st scope name here ts h = simple_of text st scope here ts (tokens.Name name) h.0 (name_limited text scope name here ts (λ _. stand_node text here (tokens.Name name) ts h))

pub compared_limited : {scope : List Variable} {low sign high : Token} (text : List ℕ) (st : Bool) (here : Cursor) (ts : List Token) → IsTerm scope low → IsSign signs.UpTo sign → IsTerm scope high → StandAt text here (low ∷ sign ∷ high ∷ ts)
    → Limited (simple_formula text st scope here) (λ v. StandAt text v.1 ts)
compared_limited {scope} {sign = sign} {high} text st here ts (principal name) is highs h =
    let next = sign_stands signs.UpTo (cursor_after_node text here) is (stand_node text here (tokens.Name name) (sign ∷ high ∷ ts) h).0 in
    simple_of text st scope here ts (tokens.Name name) h.0 (name_limited text scope name here ts (λ other. absurd (false≢true (sym other ∙ next))))
compared_limited {scope} text st here ts (constant c) is highs h = simple_of text st scope here ts (tokens.Constant c) h.0 (comparison_limited text st here ts (constant c) is highs h)
compared_limited {scope} text st here ts (variable name some) is highs h = simple_of text st scope here ts (tokens.Variable name) h.0 (comparison_limited text st here ts (variable name some) is highs h)

-- ---- the parts of a statement

word_found : (F : TextFault → Type 0) (text : List ℕ) (word : Word) (here : Cursor) (t : Token) (ts : List Token) → is_word word t ≡ true → StandAt text here (t ∷ ts) → MatchResult (expect_word text word here) (λ place. StandAt text place ts) F
unfolding expect_word
word_found F text word here t ts is h =
    decided F (λ (place : Cursor). StandAt text place ts) (is_word word here.token) (Ok (cursor_after text here)) (Err (Unexpected here.at)) (λ _. stand_behind text here t ts h) (λ other. absurd (false≢true (sym other ∙ ap (is_word word) h.0 ∙ is)))

name_found : (F : TextFault → Type 0) (here : Cursor) (name : List ℕ) → here.token ≡ tokens.Name name → MatchResult (principal_name here) Any F
unfolding principal_name
name_found F here name is = rw is tt

time_found : (F : TextFault → Type 0) (here : Cursor) (point : TimePoint) → here.token ≡ tokens.Constant (Time point) → MatchResult (time_constant here) Any F
unfolding time_constant
time_found F here point is = rw is tt

end_found : (F : TextFault → Type 0) (here : Cursor) → is_end here.token ≡ true → MatchResult (at_end here) Any F
unfolding at_end
end_found F here is = decided F Any (is_end here.token) (Ok tt) (Err (Unexpected here.at)) (λ _. tt) (λ other. absurd (false≢true (sym other ∙ is)))

pub opening_found : {word : Token} (F : TextFault → Type 0) (text : List ℕ) (here : Cursor) (who : List ℕ) (ts : List Token) → is_word keywords.Says word ≡ true → StandAt text here (tokens.Name who ∷ word ∷ ts)
    → MatchResult (opening text here) (λ v. StandAt text v.1 ts) F
unfolding opening
opening_found {word} F text here who ts says h =
    chained F Any _ (principal_name here) _ (name_found F here who h.0)
    (λ _ _. chained F _ _ (expect_word text keywords.Says (cursor_after text here)) _ (word_found F text keywords.Says (cursor_after text here) word ts says (stand_behind text here (tokens.Name who) (word ∷ ts) h)) (λ place stands. stands))

pub span_found : {from_word to_word last : Token} (F : TextFault → Type 0) (text : List ℕ) (here : Cursor) (from to : TimePoint) → is_word keywords.From from_word ≡ true → is_word keywords.To to_word ≡ true → is_end last ≡ true
    → StandAt text here (from_word ∷ tokens.Constant (Time from) ∷ to_word ∷ tokens.Constant (Time to) ∷ last ∷ []) → MatchResult (span text here) Any F
unfolding span
span_found {from_word} {to_word} {last} F text here from to froms tos ends h =
    chained F (λ (place : Cursor). StandAt text place (tokens.Constant (Time from) ∷ to_word ∷ tokens.Constant (Time to) ∷ last ∷ [])) Any (expect_word text keywords.From here) _ (word_found F text keywords.From here from_word (tokens.Constant (Time from) ∷ to_word ∷ tokens.Constant (Time to) ∷ last ∷ []) froms h)
    (λ first one. chained F Any _ (time_constant first) _ (time_found F first from one.0)
    (λ _ _. chained F (λ (place : Cursor). StandAt text place (tokens.Constant (Time to) ∷ last ∷ [])) Any (expect_word text keywords.To (cursor_after text first)) _
    (word_found F text keywords.To (cursor_after text first) to_word (tokens.Constant (Time to) ∷ last ∷ []) tos (stand_behind text first (tokens.Constant (Time from)) (to_word ∷ tokens.Constant (Time to) ∷ last ∷ []) one))
    (λ second two. chained F Any _ (time_constant second) _ (time_found F second to two.0)
    (λ _ _. chained F Any _ (at_end (cursor_after text second)) _ (end_found F (cursor_after text second) (ap is_end (stand_behind text second (tokens.Constant (Time to)) (last ∷ []) two).0 ∙ ends)) (λ _ _. tt)))))
