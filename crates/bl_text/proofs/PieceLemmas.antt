-- What is read at one token, and at which byte its fault is.
use Rattle.std.proofs.Common.{◌≡◌, ℕ, ◌-◌, Bool, true, false, List, [], ◌∷◌, refl, sym, ap, ◌∙◌, subst, Result, Ok, Err}
use Rattle.std.specs.Prelude.{codes, not, nat_le, ◌&&◌, Option, Some, None, if◌then◌else◌}
use Rattle.std.specs.Str.{bytes_eq}
use Rattle.std.proofs.lemmas.Bool.{false≢true}
use Rattle.bl_syntax.specs.declared.terms.Sort.{Sort as TermSort}
use Rattle.bl_syntax.specs.declared.terms.Term.{Term}
use Rattle.bl_syntax.specs.declared.terms.Term.TheVariants.{Prin, File, Perm, Time, Text, Ctime, Param, Bound}
use Rattle.bl_syntax.specs.declared.terms.StatePred.TheVariants.{Owner, HasXattr, InDir}
use Rattle.bl_syntax.specs.Formula.{atom, state}
use Rattle.bl_syntax.specs.Names.{is_predicate_name}
use Rattle.bl_syntax.specs.WellSorted.{may}
use Rattle.bl_tokens.specs.declared.faults.TextFault.{TextFault}
use Rattle.bl_tokens.specs.declared.faults.TextFault.TheVariants.{Unexpected, UnknownName, TooLarge, Sort}
use Rattle.bl_tokens.specs.declared.tokens.Sign.{Sign as Sign'}
use Rattle.bl_tokens.specs.declared.tokens.Sign.TheVariants as signs
use Rattle.bl_tokens.specs.declared.tokens.Keyword.{Keyword as Word}
use Rattle.bl_tokens.specs.declared.tokens.Keyword.TheVariants as keywords
use Rattle.bl_tokens.specs.declared.tokens.Token.{Token}
use Rattle.bl_tokens.specs.declared.tokens.Token.TheVariants.{Name, LongWord, Constant, BadDate, SortName, Keyword, End, Bad}
use Rattle.bl_tokens.specs.declared.tokens.Token.TheVariants as tokens
use Rattle.bl_tokens.specs.declared.tokens.Cursor.{Cursor}
use Rattle.bl_tokens.specs.Tokens.{token_from, cursor_after, cursor_after_node, is_sign, is_word}
use Rattle.bl_text.specs.Scope.{Variable, place_of, is_of_wanted_sort}
use Rattle.bl_text.specs.Pieces.{◌>>=◌, count, expect_sign, term_of, require_sayable, require_sort, variable_name, sort_at, less_sign, apply_atom, apply_owner, apply_attribute, apply_directory, apply_state, apply_predicate, are_may_arguments}
use Rattle.bl_text.specs.Grammar.{is_saying, is_call, is_call_token}
use Rattle.bl_text.specs.Texts.{is_end, expect_word, time_constant, principal_name, at_end}
use Rattle.bl_text.specs.Met.{IsMisread, unexpected, unknown_name, bad_date}

-- ---- answers of one step

pub bind_ok : {A B : Type 0} (r : Result A TextFault) (k : A → Result B TextFault) (b : B) → (r >>= k) ≡ Ok b → (a : A) × ((r ≡ Ok a) × (k a ≡ Ok b))
bind_ok (Ok a) k b h = (a, (refl, h))
bind_ok {A} {B} (Err e) k b h = absurd (let never : ◌≡◌ {A = Result B TextFault} (Err e) (Ok b) = h in cc)

pub err_cases : {A B V : Type 0} (r : Result A TextFault) (k : A → Result B TextFault) {e : TextFault} → (r >>= k) ≡ Err e → (r ≡ Err e → V) → ((a : A) → r ≡ Ok a → k a ≡ Err e → V) → V
err_cases (Ok a) k h stopped goes = goes a refl h
err_cases {B = B} (Err d) k {e} h stopped goes = stopped (ap Err (let same : ◌≡◌ {A = Result B TextFault} (Err d) (Err e) = h in cc))

pub never_err : {A V : Type 0} {a : A} {e : TextFault} → ◌≡◌ {A = Result A TextFault} (Ok a) (Err e) → V
never_err {A} {V} {a} {e} h = absurd (let never : ◌≡◌ {A = Result A TextFault} (Ok a) (Err e) = h in cc)

pub err_first : {A B : Type 0} (r : Result A TextFault) (k : A → Result B TextFault) {e : TextFault} → r ≡ Err e → (r >>= k) ≡ Err e
err_first r k is = ap (λ r'. r' >>= k) is

-- what comes after a step that goes well
pub ok_then : {A B : Type 0} (r : Result A TextFault) (k : A → Result B TextFault) (a : A) {x : Result B TextFault} → r ≡ Ok a → k a ≡ x → (r >>= k) ≡ x
ok_then r k a is rest = ap (λ r'. r' >>= k) is ∙ rest

-- ---- at which byte a fault of one token is

pub data IsAt (at : ℕ) : TextFault → Type 0 where
  misread_there : (e : TextFault) → IsMisread at e → IsAt at e
  wrong_sort : IsAt at (Sort at)
  too_large : IsAt at (TooLarge at)

-- its faults are at that byte
abbrev pub ErrsAt : {A : Type 0} → ℕ → Result A TextFault → Type 0
ErrsAt at (Ok a) = Unit {0}
ErrsAt at (Err e) = IsAt at e

abbrev pub Misreads : {A : Type 0} → ℕ → Result A TextFault → Type 0
Misreads at (Ok a) = Unit {0}
Misreads at (Err e) = IsMisread at e

pub misread_is : {A : Type 0} {at : ℕ} {r : Result A TextFault} {e : TextFault} → Misreads at r → r ≡ Err e → IsMisread at e
misread_is {at = at} h is = subst (λ r'. Misreads at r') is h

-- it has that fault alone
abbrev pub Only : {A : Type 0} → TextFault → Result A TextFault → Type 0
Only f (Ok a) = Unit {0}
Only f (Err e) = e ≡ f

pub only_is : {A : Type 0} {f : TextFault} {r : Result A TextFault} {e : TextFault} → Only f r → r ≡ Err e → e ≡ f
only_is {f = f} h is = subst (λ r'. Only f r') is h

misread_errs : {A : Type 0} (at : ℕ) (r : Result A TextFault) → Misreads at r → ErrsAt at r
misread_errs at (Ok a) h = tt
misread_errs at (Err e) h = misread_there e h

sort_errs : {A : Type 0} (at : ℕ) (r : Result A TextFault) → Only (Sort at) r → ErrsAt at r
sort_errs at (Ok a) h = tt
sort_errs at (Err e) h = subst (λ e'. IsAt at e') (sym h) wrong_sort

if_misreads : {A : Type 0} (at : ℕ) (b : Bool) (x y : Result A TextFault) → Misreads at x → Misreads at y → Misreads at (if b then x else y)
if_misreads at true x y hx hy = hx
if_misreads at false x y hx hy = hy

pub if_only : {A : Type 0} (f : TextFault) (b : Bool) (x y : Result A TextFault) → Only f x → Only f y → Only f (if b then x else y)
if_only f true x y hx hy = hx
if_only f false x y hx hy = hy

pub count_only : (here : Cursor) → Only (TooLarge here.at) (count here)
unfolding count
count_only here = if_only (TooLarge here.at) (nat_le 1 here.left) (Ok tt) (Err (TooLarge here.at)) tt refl

term_misreads_by : (scope : List Variable) (here : Cursor) (token : Token) → here.token ≡ token → Misreads here.at (term_of scope here)
unfolding term_of
term_misreads_by scope here (Name name) is = rw is tt
term_misreads_by scope here LongWord is = rw is unexpected
term_misreads_by scope here (tokens.Variable name) is = rw is (found (place_of scope name))
  where
    found : (o : Option ℕ) → Misreads here.at (elim o [ None ↦ Err (UnknownName here.at) | Some inner ↦ Ok (Bound inner) ])
    found None = unknown_name
    found (Some inner) = tt
term_misreads_by scope here (Constant t) is = rw is tt
term_misreads_by scope here BadDate is = rw is bad_date
term_misreads_by scope here (SortName s) is = rw is unexpected
term_misreads_by scope here (Keyword word) is = rw is unexpected
term_misreads_by scope here (tokens.Sign sign) is = rw is unexpected
term_misreads_by scope here End is = rw is unexpected
term_misreads_by scope here Bad is = rw is unexpected

pub term_misreads : (scope : List Variable) (here : Cursor) → Misreads here.at (term_of scope here)
term_misreads scope here = term_misreads_by scope here here.token refl

pub term_errs : (scope : List Variable) (here : Cursor) → ErrsAt here.at (term_of scope here)
term_errs scope here = misread_errs here.at (term_of scope here) (term_misreads scope here)

unless_said_only : (at : ℕ) (b : Bool) → Only {A = Unit {0}} (Sort at) (if b then Err (Sort at) else Ok tt)
unless_said_only at true = refl
unless_said_only at false = tt

pub sayable_only : (st : Bool) (at : ℕ) (t : Term) → Only (Sort at) (require_sayable st at t)
unfolding require_sayable
sayable_only st at (Prin name) = tt
sayable_only st at (File number) = tt
sayable_only st at (Perm permission) = tt
sayable_only st at (Time point) = tt
sayable_only st at (Text constant) = tt
sayable_only st at Ctime = unless_said_only at st
sayable_only st at (Param n) = unless_said_only at st
sayable_only st at (Bound n) = tt

pub sayable_errs : (st : Bool) (at : ℕ) (t : Term) → ErrsAt at (require_sayable st at t)
sayable_errs st at t = sort_errs at (require_sayable st at t) (sayable_only st at t)

pub sorted_only : (scope : List Variable) (wanted : TermSort) (at : ℕ) (t : Term) → Only (Sort at) (require_sort scope wanted at t)
unfolding require_sort
sorted_only scope wanted at t = if_only (Sort at) (is_of_wanted_sort scope wanted t) (Ok tt) (Err (Sort at)) tt refl

pub sorted_errs : (scope : List Variable) (wanted : TermSort) (at : ℕ) (t : Term) → ErrsAt at (require_sort scope wanted at t)
sorted_errs scope wanted at t = sort_errs at (require_sort scope wanted at t) (sorted_only scope wanted at t)

pub variable_misreads_by : (here : Cursor) (token : Token) → here.token ≡ token → Misreads here.at (variable_name here)
unfolding variable_name
variable_misreads_by here (Name name) is = rw is unexpected
variable_misreads_by here LongWord is = rw is unexpected
variable_misreads_by here (tokens.Variable name) is = rw is tt
variable_misreads_by here (Constant t) is = rw is unexpected
variable_misreads_by here BadDate is = rw is unexpected
variable_misreads_by here (SortName s) is = rw is unexpected
variable_misreads_by here (Keyword word) is = rw is unexpected
variable_misreads_by here (tokens.Sign sign) is = rw is unexpected
variable_misreads_by here End is = rw is unexpected
variable_misreads_by here Bad is = rw is unexpected

pub sort_misreads_by : (here : Cursor) (token : Token) → here.token ≡ token → Misreads here.at (sort_at here)
unfolding sort_at
sort_misreads_by here (Name name) is = rw is unknown_name
sort_misreads_by here LongWord is = rw is unknown_name
sort_misreads_by here (tokens.Variable name) is = rw is unexpected
sort_misreads_by here (Constant (Prin name)) is = rw is unexpected
sort_misreads_by here (Constant (File number)) is = rw is unexpected
sort_misreads_by here (Constant (Perm permission)) is = rw is unknown_name
sort_misreads_by here (Constant (Time point)) is = rw is unexpected
sort_misreads_by here (Constant (Text constant)) is = rw is unexpected
sort_misreads_by here (Constant Ctime) is = rw is unknown_name
sort_misreads_by here (Constant (Param n)) is = rw is unexpected
sort_misreads_by here (Constant (Bound n)) is = rw is unexpected
sort_misreads_by here BadDate is = rw is unexpected
sort_misreads_by here (SortName s) is = rw is tt
sort_misreads_by here (Keyword word) is = rw is unknown_name
sort_misreads_by here (tokens.Sign sign) is = rw is unexpected
sort_misreads_by here End is = rw is unexpected
sort_misreads_by here Bad is = rw is unexpected

pub less_misreads : (here : Cursor) → Misreads here.at (less_sign here)
unfolding less_sign
less_misreads here = if_misreads here.at (is_sign signs.UpTo here.token) (Ok tt) (Err (Unexpected here.at)) tt unexpected

pub expected_misreads : (text : List ℕ) (sign : Sign') (here : Cursor) → Misreads here.at (expect_sign text sign here)
unfolding expect_sign
expected_misreads text sign here = if_misreads here.at (is_sign sign here.token) (Ok (cursor_after text here)) (Err (Unexpected here.at)) tt unexpected

pub name_misreads_by : (here : Cursor) (token : Token) → here.token ≡ token → Misreads here.at (principal_name here)
unfolding principal_name
name_misreads_by here (Name name) is = rw is tt
name_misreads_by here LongWord is = rw is unexpected
name_misreads_by here (tokens.Variable name) is = rw is unexpected
name_misreads_by here (Constant t) is = rw is unexpected
name_misreads_by here BadDate is = rw is unexpected
name_misreads_by here (SortName s) is = rw is unexpected
name_misreads_by here (Keyword word) is = rw is unexpected
name_misreads_by here (tokens.Sign sign) is = rw is unexpected
name_misreads_by here End is = rw is unexpected
name_misreads_by here Bad is = rw is unexpected

pub time_misreads_by : (here : Cursor) (token : Token) → here.token ≡ token → Misreads here.at (time_constant here)
unfolding time_constant
time_misreads_by here (Name name) is = rw is unexpected
time_misreads_by here LongWord is = rw is unexpected
time_misreads_by here (tokens.Variable name) is = rw is unexpected
time_misreads_by here (Constant (Time point)) is = rw is tt
time_misreads_by here (Constant (Prin name)) is = rw is unexpected
time_misreads_by here (Constant (File number)) is = rw is unexpected
time_misreads_by here (Constant (Perm permission)) is = rw is unexpected
time_misreads_by here (Constant (Text constant)) is = rw is unexpected
time_misreads_by here (Constant Ctime) is = rw is unexpected
time_misreads_by here (Constant (Param n)) is = rw is unexpected
time_misreads_by here (Constant (Bound n)) is = rw is unexpected
time_misreads_by here BadDate is = rw is bad_date
time_misreads_by here (SortName s) is = rw is unexpected
time_misreads_by here (Keyword word) is = rw is unexpected
time_misreads_by here (tokens.Sign sign) is = rw is unexpected
time_misreads_by here End is = rw is unexpected
time_misreads_by here Bad is = rw is unexpected

pub ended_misreads : (here : Cursor) → Misreads here.at (at_end here)
unfolding at_end
ended_misreads here = if_misreads here.at (is_end here.token) (Ok tt) (Err (Unexpected here.at)) tt unexpected

pub word_misreads : (text : List ℕ) (word : Word) (here : Cursor) → Misreads here.at (expect_word text word here)
unfolding expect_word
word_misreads text word here = if_misreads here.at (is_word word here.token) (Ok (cursor_after text here)) (Err (Unexpected here.at)) tt unexpected

-- ---- predicates

owner_only : (scope : List Variable) (at : ℕ) (terms : List Term) → Only (Sort at) (apply_owner scope at terms)
unfolding apply_owner
owner_only scope at [] = refl
owner_only scope at (a ∷ []) = refl
owner_only scope at (a ∷ b ∷ []) = if_only (Sort at) _ (Ok (state (Owner a b))) (Err (Sort at)) tt refl
owner_only scope at (a ∷ b ∷ c ∷ more) = refl

attribute_only : (scope : List Variable) (at : ℕ) (terms : List Term) → Only (Sort at) (apply_attribute scope at terms)
unfolding apply_attribute
attribute_only scope at [] = refl
attribute_only scope at (a ∷ []) = refl
attribute_only scope at (a ∷ b ∷ []) = refl
attribute_only scope at (a ∷ b ∷ c ∷ []) = if_only (Sort at) _ (Ok (state (HasXattr a b c))) (Err (Sort at)) tt refl
attribute_only scope at (a ∷ b ∷ c ∷ d ∷ more) = refl

directory_only : (scope : List Variable) (at : ℕ) (terms : List Term) → Only (Sort at) (apply_directory scope at terms)
unfolding apply_directory
directory_only scope at [] = refl
directory_only scope at (a ∷ []) = refl
directory_only scope at (a ∷ b ∷ []) = if_only (Sort at) _ (Ok (state (InDir a b))) (Err (Sort at)) tt refl
directory_only scope at (a ∷ b ∷ c ∷ more) = refl

state_only : (scope : List Variable) (at : ℕ) (name : List ℕ) (terms : List Term) → Only (Sort at) (apply_state scope at name terms)
unfolding apply_state
state_only scope at name terms =
    if_only (Sort at) _ _ _ (owner_only scope at terms) (if_only (Sort at) (bytes_eq name (codes "has_xattr")) _ _ (attribute_only scope at terms) (directory_only scope at terms))

atom_only : (scope : List Variable) (at : ℕ) (name : List ℕ) (terms : List Term) → Only (Sort at) (apply_atom scope at name terms)
unfolding apply_atom
atom_only scope at name terms = if_only (Sort at) (bytes_eq name may && not (are_may_arguments scope terms)) (Err (Sort at)) (Ok (atom name terms)) refl tt

pub applied_only : (scope : List Variable) (at : ℕ) (name : List ℕ) (terms : List Term) → Only (Sort at) (apply_predicate scope at name terms)
unfolding apply_predicate
applied_only scope at name terms = if_only (Sort at) (is_predicate_name name) _ _ (atom_only scope at name terms) (state_only scope at name terms)

pub applied_errs : (scope : List Variable) (at : ℕ) (name : List ℕ) (terms : List Term) → ErrsAt at (apply_predicate scope at name terms)
applied_errs scope at name terms = sort_errs at (apply_predicate scope at name terms) (applied_only scope at name terms)

-- ---- signs

pub not_expected : (b : Bool) (x y : Cursor) (u e : TextFault) → (if b then Ok x else Err u) ≡ Err e → (if b then Ok y else Err u) ≡ Err e
not_expected true x y u e h = never_err h
not_expected false x y u e h = h

pub expected_ok : (text : List ℕ) (sign : Sign') (here there : Cursor) → expect_sign text sign here ≡ Ok there → (is_sign sign here.token ≡ true) × (there ≡ cursor_after text here)
unfolding expect_sign
expected_ok text sign here there h = chosen (is_sign sign here.token) (cursor_after text here) (Unexpected here.at) there h
  where
    chosen : (b : Bool) (x : Cursor) (e : TextFault) (y : Cursor) → (if b then Ok x else Err e) ≡ Ok y → (b ≡ true) × (y ≡ x)
    chosen true x e y h = (refl, (let same : ◌≡◌ {A = Result Cursor TextFault} (Ok x) (Ok y) = h in cc))
    chosen false x e y h = absurd (let never : ◌≡◌ {A = Result Cursor TextFault} (Err e) (Ok y) = h in cc)

call_token_opened : (token : Token) (b : Bool) → is_call_token token b ≡ true → b ≡ true
call_token_opened (Name name) b h = h
call_token_opened LongWord b h = absurd (false≢true h)
call_token_opened (tokens.Variable name) b h = absurd (false≢true h)
call_token_opened (Constant t) b h = absurd (false≢true h)
call_token_opened BadDate b h = absurd (false≢true h)
call_token_opened (SortName s) b h = absurd (false≢true h)
call_token_opened (Keyword word) b h = absurd (false≢true h)
call_token_opened (tokens.Sign sign) b h = absurd (false≢true h)
call_token_opened End b h = absurd (false≢true h)
call_token_opened Bad b h = absurd (false≢true h)

pub call_opened : (text : List ℕ) (here : Cursor) → is_call text here ≡ true → is_sign signs.Open (cursor_after_node text here).token ≡ true
unfolding is_call
call_opened text here h = call_token_opened here.token _ h

pub saying_same : (text other : List ℕ) (here : Cursor) {b : Bool} → token_from other here.end (here.left - 1) ≡ token_from text here.end (here.left - 1) → is_saying text here ≡ b → is_saying other here ≡ b
unfolding is_saying cursor_after_node
saying_same text other here same h = rw same h

pub call_same : (text other : List ℕ) (here : Cursor) {b : Bool} → token_from other here.end (here.left - 1) ≡ token_from text here.end (here.left - 1) → is_call text here ≡ b → is_call other here ≡ b
unfolding is_call cursor_after_node
call_same text other here same h = rw same h

pub left_behind : (text : List ℕ) (here : Cursor) → (cursor_after text here).left ≡ here.left
unfolding cursor_after token_from
left_behind text here = refl

pub left_node : (text : List ℕ) (here : Cursor) → (cursor_after_node text here).left ≡ here.left - 1
unfolding cursor_after_node token_from
left_node text here = refl

-- ---- signs and words by themselves

pub open_sign : is_sign signs.Open (tokens.Sign signs.Open) ≡ true
unfolding is_sign
open_sign = refl

pub colon_sign : is_sign signs.Colon (tokens.Sign signs.Colon) ≡ true
unfolding is_sign
colon_sign = refl

pub dot_sign : is_sign signs.Dot (tokens.Sign signs.Dot) ≡ true
unfolding is_sign
dot_sign = refl

pub comma_sign : is_sign signs.Comma (tokens.Sign signs.Comma) ≡ true
unfolding is_sign
comma_sign = refl

pub up_to_sign : is_sign signs.UpTo (tokens.Sign signs.UpTo) ≡ true
unfolding is_sign
up_to_sign = refl

pub close_sign : is_sign signs.Close (tokens.Sign signs.Close) ≡ true
unfolding is_sign
close_sign = refl

pub open_interval_sign : is_sign signs.OpenInterval (tokens.Sign signs.OpenInterval) ≡ true
unfolding is_sign
open_interval_sign = refl

pub close_interval_sign : is_sign signs.CloseInterval (tokens.Sign signs.CloseInterval) ≡ true
unfolding is_sign
close_interval_sign = refl

pub says_keyword : is_word keywords.Says (Keyword keywords.Says) ≡ true
unfolding is_word
says_keyword = refl

pub from_keyword : is_word keywords.From (Keyword keywords.From) ≡ true
unfolding is_word
from_keyword = refl

pub to_keyword : is_word keywords.To (Keyword keywords.To) ≡ true
unfolding is_word
to_keyword = refl
