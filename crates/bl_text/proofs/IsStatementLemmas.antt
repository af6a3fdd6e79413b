-- What a text of the grammar of statements writes may be said: it is closed and well sorted, within the limits, and speaks neither of the current time nor of a time outside the range of moments.
use Rattle.std.proofs.Common.{◌≡◌, ℕ, zero, suc, ◌+◌, ◌-◌, ◌≤◌, Bool, true, false, List, [], ◌∷◌, ◌++◌, length, refl, sym, ap, ◌∙◌, subst, arith, Result, Ok, Err, ◌⊎◌, inl, inr}
use Rattle.std.specs.Prelude.{max, not, nat_le, ◌&&◌, codes, Option, Some, None, IsSome, if◌then◌else◌}
use Rattle.std.specs.Option.{option_map}
use Rattle.std.specs.List.{AllByRecursion, slice_get}
use Rattle.std.specs.Str.{bytes_eq}
use Rattle.std.proofs.lemmas.Bool.{false≢true, and_parts}
use Rattle.std.proofs.lemmas.Bool.Decides.{nat_tests}
use Rattle.std.proofs.lemmas.Slice.Eq.{bytes_eq-Decides}
use Rattle.bl_syntax.specs.declared.terms.Sort.{Sort}
use Rattle.bl_syntax.specs.declared.terms.Sort.TheVariants as sorts
use Rattle.bl_syntax.specs.declared.terms.Term.{Term}
use Rattle.bl_syntax.specs.declared.terms.Term.TheVariants.{Prin, File, Perm, Time, Text, Ctime, Param, Bound}
use Rattle.bl_syntax.specs.declared.terms.TimePoint.{TimePoint}
use Rattle.bl_syntax.specs.TimeOrder.{IsInRange}
use Rattle.bl_syntax.specs.declared.terms.StatePred.TheVariants.{Owner, HasXattr, InDir}
use Rattle.bl_syntax.specs.Formula.{FormulaView, atom, state, truth, falsity}
use Rattle.bl_syntax.specs.Names.{is_predicate_name}
use Rattle.bl_syntax.specs.WellSorted.{may, HasSort, IsInScope, HaveSorts, sorts_of_may, IsWellSorted, size, widest_atom}
use Rattle.bl_syntax.specs.Statement.{AllTerms, IsSayable, StatementView, IsStatement}
use Rattle.bl_tokens.specs.declared.faults.TextFault.{TextFault}
use Rattle.bl_tokens.specs.declared.faults.TextFault.TheVariants as faults
use Rattle.bl_tokens.specs.declared.tokens.Sign.TheVariants as signs
use Rattle.bl_tokens.specs.declared.tokens.Keyword.{Keyword as Word}
use Rattle.bl_tokens.specs.declared.tokens.Keyword.TheVariants as keywords
use Rattle.bl_tokens.specs.declared.tokens.Token.{Token}
use Rattle.bl_tokens.specs.declared.tokens.Token.TheVariants.{Name, LongWord, Constant, BadDate, SortName, Keyword, End, Bad}
use Rattle.bl_tokens.specs.declared.tokens.Token.TheVariants as tokens
use Rattle.bl_tokens.specs.declared.tokens.Cursor.{Cursor}
use Rattle.bl_tokens.specs.Tokens.{token_from, cursor_after, cursor_after_node, is_sign, is_word}
use Rattle.bl_text.specs.Scope.{Variable, place_of, is_same_sort, is_of_wanted_sort}
use Rattle.bl_text.specs.Pieces.{count, expect_sign, term_of, require_sayable, require_sort, argument, next_argument, time_argument, interval, variable_name, sort_at, binder, speaker, less_sign, comparison, are_may_arguments, apply_atom, apply_owner, apply_attribute, apply_directory, apply_state, apply_predicate, bare_predicate, named_time, name_alone, constant_formula, simple_by, simple_formula}
use Rattle.bl_text.specs.Grammar.{Level, is_saying, AreArguments, one, further, IsCall, call, Is, for_every, for_some, implication, one_disjunction, or_further, one_conjunction, and_further, one_unary, saying, one_postfix, on_interval, one_primary, group, called, one_simple}
use Rattle.bl_text.specs.Texts.{beginning, expect_word, time_constant, principal_name, opening, at_end, span, IsSayingText, whole_saying}
use Rattle.bl_syntax.proofs.StatementLemmas.{IsStatement-from_parts}
use Rattle.bl_text.proofs.PieceLemmas.{bind_ok, expected_ok, left_behind, left_node}
use Rattle.bl_text.proofs.LexedLemmas.{IsWritten, IsLexed, token_lexed}
use Rattle.bl_syntax.proofs.GrantLemmas.{AllByRecursion-push}

pub ok_same : {A : Type 0} {a b : A} → ◌≡◌ {A = Result A TextFault} (Ok a) (Ok b) → a ≡ b
ok_same h = cc

-- ---- what a test let through

pub if_ok : {A : Type 0} (b : Bool) (x : Result A TextFault) (e : TextFault) (a : A) → (if b then x else Err e) ≡ Ok a → (b ≡ true) × (x ≡ Ok a)
if_ok true x e a h = (refl, h)
if_ok {A} false x e a h = absurd (let never : ◌≡◌ {A = Result A TextFault} (Err e) (Ok a) = h in cc)

unless_ok : {A : Type 0} (b : Bool) (x : Result A TextFault) (e : TextFault) (a : A) → (if b then Err e else x) ≡ Ok a → (b ≡ false) × (x ≡ Ok a)
unless_ok {A} true x e a h = absurd (let never : ◌≡◌ {A = Result A TextFault} (Err e) (Ok a) = h in cc)
unless_ok false x e a h = (refl, h)

count_some : (here : Cursor) (u : Unit {0}) → count here ≡ Ok u → 1 ≤ here.left
unfolding count
count_some here u h = let some = (if_ok (nat_le 1 here.left) (Ok tt) (faults.TooLarge here.at) u h).0 in grind (arith, nat_tests)

-- ---- sorts

abbrev pub sorts_of : List Variable → List Sort
sorts_of [] = []
sorts_of (v ∷ others) = v.1 ∷ sorts_of others

same_is : (wanted found : Sort) → is_same_sort wanted found ≡ true → found ≡ wanted
same_is sorts.Principal sorts.Principal h = refl
same_is sorts.File sorts.File h = refl
same_is sorts.Perm sorts.Perm h = refl
same_is sorts.Time sorts.Time h = refl
same_is sorts.Text sorts.Text h = refl
same_is _ _ h = absurd (false≢true h)

variable_sort : (scope : List Variable) (n : ℕ) (wanted : Sort) → IsSome (slice_get (sorts_of scope) n) → is_of_wanted_sort scope wanted (Bound n) ≡ true → slice_get (sorts_of scope) n ≡ Some wanted
variable_sort [] n wanted some fit = absurd (false≢true some)
variable_sort (v ∷ others) zero wanted some fit = ap Some (same_is wanted v.1 fit)
variable_sort (v ∷ others) (suc n) wanted some fit = variable_sort others n wanted some fit

variable_in_scope : (scope : List Variable) (name : List ℕ) (n : ℕ) → place_of scope name ≡ Some n → IsSome (slice_get (sorts_of scope) n)
variable_in_scope [] name n h = absurd (let never : ◌≡◌ {A = Option ℕ} None (Some n) = h in cc)
variable_in_scope (v ∷ others) name n h = by_name (variable_in_scope others name) (bytes_eq v.0 name) (place_of others name) refl n h
  where
    by_name : ((m : ℕ) → place_of others name ≡ Some m → IsSome (slice_get (sorts_of others) m)) → (b : Bool) (o : Option ℕ) → place_of others name ≡ o → (m : ℕ) → (if b then Some 0 else option_map suc o) ≡ Some m → IsSome (slice_get (sorts_of (v ∷ others)) m)
    by_name more true o is zero k = refl
    by_name more true o is (suc m) k = absurd (let never : ◌≡◌ {A = Option ℕ} (Some 0) (Some (suc m)) = k in let no : 0 ≡ suc m = cc in omega arith)
    by_name more false None is m k = absurd (let never : ◌≡◌ {A = Option ℕ} None (Some m) = k in cc)
    by_name more false (Some inner) is zero k = absurd (let never : ◌≡◌ {A = Option ℕ} (Some (suc inner)) (Some 0) = k in let no : suc inner ≡ 0 = cc in omega arith)
    by_name more false (Some inner) is (suc m) k =
        let same : ◌≡◌ {A = Option ℕ} (Some (suc inner)) (Some (suc m)) = k in
        let next : suc inner ≡ suc m = cc in
        let inner_is : inner ≡ m = omega arith in more m (is ∙ ap Some inner_is)

-- ---- terms

-- a term of a statement, within the variables of a scope
pub record IsSaid (scope : List Variable) (t : Term) : Type 0 where
  pub sayable : IsSayable t
  pub in_scope : IsInScope [] (sorts_of scope) t

pub fits_is : (scope : List Variable) (wanted : Sort) (t : Term) → IsInScope [] (sorts_of scope) t → is_of_wanted_sort scope wanted t ≡ true → HasSort [] (sorts_of scope) wanted t
fits_is scope wanted (Prin name) some fit = ap Some (same_is wanted sorts.Principal fit)
fits_is scope wanted (File number) some fit = ap Some (same_is wanted sorts.File fit)
fits_is scope wanted (Perm permission) some fit = ap Some (same_is wanted sorts.Perm fit)
fits_is scope wanted (Time point) some fit = ap Some (same_is wanted sorts.Time fit)
fits_is scope wanted (Text constant) some fit = ap Some (same_is wanted sorts.Text fit)
fits_is scope wanted Ctime some fit = ap Some (same_is wanted sorts.Time fit)
fits_is scope wanted (Param n) some fit = absurd (false≢true some)
fits_is scope wanted (Bound n) some fit = variable_sort scope n wanted some fit

-- a constant that was let through may be said
constant_said : (scope : List Variable) (at : ℕ) (t : Term) (u : Unit {0}) → IsWritten t → require_sayable true at t ≡ Ok u → IsSaid scope t
unfolding require_sayable
constant_said scope at (Prin name) u written h = absurd written
constant_said scope at (File number) u written h = record { sayable = (tt, tt); in_scope = refl }
constant_said scope at (Perm permission) u written h = record { sayable = (tt, tt); in_scope = refl }
constant_said scope at (Time point) u written h = record { sayable = (tt, written); in_scope = refl }
constant_said scope at (Text constant) u written h = record { sayable = (tt, tt); in_scope = refl }
constant_said scope at Ctime u written h = absurd (let never : ◌≡◌ {A = Result (Unit {0}) TextFault} (Err (faults.Sort at)) (Ok u) = h in cc)
constant_said scope at (Param n) u written h = absurd (let never : ◌≡◌ {A = Result (Unit {0}) TextFault} (Err (faults.Sort at)) (Ok u) = h in cc)
constant_said scope at (Bound n) u written h = absurd written

unread : (scope : List Variable) (here : Cursor) (t : Term) → term_of scope here ≡ Ok t → term_of scope here ≡ Err (faults.Unexpected here.at) → ⊥
unread scope here t h k = let never : ◌≡◌ {A = Result Term TextFault} (Err (faults.Unexpected here.at)) (Ok t) = sym k ∙ h in cc

undated : (scope : List Variable) (here : Cursor) (t : Term) → term_of scope here ≡ Ok t → term_of scope here ≡ Err (faults.BadDate here.at) → ⊥
undated scope here t h k = let never : ◌≡◌ {A = Result Term TextFault} (Err (faults.BadDate here.at)) (Ok t) = sym k ∙ h in cc

pub refused : {A : Type 0} {e : TextFault} {a : A} → ◌≡◌ {A = Result A TextFault} (Err e) (Ok a) → ⊥
refused {A} {e} {a} h = cc

abbrev pub names_no_term : Token → Bool
names_no_term (Name name) = false
names_no_term (tokens.Variable name) = false
names_no_term (Constant c) = false
names_no_term LongWord = true
names_no_term BadDate = true
names_no_term (SortName s) = true
names_no_term (Keyword word) = true
names_no_term (tokens.Sign sign) = true
names_no_term End = true
names_no_term Bad = true

pub unread_speaker : (scope : List Variable) (here : Cursor) (t : Term) (token : Token) → here.token ≡ token → names_no_term token ≡ true → term_of scope here ≡ Ok t → ⊥
unfolding term_of
unread_speaker scope here t (Name name) is none h = false≢true none
unread_speaker scope here t (tokens.Variable name) is none h = false≢true none
unread_speaker scope here t (Constant c) is none h = false≢true none
unread_speaker scope here t LongWord is none h = unread scope here t h (rw is refl)
unread_speaker scope here t BadDate is none h = undated scope here t h (rw is refl)
unread_speaker scope here t (SortName s) is none h = unread scope here t h (rw is refl)
unread_speaker scope here t (Keyword word) is none h = unread scope here t h (rw is refl)
unread_speaker scope here t (tokens.Sign sign) is none h = unread scope here t h (rw is refl)
unread_speaker scope here t End is none h = unread scope here t h (rw is refl)
unread_speaker scope here t Bad is none h = unread scope here t h (rw is refl)

pub name_term : (scope : List Variable) (here : Cursor) (name : List ℕ) → here.token ≡ Name name → term_of scope here ≡ Ok (Prin name)
unfolding term_of
name_term scope here name is = rw is

constant_term : (scope : List Variable) (here : Cursor) (c : Term) → here.token ≡ Constant c → term_of scope here ≡ Ok c
unfolding term_of
constant_term scope here c is = rw is

abbrev pub at_place : ℕ → Option ℕ → Result Term TextFault
at_place at None = Err (faults.UnknownName at)
at_place at (Some inner) = Ok (Bound inner)

pub variable_term : (scope : List Variable) (here : Cursor) (name : List ℕ) → here.token ≡ tokens.Variable name → term_of scope here ≡ at_place here.at (place_of scope name)
unfolding term_of
variable_term scope here name is = rw is

pub timed : (here : Cursor) (found : TimePoint) → here.token ≡ Constant (Time found) → time_constant here ≡ Ok found
unfolding time_constant
timed here found is = rw is refl

pub untimed : (here : Cursor) (point : TimePoint) → time_constant here ≡ Ok point → time_constant here ≡ Err (faults.Unexpected here.at) → ⊥
untimed here point h k = let never : ◌≡◌ {A = Result TimePoint TextFault} (Err (faults.Unexpected here.at)) (Ok point) = sym k ∙ h in cc

pub badly_timed : (here : Cursor) (point : TimePoint) → time_constant here ≡ Ok point → time_constant here ≡ Err (faults.BadDate here.at) → ⊥
badly_timed here point h k = let never : ◌≡◌ {A = Result TimePoint TextFault} (Err (faults.BadDate here.at)) (Ok point) = sym k ∙ h in cc

-- what a token is as a term
term_by : (scope : List Variable) (here : Cursor) (t : Term) (u : Unit {0}) (token : Token) → here.token ≡ token → IsLexed token → term_of scope here ≡ Ok t → require_sayable true here.at t ≡ Ok u → IsSaid scope t
unfolding term_of
term_by scope here t u (Name name) is lexed h said =
    let found : ◌≡◌ {A = Result Term TextFault} (Ok (Prin name)) (Ok t) = sym (name_term scope here name is) ∙ h in subst (IsSaid scope) (ok_same found) (record { sayable = (tt, tt); in_scope = refl })
term_by scope here t u (Constant c) is lexed h said =
    let found : ◌≡◌ {A = Result Term TextFault} (Ok c) (Ok t) = sym (constant_term scope here c is) ∙ h in
    let same : c ≡ t = ok_same found in constant_said scope here.at t u (subst IsWritten same lexed) said
term_by scope here t u (tokens.Variable name) is lexed h said = by_place (place_of scope name) refl (sym (variable_term scope here name is) ∙ h)
  where
    by_place : (o : Option ℕ) → place_of scope name ≡ o → at_place here.at o ≡ Ok t → IsSaid scope t
    by_place None none k = absurd (let never : ◌≡◌ {A = Result Term TextFault} (Err (faults.UnknownName here.at)) (Ok t) = k in cc)
    by_place (Some inner) found k = subst (IsSaid scope) (ok_same k) (record { sayable = (tt, tt); in_scope = variable_in_scope scope name inner found })
term_by scope here t u LongWord is lexed h said = absurd (unread scope here t h (rw is refl))
term_by scope here t u BadDate is lexed h said = absurd (undated scope here t h (rw is refl))
term_by scope here t u (SortName s) is lexed h said = absurd (unread scope here t h (rw is refl))
term_by scope here t u (Keyword word) is lexed h said = absurd (unread scope here t h (rw is refl))
term_by scope here t u (tokens.Sign sign) is lexed h said = absurd (unread scope here t h (rw is refl))
term_by scope here t u End is lexed h said = absurd (unread scope here t h (rw is refl))
term_by scope here t u Bad is lexed h said = absurd (unread scope here t h (rw is refl))

-- ---- arguments

pub record ReadsTerm (scope : List Variable) (here : Cursor) (t : Term) : Type 0 where
  pub said : IsSaid scope t
  pub room : 1 ≤ here.left

argument_reads : (scope : List Variable) (here : Cursor) (t : Term) → IsLexed here.token → argument true scope here ≡ Ok t → ReadsTerm scope here t
unfolding argument
argument_reads scope here t lexed h =
    let term = bind_ok (term_of scope here) _ t h in
    let said = bind_ok (require_sayable true here.at term.0) _ t term.1.1 in
    let room = bind_ok (count here) _ t said.1.1 in
    record { said = subst (IsSaid scope) (ok_same room.1.1) (term_by scope here term.0 said.0 here.token refl lexed term.1.0 said.1.0); room = count_some here room.0 room.1.0 }

pub record ReadsTime (scope : List Variable) (here : Cursor) (t : Term) : Type 0 where
  pub said : IsSaid scope t
  pub time : HasSort [] (sorts_of scope) sorts.Time t
  pub room : 1 ≤ here.left

sorted_fits : (scope : List Variable) (wanted : Sort) (at : ℕ) (t : Term) (u : Unit {0}) → require_sort scope wanted at t ≡ Ok u → is_of_wanted_sort scope wanted t ≡ true
unfolding require_sort
sorted_fits scope wanted at t u h = (if_ok (is_of_wanted_sort scope wanted t) (Ok tt) (faults.Sort at) u h).0

time_argument_reads : (scope : List Variable) (here : Cursor) (t : Term) → IsLexed here.token → time_argument true scope here ≡ Ok t → ReadsTime scope here t
unfolding time_argument
time_argument_reads scope here t lexed h =
    let term = bind_ok (term_of scope here) _ t h in
    let said = bind_ok (require_sayable true here.at term.0) _ t term.1.1 in
    let time = bind_ok (require_sort scope sorts.Time here.at term.0) _ t said.1.1 in
    let room = bind_ok (count here) _ t time.1.1 in
    let fine : IsSaid scope term.0 = term_by scope here term.0 said.0 here.token refl lexed term.1.0 said.1.0 in
    let sort : HasSort [] (sorts_of scope) sorts.Time term.0 = fits_is scope sorts.Time term.0 fine.in_scope (sorted_fits scope sorts.Time here.at term.0 time.0 time.1.0) in
    subst (ReadsTime scope here) (ok_same room.1.1) (record { said = fine; time = sort; room = count_some here room.0 room.1.0 })

few_others : (is_atom : Bool) (others : ℕ) → (is_atom && nat_le 8 others) ≡ false → is_atom ≡ true → others + 1 ≤ 8
few_others true others h is = grind (arith, nat_tests)
few_others false others h is = absurd (false≢true is)

next_argument_reads : (scope : List Variable) (is_atom : Bool) (others : ℕ) (here : Cursor) (t : Term) → IsLexed here.token → next_argument true scope is_atom others here ≡ Ok t → ReadsTerm scope here t × (is_atom ≡ true → others + 1 ≤ 8)
unfolding next_argument
next_argument_reads scope is_atom others here t lexed h =
    let term = bind_ok (argument true scope here) _ t h in
    let few = unless_ok (is_atom && nat_le 8 others) (Ok term.0) (faults.TooLarge here.at) t term.1.1 in
    (subst (ReadsTerm scope here) (ok_same few.1) (argument_reads scope here term.0 lexed term.1.0), few_others is_atom others few.0)

left_of : (text : List ℕ) (from left : ℕ) → (token_from text from left).left ≡ left
unfolding token_from
left_of text from left = refl

lexed_behind : (text : List ℕ) (here : Cursor) → IsLexed (cursor_after text here).token
unfolding cursor_after
lexed_behind text here = token_lexed text here.end here.left

lexed_node : (text : List ℕ) (here : Cursor) → IsLexed (cursor_after_node text here).token
unfolding cursor_after_node
lexed_node text here = token_lexed text here.end (here.left - 1)

all_as : {A : Type 0} (P Q : A → Type 0) (xs : List A) → ((x : A) → P x → Q x) → AllByRecursion P xs → AllByRecursion Q xs
all_as P Q [] f all = tt
all_as P Q (x ∷ xs) f all = (f x all.0, all_as P Q xs f all.1)

pub length_more : {A : Type 0} (xs : List A) (x : A) → length (xs ++ x ∷ []) ≡ length xs + 1
length_more [] x = refl
length_more (y ∷ ys) x = let more = length_more ys x in ap suc more ∙ omega arith

pub record ReadsTerms (scope : List Variable) (is_atom : Bool) (here there : Cursor) (terms : List Term) : Type 0 where
  pub lexed : IsLexed there.token
  pub nodes : there.left + length terms ≡ here.left
  pub said : AllByRecursion (IsSaid scope) terms
  pub few : is_atom ≡ true → length terms ≤ 8

arguments_read : {text : List ℕ} {scope : List Variable} {is_atom : Bool} {here there : Cursor} {terms : List Term} → AreArguments text true scope is_atom here there terms → IsLexed here.token → ReadsTerms scope is_atom here there terms
arguments_read {text} {scope} {is_atom} {here} (one t h) lexed =
    let term = argument_reads scope here t lexed h in
    record { lexed = lexed_node text here; nodes = (let room = term.room in let left = left_node text here in omega arith); said = (term.said, tt); few = λ is. omega arith }
arguments_read {text} {scope} {is_atom} {here} (further mid place terms t args comma h) lexed =
    let others = arguments_read args lexed in
    let found = expected_ok text signs.Comma mid place comma in
    let next : IsLexed place.token = subst (λ (p : Cursor). IsLexed p.token) (sym found.1) (lexed_behind text mid) in
    let term = next_argument_reads scope is_atom (length terms) place t next h in
    let len = length_more terms t in
    record {
      lexed = lexed_node text place;
      nodes = (let room = term.0.room in let left = left_node text place in let same : place.left ≡ mid.left = ap (λ (p : Cursor). p.left) found.1 ∙ left_behind text mid in let before = others.nodes in omega arith);
      said = AllByRecursion-push (IsSaid scope) terms t others.said term.0.said;
      few = λ is. (let some = term.1 is in omega arith);
    }

-- ---- predicates

pub record IsApplied (scope : List Variable) (terms : List Term) (f : FormulaView) : Type 0 where
  pub nodes : size f ≡ 1 + length terms
  pub wide : widest_atom f ≤ 8
  pub sorted : IsWellSorted [] (sorts_of scope) f
  pub sayable : AllTerms IsSayable f

then_true : (a b : Bool) → (a && not b) ≡ false → a ≡ true → b ≡ true
then_true true true h is = refl
then_true true false h is = sym h
then_true false b h is = absurd (false≢true is)

may_sorts : (scope : List Variable) (terms : List Term) → AllByRecursion (IsSaid scope) terms → are_may_arguments scope terms ≡ true → HaveSorts [] (sorts_of scope) sorts_of_may terms
unfolding are_may_arguments
may_sorts scope [] all h = absurd (false≢true h)
may_sorts scope (a ∷ []) all h = absurd (false≢true h)
may_sorts scope (a ∷ b ∷ []) all h = absurd (false≢true h)
may_sorts scope (a ∷ b ∷ c ∷ []) all h =
    let last = and_parts (is_of_wanted_sort scope sorts.Principal a && is_of_wanted_sort scope sorts.File b) (is_of_wanted_sort scope sorts.Perm c) h in
    let first = and_parts (is_of_wanted_sort scope sorts.Principal a) (is_of_wanted_sort scope sorts.File b) last.0 in
    (fits_is scope sorts.Principal a all.0.in_scope first.0, (fits_is scope sorts.File b all.1.0.in_scope first.1, (fits_is scope sorts.Perm c all.1.1.0.in_scope last.1, tt)))
may_sorts scope (a ∷ b ∷ c ∷ d ∷ more) all h = absurd (false≢true h)

atom_read : (scope : List Variable) (at : ℕ) (name : List ℕ) (terms : List Term) (f : FormulaView) → AllByRecursion (IsSaid scope) terms → length terms ≤ 8 → apply_atom scope at name terms ≡ Ok f → IsApplied scope terms f
unfolding apply_atom
atom_read scope at name terms f all few h =
    let found = unless_ok (bytes_eq name may && not (are_may_arguments scope terms)) (Ok (atom name terms)) (faults.Sort at) f h in
    subst (IsApplied scope terms) (ok_same found.1) (record {
      nodes = refl;
      wide = few;
      sorted = record {
        in_scope = all_as (IsSaid scope) (IsInScope [] (sorts_of scope)) terms (λ t s. s.in_scope) all;
        of_may = λ is. may_sorts scope terms all (then_true (bytes_eq name may) (are_may_arguments scope terms) found.0 ((bytes_eq-Decides name may).1 is));
      };
      sayable = all_as (IsSaid scope) IsSayable terms (λ t s. s.sayable) all;
    })

owner_read : (scope : List Variable) (at : ℕ) (terms : List Term) (f : FormulaView) → AllByRecursion (IsSaid scope) terms → apply_owner scope at terms ≡ Ok f → IsApplied scope terms f
unfolding apply_owner
owner_read scope at [] f all h = absurd (refused h)
owner_read scope at (a ∷ []) f all h = absurd (refused h)
owner_read scope at (a ∷ b ∷ []) f all h =
    let found = if_ok (is_of_wanted_sort scope sorts.File a && is_of_wanted_sort scope sorts.Principal b) (Ok (state (Owner a b))) (faults.Sort at) f h in
    let parts = and_parts (is_of_wanted_sort scope sorts.File a) (is_of_wanted_sort scope sorts.Principal b) found.0 in
    subst (IsApplied scope (a ∷ b ∷ [])) (ok_same found.1) (record {
      nodes = refl;
      wide = omega arith;
      sorted = (fits_is scope sorts.File a all.0.in_scope parts.0, fits_is scope sorts.Principal b all.1.0.in_scope parts.1);
      sayable = (all.0.sayable, (all.1.0.sayable, tt));
    })
owner_read scope at (a ∷ b ∷ c ∷ more) f all h = absurd (refused h)

attribute_read : (scope : List Variable) (at : ℕ) (terms : List Term) (f : FormulaView) → AllByRecursion (IsSaid scope) terms → apply_attribute scope at terms ≡ Ok f → IsApplied scope terms f
unfolding apply_attribute
attribute_read scope at [] f all h = absurd (refused h)
attribute_read scope at (a ∷ []) f all h = absurd (refused h)
attribute_read scope at (a ∷ b ∷ []) f all h = absurd (refused h)
attribute_read scope at (a ∷ b ∷ c ∷ []) f all h =
    let found = if_ok (is_of_wanted_sort scope sorts.File a && is_of_wanted_sort scope sorts.Text b && is_of_wanted_sort scope sorts.Text c) (Ok (state (HasXattr a b c))) (faults.Sort at) f h in
    let last = and_parts (is_of_wanted_sort scope sorts.File a && is_of_wanted_sort scope sorts.Text b) (is_of_wanted_sort scope sorts.Text c) found.0 in
    let first = and_parts (is_of_wanted_sort scope sorts.File a) (is_of_wanted_sort scope sorts.Text b) last.0 in
    subst (IsApplied scope (a ∷ b ∷ c ∷ [])) (ok_same found.1) (record {
      nodes = refl;
      wide = omega arith;
      sorted = (fits_is scope sorts.File a all.0.in_scope first.0, (fits_is scope sorts.Text b all.1.0.in_scope first.1, fits_is scope sorts.Text c all.1.1.0.in_scope last.1));
      sayable = (all.0.sayable, (all.1.0.sayable, (all.1.1.0.sayable, tt)));
    })
attribute_read scope at (a ∷ b ∷ c ∷ d ∷ more) f all h = absurd (refused h)

directory_read : (scope : List Variable) (at : ℕ) (terms : List Term) (f : FormulaView) → AllByRecursion (IsSaid scope) terms → apply_directory scope at terms ≡ Ok f → IsApplied scope terms f
unfolding apply_directory
directory_read scope at [] f all h = absurd (refused h)
directory_read scope at (a ∷ []) f all h = absurd (refused h)
directory_read scope at (a ∷ b ∷ []) f all h =
    let found = if_ok (is_of_wanted_sort scope sorts.File a && is_of_wanted_sort scope sorts.File b) (Ok (state (InDir a b))) (faults.Sort at) f h in
    let parts = and_parts (is_of_wanted_sort scope sorts.File a) (is_of_wanted_sort scope sorts.File b) found.0 in
    subst (IsApplied scope (a ∷ b ∷ [])) (ok_same found.1) (record {
      nodes = refl;
      wide = omega arith;
      sorted = (fits_is scope sorts.File a all.0.in_scope parts.0, fits_is scope sorts.File b all.1.0.in_scope parts.1);
      sayable = (all.0.sayable, (all.1.0.sayable, tt));
    })
directory_read scope at (a ∷ b ∷ c ∷ more) f all h = absurd (refused h)

chosen_ok : {A : Type 0} (b : Bool) (x y : Result A TextFault) (a : A) → (if b then x else y) ≡ Ok a → ((b ≡ true) × (x ≡ Ok a)) ⊎ ((b ≡ false) × (y ≡ Ok a))
chosen_ok true x y a h = inl (refl, h)
chosen_ok false x y a h = inr (refl, h)

state_read : (scope : List Variable) (at : ℕ) (name : List ℕ) (terms : List Term) (f : FormulaView) → AllByRecursion (IsSaid scope) terms → apply_state scope at name terms ≡ Ok f → IsApplied scope terms f
unfolding apply_state
state_read scope at name terms f all h = elim (chosen_ok (bytes_eq name (codes "owner")) (apply_owner scope at terms) _ f h) [
  | inl is ↦ owner_read scope at terms f all is.1
  | inr other ↦ elim (chosen_ok (bytes_eq name (codes "has_xattr")) (apply_attribute scope at terms) (apply_directory scope at terms) f other.1) [
    | inl is ↦ attribute_read scope at terms f all is.1
    | inr last ↦ directory_read scope at terms f all last.1
  ]
]

applied_read : (scope : List Variable) (at : ℕ) (name : List ℕ) (terms : List Term) (f : FormulaView) → AllByRecursion (IsSaid scope) terms → (is_predicate_name name ≡ true → length terms ≤ 8) → apply_predicate scope at name terms ≡ Ok f → IsApplied scope terms f
unfolding apply_predicate
applied_read scope at name terms f all few h = elim (chosen_ok (is_predicate_name name) (apply_atom scope at name terms) (apply_state scope at name terms) f h) [
  | inl is ↦ atom_read scope at name terms f all (few is.0) is.1
  | inr other ↦ state_read scope at name terms f all other.1
]

-- ---- formulas

pub record IsSaidFormula (scope : List Variable) (here there : Cursor) (f : FormulaView) : Type 0 where
  pub lexed : IsLexed there.token
  pub nodes : there.left + size f ≡ here.left
  pub wide : widest_atom f ≤ 8
  pub sorted : IsWellSorted [] (sorts_of scope) f
  pub sayable : AllTerms IsSayable f

max_few : (a b : ℕ) → a ≤ 8 → b ≤ 8 → max a b ≤ 8
max_few a b ha hb = grind (arith, nat_tests)

second_is : {A : Type 0} {a b : A} {h k : Cursor} → ◌≡◌ {A = Result (A × Cursor) TextFault} (Ok (a, h)) (Ok (b, k)) → (a ≡ b) × (h ≡ k)
second_is {A} {a} {b} {h} {k} same = let pair : ◌≡◌ {A = A × Cursor} (a, h) (b, k) = ok_same same in (ap (λ (p : A × Cursor). p.0) pair, ap (λ (p : A × Cursor). p.1) pair)

-- what is read up to a place is what was found up to it
said_as : {scope : List Variable} {here there there' : Cursor} {f f' : FormulaView} → ◌≡◌ {A = Result (FormulaView × Cursor) TextFault} (Ok (f, there)) (Ok (f', there')) → IsSaidFormula scope here there f → IsSaidFormula scope here there' f'
said_as {scope} {here} {there} {there'} {f} {f'} same h = subst (λ (p : FormulaView × Cursor). IsSaidFormula scope here p.1 p.0) (ok_same same) h

call_read : {text : List ℕ} {scope : List Variable} {here there : Cursor} {f : FormulaView} → IsCall text true scope here there f → IsSaidFormula scope here there f
call_read {text} {scope} {here} (call name mid there terms f is room args close is_of_wanted_sort) =
    let start = cursor_after text (cursor_after_node text here) in
    let all = arguments_read args (lexed_behind text (cursor_after_node text here)) in
    let found = expected_ok text signs.Close mid there close in
    let form = applied_read scope here.at name terms f all.said all.few is_of_wanted_sort in
    record {
      lexed = subst (λ (p : Cursor). IsLexed p.token) (sym found.1) (lexed_behind text mid);
      nodes = (let some = count_some here tt room in let first = left_node text here in let second = left_behind text (cursor_after_node text here) in let inside = all.nodes in
          let last : there.left ≡ mid.left = ap (λ (p : Cursor). p.left) found.1 ∙ left_behind text mid in let whole = form.nodes in omega arith);
      wide = form.wide;
      sorted = form.sorted;
      sayable = form.sayable;
    }

less_some : (here : Cursor) (u : Unit {0}) → less_sign here ≡ Ok u → is_sign signs.UpTo here.token ≡ true
unfolding less_sign
less_some here u h = (if_ok (is_sign signs.UpTo here.token) (Ok tt) (faults.Unexpected here.at) u h).0

comparison_read : (text : List ℕ) (scope : List Variable) (here there : Cursor) (f : FormulaView) → IsLexed here.token → comparison text true scope here ≡ Ok (f, there) → IsSaidFormula scope here there f
unfolding comparison
comparison_read text scope here there f lexed h =
    let low = bind_ok (term_of scope here) _ (f, there) h in
    let room = bind_ok (count here) _ (f, there) low.1.1 in
    let less = bind_ok (less_sign (cursor_after_node text here)) _ (f, there) room.1.1 in
    let said = bind_ok (require_sayable true here.at low.0) _ (f, there) less.1.1 in
    let time = bind_ok (require_sort scope sorts.Time here.at low.0) _ (f, there) said.1.1 in
    let next = bind_ok (count (cursor_after_node text here)) _ (f, there) time.1.1 in
    let high = bind_ok (time_argument true scope (cursor_after_node text (cursor_after_node text here))) _ (f, there) next.1.1 in
    let fine : IsSaid scope low.0 = term_by scope here low.0 said.0 here.token refl lexed low.1.0 said.1.0 in
    let last = time_argument_reads scope (cursor_after_node text (cursor_after_node text here)) high.0 (lexed_node text (cursor_after_node text here)) high.1.0 in
    said_as high.1.1 (record {
      lexed = lexed_node text (cursor_after_node text (cursor_after_node text here));
      nodes = (let a = count_some here room.0 room.1.0 in let b = count_some (cursor_after_node text here) next.0 next.1.0 in let c = last.room in
          let x = left_node text here in let y = left_node text (cursor_after_node text here) in let z = left_node text (cursor_after_node text (cursor_after_node text here)) in omega arith);
      wide = omega arith;
      sorted = (fits_is scope sorts.Time low.0 fine.in_scope (sorted_fits scope sorts.Time here.at low.0 time.0 time.1.0), last.time);
      sayable = (fine.sayable, last.said.sayable);
    })

bare_read : (text : List ℕ) (scope : List Variable) (name : List ℕ) (here there : Cursor) (f : FormulaView) → bare_predicate text scope name here ≡ Ok (f, there) → IsSaidFormula scope here there f
unfolding bare_predicate
bare_read text scope name here there f h =
    let form = bind_ok (apply_predicate scope here.at name []) _ (f, there) h in
    let room = bind_ok (count here) _ (f, there) form.1.1 in
    let read = applied_read scope here.at name [] form.0 tt (λ is. omega arith) form.1.0 in
    said_as room.1.1 (record {
      lexed = lexed_node text here;
      nodes = (let a = count_some here room.0 room.1.0 in let x = left_node text here in let n = read.nodes in omega arith);
      wide = read.wide;
      sorted = read.sorted;
      sayable = read.sayable;
    })

pub named_time_never : (here there : Cursor) (f : FormulaView) → named_time here ≡ Ok (f, there) → ⊥
unfolding named_time
named_time_never here there f h = let room = bind_ok (count here) _ (f, there) h in refused room.1.1

name_read : (text : List ℕ) (scope : List Variable) (name : List ℕ) (here there : Cursor) (f : FormulaView) → name_alone text scope name here ≡ Ok (f, there) → IsSaidFormula scope here there f
unfolding name_alone
name_read text scope name here there f h = elim (chosen_ok (is_sign signs.UpTo (cursor_after_node text here).token) (named_time here) (bare_predicate text scope name here) (f, there) h) [
  | inl is ↦ absurd (named_time_never here there f is.1)
  | inr other ↦ bare_read text scope name here there f other.1
]

truth_read : (text : List ℕ) (scope : List Variable) (here there : Cursor) (f : FormulaView) → constant_formula text truth here ≡ Ok (f, there) → IsSaidFormula scope here there f
unfolding constant_formula
truth_read text scope here there f h =
    let room = bind_ok (count here) _ (f, there) h in
    said_as room.1.1 (record { lexed = lexed_node text here; nodes = (let a = count_some here room.0 room.1.0 in let x = left_node text here in omega arith); wide = omega arith; sorted = tt; sayable = tt })

falsity_read : (text : List ℕ) (scope : List Variable) (here there : Cursor) (f : FormulaView) → constant_formula text falsity here ≡ Ok (f, there) → IsSaidFormula scope here there f
unfolding constant_formula
falsity_read text scope here there f h =
    let room = bind_ok (count here) _ (f, there) h in
    said_as room.1.1 (record { lexed = lexed_node text here; nodes = (let a = count_some here room.0 room.1.0 in let x = left_node text here in omega arith); wide = omega arith; sorted = tt; sayable = tt })

simple_read_by : (text : List ℕ) (scope : List Variable) (here there : Cursor) (f : FormulaView) (token : Token) → IsLexed here.token → simple_by text true scope here token ≡ Ok (f, there) → IsSaidFormula scope here there f
simple_read_by text scope here there f (Keyword keywords.True) lexed h = truth_read text scope here there f h
simple_read_by text scope here there f (Keyword keywords.False) lexed h = falsity_read text scope here there f h
simple_read_by text scope here there f (Keyword keywords.Forall) lexed h = comparison_read text scope here there f lexed h
simple_read_by text scope here there f (Keyword keywords.Exists) lexed h = comparison_read text scope here there f lexed h
simple_read_by text scope here there f (Keyword keywords.Says) lexed h = comparison_read text scope here there f lexed h
simple_read_by text scope here there f (Keyword keywords.From) lexed h = comparison_read text scope here there f lexed h
simple_read_by text scope here there f (Keyword keywords.To) lexed h = comparison_read text scope here there f lexed h
simple_read_by text scope here there f (Keyword keywords.Inf) lexed h = comparison_read text scope here there f lexed h
simple_read_by text scope here there f (Name name) lexed h = name_read text scope name here there f h
simple_read_by text scope here there f LongWord lexed h = comparison_read text scope here there f lexed h
simple_read_by text scope here there f (tokens.Variable name) lexed h = comparison_read text scope here there f lexed h
simple_read_by text scope here there f (Constant t) lexed h = comparison_read text scope here there f lexed h
simple_read_by text scope here there f BadDate lexed h = comparison_read text scope here there f lexed h
simple_read_by text scope here there f (SortName s) lexed h = comparison_read text scope here there f lexed h
simple_read_by text scope here there f (tokens.Sign sign) lexed h = comparison_read text scope here there f lexed h
simple_read_by text scope here there f End lexed h = comparison_read text scope here there f lexed h
simple_read_by text scope here there f Bad lexed h = comparison_read text scope here there f lexed h

simple_read : (text : List ℕ) (scope : List Variable) (here there : Cursor) (f : FormulaView) → IsLexed here.token → simple_formula text true scope here ≡ Ok (f, there) → IsSaidFormula scope here there f
unfolding simple_formula
simple_read text scope here there f lexed h = simple_read_by text scope here there f here.token lexed h

-- ---- speakers, binders and intervals

pub not_saying : (text : List ℕ) (here : Cursor) (c : Term) → here.token ≡ Constant c → is_saying text here ≡ false
unfolding is_saying
not_saying text here c is = rw is refl

speaker_by : (text : List ℕ) (scope : List Variable) (here : Cursor) (t : Term) → is_saying text here ≡ true → (token : Token) → here.token ≡ token → IsLexed token → term_of scope here ≡ Ok t → require_sayable true here.at t ≡ Ok tt
unfolding require_sayable
speaker_by text scope here t says_ (Name name) is lexed h =
    let found : Prin name ≡ t = ok_same (sym (name_term scope here name is) ∙ h) in subst (λ t'. require_sayable true here.at t' ≡ Ok tt) found refl
speaker_by text scope here t says_ (tokens.Variable name) is lexed h = by_place (place_of scope name) (sym (variable_term scope here name is) ∙ h)
  where
    by_place : (o : Option ℕ) → at_place here.at o ≡ Ok t → require_sayable true here.at t ≡ Ok tt
    by_place None k = absurd (refused k)
    by_place (Some inner) k = subst (λ t'. require_sayable true here.at t' ≡ Ok tt) (ok_same k) refl
speaker_by text scope here t says_ (Constant c) is lexed h = absurd (false≢true (sym (not_saying text here c is) ∙ says_))
speaker_by text scope here t says_ LongWord is lexed h = absurd (unread_speaker scope here t LongWord is refl h)
speaker_by text scope here t says_ BadDate is lexed h = absurd (unread_speaker scope here t BadDate is refl h)
speaker_by text scope here t says_ (SortName s) is lexed h = absurd (unread_speaker scope here t (SortName s) is refl h)
speaker_by text scope here t says_ (Keyword word) is lexed h = absurd (unread_speaker scope here t (Keyword word) is refl h)
speaker_by text scope here t says_ (tokens.Sign sign) is lexed h = absurd (unread_speaker scope here t (tokens.Sign sign) is refl h)
speaker_by text scope here t says_ End is lexed h = absurd (unread_speaker scope here t End is refl h)
speaker_by text scope here t says_ Bad is lexed h = absurd (unread_speaker scope here t Bad is refl h)

pub record ReadsSpeaker (scope : List Variable) (here there : Cursor) (who : Term) : Type 0 where
  pub lexed : IsLexed there.token
  pub nodes : there.left + 2 ≡ here.left
  pub said : IsSaid scope who
  pub principal : HasSort [] (sorts_of scope) sorts.Principal who

speaker_read : (text : List ℕ) (scope : List Variable) (here there : Cursor) (who : Term) → is_saying text here ≡ true → IsLexed here.token → speaker text scope here ≡ Ok (who, there) → ReadsSpeaker scope here there who
unfolding speaker
speaker_read text scope here there who says_ lexed h =
    let term = bind_ok (term_of scope here) _ (who, there) h in
    let room = bind_ok (count here) _ (who, there) term.1.1 in
    let sort = bind_ok (require_sort scope sorts.Principal here.at term.0) _ (who, there) room.1.1 in
    let next = bind_ok (count (cursor_after_node text here)) _ (who, there) sort.1.1 in
    let fine : IsSaid scope term.0 = term_by scope here term.0 tt here.token refl lexed term.1.0 (speaker_by text scope here term.0 says_ here.token refl lexed term.1.0) in
    subst (λ (p : Term × Cursor). ReadsSpeaker scope here p.1 p.0) (ok_same next.1.1) (record {
      lexed = lexed_node text (cursor_after_node text here);
      nodes = (let a = count_some here room.0 room.1.0 in let b = count_some (cursor_after_node text here) next.0 next.1.0 in let x = left_node text here in let y = left_node text (cursor_after_node text here) in omega arith);
      said = fine;
      principal = fits_is scope sorts.Principal term.0 fine.in_scope (sorted_fits scope sorts.Principal here.at term.0 sort.0 sort.1.0);
    })

pub record ReadsBinder (here there : Cursor) : Type 0 where
  pub lexed : IsLexed there.token
  pub nodes : there.left + 1 ≡ here.left

binder_read : (text : List ℕ) (here there : Cursor) (name : List ℕ) (s : Sort) → binder text here ≡ Ok (name, s, there) → ReadsBinder here there
unfolding binder
binder_read text here there name s h =
    let room = bind_ok (count here) _ (name, s, there) h in
    let name_ = bind_ok (variable_name (cursor_after_node text here)) _ (name, s, there) room.1.1 in
    let colon = bind_ok (expect_sign text signs.Colon (cursor_after text (cursor_after_node text here))) _ (name, s, there) name_.1.1 in
    let sort = bind_ok (sort_at colon.0) _ (name, s, there) colon.1.1 in
    let dot = bind_ok (expect_sign text signs.Dot (cursor_after text colon.0)) _ (name, s, there) sort.1.1 in
    let place = expected_ok text signs.Colon (cursor_after text (cursor_after_node text here)) colon.0 colon.1.0 in
    let last = expected_ok text signs.Dot (cursor_after text colon.0) dot.0 dot.1.0 in
    subst (λ (p : List ℕ × Sort × Cursor). ReadsBinder here p.2) (ok_same dot.1.1) (record {
      lexed = subst (λ (p : Cursor). IsLexed p.token) (sym last.1) (lexed_behind text (cursor_after text colon.0));
      nodes = (let a = count_some here room.0 room.1.0 in let x = left_node text here in let y = left_behind text (cursor_after_node text here) in let z = left_behind text (cursor_after text (cursor_after_node text here)) in
          let c : colon.0.left ≡ (cursor_after text (cursor_after text (cursor_after_node text here))).left = ap (λ (p : Cursor). p.left) place.1 in let u = left_behind text colon.0 in let v = left_behind text (cursor_after text colon.0) in
          let d : dot.0.left ≡ (cursor_after text (cursor_after text colon.0)).left = ap (λ (p : Cursor). p.left) last.1 in omega arith);
    })

pub record ReadsInterval (scope : List Variable) (here there : Cursor) (from to : Term) : Type 0 where
  pub lexed : IsLexed there.token
  pub nodes : there.left + 3 ≡ here.left
  pub from_said : IsSaid scope from
  pub to_said : IsSaid scope to
  pub from_time : HasSort [] (sorts_of scope) sorts.Time from
  pub to_time : HasSort [] (sorts_of scope) sorts.Time to

interval_read : (text : List ℕ) (scope : List Variable) (here there : Cursor) (from to : Term) → interval text true scope here ≡ Ok (from, to, there) → ReadsInterval scope here there from to
unfolding interval
interval_read text scope here there from to h =
    let room = bind_ok (count here) _ (from, to, there) h in
    let first = bind_ok (expect_sign text signs.OpenInterval (cursor_after_node text here)) _ (from, to, there) room.1.1 in
    let low = bind_ok (time_argument true scope first.0) _ (from, to, there) first.1.1 in
    let second = bind_ok (expect_sign text signs.Comma (cursor_after_node text first.0)) _ (from, to, there) low.1.1 in
    let high = bind_ok (time_argument true scope second.0) _ (from, to, there) second.1.1 in
    let close = bind_ok (expect_sign text signs.CloseInterval (cursor_after_node text second.0)) _ (from, to, there) high.1.1 in
    let first_is = expected_ok text signs.OpenInterval (cursor_after_node text here) first.0 first.1.0 in
    let second_is' = expected_ok text signs.Comma (cursor_after_node text first.0) second.0 second.1.0 in
    let last = expected_ok text signs.CloseInterval (cursor_after_node text second.0) close.0 close.1.0 in
    let from_ = time_argument_reads scope first.0 low.0 (subst (λ (p : Cursor). IsLexed p.token) (sym first_is.1) (lexed_behind text (cursor_after_node text here))) low.1.0 in
    let to_ = time_argument_reads scope second.0 high.0 (subst (λ (p : Cursor). IsLexed p.token) (sym second_is'.1) (lexed_behind text (cursor_after_node text first.0))) high.1.0 in
    subst (λ (p : Term × Term × Cursor). ReadsInterval scope here p.2 p.0 p.1) (ok_same close.1.1) (record {
      lexed = subst (λ (p : Cursor). IsLexed p.token) (sym last.1) (lexed_behind text (cursor_after_node text second.0));
      nodes = (let a = count_some here room.0 room.1.0 in let b = from_.room in let c = to_.room in
          let x = left_node text here in let y = left_behind text (cursor_after_node text here) in let first_left : first.0.left ≡ (cursor_after text (cursor_after_node text here)).left = ap (λ (p : Cursor). p.left) first_is.1 in
          let u = left_node text first.0 in let v = left_behind text (cursor_after_node text first.0) in let second_left : second.0.left ≡ (cursor_after text (cursor_after_node text first.0)).left = ap (λ (p : Cursor). p.left) second_is'.1 in
          let w = left_node text second.0 in let z = left_behind text (cursor_after_node text second.0) in let last_left : close.0.left ≡ (cursor_after text (cursor_after_node text second.0)).left = ap (λ (p : Cursor). p.left) last.1 in omega arith);
      from_said = from_.said;
      to_said = to_.said;
      from_time = from_.time;
      to_time = to_.time;
    })

-- ---- what was read

both_nodes : (a b here mid there : ℕ) → mid + a ≡ here → 1 ≤ mid → there + b ≡ mid - 1 → there + (1 + a + b) ≡ here
both_nodes a b here mid there first some second = omega arith

pub said : {text : List ℕ} {level : Level} {scope : List Variable} {depth : ℕ} {here place : Cursor} {f : FormulaView} → Is text true level scope depth here place f → IsLexed here.token → IsSaidFormula scope here place f
said {text} (for_every scope depth here mid place name s a word b d) lexed =
    let start = binder_read text here mid name s b in
    let body = said d start.lexed in
    record { lexed = body.lexed; nodes = (let x = start.nodes in let y = body.nodes in omega arith); wide = body.wide; sorted = body.sorted; sayable = body.sayable }
said {text} (for_some scope depth here mid place name s a word b d) lexed =
    let start = binder_read text here mid name s b in
    let body = said d start.lexed in
    record { lexed = body.lexed; nodes = (let x = start.nodes in let y = body.nodes in omega arith); wide = body.wide; sorted = body.sorted; sayable = body.sayable }
said {text} (implication scope depth here mid place a b nq d sign room e) lexed =
    let left = said d lexed in
    let right = said e (lexed_node text mid) in
    record {
      lexed = right.lexed;
      nodes = both_nodes (size a) (size b) here.left mid.left place.left left.nodes (count_some mid tt room) (right.nodes ∙ left_node text mid);
      wide = max_few (widest_atom a) (widest_atom b) left.wide right.wide;
      sorted = (left.sorted, right.sorted);
      sayable = (left.sayable, right.sayable);
    }
said {text} (one_disjunction scope depth here place a nq d) lexed = said d lexed
said {text} (or_further scope depth here mid place a b d sign room e) lexed =
    let left = said d lexed in
    let right = said e (lexed_node text mid) in
    record {
      lexed = right.lexed;
      nodes = both_nodes (size a) (size b) here.left mid.left place.left left.nodes (count_some mid tt room) (right.nodes ∙ left_node text mid);
      wide = max_few (widest_atom a) (widest_atom b) left.wide right.wide;
      sorted = (left.sorted, right.sorted);
      sayable = (left.sayable, right.sayable);
    }
said {text} (one_conjunction scope depth here place a d) lexed = said d lexed
said {text} (and_further scope depth here mid place a b d sign room e) lexed =
    let left = said d lexed in
    let right = said e (lexed_node text mid) in
    record {
      lexed = right.lexed;
      nodes = both_nodes (size a) (size b) here.left mid.left place.left left.nodes (count_some mid tt room) (right.nodes ∙ left_node text mid);
      wide = max_few (widest_atom a) (widest_atom b) left.wide right.wide;
      sorted = (left.sorted, right.sorted);
      sayable = (left.sayable, right.sayable);
    }
said {text} (one_unary scope depth here place a d) lexed = said d lexed
said {text} (saying scope depth here mid place who a says_ k d) lexed =
    let start = speaker_read text scope here mid who says_ lexed k in
    let body = said d start.lexed in
    record { lexed = body.lexed; nodes = (let x = start.nodes in let y = body.nodes in omega arith); wide = body.wide; sorted = (start.principal, body.sorted); sayable = (start.said.sayable, body.sayable) }
said {text} (one_postfix scope depth here place a none d) lexed = said d lexed
said {text} (on_interval scope depth here mid place a from to d sign iv) lexed =
    let body = said d lexed in
    let times = interval_read text scope mid place from to iv in
    record {
      lexed = times.lexed;
      nodes = (let x = body.nodes in let y = times.nodes in omega arith);
      wide = body.wide;
      sorted = (body.sorted, (times.from_time, times.to_time));
      sayable = (body.sayable, (times.from_said.sayable, times.to_said.sayable));
    }
said {text} (one_primary scope depth here place a d) lexed = said d lexed
said {text} (group scope depth here mid place a opens room d close) lexed =
    let inside = said d (lexed_behind text here) in
    let found = expected_ok text signs.Close mid place close in
    record {
      lexed = subst (λ (p : Cursor). IsLexed p.token) (sym found.1) (lexed_behind text mid);
      nodes = (let x = inside.nodes in let y = left_behind text here in let z : place.left ≡ mid.left = ap (λ (p : Cursor). p.left) found.1 ∙ left_behind text mid in omega arith);
      wide = inside.wide;
      sorted = inside.sorted;
      sayable = inside.sayable;
    }
said {text} (called scope depth here place a closed calls c) lexed = call_read c
said {text} (one_simple scope depth here place a closed no_call h) lexed = simple_read text scope here place a lexed h

-- ---- statements

pub word_place : (text : List ℕ) (word : Word) (here place : Cursor) → expect_word text word here ≡ Ok place → place ≡ cursor_after text here
unfolding expect_word
word_place text word here place h = sym (ok_same (if_ok (is_word word here.token) (Ok (cursor_after text here)) (faults.Unexpected here.at) place h).1)

pub opening_place : (text : List ℕ) (here place : Cursor) (who : List ℕ) → opening text here ≡ Ok (who, place) → place ≡ cursor_after text (cursor_after text here)
unfolding opening
opening_place text here place who h =
    let name = bind_ok (principal_name here) _ (who, place) h in
    let word = bind_ok (expect_word text keywords.Says (cursor_after text here)) _ (who, place) name.1.1 in
    let same = ok_same word.1.1 in sym (ap (λ (p : List ℕ × Cursor). p.1) same) ∙ word_place text keywords.Says (cursor_after text here) word.0 word.1.0

time_by : (here : Cursor) (point : TimePoint) (token : Token) → here.token ≡ token → IsLexed token → time_constant here ≡ Ok point → IsInRange point
unfolding time_constant
time_by here point (Constant (Time found)) is lexed h = subst IsInRange (ok_same (sym (timed here found is) ∙ h)) lexed
time_by here point (Constant (Prin name)) is lexed h = absurd (untimed here point h (rw is refl))
time_by here point (Constant (File number)) is lexed h = absurd (untimed here point h (rw is refl))
time_by here point (Constant (Perm permission)) is lexed h = absurd (untimed here point h (rw is refl))
time_by here point (Constant (Text constant)) is lexed h = absurd (untimed here point h (rw is refl))
time_by here point (Constant Ctime) is lexed h = absurd (untimed here point h (rw is refl))
time_by here point (Constant (Param n)) is lexed h = absurd (untimed here point h (rw is refl))
time_by here point (Constant (Bound n)) is lexed h = absurd (untimed here point h (rw is refl))
time_by here point (Name name) is lexed h = absurd (untimed here point h (rw is refl))
time_by here point (tokens.Variable name) is lexed h = absurd (untimed here point h (rw is refl))
time_by here point LongWord is lexed h = absurd (untimed here point h (rw is refl))
time_by here point BadDate is lexed h = absurd (badly_timed here point h (rw is refl))
time_by here point (SortName s) is lexed h = absurd (untimed here point h (rw is refl))
time_by here point (Keyword word) is lexed h = absurd (untimed here point h (rw is refl))
time_by here point (tokens.Sign sign) is lexed h = absurd (untimed here point h (rw is refl))
time_by here point End is lexed h = absurd (untimed here point h (rw is refl))
time_by here point Bad is lexed h = absurd (untimed here point h (rw is refl))

span_in_range : (text : List ℕ) (here : Cursor) (from to : TimePoint) → span text here ≡ Ok (from, to) → IsInRange from × IsInRange to
unfolding span
span_in_range text here from to h =
    let first = bind_ok (expect_word text keywords.From here) _ (from, to) h in
    let low = bind_ok (time_constant first.0) _ (from, to) first.1.1 in
    let second = bind_ok (expect_word text keywords.To (cursor_after text first.0)) _ (from, to) low.1.1 in
    let high = bind_ok (time_constant second.0) _ (from, to) second.1.1 in
    let end = bind_ok (at_end (cursor_after text second.0)) _ (from, to) high.1.1 in
    let first_lexed = subst (λ (p : Cursor). IsLexed p.token) (sym (word_place text keywords.From here first.0 first.1.0)) (lexed_behind text here) in
    let second_lexed = subst (λ (p : Cursor). IsLexed p.token) (sym (word_place text keywords.To (cursor_after text first.0) second.0 second.1.0)) (lexed_behind text (cursor_after text first.0)) in
    let same = ok_same end.1.1 in (
      subst IsInRange (ap (λ (p : TimePoint × TimePoint). p.0) same) (time_by first.0 low.0 first.0.token refl first_lexed low.1.0),
      subst IsInRange (ap (λ (p : TimePoint × TimePoint). p.1) same) (time_by second.0 high.0 second.0.token refl second_lexed high.1.0),
    )

pub statement_said : {text : List ℕ} {s : StatementView} → IsSayingText text s → IsStatement s
statement_said {text} (whole_saying who here place f from to o d p) =
    let start = opening_place text (beginning text) here who o in
    let body = said d (subst (λ (h : Cursor). IsLexed h.token) (sym start) (lexed_behind text (cursor_after text (beginning text)))) in
    let times = span_in_range text place from to p in
    let left : here.left ≡ 512 = ap (λ (h : Cursor). h.left) start ∙ left_behind text (cursor_after text (beginning text)) ∙ left_behind text (beginning text) ∙ left_of text 0 512 in
    IsStatement-from_parts who f from to (record { within_limits = record { nodes = (let n = body.nodes in omega arith); arguments = body.wide }; well_sorted = body.sorted }, body.sayable) times.0 times.1
