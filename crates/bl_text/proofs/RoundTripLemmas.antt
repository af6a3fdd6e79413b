-- What is printed of a formula or of a statement is a text of it.
use Rattle.std.proofs.Common.{◌≡◌, ℕ, ◌+◌, ◌-◌, ◌≤◌, Bool, true, false, List, [], ◌∷◌, ◌++◌, length, append_assoc, append-nil, refl, sym, ap, ◌∙◌, subst, arith, Ok, Err}
use Rattle.std.specs.Prelude.{codes, max, not, Option, Some, None}
use Rattle.std.specs.List.{AllByRecursion}
use Rattle.std.specs.Option.{is_some}
use Rattle.std.proofs.lemmas.Bool.{false≢true, and_parts}
use Rattle.std.proofs.lemmas.Bool.Decides.{nat_tests}
use Rattle.bl_syntax.specs.declared.terms.Sort.{Sort}
use Rattle.bl_syntax.specs.declared.terms.Sort.TheVariants as sorts
use Rattle.bl_syntax.specs.declared.terms.Term.{Term}
use Rattle.bl_syntax.specs.declared.terms.Term.TheVariants.{Prin, File, Perm, Time, Text, Ctime, Param, Bound}
use Rattle.bl_syntax.specs.declared.terms.Constraint.{Constraint}
use Rattle.bl_syntax.specs.declared.terms.StatePred.{StatePred}
use Rattle.bl_syntax.specs.declared.terms.StatePred.TheVariants.{Owner, HasXattr, InDir}
use Rattle.bl_syntax.specs.Formula.{FormulaView, atom, compare, state, both, either, implies, truth, falsity, forall_, exists_, says, on}
use Rattle.bl_syntax.specs.Names.{is_principal_name, is_predicate_name, is_among, state_predicates}
use Rattle.bl_syntax.specs.Spelling.{IsSpellable}
use Rattle.bl_syntax.specs.FormulaSpelling.{AreNamed, IsSpellableStatement}
use Rattle.bl_syntax.specs.declared.terms.TimePoint.{TimePoint}
use Rattle.bl_syntax.specs.TimeOrder.{IsInRange}
use Rattle.bl_syntax.specs.Statement.{AllTerms, IsNotCtime, StatementView}
use Rattle.bl_syntax.specs.WellSorted.{HasSort, IsInScope, IsWellSorted, IsSortedState, terms_of_state, size, widest_atom}
use Rattle.bl_tokens.specs.declared.faults.TextFault.{TextFault}
use Rattle.bl_tokens.specs.declared.tokens.Sign.TheVariants as signs
use Rattle.bl_tokens.specs.declared.tokens.Keyword.{Keyword as Word'}
use Rattle.bl_tokens.specs.declared.tokens.Keyword.TheVariants as keywords
use Rattle.bl_tokens.specs.declared.tokens.Token.{Token}
use Rattle.bl_tokens.specs.declared.tokens.Token.TheVariants as tokens
use Rattle.bl_tokens.specs.declared.tokens.Cursor.{Cursor}
use Rattle.bl_tokens.specs.Tokens.{token_from, cursor_after, cursor_after_node, is_sign, is_word}
use Rattle.bl_text.specs.Scope.{Variable}
use Rattle.bl_text.specs.Pieces.{count, term_of, require_sayable, require_sort, time_argument, less_sign, comparison, constant_formula, simple_formula}
use Rattle.bl_text.specs.Grammar.{primary, is_quantifier, is_saying, is_call, one_simple}
use Rattle.bl_text.specs.Printed.{time_text, term_text, formula_text, span_text, statement_text}
use Rattle.bl_text.specs.PrintedTokens.{term_token}
use Rattle.bl_text.specs.RoundTrip.{IsNoParameter, NamesSpeakers, IsPrintable}
use Rattle.bl_text.specs.Texts.{beginning, is_end, IsFormulaText, whole, expect_word, time_constant, principal_name, opening, at_end, span, whole_saying, IsStatementText}
use Rattle.bl_text.proofs.WordLemmas.{word_lexed, name_lexed}
use Rattle.bl_text.proofs.PrintedTerms.{term_lexed}
use Rattle.bl_text.proofs.PlaceLemmas.{Stands, stands_behind, stands_at, space_skipped, token_stands}
use Rattle.bl_text.proofs.PrintedLemmas.{scope_of, IsPrintableTerm, term_read, sort_fits, Word, word, spaced_word, term_word, count_ok, sorted_ok, time_argument_ok, if_true}
use Rattle.bl_text.proofs.PrintedFormulas.{Ends, Reading, Reader, to_formula, both_read, either_read, implies_read}
use Rattle.bl_text.proofs.PrintedAtoms.{IsSpeakerToken, saying_at, forall_read, exists_read, says_read, on_read, atom_read, state_read}
use Rattle.bl_text.proofs.PieceLemmas.{up_to_sign, says_keyword}

-- ---- comparisons and constants

-- a constant or a variable, as its token
abbrev IsTimeToken : Token → Type 0
IsTimeToken (tokens.Constant c) = Unit {0}
IsTimeToken (tokens.Variable name) = Unit {0}
IsTimeToken _ = ⊥

never_sort : {A : Type 0} {a b : Sort} → (a ≡ b → ⊥) → ◌≡◌ {A = _} (Some a) (Some b) → A
never_sort {A} {a} {b} differ h = absurd (differ (let same : a ≡ b = cc in same))

time_token : (parameters binders : List Sort) (depth : ℕ) (t : Term) → HasSort parameters binders sorts.Time t → IsTimeToken (term_token depth t)
time_token parameters binders depth (Prin name) h = never_sort (λ same. principal_no_time same) h
  where
    principal_no_time : sorts.Principal ≡ sorts.Time → ⊥
    principal_no_time same = cc
time_token parameters binders depth (File number) h = tt
time_token parameters binders depth (Perm permission) h = tt
time_token parameters binders depth (Time point) h = tt
time_token parameters binders depth (Text constant) h = tt
time_token parameters binders depth Ctime h = tt
time_token parameters binders depth (Param n) h = tt
time_token parameters binders depth (Bound n) h = tt

simple_term : (text : List ℕ) (st : Bool) (scope : List Variable) (here : Cursor) (t : Token) → here.token ≡ t → IsTimeToken t → simple_formula text st scope here ≡ comparison text st scope here
unfolding simple_formula
simple_term text st scope here (tokens.Constant c) is h = rw is refl
simple_term text st scope here (tokens.Variable name) is h = rw is refl
simple_term text st scope here (tokens.Name name) is h = absurd h
simple_term text st scope here tokens.LongWord is h = absurd h
simple_term text st scope here tokens.BadDate is h = absurd h
simple_term text st scope here (tokens.SortName s) is h = absurd h
simple_term text st scope here (tokens.Keyword w) is h = absurd h
simple_term text st scope here (tokens.Sign s) is h = absurd h
simple_term text st scope here tokens.End is h = absurd h
simple_term text st scope here tokens.Bad is h = absurd h

term_no_open : (here : Cursor) (t : Token) → here.token ≡ t → IsTimeToken t → is_sign signs.Open here.token ≡ false
unfolding is_sign
term_no_open here (tokens.Constant c) is h = rw is refl
term_no_open here (tokens.Variable name) is h = rw is refl
term_no_open here (tokens.Name name) is h = absurd h
term_no_open here tokens.LongWord is h = absurd h
term_no_open here tokens.BadDate is h = absurd h
term_no_open here (tokens.SortName s) is h = absurd h
term_no_open here (tokens.Keyword w) is h = absurd h
term_no_open here (tokens.Sign s) is h = absurd h
term_no_open here tokens.End is h = absurd h
term_no_open here tokens.Bad is h = absurd h

term_no_call : (text : List ℕ) (here : Cursor) (t : Token) → here.token ≡ t → IsTimeToken t → is_call text here ≡ false
unfolding is_call
term_no_call text here (tokens.Constant c) is h = rw is refl
term_no_call text here (tokens.Variable name) is h = rw is refl
term_no_call text here (tokens.Name name) is h = absurd h
term_no_call text here tokens.LongWord is h = absurd h
term_no_call text here tokens.BadDate is h = absurd h
term_no_call text here (tokens.SortName s) is h = absurd h
term_no_call text here (tokens.Keyword w) is h = absurd h
term_no_call text here (tokens.Sign s) is h = absurd h
term_no_call text here tokens.End is h = absurd h
term_no_call text here tokens.Bad is h = absurd h

term_no_quantifier : (here : Cursor) (t : Token) → here.token ≡ t → IsTimeToken t → is_quantifier here.token ≡ false
unfolding is_word
term_no_quantifier here (tokens.Constant c) is h = rw is refl
term_no_quantifier here (tokens.Variable name) is h = rw is refl
term_no_quantifier here (tokens.Name name) is h = absurd h
term_no_quantifier here tokens.LongWord is h = absurd h
term_no_quantifier here tokens.BadDate is h = absurd h
term_no_quantifier here (tokens.SortName s) is h = absurd h
term_no_quantifier here (tokens.Keyword w) is h = absurd h
term_no_quantifier here (tokens.Sign s) is h = absurd h
term_no_quantifier here tokens.End is h = absurd h
term_no_quantifier here tokens.Bad is h = absurd h

term_no_saying : (text : List ℕ) (here : Cursor) (t : Token) → here.token ≡ t → IsTimeToken t → is_word keywords.Says (cursor_after_node text here).token ≡ false → is_saying text here ≡ false
term_no_saying text here (tokens.Constant c) is h no_says = saying_at text here (tokens.Constant c) false is no_says
term_no_saying text here (tokens.Variable name) is h no_says = saying_at text here (tokens.Variable name) false is no_says
term_no_saying text here (tokens.Name name) is h no_says = absurd h
term_no_saying text here tokens.LongWord is h no_says = absurd h
term_no_saying text here tokens.BadDate is h no_says = absurd h
term_no_saying text here (tokens.SortName s) is h no_says = absurd h
term_no_saying text here (tokens.Keyword w) is h no_says = absurd h
term_no_saying text here (tokens.Sign s) is h no_says = absurd h
term_no_saying text here tokens.End is h no_says = absurd h
term_no_saying text here tokens.Bad is h no_says = absurd h

up_to_no_says : is_word keywords.Says (tokens.Sign signs.UpTo) ≡ false
unfolding is_word
up_to_no_says = refl

less_ok : (here : Cursor) → is_sign signs.UpTo here.token ≡ true → less_sign here ≡ Ok tt
unfolding less_sign
less_ok here h = if_true (Ok tt) (Err (TextFault.Unexpected here.at)) h

comparison_ok : (text : List ℕ) (st : Bool) (scope : List Variable) (here : Cursor) (low high : Term) → term_of scope here ≡ Ok low → count here ≡ Ok tt → less_sign (cursor_after_node text here) ≡ Ok tt → require_sayable st here.at low ≡ Ok tt → require_sort scope sorts.Time here.at low ≡ Ok tt
    → count (cursor_after_node text here) ≡ Ok tt → time_argument st scope (cursor_after_node text (cursor_after_node text here)) ≡ Ok high → comparison text st scope here ≡ Ok (compare (record { low = low; high = high }), cursor_after_node text (cursor_after_node text (cursor_after_node text here)))
unfolding comparison
comparison_ok text st scope here low high term room less said sort next last = rw (term, room, less, said, sort, next, last) refl

pub compare_read : (st : Bool) (parameters binders : List Sort) (c : Constraint) → length binders ≤ 512 → IsPrintableTerm parameters binders st c.low → IsPrintableTerm parameters binders st c.high → HasSort parameters binders sorts.Time c.low → HasSort parameters binders sorts.Time c.high → Reader st binders (compare c)
compare_read st parameters binders c few pu pv su sv text depth from left rest deep nodes ends stands =
    let d = length binders in
    let tv = term_text d c.high ++ rest in
    let parts = append_assoc (term_text d c.low) (codes " <= " ++ term_text d c.high) rest ∙ ap (λ bs. term_text d c.low ++ bs) (append_assoc (codes " <= ") (term_text d c.high) rest) in
    let w = term_word left parameters binders st c.low (32 ∷ 60 ∷ 61 ∷ 32 ∷ tv) pu few (refl, refl) (stands_at refl parts stands) in
    let s = spaced_word (left - 1) (codes "<=") (32 ∷ tv) (tokens.Sign signs.UpTo) w.stands refl refl in
    let h = term_word (left - 1 - 1) parameters binders st c.high rest pv few ends.run (stands_behind (32 ∷ []) tv s.stands) in
    let here = token_from text from left in
    let sign_here = token_from text w.to (left - 1) in
    let last_here = token_from text (s.to + 1) (left - 1 - 1) in
    let second : cursor_after_node text (cursor_after_node text here) ≡ last_here = ap (cursor_after_node text) w.node ∙ s.node ∙ space_skipped (left - 1 - 1) s.stands in
    let place : cursor_after_node text (cursor_after_node text (cursor_after_node text here)) ≡ token_from text h.to (left - 1 - 1 - 1) = ap (cursor_after_node text) second ∙ h.node in
    let next_token : (cursor_after_node text here).token ≡ tokens.Sign signs.UpTo = ap (λ (p : Cursor). p.token) w.node ∙ s.token in
    let kind = time_token parameters binders d c.low su in
    let read : simple_formula text st (scope_of binders) here ≡ Ok (compare c, token_from text h.to (left - 1 - 1 - 1)) =
    simple_term text st (scope_of binders) here (term_token d c.low) w.token kind
    ∙ comparison_ok text st (scope_of binders) here c.low c.high (term_read parameters binders here c.low w.token pu.in_scope few) (count_ok here (let n = w.nodes in omega arith))
    (less_ok (cursor_after_node text here) (ap (is_sign signs.UpTo) next_token ∙ up_to_sign)) (pu.sayable here.at) (sorted_ok (scope_of binders) sorts.Time here.at c.low (sort_fits parameters binders sorts.Time c.low su))
    (ap count w.node ∙ count_ok sign_here (let n = s.nodes in omega arith))
    (ap (time_argument st (scope_of binders)) second ∙ time_argument_ok st (scope_of binders) last_here c.high (term_read parameters binders last_here c.high h.token pv.in_scope few) (pv.sayable last_here.at) (sort_fits parameters binders sorts.Time c.high sv) (let n = h.nodes in omega arith))
    ∙ ap (λ p. Ok (compare c, p)) place in
    let same : left - 1 - 1 - 1 ≡ left - 3 = omega arith in
    record {
      to = h.to;
      stands = h.stands;
      is = one_simple (scope_of binders) depth here (token_from text h.to (left - 3)) (compare c) (term_no_open here (term_token d c.low) w.token kind) (term_no_call text here (term_token d c.low) w.token kind)
          (read ∙ ap (λ n. Ok (compare c, token_from text h.to n)) same);
      plain = λ k. term_no_quantifier here (term_token d c.low) w.token kind;
      silent = λ k. term_no_saying text here (term_token d c.low) w.token kind (ap (is_word keywords.Says) next_token ∙ up_to_no_says);
    }

constant_ok : (text : List ℕ) (f : FormulaView) (here : Cursor) → count here ≡ Ok tt → constant_formula text f here ≡ Ok (f, cursor_after_node text here)
unfolding constant_formula
constant_ok text f here room = rw room refl

simple_truth : (text : List ℕ) (st : Bool) (scope : List Variable) (here : Cursor) → here.token ≡ tokens.Keyword keywords.True → simple_formula text st scope here ≡ constant_formula text truth here
unfolding simple_formula
simple_truth text st scope here is = rw is refl

simple_falsity : (text : List ℕ) (st : Bool) (scope : List Variable) (here : Cursor) → here.token ≡ tokens.Keyword keywords.False → simple_formula text st scope here ≡ constant_formula text falsity here
unfolding simple_formula
simple_falsity text st scope here is = rw is refl

keyword_no_open : (here : Cursor) (w : Word') → here.token ≡ tokens.Keyword w → is_sign signs.Open here.token ≡ false
unfolding is_sign
keyword_no_open here w is = rw is refl

keyword_no_call : (text : List ℕ) (here : Cursor) (w : Word') → here.token ≡ tokens.Keyword w → is_call text here ≡ false
unfolding is_call
keyword_no_call text here w is = rw is refl

keyword_no_saying : (text : List ℕ) (here : Cursor) (w : Word') → here.token ≡ tokens.Keyword w → is_saying text here ≡ false
unfolding is_saying
keyword_no_saying text here w is = rw is refl

true_no_quantifier : is_quantifier (tokens.Keyword keywords.True) ≡ false
unfolding is_word
true_no_quantifier = refl

false_no_quantifier : is_quantifier (tokens.Keyword keywords.False) ≡ false
unfolding is_word
false_no_quantifier = refl

constant_read : (st : Bool) (binders : List Sort) (f : FormulaView) (w : Word') → size f ≡ 1 → is_quantifier (tokens.Keyword w) ≡ false
    → ((text : List ℕ) (here : Cursor) → here.token ≡ tokens.Keyword w → simple_formula text st (scope_of binders) here ≡ constant_formula text f here) → (text : List ℕ) (depth from left : ℕ) (rest : List ℕ) → size f ≤ left
    → Word text (token_from text from left) left (tokens.Keyword w) rest → Reading text st primary (scope_of binders) depth (token_from text from left) left 5 f rest
constant_read st binders f w one_node no_quantifier reads text depth from left rest nodes found =
    let here = token_from text from left in
    let same : left - 1 ≡ left - size f = omega arith in
    record {
      to = found.to;
      stands = found.stands;
      is = one_simple (scope_of binders) depth here (token_from text found.to (left - size f)) f (keyword_no_open here w found.token) (keyword_no_call text here w found.token)
          (reads text here found.token ∙ constant_ok text f here (count_ok here (let n = found.nodes in omega arith)) ∙ ap (λ p. Ok (f, p)) (found.node ∙ ap (token_from text found.to) same));
      plain = λ k. ap is_quantifier found.token ∙ no_quantifier;
      silent = λ k. keyword_no_saying text here w found.token;
    }

truth_read : (st : Bool) (binders : List Sort) → Reader st binders truth
truth_read st binders text depth from left rest deep nodes ends stands =
    constant_read st binders truth keywords.True refl true_no_quantifier (λ t h is. simple_truth t st (scope_of binders) h is) text depth from left rest nodes
    (word left (codes "true") rest (tokens.Keyword keywords.True) stands (word_lexed 116 (114 ∷ 117 ∷ 101 ∷ []) rest refl refl ends.run) refl)

falsity_read : (st : Bool) (binders : List Sort) → Reader st binders falsity
falsity_read st binders text depth from left rest deep nodes ends stands =
    constant_read st binders falsity keywords.False refl false_no_quantifier (λ t h is. simple_falsity t st (scope_of binders) h is) text depth from left rest nodes
    (word left (codes "false") rest (tokens.Keyword keywords.False) stands (word_lexed 102 (97 ∷ 108 ∷ 115 ∷ 101 ∷ []) rest refl refl ends.run) refl)

-- ---- formulas

-- a term that has a spelling, and in a statement is not the current time
abbrev IsWritable : Bool → Term → Type 0
IsWritable st t = IsSpellable t × (st ≡ true → IsNotCtime t)

sayable_ok : (st : Bool) (parameters binders : List Sort) (t : Term) → (st ≡ true → parameters ≡ []) → (st ≡ true → IsNotCtime t) → IsInScope parameters binders t → (at : ℕ) → require_sayable st at t ≡ Ok tt
unfolding require_sayable
sayable_ok st parameters binders (Prin name) none now scoped at = refl
sayable_ok st parameters binders (File number) none now scoped at = refl
sayable_ok st parameters binders (Perm permission) none now scoped at = refl
sayable_ok st parameters binders (Time point) none now scoped at = refl
sayable_ok st parameters binders (Text constant) none now scoped at = refl
sayable_ok true parameters binders Ctime none now scoped at = absurd (now refl)
sayable_ok false parameters binders Ctime none now scoped at = refl
sayable_ok true parameters binders (Param n) none now scoped at = absurd (false≢true (subst (λ ps. IsInScope ps binders (Param n)) (none refl) scoped))
sayable_ok false parameters binders (Param n) none now scoped at = refl
sayable_ok st parameters binders (Bound n) none now scoped at = refl

printable : (st : Bool) (parameters binders : List Sort) (t : Term) → (st ≡ true → parameters ≡ []) → IsWritable st t → IsInScope parameters binders t → IsPrintableTerm parameters binders st t
printable st parameters binders t none w scoped = record { spellable = w.0; in_scope = scoped; sayable = sayable_ok st parameters binders t none w.1 scoped }

all_printable : (st : Bool) (parameters binders : List Sort) (terms : List Term) → (st ≡ true → parameters ≡ []) → AllByRecursion (IsWritable st) terms → AllByRecursion (IsInScope parameters binders) terms → AllByRecursion (IsPrintableTerm parameters binders st) terms
all_printable st parameters binders [] none all scoped = tt
all_printable st parameters binders (t ∷ terms) none all scoped = (printable st parameters binders t none all.0 scoped.0, all_printable st parameters binders terms none all.1 scoped.1)

sorted_scoped : (parameters binders : List Sort) (s : Sort) (t : Term) → HasSort parameters binders s t → IsInScope parameters binders t
sorted_scoped parameters binders s t h = ap is_some h

state_scoped : (parameters binders : List Sort) (s : StatePred) → IsSortedState parameters binders s → AllByRecursion (IsInScope parameters binders) (terms_of_state s)
state_scoped parameters binders (Owner a b) h = (sorted_scoped parameters binders sorts.File a h.0, (sorted_scoped parameters binders sorts.Principal b h.1, tt))
state_scoped parameters binders (HasXattr a b c) h = (sorted_scoped parameters binders sorts.File a h.0, (sorted_scoped parameters binders sorts.Text b h.1.0, (sorted_scoped parameters binders sorts.Text c h.1.1, tt)))
state_scoped parameters binders (InDir a b) h = (sorted_scoped parameters binders sorts.File a h.0, (sorted_scoped parameters binders sorts.File b h.1, tt))

few_left : (a b : ℕ) → max a b ≤ 8 → a ≤ 8
few_left a b h = grind (arith, nat_tests)

few_right : (a b : ℕ) → max a b ≤ 8 → b ≤ 8
few_right a b h = grind (arith, nat_tests)

speaker_token : (parameters binders : List Sort) (depth : ℕ) (k : Term) → HasSort parameters binders sorts.Principal k → IsNoParameter k → IsSpeakerToken (term_token depth k)
speaker_token parameters binders depth (Prin name) h p = tt
speaker_token parameters binders depth (Bound n) h p = tt
speaker_token parameters binders depth (Param n) h p = absurd p
speaker_token parameters binders depth (File number) h p = never_sort (λ (same : sorts.File ≡ sorts.Principal). cc) h
speaker_token parameters binders depth (Perm permission) h p = never_sort (λ (same : sorts.Perm ≡ sorts.Principal). cc) h
speaker_token parameters binders depth (Time point) h p = never_sort (λ (same : sorts.Time ≡ sorts.Principal). cc) h
speaker_token parameters binders depth (Text constant) h p = never_sort (λ (same : sorts.Text ≡ sorts.Principal). cc) h
speaker_token parameters binders depth Ctime h p = never_sort (λ (same : sorts.Time ≡ sorts.Principal). cc) h

principal_from_predicate : (name : List ℕ) → is_predicate_name name ≡ true → is_principal_name name ≡ true
principal_from_predicate name h = (and_parts (is_principal_name name) (not (is_among state_predicates name)) h).0

pub form_read : (st : Bool) (parameters : List Sort) (f : FormulaView) (binders : List Sort) → (st ≡ true → parameters ≡ []) → length binders + size f ≤ 512 → IsWellSorted parameters binders f → AllTerms (IsWritable st) f → AreNamed f → NamesSpeakers f → widest_atom f ≤ 8 → Reader st binders f
form_read st parameters (atom name terms) binders none few sorted_ written named speaks wide =
    atom_read st parameters binders name terms (omega arith) (principal_from_predicate name named) named (all_printable st parameters binders terms none written sorted_.in_scope) wide sorted_
form_read st parameters (compare c) binders none few sorted_ written named speaks wide =
    compare_read st parameters binders c (omega arith) (printable st parameters binders c.low none written.0 (sorted_scoped parameters binders sorts.Time c.low sorted_.0)) (printable st parameters binders c.high none written.1 (sorted_scoped parameters binders sorts.Time c.high sorted_.1)) sorted_.0 sorted_.1
form_read st parameters (state s) binders none few sorted_ written named speaks wide =
    state_read st parameters binders s (omega arith) (all_printable st parameters binders (terms_of_state s) none written (state_scoped parameters binders s sorted_)) sorted_
form_read st parameters (both a b) binders none few sorted_ written named speaks wide =
    both_read st binders a b (form_read st parameters a binders none (omega arith) sorted_.0 written.0 named.0 speaks.0 (few_left (widest_atom a) (widest_atom b) wide)) (form_read st parameters b binders none (omega arith) sorted_.1 written.1 named.1 speaks.1 (few_right (widest_atom a) (widest_atom b) wide))
form_read st parameters (either a b) binders none few sorted_ written named speaks wide =
    either_read st binders a b (form_read st parameters a binders none (omega arith) sorted_.0 written.0 named.0 speaks.0 (few_left (widest_atom a) (widest_atom b) wide)) (form_read st parameters b binders none (omega arith) sorted_.1 written.1 named.1 speaks.1 (few_right (widest_atom a) (widest_atom b) wide))
form_read st parameters (implies a b) binders none few sorted_ written named speaks wide =
    implies_read st binders a b (form_read st parameters a binders none (omega arith) sorted_.0 written.0 named.0 speaks.0 (few_left (widest_atom a) (widest_atom b) wide)) (form_read st parameters b binders none (omega arith) sorted_.1 written.1 named.1 speaks.1 (few_right (widest_atom a) (widest_atom b) wide))
form_read st parameters truth binders none few sorted_ written named speaks wide = truth_read st binders
form_read st parameters falsity binders none few sorted_ written named speaks wide = falsity_read st binders
form_read st parameters (forall_ s a) binders none few sorted_ written named speaks wide = forall_read st binders s a (omega arith) (form_read st parameters a (s ∷ binders) none (omega arith) sorted_ written named speaks wide)
form_read st parameters (exists_ s a) binders none few sorted_ written named speaks wide = exists_read st binders s a (omega arith) (form_read st parameters a (s ∷ binders) none (omega arith) sorted_ written named speaks wide)
form_read st parameters (says k a) binders none few sorted_ written named speaks wide =
    says_read st parameters binders k a (omega arith) (printable st parameters binders k none written.0 (sorted_scoped parameters binders sorts.Principal k sorted_.0)) sorted_.0 (speaker_token parameters binders (length binders) k sorted_.0 speaks.0)
    (form_read st parameters a binders none (omega arith) sorted_.1 written.1 named speaks.1 wide)
form_read st parameters (on a u v) binders none few sorted_ written named speaks wide =
    on_read st parameters binders a u v (omega arith) (printable st parameters binders u none written.1.0 (sorted_scoped parameters binders sorts.Time u sorted_.1.0)) (printable st parameters binders v none written.1.1 (sorted_scoped parameters binders sorts.Time v sorted_.1.1)) sorted_.1.0 sorted_.1.1
    (form_read st parameters a binders none (omega arith) sorted_.0 written.0 named speaks wide)

-- ---- whole texts

pub end_ends : Ends []
unfolding is_word is_sign
end_ends = record {
  run = tt;
  t = tokens.End;
  token = λ text from left stands. ap (λ (h : Cursor). h.token) (token_stands left stands refl refl);
  no_says = refl;
  no_open = refl;
  no_up_to = refl;
}

end_here : {text : List ℕ} {from : ℕ} (left : ℕ) → Stands text from [] → is_end (token_from text from left).token ≡ true
end_here left stands = ap (λ (h : Cursor). is_end h.token) (token_stands left stands refl refl)

all_terms_as : (P Q : Term → Type 0) (f : FormulaView) → ((t : Term) → P t → Q t) → AllTerms P f → AllTerms Q f
all_terms_as P Q (atom name terms) g h = all_as terms h
  where
    all_as : (ts : List Term) → AllByRecursion P ts → AllByRecursion Q ts
    all_as [] all = tt
    all_as (t ∷ ts) all = (g t all.0, all_as ts all.1)
all_terms_as P Q (compare c) g h = (g c.low h.0, g c.high h.1)
all_terms_as P Q (state (Owner a b)) g h = (g a h.0, (g b h.1.0, tt))
all_terms_as P Q (state (HasXattr a b c)) g h = (g a h.0, (g b h.1.0, (g c h.1.1.0, tt)))
all_terms_as P Q (state (InDir a b)) g h = (g a h.0, (g b h.1.0, tt))
all_terms_as P Q (both a b) g h = (all_terms_as P Q a g h.0, all_terms_as P Q b g h.1)
all_terms_as P Q (either a b) g h = (all_terms_as P Q a g h.0, all_terms_as P Q b g h.1)
all_terms_as P Q (implies a b) g h = (all_terms_as P Q a g h.0, all_terms_as P Q b g h.1)
all_terms_as P Q truth g h = tt
all_terms_as P Q falsity g h = tt
all_terms_as P Q (forall_ s a) g h = all_terms_as P Q a g h
all_terms_as P Q (exists_ s a) g h = all_terms_as P Q a g h
all_terms_as P Q (says k a) g h = (g k h.0, all_terms_as P Q a g h.1)
all_terms_as P Q (on a u v) g h = (all_terms_as P Q a g h.0, (g u h.1.0, g v h.1.1))

pub printed_formula : (parameters : List Sort) (f : FormulaView) → IsPrintable parameters f → IsFormulaText (formula_text 0 f) f
printed_formula parameters f h =
    let text = formula_text 0 f in
    let limits = h.formula.within_limits in
    let r = form_read false parameters f [] (λ is. absurd (false≢true is)) (let n = limits.nodes in omega arith) h.formula.well_sorted (all_terms_as IsSpellable (IsWritable false) f (λ t s. (s, λ is. absurd (false≢true is))) h.spellable.terms)
    h.spellable.names h.speakers limits.arguments text 0 0 512 [] (let n = limits.nodes in omega arith) limits.nodes end_ends (record { is = sym (append-nil text) }) in
    whole (token_from text r.to (512 - size f)) (to_formula f r.plain r.silent r.is) (end_here (512 - size f) r.stands)

-- ---- statements

speakers_closed : (binders : List Sort) (f : FormulaView) → IsWellSorted [] binders f → NamesSpeakers f
speakers_closed binders (atom name terms) h = tt
speakers_closed binders (compare c) h = tt
speakers_closed binders (state s) h = tt
speakers_closed binders (both a b) h = (speakers_closed binders a h.0, speakers_closed binders b h.1)
speakers_closed binders (either a b) h = (speakers_closed binders a h.0, speakers_closed binders b h.1)
speakers_closed binders (implies a b) h = (speakers_closed binders a h.0, speakers_closed binders b h.1)
speakers_closed binders truth h = tt
speakers_closed binders falsity h = tt
speakers_closed binders (forall_ s a) h = speakers_closed (s ∷ binders) a h
speakers_closed binders (exists_ s a) h = speakers_closed (s ∷ binders) a h
speakers_closed binders (says k a) h = (no_parameter k h.0, speakers_closed binders a h.1)
  where
    no_parameter : (t : Term) → HasSort [] binders sorts.Principal t → IsNoParameter t
    no_parameter (Prin name) s = tt
    no_parameter (File number) s = tt
    no_parameter (Perm permission) s = tt
    no_parameter (Time point) s = tt
    no_parameter (Text constant) s = tt
    no_parameter Ctime s = tt
    no_parameter (Bound n) s = tt
    no_parameter (Param n) s = absurd (let never : ◌≡◌ {A = Option Sort} None (Some sorts.Principal) = s in cc)
speakers_closed binders (on a u v) h = speakers_closed binders a h.0

both_terms : (P Q : Term → Type 0) (f : FormulaView) → AllTerms P f → AllTerms Q f → AllTerms (λ t. P t × Q t) f
both_terms P Q (atom name terms) h k = both_all terms h k
  where
    both_all : (ts : List Term) → AllByRecursion P ts → AllByRecursion Q ts → AllByRecursion (λ t. P t × Q t) ts
    both_all [] all more = tt
    both_all (t ∷ ts) all more = ((all.0, more.0), both_all ts all.1 more.1)
both_terms P Q (compare c) h k = ((h.0, k.0), (h.1, k.1))
both_terms P Q (state (Owner a b)) h k = ((h.0, k.0), ((h.1.0, k.1.0), tt))
both_terms P Q (state (HasXattr a b c)) h k = ((h.0, k.0), ((h.1.0, k.1.0), ((h.1.1.0, k.1.1.0), tt)))
both_terms P Q (state (InDir a b)) h k = ((h.0, k.0), ((h.1.0, k.1.0), tt))
both_terms P Q (both a b) h k = (both_terms P Q a h.0 k.0, both_terms P Q b h.1 k.1)
both_terms P Q (either a b) h k = (both_terms P Q a h.0 k.0, both_terms P Q b h.1 k.1)
both_terms P Q (implies a b) h k = (both_terms P Q a h.0 k.0, both_terms P Q b h.1 k.1)
both_terms P Q truth h k = tt
both_terms P Q falsity h k = tt
both_terms P Q (forall_ s a) h k = both_terms P Q a h k
both_terms P Q (exists_ s a) h k = both_terms P Q a h k
both_terms P Q (says t a) h k = ((h.0, k.0), both_terms P Q a h.1 k.1)
both_terms P Q (on a u v) h k = (both_terms P Q a h.0 k.0, ((h.1.0, k.1.0), (h.1.1, k.1.1)))

-- a word of the grammar after a space
word_expected_ok : (text : List ℕ) (w : Word') (here : Cursor) → is_word w here.token ≡ true → expect_word text w here ≡ Ok (cursor_after text here)
unfolding expect_word
word_expected_ok text w here h = if_true (Ok (cursor_after text here)) (Err (TextFault.Unexpected here.at)) h

name_ok : (here : Cursor) (name : List ℕ) → here.token ≡ tokens.Name name → principal_name here ≡ Ok name
unfolding principal_name
name_ok here name is = rw is refl

time_ok : (here : Cursor) (point : TimePoint) → here.token ≡ tokens.Constant (Time point) → time_constant here ≡ Ok point
unfolding time_constant
time_ok here point is = rw is refl

ended_ok : (here : Cursor) → is_end here.token ≡ true → at_end here ≡ Ok tt
unfolding at_end
ended_ok here h = if_true (Ok tt) (Err (TextFault.Unexpected here.at)) h

opening_ok : (text : List ℕ) (here place : Cursor) (who : List ℕ) → principal_name here ≡ Ok who → expect_word text keywords.Says (cursor_after text here) ≡ Ok place → opening text here ≡ Ok (who, place)
unfolding opening
opening_ok text here place who name word_ = rw (name, word_) refl

span_ok : (text : List ℕ) (here first second : Cursor) (from to : TimePoint) → expect_word text keywords.From here ≡ Ok first → time_constant first ≡ Ok from → expect_word text keywords.To (cursor_after text first) ≡ Ok second → time_constant second ≡ Ok to
    → at_end (cursor_after text second) ≡ Ok tt → span text here ≡ Ok (from, to)
unfolding span
span_ok text here first second from to a b c d e = rw (a, b, c, d, e) refl

from_ends : (rest : List ℕ) → Ends (32 ∷ 102 ∷ 114 ∷ 111 ∷ 109 ∷ 32 ∷ rest)
unfolding is_word is_sign
from_ends rest = record {
  run = (refl, refl);
  t = tokens.Keyword keywords.From;
  token = λ text from left stands. (spaced_word left (codes "from") (32 ∷ rest) (tokens.Keyword keywords.From) stands refl refl).token;
  no_says = refl;
  no_open = refl;
  no_up_to = refl;
}

from_is : is_word keywords.From (tokens.Keyword keywords.From) ≡ true
unfolding is_word
from_is = refl

to_is : is_word keywords.To (tokens.Keyword keywords.To) ≡ true
unfolding is_word
to_is = refl

-- the times after a statement's formula
span_read : (text : List ℕ) (at left : ℕ) (from to : TimePoint) → IsInRange from → IsInRange to → Stands text at (codes " from " ++ (time_text from ++ (codes " to " ++ time_text to))) → span text (token_from text at left) ≡ Ok (from, to)
span_read text at left from to fits_from fits_to stands =
    let tt' = time_text to in
    let behind_from = codes " to " ++ tt' in
    let f = spaced_word left (codes "from") (32 ∷ (time_text from ++ behind_from)) (tokens.Keyword keywords.From) stands refl refl in
    let a = word left (time_text from) behind_from (tokens.Constant (Time from)) (stands_behind (32 ∷ []) (time_text from ++ behind_from) f.stands) (term_lexed 0 (Time from) behind_from fits_from tt (refl, refl)) refl in
    let t = spaced_word left (codes "to") (32 ∷ tt') (tokens.Keyword keywords.To) a.stands refl refl in
    let whole_to : Stands text (t.to + 1) (tt' ++ []) = stands_at refl (sym (append-nil tt')) (stands_behind (32 ∷ []) tt' t.stands) in
    let b = word left tt' [] (tokens.Constant (Time to)) whole_to (term_lexed 0 (Time to) [] fits_to tt tt) refl in
    let here = token_from text at left in
    let first = token_from text (f.to + 1) left in
    let second = token_from text (t.to + 1) left in
    span_ok text here first second from to
    (word_expected_ok text keywords.From here (ap (is_word keywords.From) f.token ∙ from_is) ∙ ap Ok (f.next ∙ space_skipped left f.stands))
    (time_ok first from a.token)
    (ap (expect_word text keywords.To) a.next ∙ word_expected_ok text keywords.To (token_from text a.to left) (ap (is_word keywords.To) t.token ∙ to_is) ∙ ap Ok (t.next ∙ space_skipped left t.stands))
    (time_ok second to b.token)
    (ap at_end b.next ∙ ended_ok (token_from text b.to left) (end_here left b.stands))

pub printed_statement : (s : StatementView) → IsSpellableStatement s → IsStatementText (statement_text s) s
printed_statement s h =
    let text = statement_text s in
    let body = formula_text 0 s.body in
    let times = span_text s.from s.to in
    let st = h.statement in
    let limits = st.body_is_formula.within_limits in
    let beginning_stands : Stands text 0 (s.who ++ (32 ∷ 115 ∷ 97 ∷ 121 ∷ 115 ∷ 32 ∷ (body ++ times))) = record { is = refl } in
    let name = word 512 s.who (32 ∷ 115 ∷ 97 ∷ 121 ∷ 115 ∷ 32 ∷ (body ++ times)) (tokens.Name s.who) beginning_stands (name_lexed s.who _ h.who (refl, refl)) refl in
    let says_ = spaced_word 512 (codes "says") (32 ∷ (body ++ times)) (tokens.Keyword keywords.Says) name.stands refl refl in
    let here = token_from text (says_.to + 1) 512 in
    let opened : opening text (beginning text) ≡ Ok (s.who, here) =
    opening_ok text (beginning text) here s.who (name_ok (beginning text) s.who name.token)
    (ap (expect_word text keywords.Says) name.next ∙ word_expected_ok text keywords.Says (token_from text name.to 512) (ap (is_word keywords.Says) says_.token ∙ says_keyword) ∙ ap Ok (says_.next ∙ space_skipped 512 says_.stands)) in
    let terms = both_terms IsSpellable IsNotCtime s.body h.body.terms st.no_ctime in
    let r = form_read true [] s.body [] (λ is. refl) (let n = limits.nodes in omega arith) st.body_is_formula.well_sorted (all_terms_as (λ t. IsSpellable t × IsNotCtime t) (IsWritable true) s.body (λ t w. (w.0, λ is. w.1)) terms)
    h.body.names (speakers_closed [] s.body st.body_is_formula.well_sorted) limits.arguments text 0 (says_.to + 1) 512 times (let n = limits.nodes in omega arith) limits.nodes (from_ends _)
    (stands_behind (32 ∷ []) (body ++ times) says_.stands) in
    record {
      is_text = whole_saying s.who here (token_from text r.to (512 - size s.body)) s.body s.from s.to opened (to_formula s.body r.plain r.silent r.is) (span_read text r.to (512 - size s.body) s.from s.to st.from_in_range st.to_in_range r.stands);
      is_statement = st;
    }
