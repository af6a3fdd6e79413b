-- A statement that a text writes has a spelling: what stands in the text of its formula is in the grammar, and the formula is closed and within the limits.
use Rattle.std.proofs.Common.{◌≡◌, ℕ, ◌-◌, ◌≤◌, Bool, true, false, List, [], ◌∷◌, length, refl, sym, ◌∙◌, subst, arith, Result, Ok, Err, ◌⊎◌, inl, inr}
use Rattle.std.specs.Prelude.{not, nat_le, ◌&&◌, codes, IsTrue, Option, Some, None, if◌then◌else◌}
use Rattle.std.specs.List.{AllByRecursion}
use Rattle.std.specs.Str.{bytes_eq}
use Rattle.bl_syntax.specs.declared.terms.Sort.{Sort}
use Rattle.bl_syntax.specs.declared.terms.Sort.TheVariants as sorts
use Rattle.bl_syntax.specs.declared.terms.Term.{Term}
use Rattle.bl_syntax.specs.declared.terms.Term.TheVariants.{Prin}
use Rattle.bl_syntax.specs.declared.terms.StatePred.TheVariants.{Owner, HasXattr, InDir}
use Rattle.bl_syntax.specs.Formula.{FormulaView, atom, state, truth, falsity}
use Rattle.bl_syntax.specs.FormulaSpelling.{AreNamed, IsSpellableStatement}
use Rattle.bl_syntax.specs.Names.{is_principal_name, is_predicate_name}
use Rattle.bl_syntax.specs.Statement.{AllTerms, StatementView, IsStatement}
use Rattle.bl_syntax.specs.WellSorted.{may, size}
use Rattle.bl_tokens.specs.declared.faults.TextFault.{TextFault}
use Rattle.bl_tokens.specs.declared.faults.TextFault.TheVariants as faults
use Rattle.bl_tokens.specs.declared.tokens.Sign.TheVariants as signs
use Rattle.bl_tokens.specs.declared.tokens.Keyword.TheVariants as keywords
use Rattle.bl_tokens.specs.declared.tokens.Token.{Token}
use Rattle.bl_tokens.specs.declared.tokens.Token.TheVariants.{Name, LongWord, Constant, BadDate, SortName, Keyword, End, Bad}
use Rattle.bl_tokens.specs.declared.tokens.Token.TheVariants as tokens
use Rattle.bl_tokens.specs.declared.tokens.Cursor.{Cursor}
use Rattle.bl_tokens.specs.Tokens.{cursor_after, cursor_after_node, is_sign}
use Rattle.bl_text.specs.Scope.{Variable, place_of, is_of_wanted_sort}
use Rattle.bl_text.specs.Pieces.{count, expect_sign, term_of, require_sayable, require_sort, argument, next_argument, time_argument, interval, variable_name, sort_at, binder, speaker, less_sign, comparison, are_may_arguments, apply_atom, apply_owner, apply_attribute, apply_directory, apply_state, apply_predicate, bare_predicate, named_time, name_alone, constant_formula, simple_by, simple_formula}
use Rattle.bl_text.specs.Grammar.{Level, AreArguments, one, further, IsCall, call, Is, for_every, for_some, implication, one_disjunction, or_further, one_conjunction, and_further, one_unary, saying, one_postfix, on_interval, one_primary, group, called, one_simple}
use Rattle.bl_text.specs.Texts.{beginning, expect_word, principal_name, opening, IsSayingText, whole_saying, IsStatementText}
use Rattle.bl_syntax.proofs.GrantLemmas.{AllByRecursion-push}
use Rattle.bl_text.proofs.PieceLemmas.{bind_ok, expected_ok}
use Rattle.bl_text.proofs.IsStatementLemmas.{ok_same, if_ok, refused, unread_speaker, name_term, at_place, variable_term, named_time_never, opening_place}
use Rattle.text_laws.proofs.TokenLemmas.{IsInGrammar, IsTokenInGrammar, token_fits}
use Rattle.text_laws.proofs.ClosedLemmas.{formula_spellable}

-- ---- what a test let through

unless_ok : {A : Type 0} (b : Bool) (x : Result A TextFault) (e : TextFault) (a : A) → (if b then Err e else x) ≡ Ok a → (b ≡ false) × (x ≡ Ok a)
unless_ok true x e a h = absurd (refused h)
unless_ok false x e a h = (refl, h)

chosen_ok : {A : Type 0} (b : Bool) (x y : Result A TextFault) (a : A) → (if b then x else y) ≡ Ok a → ((b ≡ true) × (x ≡ Ok a)) ⊎ ((b ≡ false) × (y ≡ Ok a))
chosen_ok true x y a h = inl (refl, h)
chosen_ok false x y a h = inr (refl, h)

behind_fits : (text : List ℕ) (here : Cursor) → IsTokenInGrammar (cursor_after text here).token
unfolding cursor_after
behind_fits text here = token_fits text here.end here.left

node_fits : (text : List ℕ) (here : Cursor) → IsTokenInGrammar (cursor_after_node text here).token
unfolding cursor_after_node
node_fits text here = token_fits text here.end (here.left - 1)

-- the token after a sign
sign_fits : (text : List ℕ) (here there : Cursor) → there ≡ cursor_after text here → IsTokenInGrammar there.token
sign_fits text here there same = subst (λ (p : Cursor). IsTokenInGrammar p.token) (sym same) (behind_fits text here)

-- ---- terms

constant_term : (scope : List Variable) (here : Cursor) (c : Term) → here.token ≡ Constant c → term_of scope here ≡ Ok c
unfolding term_of
constant_term scope here c is = rw is

by_place : (at : ℕ) (o : Option ℕ) (t : Term) → at_place at o ≡ Ok t → IsInGrammar t
by_place at None t h = absurd (refused h)
by_place at (Some inner) t h = subst IsInGrammar (ok_same h) tt

term_by : (scope : List Variable) (here : Cursor) (t : Term) (token : Token) → here.token ≡ token → IsTokenInGrammar token → term_of scope here ≡ Ok t → IsInGrammar t
term_by scope here t (Name name) is fits h = let found : Prin name ≡ t = ok_same (sym (name_term scope here name is) ∙ h) in subst IsInGrammar found fits
term_by scope here t (Constant c) is fits h = let found : c ≡ t = ok_same (sym (constant_term scope here c is) ∙ h) in subst IsInGrammar found fits
term_by scope here t (tokens.Variable name) is fits h = by_place here.at (place_of scope name) t (sym (variable_term scope here name is) ∙ h)
term_by scope here t LongWord is fits h = absurd (unread_speaker scope here t LongWord is refl h)
term_by scope here t BadDate is fits h = absurd (unread_speaker scope here t BadDate is refl h)
term_by scope here t (SortName s) is fits h = absurd (unread_speaker scope here t (SortName s) is refl h)
term_by scope here t (Keyword word) is fits h = absurd (unread_speaker scope here t (Keyword word) is refl h)
term_by scope here t (tokens.Sign sign) is fits h = absurd (unread_speaker scope here t (tokens.Sign sign) is refl h)
term_by scope here t End is fits h = absurd (unread_speaker scope here t End is refl h)
term_by scope here t Bad is fits h = absurd (unread_speaker scope here t Bad is refl h)

term_written : (scope : List Variable) (here : Cursor) (t : Term) → IsTokenInGrammar here.token → term_of scope here ≡ Ok t → IsInGrammar t
term_written scope here t fits h = term_by scope here t here.token refl fits h

argument_written : (st : Bool) (scope : List Variable) (here : Cursor) (t : Term) → IsTokenInGrammar here.token → argument st scope here ≡ Ok t → IsInGrammar t
unfolding argument
argument_written st scope here t fits h =
    let term = bind_ok (term_of scope here) _ t h in
    let said = bind_ok (require_sayable st here.at term.0) _ t term.1.1 in
    let room = bind_ok (count here) _ t said.1.1 in
    subst IsInGrammar (ok_same room.1.1) (term_written scope here term.0 fits term.1.0)

time_argument_written : (st : Bool) (scope : List Variable) (here : Cursor) (t : Term) → IsTokenInGrammar here.token → time_argument st scope here ≡ Ok t → IsInGrammar t
unfolding time_argument
time_argument_written st scope here t fits h =
    let term = bind_ok (term_of scope here) _ t h in
    let said = bind_ok (require_sayable st here.at term.0) _ t term.1.1 in
    let time = bind_ok (require_sort scope sorts.Time here.at term.0) _ t said.1.1 in
    let room = bind_ok (count here) _ t time.1.1 in
    subst IsInGrammar (ok_same room.1.1) (term_written scope here term.0 fits term.1.0)

next_argument_written : (st : Bool) (scope : List Variable) (is_atom : Bool) (others : ℕ) (here : Cursor) (t : Term) → IsTokenInGrammar here.token → next_argument st scope is_atom others here ≡ Ok t → IsInGrammar t
unfolding next_argument
next_argument_written st scope is_atom others here t fits h =
    let term = bind_ok (argument st scope here) _ t h in
    let few = unless_ok (is_atom && nat_le 8 others) (Ok term.0) (faults.TooLarge here.at) t term.1.1 in
    subst IsInGrammar (ok_same few.1) (argument_written st scope here term.0 fits term.1.0)

record AreWritten (there : Cursor) (terms : List Term) : Type 0 where
  pub next : IsTokenInGrammar there.token
  pub all : AllByRecursion IsInGrammar terms

arguments_written : {text : List ℕ} {st : Bool} {scope : List Variable} {is_atom : Bool} {here there : Cursor} {terms : List Term} → AreArguments text st scope is_atom here there terms → IsTokenInGrammar here.token → AreWritten there terms
arguments_written {text} {st} {scope} {is_atom} {here} (one t h) fits = record { next = node_fits text here; all = (argument_written st scope here t fits h, tt) }
arguments_written {text} {st} {scope} {is_atom} {here} (further mid place terms t args comma h) fits =
    let others = arguments_written args fits in
    let found = expected_ok text signs.Comma mid place comma in
    record { next = node_fits text place; all = AllByRecursion-push IsInGrammar terms t others.all (next_argument_written st scope is_atom (length terms) place t (sign_fits text mid place found.1) h) }

-- ---- predicates

-- what is written of the formula is in the grammar
record IsWritten (f : FormulaView) : Type 0 where
  pub named : AreNamed f
  pub terms : AllTerms IsInGrammar f

atom_written : (scope : List Variable) (at : ℕ) (name : List ℕ) (terms : List Term) (f : FormulaView) → IsTrue (is_predicate_name name) → AllByRecursion IsInGrammar terms → apply_atom scope at name terms ≡ Ok f → IsWritten f
unfolding apply_atom
atom_written scope at name terms f named all h =
    let found = unless_ok (bytes_eq name may && not (are_may_arguments scope terms)) (Ok (atom name terms)) (faults.Sort at) f h in
    subst IsWritten (ok_same found.1) (record { named = named; terms = all })

owner_written : (scope : List Variable) (at : ℕ) (terms : List Term) (f : FormulaView) → AllByRecursion IsInGrammar terms → apply_owner scope at terms ≡ Ok f → IsWritten f
unfolding apply_owner
owner_written scope at [] f all h = absurd (refused h)
owner_written scope at (a ∷ []) f all h = absurd (refused h)
owner_written scope at (a ∷ b ∷ []) f all h =
    let found = if_ok (is_of_wanted_sort scope sorts.File a && is_of_wanted_sort scope sorts.Principal b) (Ok (state (Owner a b))) (faults.Sort at) f h in
    subst IsWritten (ok_same found.1) (record { named = tt; terms = all })
owner_written scope at (a ∷ b ∷ c ∷ more) f all h = absurd (refused h)

attribute_written : (scope : List Variable) (at : ℕ) (terms : List Term) (f : FormulaView) → AllByRecursion IsInGrammar terms → apply_attribute scope at terms ≡ Ok f → IsWritten f
unfolding apply_attribute
attribute_written scope at [] f all h = absurd (refused h)
attribute_written scope at (a ∷ []) f all h = absurd (refused h)
attribute_written scope at (a ∷ b ∷ []) f all h = absurd (refused h)
attribute_written scope at (a ∷ b ∷ c ∷ []) f all h =
    let found = if_ok (is_of_wanted_sort scope sorts.File a && is_of_wanted_sort scope sorts.Text b && is_of_wanted_sort scope sorts.Text c) (Ok (state (HasXattr a b c))) (faults.Sort at) f h in
    subst IsWritten (ok_same found.1) (record { named = tt; terms = all })
attribute_written scope at (a ∷ b ∷ c ∷ d ∷ more) f all h = absurd (refused h)

directory_written : (scope : List Variable) (at : ℕ) (terms : List Term) (f : FormulaView) → AllByRecursion IsInGrammar terms → apply_directory scope at terms ≡ Ok f → IsWritten f
unfolding apply_directory
directory_written scope at [] f all h = absurd (refused h)
directory_written scope at (a ∷ []) f all h = absurd (refused h)
directory_written scope at (a ∷ b ∷ []) f all h =
    let found = if_ok (is_of_wanted_sort scope sorts.File a && is_of_wanted_sort scope sorts.File b) (Ok (state (InDir a b))) (faults.Sort at) f h in
    subst IsWritten (ok_same found.1) (record { named = tt; terms = all })
directory_written scope at (a ∷ b ∷ c ∷ more) f all h = absurd (refused h)

state_written : (scope : List Variable) (at : ℕ) (name : List ℕ) (terms : List Term) (f : FormulaView) → AllByRecursion IsInGrammar terms → apply_state scope at name terms ≡ Ok f → IsWritten f
unfolding apply_state
state_written scope at name terms f all h = elim (chosen_ok (bytes_eq name (codes "owner")) (apply_owner scope at terms) _ f h) [
  | inl is ↦ owner_written scope at terms f all is.1
  | inr other ↦ elim (chosen_ok (bytes_eq name (codes "has_xattr")) (apply_attribute scope at terms) (apply_directory scope at terms) f other.1) [
    | inl is ↦ attribute_written scope at terms f all is.1
    | inr last ↦ directory_written scope at terms f all last.1
  ]
]

applied_written : (scope : List Variable) (at : ℕ) (name : List ℕ) (terms : List Term) (f : FormulaView) → AllByRecursion IsInGrammar terms → apply_predicate scope at name terms ≡ Ok f → IsWritten f
unfolding apply_predicate
applied_written scope at name terms f all h = elim (chosen_ok (is_predicate_name name) (apply_atom scope at name terms) (apply_state scope at name terms) f h) [
  | inl is ↦ atom_written scope at name terms f is.0 all is.1
  | inr other ↦ state_written scope at name terms f all other.1
]

-- ---- simple formulas

-- what was read up to a place is in the grammar, and so is the token there
record ReadsWritten (there : Cursor) (f : FormulaView) : Type 0 where
  pub next : IsTokenInGrammar there.token
  pub formula : IsWritten f

-- what is read up to a place is what was found up to it
written_as : {there there' : Cursor} {f f' : FormulaView} → ◌≡◌ {A = Result (FormulaView × Cursor) TextFault} (Ok (f, there)) (Ok (f', there')) → ReadsWritten there f → ReadsWritten there' f'
written_as {there} {there'} {f} {f'} same h = subst (λ (p : FormulaView × Cursor). ReadsWritten p.1 p.0) (ok_same same) h

call_written : {text : List ℕ} {st : Bool} {scope : List Variable} {here there : Cursor} {f : FormulaView} → IsCall text st scope here there f → ReadsWritten there f
call_written {text} {st} {scope} {here} (call name mid there terms f is room args close applied) =
    let all = arguments_written args (behind_fits text (cursor_after_node text here)) in
    let found = expected_ok text signs.Close mid there close in
    record { next = sign_fits text mid there found.1; formula = applied_written scope here.at name terms f all.all applied }

comparison_written : (text : List ℕ) (st : Bool) (scope : List Variable) (here there : Cursor) (f : FormulaView) → IsTokenInGrammar here.token → comparison text st scope here ≡ Ok (f, there) → ReadsWritten there f
unfolding comparison
comparison_written text st scope here there f fits h =
    let low = bind_ok (term_of scope here) _ (f, there) h in
    let room = bind_ok (count here) _ (f, there) low.1.1 in
    let less = bind_ok (less_sign (cursor_after_node text here)) _ (f, there) room.1.1 in
    let said = bind_ok (require_sayable st here.at low.0) _ (f, there) less.1.1 in
    let time = bind_ok (require_sort scope sorts.Time here.at low.0) _ (f, there) said.1.1 in
    let next = bind_ok (count (cursor_after_node text here)) _ (f, there) time.1.1 in
    let high = bind_ok (time_argument st scope (cursor_after_node text (cursor_after_node text here))) _ (f, there) next.1.1 in
    let first = term_written scope here low.0 fits low.1.0 in
    let second = time_argument_written st scope (cursor_after_node text (cursor_after_node text here)) high.0 (node_fits text (cursor_after_node text here)) high.1.0 in
    written_as high.1.1 (record { next = node_fits text (cursor_after_node text (cursor_after_node text here)); formula = record { named = tt; terms = (first, second) } })

bare_written : (text : List ℕ) (scope : List Variable) (name : List ℕ) (here there : Cursor) (f : FormulaView) → bare_predicate text scope name here ≡ Ok (f, there) → ReadsWritten there f
unfolding bare_predicate
bare_written text scope name here there f h =
    let form = bind_ok (apply_predicate scope here.at name []) _ (f, there) h in
    let room = bind_ok (count here) _ (f, there) form.1.1 in
    written_as room.1.1 (record { next = node_fits text here; formula = applied_written scope here.at name [] form.0 tt form.1.0 })

name_written : (text : List ℕ) (scope : List Variable) (name : List ℕ) (here there : Cursor) (f : FormulaView) → name_alone text scope name here ≡ Ok (f, there) → ReadsWritten there f
unfolding name_alone
name_written text scope name here there f h = elim (chosen_ok (is_sign signs.UpTo (cursor_after_node text here).token) (named_time here) (bare_predicate text scope name here) (f, there) h) [
  | inl is ↦ absurd (named_time_never here there f is.1)
  | inr other ↦ bare_written text scope name here there f other.1
]

constant_written : (text : List ℕ) (constant : FormulaView) (here there : Cursor) (f : FormulaView) → IsWritten constant → constant_formula text constant here ≡ Ok (f, there) → ReadsWritten there f
unfolding constant_formula
constant_written text constant here there f fits h =
    let room = bind_ok (count here) _ (f, there) h in
    written_as room.1.1 (record { next = node_fits text here; formula = fits })

simple_written_by : (text : List ℕ) (st : Bool) (scope : List Variable) (here there : Cursor) (f : FormulaView) (token : Token) → IsTokenInGrammar here.token → simple_by text st scope here token ≡ Ok (f, there) → ReadsWritten there f
simple_written_by text st scope here there f (Keyword keywords.True) fits h = constant_written text truth here there f (record { named = tt; terms = tt }) h
simple_written_by text st scope here there f (Keyword keywords.False) fits h = constant_written text falsity here there f (record { named = tt; terms = tt }) h
simple_written_by text st scope here there f (Keyword keywords.Forall) fits h = comparison_written text st scope here there f fits h
simple_written_by text st scope here there f (Keyword keywords.Exists) fits h = comparison_written text st scope here there f fits h
simple_written_by text st scope here there f (Keyword keywords.Says) fits h = comparison_written text st scope here there f fits h
simple_written_by text st scope here there f (Keyword keywords.From) fits h = comparison_written text st scope here there f fits h
simple_written_by text st scope here there f (Keyword keywords.To) fits h = comparison_written text st scope here there f fits h
simple_written_by text st scope here there f (Keyword keywords.Inf) fits h = comparison_written text st scope here there f fits h
simple_written_by text st scope here there f (Name name) fits h = name_written text scope name here there f h
simple_written_by text st scope here there f LongWord fits h = comparison_written text st scope here there f fits h
simple_written_by text st scope here there f (tokens.Variable name) fits h = comparison_written text st scope here there f fits h
simple_written_by text st scope here there f (Constant t) fits h = comparison_written text st scope here there f fits h
simple_written_by text st scope here there f BadDate fits h = comparison_written text st scope here there f fits h
simple_written_by text st scope here there f (SortName s) fits h = comparison_written text st scope here there f fits h
simple_written_by text st scope here there f (tokens.Sign sign) fits h = comparison_written text st scope here there f fits h
simple_written_by text st scope here there f End fits h = comparison_written text st scope here there f fits h
simple_written_by text st scope here there f Bad fits h = comparison_written text st scope here there f fits h

simple_written : (text : List ℕ) (st : Bool) (scope : List Variable) (here there : Cursor) (f : FormulaView) → IsTokenInGrammar here.token → simple_formula text st scope here ≡ Ok (f, there) → ReadsWritten there f
unfolding simple_formula
simple_written text st scope here there f fits h = simple_written_by text st scope here there f here.token fits h

-- ---- speakers, binders and intervals

abbrev IsSpeakerWritten : Term × Cursor → Type 0
IsSpeakerWritten x = IsTokenInGrammar x.1.token × IsInGrammar x.0

speaker_written : (text : List ℕ) (scope : List Variable) (here there : Cursor) (who : Term) → IsTokenInGrammar here.token → speaker text scope here ≡ Ok (who, there) → IsTokenInGrammar there.token × IsInGrammar who
unfolding speaker
speaker_written text scope here there who fits h =
    let term = bind_ok (term_of scope here) _ (who, there) h in
    let room = bind_ok (count here) _ (who, there) term.1.1 in
    let sort = bind_ok (require_sort scope sorts.Principal here.at term.0) _ (who, there) room.1.1 in
    let next = bind_ok (count (cursor_after_node text here)) _ (who, there) sort.1.1 in
    subst IsSpeakerWritten (ok_same next.1.1) (node_fits text (cursor_after_node text here), term_written scope here term.0 fits term.1.0)

binder_written : (text : List ℕ) (here there : Cursor) (name : List ℕ) (s : Sort) → binder text here ≡ Ok (name, s, there) → IsTokenInGrammar there.token
unfolding binder
binder_written text here there name s h =
    let room = bind_ok (count here) _ (name, s, there) h in
    let name_ = bind_ok (variable_name (cursor_after_node text here)) _ (name, s, there) room.1.1 in
    let colon = bind_ok (expect_sign text signs.Colon (cursor_after text (cursor_after_node text here))) _ (name, s, there) name_.1.1 in
    let sort = bind_ok (sort_at colon.0) _ (name, s, there) colon.1.1 in
    let dot = bind_ok (expect_sign text signs.Dot (cursor_after text colon.0)) _ (name, s, there) sort.1.1 in
    let last = expected_ok text signs.Dot (cursor_after text colon.0) dot.0 dot.1.0 in
    subst (λ (p : List ℕ × Sort × Cursor). IsTokenInGrammar p.2.token) (ok_same {a = (name_.0, sort.0, dot.0)} dot.1.1) (sign_fits text (cursor_after text colon.0) dot.0 last.1)

record ReadsInterval (there : Cursor) (from to : Term) : Type 0 where
  pub next : IsTokenInGrammar there.token
  pub from_fits : IsInGrammar from
  pub to_fits : IsInGrammar to

interval_written : (text : List ℕ) (st : Bool) (scope : List Variable) (here there : Cursor) (from to : Term) → interval text st scope here ≡ Ok (from, to, there) → ReadsInterval there from to
unfolding interval
interval_written text st scope here there from to h =
    let room = bind_ok (count here) _ (from, to, there) h in
    let first = bind_ok (expect_sign text signs.OpenInterval (cursor_after_node text here)) _ (from, to, there) room.1.1 in
    let low = bind_ok (time_argument st scope first.0) _ (from, to, there) first.1.1 in
    let second = bind_ok (expect_sign text signs.Comma (cursor_after_node text first.0)) _ (from, to, there) low.1.1 in
    let high = bind_ok (time_argument st scope second.0) _ (from, to, there) second.1.1 in
    let close = bind_ok (expect_sign text signs.CloseInterval (cursor_after_node text second.0)) _ (from, to, there) high.1.1 in
    let first_is = expected_ok text signs.OpenInterval (cursor_after_node text here) first.0 first.1.0 in
    let second_is = expected_ok text signs.Comma (cursor_after_node text first.0) second.0 second.1.0 in
    let last = expected_ok text signs.CloseInterval (cursor_after_node text second.0) close.0 close.1.0 in
    subst (λ (p : Term × Term × Cursor). ReadsInterval p.2 p.0 p.1) (ok_same {a = (low.0, high.0, close.0)} close.1.1) (record {
      next = sign_fits text (cursor_after_node text second.0) close.0 last.1;
      from_fits = time_argument_written st scope first.0 low.0 (sign_fits text (cursor_after_node text here) first.0 first_is.1) low.1.0;
      to_fits = time_argument_written st scope second.0 high.0 (sign_fits text (cursor_after_node text first.0) second.0 second_is.1) high.1.0;
    })

-- ---- formulas

written : {text : List ℕ} {st : Bool} {level : Level} {scope : List Variable} {depth : ℕ} {here place : Cursor} {f : FormulaView} → Is text st level scope depth here place f → IsTokenInGrammar here.token → ReadsWritten place f
written {text} {st} (for_every scope depth here mid place name s a word b d) fits =
    let body = written d (binder_written text here mid name s b) in
    record { next = body.next; formula = record { named = body.formula.named; terms = body.formula.terms } }
written {text} {st} (for_some scope depth here mid place name s a word b d) fits =
    let body = written d (binder_written text here mid name s b) in
    record { next = body.next; formula = record { named = body.formula.named; terms = body.formula.terms } }
written {text} {st} (implication scope depth here mid place a b nq d sign room e) fits =
    let left = written d fits in
    let right = written e (node_fits text mid) in
    record { next = right.next; formula = record { named = (left.formula.named, right.formula.named); terms = (left.formula.terms, right.formula.terms) } }
written {text} {st} (one_disjunction scope depth here place a nq d) fits = written d fits
written {text} {st} (or_further scope depth here mid place a b d sign room e) fits =
    let left = written d fits in
    let right = written e (node_fits text mid) in
    record { next = right.next; formula = record { named = (left.formula.named, right.formula.named); terms = (left.formula.terms, right.formula.terms) } }
written {text} {st} (one_conjunction scope depth here place a d) fits = written d fits
written {text} {st} (and_further scope depth here mid place a b d sign room e) fits =
    let left = written d fits in
    let right = written e (node_fits text mid) in
    record { next = right.next; formula = record { named = (left.formula.named, right.formula.named); terms = (left.formula.terms, right.formula.terms) } }
written {text} {st} (one_unary scope depth here place a d) fits = written d fits
written {text} {st} (saying scope depth here mid place who a says_ k d) fits =
    let start = speaker_written text scope here mid who fits k in
    let body = written d start.0 in
    record { next = body.next; formula = record { named = body.formula.named; terms = (start.1, body.formula.terms) } }
written {text} {st} (one_postfix scope depth here place a none d) fits = written d fits
written {text} {st} (on_interval scope depth here mid place a from to d sign iv) fits =
    let body = written d fits in
    let times = interval_written text st scope mid place from to iv in
    record { next = times.next; formula = record { named = body.formula.named; terms = (body.formula.terms, (times.from_fits, times.to_fits)) } }
written {text} {st} (one_primary scope depth here place a d) fits = written d fits
written {text} {st} (group scope depth here mid place a opens room d close) fits =
    let inside = written d (behind_fits text here) in
    let found = expected_ok text signs.Close mid place close in
    record { next = sign_fits text mid place found.1; formula = inside.formula }
written {text} {st} (called scope depth here place a closed calls c) fits = call_written c
written {text} {st} (one_simple scope depth here place a closed no_call h) fits = simple_written text st scope here place a fits h

-- ---- statements

who_by : (at : ℕ) (token : Token) (end left : ℕ) (who : List ℕ) → IsTokenInGrammar token → principal_name (record { at = at; token = token; end = end; left = left }) ≡ Ok who → IsTrue (is_principal_name who)
unfolding principal_name
who_by at (Name name) end left who fits h = subst (λ (n : List ℕ). IsTrue (is_principal_name n)) (ok_same h) fits
who_by at (tokens.Variable name) end left who fits h = absurd (refused h)
who_by at (Constant c) end left who fits h = absurd (refused h)
who_by at LongWord end left who fits h = absurd (refused h)
who_by at BadDate end left who fits h = absurd (refused h)
who_by at (SortName s) end left who fits h = absurd (refused h)
who_by at (Keyword word) end left who fits h = absurd (refused h)
who_by at (tokens.Sign sign) end left who fits h = absurd (refused h)
who_by at End end left who fits h = absurd (refused h)
who_by at Bad end left who fits h = absurd (refused h)

opening_named : (text : List ℕ) (here place : Cursor) (who : List ℕ) → IsTokenInGrammar here.token → opening text here ≡ Ok (who, place) → IsTrue (is_principal_name who)
unfolding opening
opening_named text here place who fits h =
    let name = bind_ok (principal_name here) _ (who, place) h in
    let word = bind_ok (expect_word text keywords.Says (cursor_after text here)) _ (who, place) name.1.1 in
    subst (λ (p : List ℕ × Cursor). IsTrue (is_principal_name p.0)) (ok_same word.1.1) (who_by here.at here.token here.end here.left name.0 fits name.1.0)

saying_spellable : {text : List ℕ} {s : StatementView} → IsSayingText text s → IsStatement s → IsSpellableStatement s
saying_spellable {text} (whole_saying who here there f from to o d p) is =
    let start = opening_place text (beginning text) here who o in
    let body = written d (sign_fits text (cursor_after text (beginning text)) here start) in
    let formula = is.body_is_formula in
    let few : size f ≤ 512 = formula.within_limits.nodes in
    record {
      who = opening_named text (beginning text) here who (token_fits text 0 512) o;
      body = record { names = body.formula.named; terms = formula_spellable f [] (omega arith) formula.well_sorted body.formula.terms is.times_in_range; within_limits = formula.within_limits };
      statement = is;
    }

pub statement_spellable : {text : List ℕ} {s : StatementView} → IsStatementText text s → IsSpellableStatement s
statement_spellable h = saying_spellable h.is_text h.is_statement
