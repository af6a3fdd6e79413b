-- What stands between two places of a text: the tokens there, and that another text with the same tokens reads the same there. What was read is a sentence of the grammar over tokens.
use Rattle.std.proofs.Common.{◌≡◌, ℕ, zero, suc, ◌+◌, ◌-◌, ◌≤◌, Bool, true, false, List, [], ◌∷◌, ◌++◌, length, refl, sym, ap, ◌∙◌, subst, arith, Result, Ok, Err, inl, inr}
use Rattle.std.specs.Prelude.{◌<◌, Option, Some, None, IsSome, if◌then◌else◌}
use Rattle.std.proofs.lemmas.Bool.{false≢true, cases_lt, and_parts}
use Rattle.std.proofs.lemmas.List.{length-append}
use Rattle.bl_syntax.specs.declared.terms.Sort.{Sort as TermSort}
use Rattle.bl_syntax.specs.declared.terms.Sort.TheVariants as sorts
use Rattle.bl_syntax.specs.declared.terms.Term.{Term}
use Rattle.bl_syntax.specs.declared.terms.Term.TheVariants.{Prin, File, Perm, Time, Text, Ctime, Param, Bound}
use Rattle.bl_syntax.specs.Formula.{FormulaView}
use Rattle.bl_syntax.specs.Formula as forms
use Rattle.bl_tokens.specs.declared.faults.TextFault.{TextFault}
use Rattle.bl_tokens.specs.declared.faults.TextFault.TheVariants.{Unexpected}
use Rattle.bl_tokens.specs.declared.faults.TextFault.TheVariants as faults
use Rattle.bl_tokens.specs.declared.tokens.Sign.{Sign as Sign'}
use Rattle.bl_tokens.specs.declared.tokens.Sign.TheVariants as signs
use Rattle.bl_tokens.specs.declared.tokens.Keyword.TheVariants as keywords
use Rattle.bl_tokens.specs.declared.tokens.Token.{Token}
use Rattle.bl_tokens.specs.declared.tokens.Token.TheVariants.{Name, LongWord, Constant, BadDate, SortName, Keyword, End, Bad}
use Rattle.bl_tokens.specs.declared.tokens.Token.TheVariants as tokens
use Rattle.bl_tokens.specs.declared.tokens.Cursor.{Cursor}
use Rattle.bl_tokens.specs.Tokens.{token_from, cursor_after, cursor_after_node, is_sign, is_word}
use Rattle.bl_text.specs.Scope.{Variable, place_of}
use Rattle.bl_text.specs.Pieces.{◌>>=◌, count, expect_sign, term_of, require_sayable, require_sort, argument, next_argument, time_argument, interval, variable_name, sort_at, binder, speaker, less_sign, comparison, apply_predicate, bare_predicate, named_time, name_alone, constant_formula, simple_by, simple_formula}
use Rattle.bl_text.specs.Grammar.{Level, primary, is_saying, is_call, AreArguments, IsCall}
use Rattle.bl_text.specs.Grammar as grammar
use Rattle.bl_text.specs.FirstTokens.{SameTokens}
use Rattle.bl_text.specs.Met.{IsCallOf}
use Rattle.bl_text.specs.Sentences.{IsSign, IsTerm, principal, constant, variable, IsSpeaker, named, bound, AreTerms, one_term, further_term, FormulaSentence, quantified, implication, one_disjunction, or_further, one_conjunction, and_further, one_unary, saying, one_postfix, on_interval, one_primary, group, called, alone, compared, truth, falsity}
use Rattle.bl_text.proofs.ReadLemmas.{expected-Ok, is_at, every_quantifies, some_quantifies}
use Rattle.bl_text.proofs.OneFaultLemmas.{other_sign}
use Rattle.bl_text.proofs.FirstTokensLemmas.{bare as bared, bare_token, one_token, walk, walk_next, walk_from, tokens_from, same_first, behind_parts}
use Rattle.bl_text.proofs.PieceLemmas.{bind_ok, ok_then, expected_ok, call_opened, saying_same, call_same}
use Rattle.bl_text.proofs.IsStatementLemmas.{ok_same, refused, unread_speaker, at_place, variable_term, not_saying, named_time_never}

-- ---- the tokens from a place on

abbrev pub between : List ℕ → ℕ → Cursor → List Token
between text zero here = []
between text (suc n) here = here.token ∷ between text n (token_from text here.end 0)

pub between_plus : (text : List ℕ) (j k : ℕ) (here : Cursor) → between text (j + k) here ≡ between text j here ++ between text k (walk text j here)
between_plus text zero k here = let same : 0 + k ≡ k = omega arith in ap (λ n. between text n here) same
between_plus text (suc j) k here =
    let same : suc j + k ≡ suc (j + k) = omega arith in ap (λ n. between text n here) same ∙ ap (λ ts. here.token ∷ ts) (between_plus text j k (token_from text here.end 0))

pub between_bare : (text : List ℕ) (n : ℕ) (here here' : Cursor) → bared here ≡ bared here' → between text n here ≡ between text n here'
between_bare text zero here here' same = refl
between_bare text (suc n) here here' same = ap (λ (h : Cursor). h.token ∷ between text n (token_from text h.end 0)) same

-- these tokens stand from the one place up to the other
pub record Reads (text : List ℕ) (here there : Cursor) (ts : List Token) : Type 0 where
  pub reach : bared (walk text (length ts) here) ≡ bared there
  pub spelled : between text (length ts) here ≡ ts

pub joined : (text : List ℕ) (here mid : Cursor) (ts us : List Token) → Reads text here mid ts → between text (length us) mid ≡ us → between text (length (ts ++ us)) here ≡ ts ++ us
joined text here mid ts us r spelled =
    ap (λ n. between text n here) (length-append ts us) ∙ between_plus text (length ts) (length us) here
    ∙ ap (λ vs. vs ++ between text (length us) (walk text (length ts) here)) r.spelled ∙ ap (λ vs. ts ++ vs) (between_bare text (length us) (walk text (length ts) here) mid r.reach ∙ spelled)

pub reads_then : {text : List ℕ} {here mid place : Cursor} {ts us : List Token} → Reads text here mid ts → Reads text mid place us → Reads text here place (ts ++ us)
reads_then {text} {here} {mid} {place} {ts} {us} r s = record {
  reach = ap (λ n. bared (walk text n here)) (length-append ts us) ∙ walk_from text (length ts) (length us) here mid r.reach ∙ s.reach;
  spelled = joined text here mid ts us r s.spelled;
}

pub reads_one : (text : List ℕ) (here : Cursor) (left : ℕ) → Reads text here (token_from text here.end left) (here.token ∷ [])
reads_one text here left = record { reach = walk_next text 0 here here left refl; spelled = refl }

pub reads_behind : (text : List ℕ) (here : Cursor) → Reads text here (cursor_after text here) (here.token ∷ [])
unfolding cursor_after
reads_behind text here = reads_one text here here.left

pub reads_node : (text : List ℕ) (here : Cursor) → Reads text here (cursor_after_node text here) (here.token ∷ [])
unfolding cursor_after_node
reads_node text here = reads_one text here (here.left - 1)

-- ---- what was read, and what depends on it

-- these tokens stand from the one place up to the other, and of each text with the same tokens there that holds
pub record Part (text : List ℕ) (here there : Cursor) (ts : List Token) (P : List ℕ → Type 0) : Type 0 where
  pub reads : Reads text here there ts
  pub some : 1 ≤ length ts
  pub holds : (other : List ℕ) → SameTokens text other (length ts) here.end → P other

unfoldable pub part_with : {text : List ℕ} {here there : Cursor} {ts : List Token} {P Q : List ℕ → Type 0} → ((other : List ℕ) → P other → Q other) → Part text here there ts P → Part text here there ts Q
part_with f a = record { reads = a.reads; some = a.some; holds = λ o same. f o (a.holds o same) }

unfoldable pub part_then : {text : List ℕ} {here mid there : Cursor} {ts us : List Token} {P Q : List ℕ → Type 0} → Part text here mid ts P → Part text mid there us Q → Part text here there (ts ++ us) (λ o. P o × Q o)
part_then {text} {here} {mid} {there} {ts} {us} a b = record {
  reads = reads_then a.reads b.reads;
  some = (let few = a.some in let n = length-append ts us in omega (arith, few, n));
  holds = λ o same. (let parts = behind_parts text o (length ts) (length us) here mid a.reads.reach (subst (λ n. SameTokens text o n here.end) (length-append ts us) same) in (a.holds o parts.0, b.holds o parts.1));
}

-- and on the first token after it
pub part_peeks : {text : List ℕ} {here there : Cursor} {ts : List Token} {P R : List ℕ → Type 0} (left : ℕ) → ((o : List ℕ) → token_from o here.end left ≡ token_from text here.end left → R o) → Part text here there ts P → Part text here there ts (λ o. R o × P o)
part_peeks {text} {here} {ts = ts} left f a = record {
  reads = a.reads;
  some = a.some;
  holds = λ o same. (f o (one_token text o here.end left (same_first text o (length ts) here.end a.some same)), a.holds o same);
}

pub part_place : {text : List ℕ} {here place place' : Cursor} {ts : List Token} {P : List ℕ → Type 0} → place' ≡ place → Part text here place ts P → Part text here place' ts P
part_place {text} {here} {place} {place'} {ts} {P} same a = subst (λ (p : Cursor). Part text here p ts P) (sym same) a

pub part_token : {text : List ℕ} {here place : Cursor} {t : Token} {P : List ℕ → Type 0} → here.token ≡ t → Part text here place (here.token ∷ []) P → Part text here place (t ∷ []) P
part_token {text} {here} {place} {t} {P} same a = subst (λ t'. Part text here place (t' ∷ []) P) same a

part_one : (text : List ℕ) (here : Cursor) (left : ℕ) → Part text here (token_from text here.end left) (here.token ∷ []) (λ o. token_from o here.end left ≡ token_from text here.end left)
part_one text here left = record { reads = reads_one text here left; some = omega arith; holds = λ o same. one_token text o here.end left same.0 }

pub part_behind : (text : List ℕ) (here : Cursor) → Part text here (cursor_after text here) (here.token ∷ []) (λ o. cursor_after o here ≡ cursor_after text here)
unfolding cursor_after
part_behind text here = part_one text here here.left

pub part_node : (text : List ℕ) (here : Cursor) → Part text here (cursor_after_node text here) (here.token ∷ []) (λ o. cursor_after_node o here ≡ cursor_after_node text here)
unfolding cursor_after_node
part_node text here = part_one text here (here.left - 1)

pub part_sign : {text : List ℕ} (sign : Sign') {here place : Cursor} → expect_sign text sign here ≡ Ok place → Part text here place (here.token ∷ []) (λ o. expect_sign o sign here ≡ Ok place)
part_sign {text} sign {here} {place} h =
    let found = expected_ok text sign here place h in
    part_place found.1 (part_with (λ o same. expected-Ok o sign here found.0 ∙ ap Ok (same ∙ sym found.1)) (part_behind text here))

-- what was read, a sentence
pub record Spelled (text : List ℕ) (IsOne : List Token → Type 0) (here place : Cursor) (P : List ℕ → Type 0) : Type 0 where
  pub ts : List Token
  pub part : Part text here place ts P
  pub sentence : IsOne ts

-- ---- terms

some_place : (o : Option ℕ) (at : ℕ) (t : Term) → at_place at o ≡ Ok t → IsSome o
some_place None at t h = absurd (refused h)
some_place (Some inner) at t h = refl

term_is_by : (scope : List Variable) (here : Cursor) (t : Term) → term_of scope here ≡ Ok t → (token : Token) → here.token ≡ token → IsTerm scope token
term_is_by scope here t h (Name name) is = principal name
term_is_by scope here t h (Constant c) is = constant c
term_is_by scope here t h (tokens.Variable name) is = variable name (some_place (place_of scope name) here.at t (sym (variable_term scope here name is) ∙ h))
term_is_by scope here t h LongWord is = absurd (unread_speaker scope here t LongWord is refl h)
term_is_by scope here t h BadDate is = absurd (unread_speaker scope here t BadDate is refl h)
term_is_by scope here t h (SortName s) is = absurd (unread_speaker scope here t (SortName s) is refl h)
term_is_by scope here t h (Keyword word) is = absurd (unread_speaker scope here t (Keyword word) is refl h)
term_is_by scope here t h (tokens.Sign sign) is = absurd (unread_speaker scope here t (tokens.Sign sign) is refl h)
term_is_by scope here t h End is = absurd (unread_speaker scope here t End is refl h)
term_is_by scope here t h Bad is = absurd (unread_speaker scope here t Bad is refl h)

pub term_is : (scope : List Variable) (here : Cursor) (t : Term) → term_of scope here ≡ Ok t → IsTerm scope here.token
term_is scope here t h = term_is_by scope here t h here.token refl

pub argument_is : (st : Bool) (scope : List Variable) (here : Cursor) (t : Term) → argument st scope here ≡ Ok t → IsTerm scope here.token
unfolding argument
argument_is st scope here t h = let term = bind_ok (term_of scope here) _ t h in term_is scope here term.0 term.1.0

next_argument_is : (st : Bool) (scope : List Variable) (is_atom : Bool) (others : ℕ) (here : Cursor) (t : Term) → next_argument st scope is_atom others here ≡ Ok t → IsTerm scope here.token
unfolding next_argument
next_argument_is st scope is_atom others here t h = let term = bind_ok (argument st scope here) _ t h in argument_is st scope here term.0 term.1.0

pub time_argument_is : (st : Bool) (scope : List Variable) (here : Cursor) (t : Term) → time_argument st scope here ≡ Ok t → IsTerm scope here.token
unfolding time_argument
time_argument_is st scope here t h = let term = bind_ok (term_of scope here) _ t h in term_is scope here term.0 term.1.0

pub speaker_is_by : (text : List ℕ) (scope : List Variable) (here : Cursor) (t : Term) → is_saying text here ≡ true → term_of scope here ≡ Ok t → (token : Token) → here.token ≡ token → IsSpeaker scope token
speaker_is_by text scope here t says h (Name name) is = named name
speaker_is_by text scope here t says h (Constant c) is = absurd (false≢true (sym (not_saying text here c is) ∙ says))
speaker_is_by text scope here t says h (tokens.Variable name) is = bound name (some_place (place_of scope name) here.at t (sym (variable_term scope here name is) ∙ h))
speaker_is_by text scope here t says h LongWord is = absurd (unread_speaker scope here t LongWord is refl h)
speaker_is_by text scope here t says h BadDate is = absurd (unread_speaker scope here t BadDate is refl h)
speaker_is_by text scope here t says h (SortName s) is = absurd (unread_speaker scope here t (SortName s) is refl h)
speaker_is_by text scope here t says h (Keyword word) is = absurd (unread_speaker scope here t (Keyword word) is refl h)
speaker_is_by text scope here t says h (tokens.Sign sign) is = absurd (unread_speaker scope here t (tokens.Sign sign) is refl h)
speaker_is_by text scope here t says h End is = absurd (unread_speaker scope here t End is refl h)
speaker_is_by text scope here t says h Bad is = absurd (unread_speaker scope here t Bad is refl h)

pub variable_found : (here : Cursor) (name : List ℕ) → here.token ≡ tokens.Variable name → variable_name here ≡ Ok name
unfolding variable_name
variable_found here name is = rw is

no_variable : (here : Cursor) (name : List ℕ) → variable_name here ≡ Ok name → variable_name here ≡ Err (faults.Unexpected here.at) → ⊥
no_variable here name h k = refused (sym k ∙ h)

sort_found : (here : Cursor) (s : TermSort) → here.token ≡ SortName s → sort_at here ≡ Ok s
unfolding sort_at
sort_found here s is = rw is

no_sort : (here : Cursor) (s : TermSort) (e : TextFault) → sort_at here ≡ Ok s → sort_at here ≡ Err e → ⊥
no_sort here s e h k = refused (sym k ∙ h)

pub variable_is_by : (here : Cursor) (name : List ℕ) → variable_name here ≡ Ok name → (token : Token) → here.token ≡ token → token ≡ tokens.Variable name
unfolding variable_name
variable_is_by here name h (tokens.Variable found) is = ap tokens.Variable (ok_same (sym (variable_found here found is) ∙ h))
variable_is_by here name h (Name n) is = absurd (no_variable here name h (rw is refl))
variable_is_by here name h LongWord is = absurd (no_variable here name h (rw is refl))
variable_is_by here name h (Constant c) is = absurd (no_variable here name h (rw is refl))
variable_is_by here name h BadDate is = absurd (no_variable here name h (rw is refl))
variable_is_by here name h (SortName s) is = absurd (no_variable here name h (rw is refl))
variable_is_by here name h (Keyword word) is = absurd (no_variable here name h (rw is refl))
variable_is_by here name h (tokens.Sign sign) is = absurd (no_variable here name h (rw is refl))
variable_is_by here name h End is = absurd (no_variable here name h (rw is refl))
variable_is_by here name h Bad is = absurd (no_variable here name h (rw is refl))

pub sort_is_by : (here : Cursor) (s : TermSort) → sort_at here ≡ Ok s → (token : Token) → here.token ≡ token → token ≡ SortName s
unfolding sort_at
sort_is_by here s h (SortName found) is = ap SortName (ok_same (sym (sort_found here found is) ∙ h))
sort_is_by here s h (Name n) is = absurd (no_sort here s (faults.UnknownName here.at) h (rw is refl))
sort_is_by here s h LongWord is = absurd (no_sort here s (faults.UnknownName here.at) h (rw is refl))
sort_is_by here s h (tokens.Variable name) is = absurd (no_sort here s (faults.Unexpected here.at) h (rw is refl))
sort_is_by here s h (Constant (Prin name)) is = absurd (no_sort here s (faults.Unexpected here.at) h (rw is refl))
sort_is_by here s h (Constant (File number)) is = absurd (no_sort here s (faults.Unexpected here.at) h (rw is refl))
sort_is_by here s h (Constant (Perm permission)) is = absurd (no_sort here s (faults.UnknownName here.at) h (rw is refl))
sort_is_by here s h (Constant (Time point)) is = absurd (no_sort here s (faults.Unexpected here.at) h (rw is refl))
sort_is_by here s h (Constant (Text quoted)) is = absurd (no_sort here s (faults.Unexpected here.at) h (rw is refl))
sort_is_by here s h (Constant Ctime) is = absurd (no_sort here s (faults.UnknownName here.at) h (rw is refl))
sort_is_by here s h (Constant (Param n)) is = absurd (no_sort here s (faults.Unexpected here.at) h (rw is refl))
sort_is_by here s h (Constant (Bound n)) is = absurd (no_sort here s (faults.Unexpected here.at) h (rw is refl))
sort_is_by here s h BadDate is = absurd (no_sort here s (faults.Unexpected here.at) h (rw is refl))
sort_is_by here s h (Keyword word) is = absurd (no_sort here s (faults.UnknownName here.at) h (rw is refl))
sort_is_by here s h (tokens.Sign sign) is = absurd (no_sort here s (faults.Unexpected here.at) h (rw is refl))
sort_is_by here s h End is = absurd (no_sort here s (faults.Unexpected here.at) h (rw is refl))
sort_is_by here s h Bad is = absurd (no_sort here s (faults.Unexpected here.at) h (rw is refl))

-- ---- binders

pub record BinderPart (text : List ℕ) (here place : Cursor) (name : List ℕ) (s : TermSort) : Type 0 where
  pub colon : Token
  pub dot : Token
  pub is_colon : IsSign signs.Colon colon
  pub is_dot : IsSign signs.Dot dot
  pub part : Part text here place (here.token ∷ tokens.Variable name ∷ colon ∷ SortName s ∷ dot ∷ []) (λ o. binder o here ≡ Ok (name, s, place))

pub binder_part : (text : List ℕ) (here place : Cursor) (name : List ℕ) (s : TermSort) → binder text here ≡ Ok (name, s, place) → BinderPart text here place name s
unfolding binder
binder_part text here place name s h =
    let room = bind_ok (count here) _ (name, s, place) h in
    let second = cursor_after_node text here in
    let name_ = bind_ok (variable_name second) _ (name, s, place) room.1.1 in
    let colon_ = bind_ok (expect_sign text signs.Colon (cursor_after text second)) _ (name, s, place) name_.1.1 in
    let sort = bind_ok (sort_at colon_.0) _ (name, s, place) colon_.1.1 in
    let dot_ = bind_ok (expect_sign text signs.Dot (cursor_after text colon_.0)) _ (name, s, place) sort.1.1 in
    subst (λ (p : List ℕ × TermSort × Cursor). BinderPart text here p.2 p.0 p.1) (ok_same dot_.1.1) (record {
      colon = (cursor_after text second).token;
      dot = (cursor_after text colon_.0).token;
      is_colon = (expected_ok text signs.Colon (cursor_after text second) colon_.0 colon_.1.0).0;
      is_dot = (expected_ok text signs.Dot (cursor_after text colon_.0) dot_.0 dot_.1.0).0;
      part = part_with (λ o p. ok_then (count here) _ room.0 room.1.0 (ok_then (variable_name (cursor_after_node o here)) _ name_.0 (ap variable_name p.0 ∙ name_.1.0)
          (ok_then (expect_sign o signs.Colon (cursor_after o (cursor_after_node o here))) _ colon_.0 (ap (expect_sign o signs.Colon) (ap (cursor_after o) p.0 ∙ p.1.0) ∙ p.1.1.0)
          (ok_then (sort_at colon_.0) _ sort.0 sort.1.0 (ok_then (expect_sign o signs.Dot (cursor_after o colon_.0)) _ dot_.0 (ap (expect_sign o signs.Dot) p.1.1.1.0 ∙ p.1.1.1.1) refl)))))
          (part_then (part_node text here) (part_then (part_token (variable_is_by second name_.0 name_.1.0 second.token refl) (part_behind text second))
          (part_then (part_sign signs.Colon colon_.1.0) (part_then (part_token (sort_is_by colon_.0 sort.0 sort.1.0 colon_.0.token refl) (part_behind text colon_.0)) (part_sign signs.Dot dot_.1.0)))));
    })

-- ---- speakers

pub says_word : (text : List ℕ) (here : Cursor) → is_saying text here ≡ true → is_word keywords.Says (cursor_after_node text here).token ≡ true
unfolding is_saying
says_word text here h = (and_parts _ _ h).1

pub record SpeakerPart (text : List ℕ) (scope : List Variable) (here place : Cursor) (who : Term) : Type 0 where
  pub word : Token
  pub is_says : is_word keywords.Says word ≡ true
  pub speaks : IsSpeaker scope here.token
  pub part : Part text here place (here.token ∷ word ∷ []) (λ o. (is_saying o here ≡ true) × (speaker o scope here ≡ Ok (who, place)))

pub speaker_part : (text : List ℕ) (scope : List Variable) (here place : Cursor) (who : Term) → is_saying text here ≡ true → speaker text scope here ≡ Ok (who, place) → SpeakerPart text scope here place who
unfolding speaker
speaker_part text scope here place who says h =
    let second = cursor_after_node text here in
    let term = bind_ok (term_of scope here) _ (who, place) h in
    let room = bind_ok (count here) _ (who, place) term.1.1 in
    let sort = bind_ok (require_sort scope sorts.Principal here.at term.0) _ (who, place) room.1.1 in
    let next = bind_ok (count second) _ (who, place) sort.1.1 in
    subst (λ (p : Term × Cursor). SpeakerPart text scope here p.1 p.0) (ok_same next.1.1) (record {
      word = second.token;
      is_says = says_word text here says;
      speaks = speaker_is_by text scope here term.0 says term.1.0 here.token refl;
      part = part_peeks (here.left - 1) (λ o same. saying_same text o here same says) (part_with (λ o p. ok_then (term_of scope here) _ term.0 term.1.0 (ok_then (count here) _ room.0 room.1.0
          (ok_then (require_sort scope sorts.Principal here.at term.0) _ sort.0 sort.1.0 (ok_then (count (cursor_after_node o here)) _ next.0 (ap count p.0 ∙ next.1.0) (ap (λ (q : Cursor). Ok (term.0, q)) (ap (cursor_after_node o) p.0 ∙ p.1))))))
          (part_then (part_node text here) (part_node text second)));
    })

-- ---- intervals

pub record IntervalPart (text : List ℕ) (st : Bool) (scope : List Variable) (here place : Cursor) (from to : Term) : Type 0 where
  pub open_ : Token
  pub low : Token
  pub comma : Token
  pub high : Token
  pub close : Token
  pub is_open : IsSign signs.OpenInterval open_
  pub low_term : IsTerm scope low
  pub is_comma : IsSign signs.Comma comma
  pub high_term : IsTerm scope high
  pub is_close : IsSign signs.CloseInterval close
  pub part : Part text here place (here.token ∷ open_ ∷ low ∷ comma ∷ high ∷ close ∷ []) (λ o. interval o st scope here ≡ Ok (from, to, place))

pub interval_part : (text : List ℕ) (st : Bool) (scope : List Variable) (here place : Cursor) (from to : Term) → interval text st scope here ≡ Ok (from, to, place) → IntervalPart text st scope here place from to
unfolding interval
interval_part text st scope here place from to h =
    let room = bind_ok (count here) _ (from, to, place) h in
    let first = bind_ok (expect_sign text signs.OpenInterval (cursor_after_node text here)) _ (from, to, place) room.1.1 in
    let low = bind_ok (time_argument st scope first.0) _ (from, to, place) first.1.1 in
    let second = bind_ok (expect_sign text signs.Comma (cursor_after_node text first.0)) _ (from, to, place) low.1.1 in
    let high = bind_ok (time_argument st scope second.0) _ (from, to, place) second.1.1 in
    let last = bind_ok (expect_sign text signs.CloseInterval (cursor_after_node text second.0)) _ (from, to, place) high.1.1 in
    subst (λ (p : Term × Term × Cursor). IntervalPart text st scope here p.2 p.0 p.1) (ok_same last.1.1) (record {
      open_ = (cursor_after_node text here).token;
      low = first.0.token;
      comma = (cursor_after_node text first.0).token;
      high = second.0.token;
      close = (cursor_after_node text second.0).token;
      is_open = (expected_ok text signs.OpenInterval (cursor_after_node text here) first.0 first.1.0).0;
      low_term = time_argument_is st scope first.0 low.0 low.1.0;
      is_comma = (expected_ok text signs.Comma (cursor_after_node text first.0) second.0 second.1.0).0;
      high_term = time_argument_is st scope second.0 high.0 high.1.0;
      is_close = (expected_ok text signs.CloseInterval (cursor_after_node text second.0) last.0 last.1.0).0;
      part = part_with (λ o p. ok_then (count here) _ room.0 room.1.0 (ok_then (expect_sign o signs.OpenInterval (cursor_after_node o here)) _ first.0 (ap (expect_sign o signs.OpenInterval) p.0 ∙ p.1.0)
          (ok_then (time_argument st scope first.0) _ low.0 low.1.0 (ok_then (expect_sign o signs.Comma (cursor_after_node o first.0)) _ second.0 (ap (expect_sign o signs.Comma) p.1.1.0 ∙ p.1.1.1.0)
          (ok_then (time_argument st scope second.0) _ high.0 high.1.0 (ok_then (expect_sign o signs.CloseInterval (cursor_after_node o second.0)) _ last.0 (ap (expect_sign o signs.CloseInterval) p.1.1.1.1.0 ∙ p.1.1.1.1.1) refl))))))
          (part_then (part_node text here) (part_then (part_sign signs.OpenInterval first.1.0) (part_then (part_node text first.0) (part_then (part_sign signs.Comma second.1.0)
          (part_then (part_node text second.0) (part_sign signs.CloseInterval last.1.0))))));
    })

-- ---- formulas without parentheses

pub less_is : (here : Cursor) (u : Unit {0}) → less_sign here ≡ Ok u → IsSign signs.UpTo here.token
unfolding less_sign
less_is here u h = chosen (is_sign signs.UpTo here.token) h
  where
    chosen : (b : Bool) → (if b then Ok tt else Err (Unexpected here.at)) ≡ Ok u → b ≡ true
    chosen true k = refl
    chosen false k = absurd (refused k)

spelled_comparison : (text : List ℕ) (st : Bool) (scope : List Variable) (here place : Cursor) (f : FormulaView) → comparison text st scope here ≡ Ok (f, place) → Spelled text (FormulaSentence primary scope) here place (λ o. comparison o st scope here ≡ Ok (f, place))
unfolding comparison
spelled_comparison text st scope here place f h =
    let second = cursor_after_node text here in
    let third = cursor_after_node text second in
    let low = bind_ok (term_of scope here) _ (f, place) h in
    let room = bind_ok (count here) _ (f, place) low.1.1 in
    let less = bind_ok (less_sign second) _ (f, place) room.1.1 in
    let said = bind_ok (require_sayable st here.at low.0) _ (f, place) less.1.1 in
    let time = bind_ok (require_sort scope sorts.Time here.at low.0) _ (f, place) said.1.1 in
    let next = bind_ok (count second) _ (f, place) time.1.1 in
    let high = bind_ok (time_argument st scope third) _ (f, place) next.1.1 in
    subst (λ (p : FormulaView × Cursor). Spelled text (FormulaSentence primary scope) here p.1 (λ o. comparison o st scope here ≡ Ok p)) (ok_same high.1.1) (record {
      ts = here.token ∷ second.token ∷ third.token ∷ [];
      part = part_with (λ o p. ok_then (term_of scope here) _ low.0 low.1.0 (ok_then (count here) _ room.0 room.1.0 (ok_then (less_sign (cursor_after_node o here)) _ less.0 (ap less_sign p.0 ∙ less.1.0)
          (ok_then (require_sayable st here.at low.0) _ said.0 said.1.0 (ok_then (require_sort scope sorts.Time here.at low.0) _ time.0 time.1.0 (ok_then (count (cursor_after_node o here)) _ next.0 (ap count p.0 ∙ next.1.0)
          (ok_then (time_argument st scope (cursor_after_node o (cursor_after_node o here))) _ high.0 (ap (time_argument st scope) (ap (cursor_after_node o) p.0 ∙ p.1.0) ∙ high.1.0)
          (ap (λ (q : Cursor). Ok (forms.compare (record { low = low.0; high = high.0 }), q)) (ap (λ (q : Cursor). cursor_after_node o (cursor_after_node o q)) p.0 ∙ ap (cursor_after_node o) p.1.0 ∙ p.1.1)))))))))
          (part_then (part_node text here) (part_then (part_node text second) (part_node text third)));
      sentence = compared scope _ _ _ (term_is scope here low.0 low.1.0) (less_is second less.0 less.1.0) (time_argument_is st scope third high.0 high.1.0);
    })

-- a name alone: the token after it fixes the case
abbrev pub name_by : List Variable → List ℕ → Cursor → Cursor → Bool → Result (FormulaView × Cursor) TextFault
name_by scope name here next before_sign = if before_sign then (count here >>= (λ _. Err (faults.Sort here.at))) else (apply_predicate scope here.at name [] >>= (λ f. count here >>= (λ _. Ok (f, next))))

abbrev pub name_before : List Variable → List ℕ → Cursor → Cursor → Result (FormulaView × Cursor) TextFault
name_before scope name here next = name_by scope name here next (is_sign signs.UpTo next.token)

pub alone_before : (text : List ℕ) (scope : List Variable) (name : List ℕ) (here : Cursor) → name_alone text scope name here ≡ name_before scope name here (cursor_after_node text here)
unfolding name_alone named_time bare_predicate
alone_before text scope name here = refl

bare_place : (text : List ℕ) (scope : List Variable) (name : List ℕ) (here place : Cursor) (f : FormulaView) → bare_predicate text scope name here ≡ Ok (f, place) → cursor_after_node text here ≡ place
unfolding bare_predicate
bare_place text scope name here place f h =
    let form = bind_ok (apply_predicate scope here.at name []) _ (f, place) h in
    let room = bind_ok (count here) _ (f, place) form.1.1 in ap (λ (p : FormulaView × Cursor). p.1) (ok_same room.1.1)

name_place : (text : List ℕ) (scope : List Variable) (name : List ℕ) (here place : Cursor) (f : FormulaView) → name_alone text scope name here ≡ Ok (f, place) → cursor_after_node text here ≡ place
unfolding name_alone
name_place text scope name here place f h = chosen (is_sign signs.UpTo (cursor_after_node text here).token) h
  where
    chosen : (b : Bool) → (if b then named_time here else bare_predicate text scope name here) ≡ Ok (f, place) → cursor_after_node text here ≡ place
    chosen true k = absurd (named_time_never here place f k)
    chosen false k = bare_place text scope name here place f k

constant_place : (text : List ℕ) (c : FormulaView) (here place : Cursor) (f : FormulaView) → constant_formula text c here ≡ Ok (f, place) → cursor_after_node text here ≡ place
unfolding constant_formula
constant_place text c here place f h = let room = bind_ok (count here) _ (f, place) h in ap (λ (p : FormulaView × Cursor). p.1) (ok_same room.1.1)

constant_same : (text other : List ℕ) (c : FormulaView) (here : Cursor) → cursor_after_node other here ≡ cursor_after_node text here → constant_formula other c here ≡ constant_formula text c here
unfolding constant_formula
constant_same text other c here same = ap (λ (q : Cursor). count here >>= (λ _. Ok (c, q))) same

-- one token is a sentence
one_spelled : {text : List ℕ} {scope : List Variable} {here place : Cursor} {t : Token} {P : List ℕ → Type 0} → here.token ≡ t → cursor_after_node text here ≡ place → FormulaSentence primary scope (t ∷ []) → ((o : List ℕ) → cursor_after_node o here ≡ cursor_after_node text here → P o)
    → Spelled text (FormulaSentence primary scope) here place P
one_spelled {text} {scope} {here} {place} {t} is at sentence same = record { ts = t ∷ []; part = part_place (sym at) (part_token is (part_with same (part_node text here))); sentence = sentence }

abbrev SimplePart : List ℕ → Bool → List Variable → Cursor → Cursor → FormulaView → Token → Type 0
SimplePart text st scope here place f token = Spelled text (FormulaSentence primary scope) here place (λ o. simple_by o st scope here token ≡ Ok (f, place))

spelled_simple_by : (text : List ℕ) (st : Bool) (scope : List Variable) (here place : Cursor) (f : FormulaView) (token : Token) → here.token ≡ token → simple_by text st scope here token ≡ Ok (f, place) → SimplePart text st scope here place f token
spelled_simple_by text st scope here place f (Keyword keywords.True) is h = one_spelled is (constant_place text forms.truth here place f h) (truth scope) (λ o same. constant_same text o forms.truth here same ∙ h)
spelled_simple_by text st scope here place f (Keyword keywords.False) is h = one_spelled is (constant_place text forms.falsity here place f h) (falsity scope) (λ o same. constant_same text o forms.falsity here same ∙ h)
spelled_simple_by text st scope here place f (Name name) is h =
    one_spelled is (name_place text scope name here place f h) (alone scope name) (λ o same. alone_before o scope name here ∙ ap (name_before scope name here) same ∙ sym (alone_before text scope name here) ∙ h)
spelled_simple_by text st scope here place f (Keyword keywords.Forall) is h = spelled_comparison text st scope here place f h
spelled_simple_by text st scope here place f (Keyword keywords.Exists) is h = spelled_comparison text st scope here place f h
spelled_simple_by text st scope here place f (Keyword keywords.Says) is h = spelled_comparison text st scope here place f h
spelled_simple_by text st scope here place f (Keyword keywords.From) is h = spelled_comparison text st scope here place f h
spelled_simple_by text st scope here place f (Keyword keywords.To) is h = spelled_comparison text st scope here place f h
spelled_simple_by text st scope here place f (Keyword keywords.Inf) is h = spelled_comparison text st scope here place f h
spelled_simple_by text st scope here place f LongWord is h = spelled_comparison text st scope here place f h
spelled_simple_by text st scope here place f (tokens.Variable name) is h = spelled_comparison text st scope here place f h
spelled_simple_by text st scope here place f (Constant t) is h = spelled_comparison text st scope here place f h
spelled_simple_by text st scope here place f BadDate is h = spelled_comparison text st scope here place f h
spelled_simple_by text st scope here place f (SortName s) is h = spelled_comparison text st scope here place f h
spelled_simple_by text st scope here place f (tokens.Sign sign) is h = spelled_comparison text st scope here place f h
spelled_simple_by text st scope here place f End is h = spelled_comparison text st scope here place f h
spelled_simple_by text st scope here place f Bad is h = spelled_comparison text st scope here place f h

simple_from : (text : List ℕ) (st : Bool) (scope : List Variable) (here : Cursor) → simple_formula text st scope here ≡ simple_by text st scope here here.token
unfolding simple_formula
simple_from text st scope here = refl

spelled_simple : (text : List ℕ) (st : Bool) (scope : List Variable) (here place : Cursor) (f : FormulaView) → simple_formula text st scope here ≡ Ok (f, place) → Spelled text (FormulaSentence primary scope) here place (λ o. simple_formula o st scope here ≡ Ok (f, place))
spelled_simple text st scope here place f h =
    let s = spelled_simple_by text st scope here place f here.token refl (sym (simple_from text st scope here) ∙ h) in
    record { ts = s.ts; part = part_with (λ o p. simple_from o st scope here ∙ p) s.part; sentence = s.sentence }

-- ---- arguments

term_of_sign : (scope : List Variable) (here : Cursor) (sign : Sign') → here.token ≡ tokens.Sign sign → term_of scope here ≡ Err (Unexpected here.at)
unfolding term_of
term_of_sign scope here sign is = rw is

term_no_sign_by : (scope : List Variable) (here : Cursor) (sign : Sign') (t : Term) → term_of scope here ≡ Ok t → (token : Token) → here.token ≡ token → is_sign sign token ≡ false
unfolding is_sign
term_no_sign_by scope here sign t h (Name name) is = refl
term_no_sign_by scope here sign t h LongWord is = refl
term_no_sign_by scope here sign t h (tokens.Variable name) is = refl
term_no_sign_by scope here sign t h (Constant t') is = refl
term_no_sign_by scope here sign t h BadDate is = refl
term_no_sign_by scope here sign t h (SortName s) is = refl
term_no_sign_by scope here sign t h (Keyword word) is = refl
term_no_sign_by scope here sign t h (tokens.Sign found) is = absurd (let never : ◌≡◌ {A = Result Term TextFault} (Err (Unexpected here.at)) (Ok t) = sym (term_of_sign scope here found is) ∙ h in cc)
term_no_sign_by scope here sign t h End is = refl
term_no_sign_by scope here sign t h Bad is = refl

pub argument_no_sign : (st : Bool) (scope : List Variable) (here : Cursor) (sign : Sign') (t : Term) → argument st scope here ≡ Ok t → is_sign sign here.token ≡ false
unfolding argument
argument_no_sign st scope here sign t h = let term = bind_ok (term_of scope here) _ t h in term_no_sign_by scope here sign term.0 term.1.0 here.token refl

pub next_argument_no_sign : (st : Bool) (scope : List Variable) (is_atom : Bool) (others : ℕ) (here : Cursor) (sign : Sign') (t : Term) → next_argument st scope is_atom others here ≡ Ok t → is_sign sign here.token ≡ false
unfolding next_argument
next_argument_no_sign st scope is_atom others here sign t h = let term = bind_ok (argument st scope here) _ t h in argument_no_sign st scope here sign term.0 term.1.0

pub record ArgumentsPart (text : List ℕ) (st : Bool) (scope : List Variable) (is_atom : Bool) (here place : Cursor) (terms : List Term) : Type 0 where
  pub ts : List Token
  pub part : Part text here place ts (λ o. AreArguments o st scope is_atom here place terms)
  pub are_terms : AreTerms scope ts
  pub inside : (k : ℕ) → k < length ts → is_sign signs.Close (tokens_from text here k).token ≡ false

first_inside : (text : List ℕ) (here : Cursor) → is_sign signs.Close here.token ≡ false → (k : ℕ) → k < 1 → is_sign signs.Close (tokens_from text here k).token ≡ false
first_inside text here none zero less = none
first_inside text here none (suc k) less = absurd (omega arith)

two_inside : (text : List ℕ) (mid : Cursor) (left : ℕ) → is_sign signs.Close mid.token ≡ false → is_sign signs.Close (token_from text mid.end left).token ≡ false → (k : ℕ) → k < 2 → is_sign signs.Close (tokens_from text mid k).token ≡ false
two_inside text mid left none next zero less = none
two_inside text mid left none next (suc zero) less = ap (λ (h : Cursor). is_sign signs.Close h.token) (bare_token text mid.end 0 ∙ sym (bare_token text mid.end left)) ∙ next
two_inside text mid left none next (suc (suc k)) less = absurd (omega arith)

two_behind : (text : List ℕ) (mid : Cursor) → is_sign signs.Close mid.token ≡ false → is_sign signs.Close (cursor_after text mid).token ≡ false → (k : ℕ) → k < 2 → is_sign signs.Close (tokens_from text mid k).token ≡ false
unfolding cursor_after
two_behind text mid none next k less = two_inside text mid mid.left none next k less

later_inside : (text : List ℕ) (here mid : Cursor) (s n : ℕ) → bared (walk text s here) ≡ bared mid → ((k : ℕ) → k < s → is_sign signs.Close (tokens_from text here k).token ≡ false)
    → ((k : ℕ) → k < n → is_sign signs.Close (tokens_from text mid k).token ≡ false) → (k : ℕ) → k < s + n → is_sign signs.Close (tokens_from text here k).token ≡ false
later_inside text here mid s n reach before after k less = elim (cases_lt k s) [
  | inl small ↦ before k small
  | inr large ↦ (let sum : k ≡ s + (k - s) = omega arith in
      ap (λ m. is_sign signs.Close (tokens_from text here m).token) sum ∙ ap (λ (h : Cursor). is_sign signs.Close h.token) (walk_from text s (k - s) here mid reach) ∙ after (k - s) (omega arith))
]

pub arguments_at : {text : List ℕ} {st : Bool} {scope : List Variable} {is_atom : Bool} {here here' there : Cursor} {terms : List Term} → here ≡ here' → AreArguments text st scope is_atom here there terms → AreArguments text st scope is_atom here' there terms
arguments_at {text} {st} {scope} {is_atom} {here} {here'} {there} {terms} same h = subst (λ (p : Cursor). AreArguments text st scope is_atom p there terms) same h

arguments_up_to : {text : List ℕ} {st : Bool} {scope : List Variable} {is_atom : Bool} {here there there' : Cursor} {terms : List Term} → there ≡ there' → AreArguments text st scope is_atom here there terms → AreArguments text st scope is_atom here there' terms
arguments_up_to {text} {st} {scope} {is_atom} {here} {there} {there'} {terms} same h = subst (λ (p : Cursor). AreArguments text st scope is_atom here p terms) same h

pub arguments_part : {text : List ℕ} {st : Bool} {scope : List Variable} {is_atom : Bool} {here place : Cursor} {terms : List Term} → AreArguments text st scope is_atom here place terms → ArgumentsPart text st scope is_atom here place terms
arguments_part {text} {st} {scope} {is_atom} {here} (grammar.one t h) = record {
  ts = here.token ∷ [];
  part = part_with (λ o same. arguments_up_to same (grammar.one t h)) (part_node text here);
  are_terms = one_term here.token (argument_is st scope here t h);
  inside = first_inside text here (argument_no_sign st scope here signs.Close t h);
}
arguments_part {text} {st} {scope} {is_atom} {here} (grammar.further mid place terms t args comma h) =
    let others = arguments_part args in
    let found = expected_ok text signs.Comma mid place comma in
    let next : is_sign signs.Close (cursor_after text mid).token ≡ false = ap (λ (p : Cursor). is_sign signs.Close p.token) (sym found.1) ∙ next_argument_no_sign st scope is_atom (length terms) place signs.Close t h in
    let len : length (others.ts ++ mid.token ∷ place.token ∷ []) ≡ length others.ts + 2 = length-append others.ts (mid.token ∷ place.token ∷ []) in
    record {
      ts = others.ts ++ mid.token ∷ place.token ∷ [];
      part = part_with (λ o p. arguments_up_to p.1.1 (grammar.further mid place terms t p.0 p.1.0 h)) (part_then others.part (part_then (part_sign signs.Comma comma) (part_node text place)));
      are_terms = further_term others.ts mid.token place.token others.are_terms found.0 (next_argument_is st scope is_atom (length terms) place t h);
      inside = λ k less. later_inside text here mid (length others.ts) 2 others.part.reads.reach others.inside
          (two_behind text mid (other_sign signs.Comma signs.Close mid.token found.0 refl) next) k (subst (λ n. k < n) len less);
    }

-- ---- calls

-- a name and `(`
pub call_part : {text : List ℕ} {here : Cursor} {name : List ℕ} → here.token ≡ tokens.Name name → is_call text here ≡ true → Part text here (cursor_after text (cursor_after_node text here)) (tokens.Name name ∷ (cursor_after_node text here).token ∷ [])
    (λ o. (is_call o here ≡ true) × (cursor_after o (cursor_after_node o here) ≡ cursor_after text (cursor_after_node text here)))
call_part {text} {here} is calls =
    part_peeks (here.left - 1) (λ o same. call_same text o here same calls) (part_with (λ o p. ap (cursor_after o) p.0 ∙ p.1) (part_then (part_token is (part_node text here)) (part_behind text (cursor_after_node text here))))

spelled_call : {text : List ℕ} {st : Bool} {scope : List Variable} {here place : Cursor} {f : FormulaView} → is_call text here ≡ true → IsCall text st scope here place f
    → Spelled text (FormulaSentence primary scope) here place (λ o. (is_call o here ≡ true) × IsCall o st scope here place f)
spelled_call {text} {st} {scope} {here} {place} calls (grammar.call name mid _ terms f is room args close fits) =
    let inside = arguments_part args in
    record {
      ts = tokens.Name name ∷ (cursor_after_node text here).token ∷ (inside.ts ++ mid.token ∷ []);
      part = part_with (λ o p. (p.0.0, grammar.call name mid place terms f is room (arguments_at (sym p.0.1) p.1.0) p.1.1 fits)) (part_then (call_part is calls) (part_then inside.part (part_sign signs.Close close)));
      sentence = called scope name (cursor_after_node text here).token mid.token inside.ts (call_opened text here calls) inside.are_terms (expected_ok text signs.Close mid place close).0;
    }

pub call_met : (text : List ℕ) {here : Cursor} (mid : Cursor) (name : List ℕ) (n : ℕ) → here.token ≡ tokens.Name name → is_sign signs.Open (cursor_after_node text here).token ≡ true → bared (walk text n (cursor_after text (cursor_after_node text here))) ≡ bared mid
    → ((k : ℕ) → k < n → is_sign signs.Close (tokens_from text (cursor_after text (cursor_after_node text here)) k).token ≡ false) → is_sign signs.Close mid.token ≡ true → IsCallOf (tokens_from text here) 0 (2 + n)
unfolding cursor_after cursor_after_node
call_met text {here} mid name n is opened reach inside closed = record {
  name = name;
  named = is;
  opened = ap (λ (h : Cursor). is_sign signs.Open h.token) second ∙ opened;
  inside = λ k more less. later k more less;
  closed = ap (λ (h : Cursor). is_sign signs.Close h.token) (walk_from text 2 n here (cursor_after text (cursor_after_node text here)) start ∙ reach) ∙ closed;
  ordered = omega arith;
}
  where
    second : token_from text here.end 0 ≡ bared (cursor_after_node text here)
    second = sym (bare_token text here.end (here.left - 1))

    start : bared (walk text 2 here) ≡ bared (cursor_after text (cursor_after_node text here))
    start = bare_token text (token_from text here.end 0).end 0 ∙ ap (λ (h : Cursor). token_from text h.end 0) second ∙ sym (bare_token text (cursor_after_node text here).end (cursor_after_node text here).left)

    later : (k : ℕ) → 0 < k → k < 2 + n → is_sign signs.Close (tokens_from text here k).token ≡ false
    later zero more less = absurd (omega arith)
    later (suc zero) more less = ap (λ (h : Cursor). is_sign signs.Close h.token) second ∙ other_sign signs.Open signs.Close (cursor_after_node text here).token opened refl
    later (suc (suc k)) more less =
        let sum : suc (suc k) ≡ 2 + k = omega arith in
        ap (λ m. is_sign signs.Close (tokens_from text here m).token) sum ∙ ap (λ (h : Cursor). is_sign signs.Close h.token) (walk_from text 2 k here (cursor_after text (cursor_after_node text here)) start) ∙ inside k (omega arith)

-- ---- formulas

pub spelled : {text : List ℕ} {st : Bool} {level : Level} {scope : List Variable} {depth : ℕ} {here place : Cursor} {f : FormulaView} → grammar.Is text st level scope depth here place f
    → Spelled text (FormulaSentence level scope) here place (λ o. grammar.Is o st level scope depth here place f)
spelled {text} {st} (grammar.for_every scope depth here mid place name s a word b d) =
    let start = binder_part text here mid name s b in
    let body = spelled d in
    record {
      ts = here.token ∷ tokens.Variable name ∷ start.colon ∷ SortName s ∷ start.dot ∷ body.ts;
      part = part_with (λ o p. grammar.for_every scope depth here mid place name s a word p.0 p.1) (part_then start.part body.part);
      sentence = quantified scope here.token start.colon start.dot name s body.ts (every_quantifies here.token word) start.is_colon start.is_dot body.sentence;
    }
spelled {text} {st} (grammar.for_some scope depth here mid place name s a word b d) =
    let start = binder_part text here mid name s b in
    let body = spelled d in
    record {
      ts = here.token ∷ tokens.Variable name ∷ start.colon ∷ SortName s ∷ start.dot ∷ body.ts;
      part = part_with (λ o p. grammar.for_some scope depth here mid place name s a word p.0 p.1) (part_then start.part body.part);
      sentence = quantified scope here.token start.colon start.dot name s body.ts (some_quantifies here.token word) start.is_colon start.is_dot body.sentence;
    }
spelled {text} {st} (grammar.implication scope depth here mid place a b nq d sign room e) =
    let left = spelled d in
    let right = spelled e in
    record {
      ts = left.ts ++ mid.token ∷ right.ts;
      part = part_with (λ o p. grammar.implication scope depth here mid place a b nq p.0 sign room (is_at (sym p.1.0) p.1.1)) (part_then left.part (part_then (part_node text mid) right.part));
      sentence = implication scope left.ts right.ts mid.token left.sentence sign right.sentence;
    }
spelled {text} {st} (grammar.one_disjunction scope depth here place a nq d) = let one = spelled d in record { ts = one.ts; part = part_with (λ o p. grammar.one_disjunction scope depth here place a nq p) one.part; sentence = one_disjunction scope one.ts one.sentence }
spelled {text} {st} (grammar.or_further scope depth here mid place a b d sign room e) =
    let left = spelled d in
    let right = spelled e in
    record {
      ts = left.ts ++ mid.token ∷ right.ts;
      part = part_with (λ o p. grammar.or_further scope depth here mid place a b p.0 sign room (is_at (sym p.1.0) p.1.1)) (part_then left.part (part_then (part_node text mid) right.part));
      sentence = or_further scope left.ts right.ts mid.token left.sentence sign right.sentence;
    }
spelled {text} {st} (grammar.one_conjunction scope depth here place a d) = let one = spelled d in record { ts = one.ts; part = part_with (λ o p. grammar.one_conjunction scope depth here place a p) one.part; sentence = one_conjunction scope one.ts one.sentence }
spelled {text} {st} (grammar.and_further scope depth here mid place a b d sign room e) =
    let left = spelled d in
    let right = spelled e in
    record {
      ts = left.ts ++ mid.token ∷ right.ts;
      part = part_with (λ o p. grammar.and_further scope depth here mid place a b p.0 sign room (is_at (sym p.1.0) p.1.1)) (part_then left.part (part_then (part_node text mid) right.part));
      sentence = and_further scope left.ts right.ts mid.token left.sentence sign right.sentence;
    }
spelled {text} {st} (grammar.one_unary scope depth here place a d) = let one = spelled d in record { ts = one.ts; part = part_with (λ o p. grammar.one_unary scope depth here place a p) one.part; sentence = one_unary scope one.ts one.sentence }
spelled {text} {st} (grammar.saying scope depth here mid place who a says k d) =
    let start = speaker_part text scope here mid who says k in
    let body = spelled d in
    record {
      ts = here.token ∷ start.word ∷ body.ts;
      part = part_with (λ o p. grammar.saying scope depth here mid place who a p.0.0 p.0.1 p.1) (part_then start.part body.part);
      sentence = saying scope here.token start.word body.ts start.speaks start.is_says body.sentence;
    }
spelled {text} {st} (grammar.one_postfix scope depth here place a none d) =
    let one = spelled d in
    record { ts = one.ts; part = part_with (λ o p. grammar.one_postfix scope depth here place a p.0 p.1) (part_peeks (here.left - 1) (λ o same. saying_same text o here same none) one.part); sentence = one_postfix scope one.ts one.sentence }
spelled {text} {st} (grammar.on_interval scope depth here mid place a from to d sign iv) =
    let body = spelled d in
    let times = interval_part text st scope mid place from to iv in
    record {
      ts = body.ts ++ mid.token ∷ times.open_ ∷ times.low ∷ times.comma ∷ times.high ∷ times.close ∷ [];
      part = part_with (λ o p. grammar.on_interval scope depth here mid place a from to p.0 sign p.1) (part_then body.part times.part);
      sentence = on_interval scope body.ts mid.token times.open_ times.low times.comma times.high times.close body.sentence sign times.is_open times.low_term times.is_comma times.high_term times.is_close;
    }
spelled {text} {st} (grammar.one_primary scope depth here place a d) = let one = spelled d in record { ts = one.ts; part = part_with (λ o p. grammar.one_primary scope depth here place a p) one.part; sentence = one_primary scope one.ts one.sentence }
spelled {text} {st} (grammar.group scope depth here mid place a opens room d close) =
    let inside = spelled d in
    record {
      ts = here.token ∷ (inside.ts ++ mid.token ∷ []);
      part = part_with (λ o p. grammar.group scope depth here mid place a opens room (is_at (sym p.0) p.1.0) p.1.1) (part_then (part_behind text here) (part_then inside.part (part_sign signs.Close close)));
      sentence = group scope here.token mid.token inside.ts opens inside.sentence (expected_ok text signs.Close mid place close).0;
    }
spelled {text} {st} (grammar.called scope depth here place a closed calls c) =
    let one = spelled_call calls c in record { ts = one.ts; part = part_with (λ o p. grammar.called scope depth here place a closed p.0 p.1) one.part; sentence = one.sentence }
spelled {text} {st} (grammar.one_simple scope depth here place a closed no_call h) =
    let one = spelled_simple text st scope here place a h in
    record { ts = one.ts; part = part_with (λ o p. grammar.one_simple scope depth here place a closed p.0 p.1) (part_peeks (here.left - 1) (λ o same. call_same text o here same no_call) one.part); sentence = one.sentence }
