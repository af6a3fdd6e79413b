-- A fault of a part of a formula's text is met at one token: what was read before it can be completed to a sentence, and the tokens up to it decide the fault.
use Rattle.std.proofs.Common.{◌≡◌, ℕ, ◌+◌, ◌-◌, ◌≤◌, Bool, true, false, List, [], ◌∷◌, ◌++◌, length, append_assoc, append-nil, refl, sym, ap, ◌∙◌, subst, arith, Result, Ok, Err, ◌⊎◌, inl, inr}
use Rattle.std.specs.Prelude.{◌||◌}
use Rattle.std.proofs.lemmas.Bool.{false≢true, or_right}
use Rattle.std.proofs.lemmas.List.{length-append}
use Rattle.bl_syntax.specs.declared.terms.Sort.TheVariants as sorts
use Rattle.bl_syntax.specs.declared.terms.Term.{Term}
use Rattle.bl_syntax.specs.declared.terms.Term.TheVariants.{Ctime}
use Rattle.bl_syntax.specs.Formula.{FormulaView}
use Rattle.bl_syntax.specs.Formula as forms
use Rattle.bl_syntax.specs.Names.{is_predicate_name}
use Rattle.bl_tokens.specs.declared.faults.TextFault.{TextFault}
use Rattle.bl_tokens.specs.declared.faults.TextFault.TheVariants.{Unexpected, Sort, TooLarge, NoMemory}
use Rattle.bl_tokens.specs.declared.tokens.Sign.{Sign as Sign'}
use Rattle.bl_tokens.specs.declared.tokens.Sign.TheVariants as signs
use Rattle.bl_tokens.specs.declared.tokens.Keyword.TheVariants as keywords
use Rattle.bl_tokens.specs.declared.tokens.Token.{Token}
use Rattle.bl_tokens.specs.declared.tokens.Token.TheVariants.{Constant, SortName, Keyword}
use Rattle.bl_tokens.specs.declared.tokens.Token.TheVariants as tokens
use Rattle.bl_tokens.specs.declared.tokens.Cursor.{Cursor}
use Rattle.bl_tokens.specs.Tokens.{token_from, cursor_after, cursor_after_node, is_sign, is_word}
use Rattle.bl_text.specs.Scope.{Variable}
use Rattle.bl_text.specs.Pieces.{count, expect_sign, term_of, require_sayable, require_sort, argument, next_argument, time_argument, interval, variable_name, sort_at, binder, speaker, less_sign, comparison, apply_predicate, name_alone, constant_formula, simple_by, simple_formula}
use Rattle.bl_text.specs.Grammar.{Level, formula, disjunction, conjunction, unary, postfix, primary, is_quantifier, is_saying, is_call, is_call_token, AreArguments}
use Rattle.bl_text.specs.FirstFaults.{ArgumentsHaveFirstFault, no_memory_for_arguments, in_first_argument, in_argument, CallHasFirstFault, at_name, in_arguments, before_close, by_sorts, HasFirstFault, no_memory, in_binder, in_body, in_premise, at_implies, in_conclusion, in_first_disjunct, at_or, in_disjunct, in_first_conjunct, at_and, in_conjunct, in_speaker, in_said, in_postfix, in_primary, in_interval, too_deep, in_group, not_closed, in_call, in_simple}
use Rattle.bl_text.specs.FirstTokens.{SameTokens}
use Rattle.bl_text.specs.Met.{IsMisread, unexpected, unknown_name, bad_date, ends_term, IsMetAt, misread, at_term, before_sign, at_close, without_arguments, at_limit, allowed}
use Rattle.bl_text.specs.Sentences.{IsSign, IsTerm, principal, constant, AreTerms, one_term, further_term, FormulaSentence, quantified, implication, one_disjunction, or_further, one_conjunction, and_further, one_unary, saying, one_postfix, on_interval, one_primary, group, called, alone, compared, truth, falsity}
use Rattle.bl_text.proofs.ReadLemmas.{expected-Ok, is_at, stops_at, is_call-name}
use Rattle.bl_text.proofs.FirstTokensLemmas.{one_token, walk, walk_from, tokens_from, same_first, behind_parts, met_shifted}
use Rattle.bl_text.proofs.PieceLemmas.{err_cases, never_err, err_first, ok_then, misread_is, only_is, if_only, count_only, term_misreads, sayable_only, sorted_only, variable_misreads_by, sort_misreads_by, less_misreads, expected_misreads, applied_only, expected_ok, call_opened, saying_same, call_same, colon_sign, dot_sign, comma_sign, up_to_sign, close_sign, open_interval_sign, close_interval_sign, says_keyword, not_expected}
use Rattle.bl_text.proofs.TotalLemmas.{by_test}
use Rattle.bl_text.proofs.PartLemmas.{between, between_plus, between_bare, joined, Part, part_then, part_peeks, part_token, part_behind, part_node, part_sign, term_is, speaker_is_by, argument_is, variable_is_by, sort_is_by, time_argument_is, binder_part, says_word, speaker_part, less_is, name_by, name_before, alone_before, arguments_at, arguments_part, call_part, call_met, spelled}
use Rattle.bl_text.proofs.IsStatementLemmas.{name_term}

-- ---- the ends of what may go on

-- `true` stands in each place
pub default : (level : Level) (scope : List Variable) → FormulaSentence level scope (Keyword keywords.True ∷ [])
default primary scope = truth scope
default postfix scope = one_primary scope _ (truth scope)
default unary scope = one_postfix scope _ (one_primary scope _ (truth scope))
default conjunction scope = one_unary scope _ (one_postfix scope _ (one_primary scope _ (truth scope)))
default disjunction scope = one_conjunction scope _ (one_unary scope _ (one_postfix scope _ (one_primary scope _ (truth scope))))
default formula scope = one_disjunction scope _ (one_conjunction scope _ (one_unary scope _ (one_postfix scope _ (one_primary scope _ (truth scope)))))

-- ---- where a fault is met

-- the fault is met after tokens that can be completed, and the tokens up to it decide that
pub record Exact (text : List ℕ) (IsOne : List Token → Type 0) (here : Cursor) (e : TextFault) (P : List ℕ → Type 0) : Type 0 where
  pub number : ℕ
  pub ahead : ℕ
  pub met : IsMetAt (tokens_from text here) number ahead e
  pub ts : List Token
  pub spelled : between text (number + allowed e) here ≡ ts
  pub others : List Token
  pub sentence : IsOne (ts ++ others)
  pub holds : (other : List ℕ) → SameTokens text other (number + ahead) here.end → P other

-- and on the token after the first one too
pub record Later (text : List ℕ) (IsOne : List Token → Type 0) (here : Cursor) (e : TextFault) (P : List ℕ → Type 0) : Type 0 where
  pub exact : Exact text IsOne here e P
  pub some : 1 ≤ exact.number + exact.ahead

pub exact_with : {text : List ℕ} {A B : List Token → Type 0} {here : Cursor} {e : TextFault} {P Q : List ℕ → Type 0} → ((ts : List Token) → A ts → B ts) → ((other : List ℕ) → P other → Q other) → Exact text A here e P → Exact text B here e Q
exact_with f g x = record { number = x.number; ahead = x.ahead; met = x.met; ts = x.ts; spelled = x.spelled; others = x.others; sentence = f (x.ts ++ x.others) x.sentence; holds = λ o same. g o (x.holds o same) }

later_with : {text : List ℕ} {A B : List Token → Type 0} {here : Cursor} {e : TextFault} {P Q : List ℕ → Type 0} → ((ts : List Token) → A ts → B ts) → ((other : List ℕ) → P other → Q other) → Later text A here e P → Later text B here e Q
later_with f g x = record {
  exact = record { number = x.exact.number; ahead = x.exact.ahead; met = x.exact.met; ts = x.exact.ts; spelled = x.exact.spelled; others = x.exact.others; sentence = f (x.exact.ts ++ x.exact.others) x.exact.sentence; holds = λ o same. g o (x.exact.holds o same) };
  some = x.some;
}

-- after what was read, with what goes on after the part
pub later_after : {text : List ℕ} {A B : List Token → Type 0} {here mid : Cursor} {e : TextFault} {front : List Token} {P Q R : List ℕ → Type 0} (back : List Token) → Part text here mid front P
    → ((ts : List Token) → A ts → B (front ++ (ts ++ back))) → ((other : List ℕ) → P other → Q other → R other) → Exact text A mid e Q → Later text B here e R
later_after {text} {A} {B} {here} {mid} {e} {front} back p f g x = record {
  exact = record {
    number = length front + x.number;
    ahead = x.ahead;
    met = met_shifted (tokens_from text here) (tokens_from text mid) (length front) (λ k. walk_from text (length front) k here mid p.reads.reach) x.met;
    ts = front ++ x.ts;
    spelled = (let n : length front + x.number + allowed e ≡ length front + (x.number + allowed e) = omega arith in
        ap (λ k. between text k here) n ∙ between_plus text (length front) (x.number + allowed e) here ∙ ap (λ vs. vs ++ between text (x.number + allowed e) (walk text (length front) here)) p.reads.spelled
        ∙ ap (λ vs. front ++ vs) (between_bare text (x.number + allowed e) (walk text (length front) here) mid p.reads.reach ∙ x.spelled));
    others = x.others ++ back;
    sentence = subst B (ap (λ us. front ++ us) (append_assoc x.ts x.others back) ∙ sym (append_assoc front x.ts (x.others ++ back))) (f (x.ts ++ x.others) x.sentence);
    holds = λ o same. (let n : length front + x.number + x.ahead ≡ length front + (x.number + x.ahead) = omega arith in
        let parts = behind_parts text o (length front) (x.number + x.ahead) here mid p.reads.reach (subst (λ m. SameTokens text o m here.end) n same) in
        g o (p.holds o parts.0) (x.holds o parts.1));
  };
  some = (let few = p.some in omega (arith, few));
}

-- what is read next
pub later_next : {text : List ℕ} {A B : List Token → Type 0} {here mid : Cursor} {e : TextFault} {front : List Token} {P Q R : List ℕ → Type 0} → Part text here mid front P
    → ((ts : List Token) → A ts → B (front ++ ts)) → ((other : List ℕ) → P other → Q other → R other) → Exact text A mid e Q → Later text B here e R
later_next {B = B} {front = front} p f g x = later_after [] p (λ ts a. subst B (ap (λ us. front ++ us) (sym (append-nil ts))) (f ts a)) g x

-- a fault at the place after what was read
pub later_at : {text : List ℕ} {B : List Token → Type 0} {here mid : Cursor} {e : TextFault} {front : List Token} {P R : List ℕ → Type 0} → Part text here mid front P
    → ((other : List ℕ) → P other → R other) → Exact text (λ us. B (front ++ us)) mid e (λ o. Unit {0}) → Later text B here e R
later_at {B = B} {front = front} p g x = later_next {A = λ us. B (front ++ us)} {B = B} p (λ ts a. a) (λ o h u. g o h) x

later_peeks : {text : List ℕ} {A : List Token → Type 0} {here : Cursor} {e : TextFault} {P R : List ℕ → Type 0} (left : ℕ) → ((o : List ℕ) → token_from o here.end left ≡ token_from text here.end left → R o) → Later text A here e P → Later text A here e (λ o. R o × P o)
later_peeks {text} {here = here} left f x = record {
  exact = record {
    number = x.exact.number;
    ahead = x.exact.ahead;
    met = x.exact.met;
    ts = x.exact.ts;
    spelled = x.exact.spelled;
    others = x.exact.others;
    sentence = x.exact.sentence;
    holds = λ o same. (f o (one_token text o here.end left (same_first text o (x.exact.number + x.exact.ahead) here.end x.some same)), x.exact.holds o same);
  };
  some = x.some;
}

-- ---- at one token

misread_allowed : {at : ℕ} {e : TextFault} → IsMisread at e → 0 + allowed e ≡ 0
misread_allowed unexpected = refl
misread_allowed unknown_name = refl
misread_allowed bad_date = refl

pub here_misread : {text : List ℕ} {IsOne : List Token → Type 0} {here : Cursor} {e : TextFault} {P : List ℕ → Type 0} (others : List Token) → IsMisread here.at e → IsOne others → ((other : List ℕ) → P other) → Exact text IsOne here e P
here_misread {text} {here = here} {e} others at sentence p =
    record { number = 0; ahead = 0; met = misread e at; ts = []; spelled = ap (λ n. between text n here) (misread_allowed at); others = others; sentence = sentence; holds = λ o same. p o }

here_limit : {text : List ℕ} {IsOne : List Token → Type 0} {here : Cursor} {e : TextFault} {P : List ℕ → Type 0} (others : List Token) → e ≡ TooLarge here.at → IsOne (here.token ∷ others) → ((other : List ℕ) → P other) → Later text IsOne here e P
here_limit {text} {IsOne} {here} {e} {P} others is sentence p = subst (λ f. Later text IsOne here f P) (sym is) (record {
  exact = record { number = 0; ahead = 1; met = at_limit; ts = here.token ∷ []; spelled = refl; others = others; sentence = sentence; holds = λ o same. p o };
  some = omega arith;
})

here_term : {text : List ℕ} {IsOne : List Token → Type 0} {here : Cursor} {e : TextFault} {P : List ℕ → Type 0} (others : List Token) → e ≡ Sort here.at → IsOne (here.token ∷ others) → ((other : List ℕ) → P other) → Exact text IsOne here e P
here_term {text} {IsOne} {here} {e} {P} others is sentence p = subst (λ f. Exact text IsOne here f P) (sym is) (record {
  number = 0;
  ahead = 0;
  met = at_term;
  ts = here.token ∷ [];
  spelled = refl;
  others = others;
  sentence = sentence;
  holds = λ o same. p o;
})

-- the sort of a term, at the sign after it
before : {text : List ℕ} {IsOne : List Token → Type 0} {here next : Cursor} {e : TextFault} {P R : List ℕ → Type 0} (others : List Token) → Part text here next (here.token ∷ []) P → ((other : List ℕ) → P other → R other) → e ≡ Sort here.at
    → ends_term next.token ≡ true → IsOne (here.token ∷ next.token ∷ others) → Later text IsOne here e R
before {text} {IsOne} {here} {next} {e} {P} {R} others p g is ends sentence = subst (λ f. Later text IsOne here f R) (sym is) (record {
  exact = record {
    number = 1;
    ahead = 0;
    met = before_sign 0 refl (ap (λ (h : Cursor). ends_term h.token) p.reads.reach ∙ ends);
    ts = here.token ∷ next.token ∷ [];
    spelled = ap (λ (h : Cursor). here.token ∷ h.token ∷ []) p.reads.reach;
    others = others;
    sentence = sentence;
    holds = λ o same. g o (p.holds o same);
  };
  some = omega arith;
})

-- ---- terms

-- what should be a term is none, or is refused for its sort or for want of room
data TermStops (scope : List Variable) (here : Cursor) (e : TextFault) : Type 0 where
  no_term : IsMisread here.at e → TermStops scope here e
  wrong_term : IsTerm scope here.token → e ≡ Sort here.at → TermStops scope here e
  large_term : IsTerm scope here.token → e ≡ TooLarge here.at → TermStops scope here e

argument_stops : (st : Bool) (scope : List Variable) (here : Cursor) (e : TextFault) → argument st scope here ≡ Err e → TermStops scope here e
unfolding argument
argument_stops st scope here e h =
    err_cases (term_of scope here) _ h (λ bad. no_term (misread_is (term_misreads scope here) bad))
    (λ t is h1. err_cases (require_sayable st here.at t) _ h1 (λ bad. wrong_term (term_is scope here t is) (only_is (sayable_only st here.at t) bad))
    (λ _ said h2. err_cases (count here) _ h2 (λ full. large_term (term_is scope here t is) (only_is (count_only here) full)) (λ _ room h3. never_err h3)))

next_argument_stops : (st : Bool) (scope : List Variable) (is_atom : Bool) (others : ℕ) (here : Cursor) (e : TextFault) → next_argument st scope is_atom others here ≡ Err e → TermStops scope here e
unfolding next_argument
next_argument_stops st scope is_atom others here e h =
    err_cases (argument st scope here) _ h (λ bad. argument_stops st scope here e bad) (λ t is h1. large_term (argument_is st scope here t is) (only_is (if_only (TooLarge here.at) _ (Err (TooLarge here.at)) (Ok t) refl tt) h1))

time_argument_stops : (st : Bool) (scope : List Variable) (here : Cursor) (e : TextFault) → time_argument st scope here ≡ Err e → TermStops scope here e
unfolding time_argument
time_argument_stops st scope here e h =
    err_cases (term_of scope here) _ h (λ bad. no_term (misread_is (term_misreads scope here) bad))
    (λ t is h1. err_cases (require_sayable st here.at t) _ h1 (λ bad. wrong_term (term_is scope here t is) (only_is (sayable_only st here.at t) bad))
    (λ _ said h2. err_cases (require_sort scope sorts.Time here.at t) _ h2 (λ bad. wrong_term (term_is scope here t is) (only_is (sorted_only scope sorts.Time here.at t) bad))
    (λ _ time h3. err_cases (count here) _ h3 (λ full. large_term (term_is scope here t is) (only_is (count_only here) full)) (λ _ room h4. never_err h4))))

term_exact : {text : List ℕ} {IsOne : List Token → Type 0} {scope : List Variable} {here : Cursor} {e : TextFault} {P : List ℕ → Type 0} (others : List Token) → TermStops scope here e → ((t : Token) → IsTerm scope t → IsOne (t ∷ others)) → ((other : List ℕ) → P other)
    → Exact text IsOne here e P
term_exact others (no_term m) f p = here_misread (Constant Ctime ∷ others) m (f (Constant Ctime) (constant Ctime)) p
term_exact {here = here} others (wrong_term t is) f p = here_term others is (f here.token t) p
term_exact {here = here} others (large_term t is) f p = (here_limit others is (f here.token t) p).exact

-- ---- pieces

expected_err : (text other : List ℕ) (sign : Sign') (here : Cursor) {e : TextFault} → expect_sign text sign here ≡ Err e → expect_sign other sign here ≡ Err e
unfolding expect_sign
expected_err text other sign here {e} h = not_expected (is_sign sign here.token) (cursor_after text here) (cursor_after other here) (Unexpected here.at) e h

later_binder : (text : List ℕ) (scope : List Variable) (here : Cursor) (e : TextFault) → is_quantifier here.token ≡ true → binder text here ≡ Err e → Later text (FormulaSentence formula scope) here e (λ o. binder o here ≡ Err e)
unfolding binder
later_binder text scope here e word h =
    let second = cursor_after_node text here in
    let third = cursor_after text second in
    err_cases (count here) _ h
    (λ full. here_limit (tokens.Variable [] ∷ tokens.Sign signs.Colon ∷ SortName sorts.Time ∷ tokens.Sign signs.Dot ∷ Keyword keywords.True ∷ []) (only_is (count_only here) full)
    (quantified scope here.token (tokens.Sign signs.Colon) (tokens.Sign signs.Dot) [] sorts.Time (Keyword keywords.True ∷ []) word colon_sign dot_sign (default formula (([], sorts.Time) ∷ scope))) (λ o. err_first (count here) _ full))
    (λ u room h1.
    let first = part_node text here in
    err_cases (variable_name second) _ h1
    (λ bad. later_at first (λ o p. ok_then (count here) _ u room (err_first (variable_name (cursor_after_node o here)) _ (ap variable_name p ∙ bad)))
    (here_misread (tokens.Variable [] ∷ tokens.Sign signs.Colon ∷ SortName sorts.Time ∷ tokens.Sign signs.Dot ∷ Keyword keywords.True ∷ []) (misread_is (variable_misreads_by second second.token refl) bad)
    (quantified scope here.token (tokens.Sign signs.Colon) (tokens.Sign signs.Dot) [] sorts.Time (Keyword keywords.True ∷ []) word colon_sign dot_sign (default formula (([], sorts.Time) ∷ scope))) (λ o. tt)))
    (λ name is h2.
    let two = part_then first (part_token (variable_is_by second name is second.token refl) (part_behind text second)) in
    err_cases (expect_sign text signs.Colon third) _ h2
    (λ bad. later_at two (λ o p. ok_then (count here) _ u room (ok_then (variable_name (cursor_after_node o here)) _ name (ap variable_name p.0 ∙ is)
    (err_first (expect_sign o signs.Colon (cursor_after o (cursor_after_node o here))) _ (ap (expect_sign o signs.Colon) (ap (cursor_after o) p.0 ∙ p.1) ∙ expected_err text o signs.Colon third bad))))
    (here_misread (tokens.Sign signs.Colon ∷ SortName sorts.Time ∷ tokens.Sign signs.Dot ∷ Keyword keywords.True ∷ []) (misread_is (expected_misreads text signs.Colon third) bad)
    (quantified scope here.token (tokens.Sign signs.Colon) (tokens.Sign signs.Dot) name sorts.Time (Keyword keywords.True ∷ []) word colon_sign dot_sign (default formula ((name, sorts.Time) ∷ scope))) (λ o. tt)))
    (λ place colon h3.
    let is_colon = (expected_ok text signs.Colon third place colon).0 in
    let three = part_then two (part_sign signs.Colon colon) in
    err_cases (sort_at place) _ h3
    (λ bad. later_at three (λ o p. ok_then (count here) _ u room (ok_then (variable_name (cursor_after_node o here)) _ name (ap variable_name p.0.0 ∙ is)
    (ok_then (expect_sign o signs.Colon (cursor_after o (cursor_after_node o here))) _ place (ap (expect_sign o signs.Colon) (ap (cursor_after o) p.0.0 ∙ p.0.1) ∙ p.1) (err_first (sort_at place) _ bad))))
    (here_misread (SortName sorts.Time ∷ tokens.Sign signs.Dot ∷ Keyword keywords.True ∷ []) (misread_is (sort_misreads_by place place.token refl) bad)
    (quantified scope here.token third.token (tokens.Sign signs.Dot) name sorts.Time (Keyword keywords.True ∷ []) word is_colon dot_sign (default formula ((name, sorts.Time) ∷ scope))) (λ o. tt)))
    (λ s sort h4. err_cases (expect_sign text signs.Dot (cursor_after text place)) _ h4
    (λ bad. later_at (part_then three (part_token (sort_is_by place s sort place.token refl) (part_behind text place))) (λ o p. ok_then (count here) _ u room (ok_then (variable_name (cursor_after_node o here)) _ name (ap variable_name p.0.0.0 ∙ is)
    (ok_then (expect_sign o signs.Colon (cursor_after o (cursor_after_node o here))) _ place (ap (expect_sign o signs.Colon) (ap (cursor_after o) p.0.0.0 ∙ p.0.0.1) ∙ p.0.1)
    (ok_then (sort_at place) _ s sort (err_first (expect_sign o signs.Dot (cursor_after o place)) _ (ap (expect_sign o signs.Dot) p.1 ∙ expected_err text o signs.Dot (cursor_after text place) bad))))))
    (here_misread (tokens.Sign signs.Dot ∷ Keyword keywords.True ∷ []) (misread_is (expected_misreads text signs.Dot (cursor_after text place)) bad)
    (quantified scope here.token third.token (tokens.Sign signs.Dot) name s (Keyword keywords.True ∷ []) word is_colon dot_sign (default formula ((name, s) ∷ scope))) (λ o. tt)))
    (λ last dot h5. never_err h5)))))

-- after a formula of these tokens
later_interval : (text : List ℕ) (st : Bool) (scope : List Variable) (here : Cursor) (ts : List Token) (e : TextFault) → FormulaSentence postfix scope ts → IsSign signs.At here.token → interval text st scope here ≡ Err e
    → Later text (λ us. FormulaSentence postfix scope (ts ++ us)) here e (λ o. interval o st scope here ≡ Err e)
unfolding interval
later_interval text st scope here ts e a at h =
    let second = cursor_after_node text here in
    err_cases (count here) _ h
    (λ full. here_limit (tokens.Sign signs.OpenInterval ∷ Constant Ctime ∷ tokens.Sign signs.Comma ∷ Constant Ctime ∷ tokens.Sign signs.CloseInterval ∷ []) (only_is (count_only here) full)
    (on_interval scope ts here.token _ _ _ _ _ a at open_interval_sign (constant Ctime) comma_sign (constant Ctime) close_interval_sign) (λ o. err_first (count here) _ full))
    (λ u room h1.
    let one = part_node text here in
    err_cases (expect_sign text signs.OpenInterval second) _ h1
    (λ bad. later_at {B = λ us. FormulaSentence postfix scope (ts ++ us)} one
    (λ o p. ok_then (count here) _ u room (err_first (expect_sign o signs.OpenInterval (cursor_after_node o here)) _ (ap (expect_sign o signs.OpenInterval) p ∙ expected_err text o signs.OpenInterval second bad)))
    (here_misread (tokens.Sign signs.OpenInterval ∷ Constant Ctime ∷ tokens.Sign signs.Comma ∷ Constant Ctime ∷ tokens.Sign signs.CloseInterval ∷ []) (misread_is (expected_misreads text signs.OpenInterval second) bad)
    (on_interval scope ts here.token _ _ _ _ _ a at open_interval_sign (constant Ctime) comma_sign (constant Ctime) close_interval_sign) (λ o. tt)))
    (λ first opens h2.
    let is_open = (expected_ok text signs.OpenInterval second first opens).0 in
    let two = part_then one (part_sign signs.OpenInterval opens) in
    err_cases (time_argument st scope first) _ h2
    (λ bad. later_at {B = λ us. FormulaSentence postfix scope (ts ++ us)} two
    (λ o p. ok_then (count here) _ u room (ok_then (expect_sign o signs.OpenInterval (cursor_after_node o here)) _ first (ap (expect_sign o signs.OpenInterval) p.0 ∙ p.1) (err_first (time_argument st scope first) _ bad)))
    (term_exact (tokens.Sign signs.Comma ∷ Constant Ctime ∷ tokens.Sign signs.CloseInterval ∷ []) (time_argument_stops st scope first e bad) (λ t is. on_interval scope ts here.token _ _ _ _ _ a at is_open is comma_sign (constant Ctime) close_interval_sign) (λ o. tt)))
    (λ from low h3.
    let from_term = time_argument_is st scope first from low in
    let three = part_then two (part_node text first) in
    err_cases (expect_sign text signs.Comma (cursor_after_node text first)) _ h3
    (λ bad. later_at {B = λ us. FormulaSentence postfix scope (ts ++ us)} three
    (λ o p. ok_then (count here) _ u room (ok_then (expect_sign o signs.OpenInterval (cursor_after_node o here)) _ first (ap (expect_sign o signs.OpenInterval) p.0.0 ∙ p.0.1)
    (ok_then (time_argument st scope first) _ from low (err_first (expect_sign o signs.Comma (cursor_after_node o first)) _ (ap (expect_sign o signs.Comma) p.1 ∙ expected_err text o signs.Comma (cursor_after_node text first) bad)))))
    (here_misread (tokens.Sign signs.Comma ∷ Constant Ctime ∷ tokens.Sign signs.CloseInterval ∷ []) (misread_is (expected_misreads text signs.Comma (cursor_after_node text first)) bad)
    (on_interval scope ts here.token _ _ _ _ _ a at is_open from_term comma_sign (constant Ctime) close_interval_sign) (λ o. tt)))
    (λ second_ comma h4.
    let is_comma = (expected_ok text signs.Comma (cursor_after_node text first) second_ comma).0 in
    let four = part_then three (part_sign signs.Comma comma) in
    err_cases (time_argument st scope second_) _ h4
    (λ bad. later_at {B = λ us. FormulaSentence postfix scope (ts ++ us)} four
    (λ o p. ok_then (count here) _ u room (ok_then (expect_sign o signs.OpenInterval (cursor_after_node o here)) _ first (ap (expect_sign o signs.OpenInterval) p.0.0.0 ∙ p.0.0.1)
    (ok_then (time_argument st scope first) _ from low (ok_then (expect_sign o signs.Comma (cursor_after_node o first)) _ second_ (ap (expect_sign o signs.Comma) p.0.1 ∙ p.1) (err_first (time_argument st scope second_) _ bad)))))
    (term_exact (tokens.Sign signs.CloseInterval ∷ []) (time_argument_stops st scope second_ e bad) (λ t is. on_interval scope ts here.token _ _ _ _ _ a at is_open from_term is_comma is close_interval_sign) (λ o. tt)))
    (λ to high h5. err_cases (expect_sign text signs.CloseInterval (cursor_after_node text second_)) _ h5
    (λ bad. later_at {B = λ us. FormulaSentence postfix scope (ts ++ us)} (part_then four (part_node text second_))
    (λ o p. ok_then (count here) _ u room (ok_then (expect_sign o signs.OpenInterval (cursor_after_node o here)) _ first (ap (expect_sign o signs.OpenInterval) p.0.0.0.0 ∙ p.0.0.0.1)
    (ok_then (time_argument st scope first) _ from low (ok_then (expect_sign o signs.Comma (cursor_after_node o first)) _ second_ (ap (expect_sign o signs.Comma) p.0.0.1 ∙ p.0.1)
    (ok_then (time_argument st scope second_) _ to high (err_first (expect_sign o signs.CloseInterval (cursor_after_node o second_)) _ (ap (expect_sign o signs.CloseInterval) p.1 ∙ expected_err text o signs.CloseInterval (cursor_after_node text second_) bad)))))))
    (here_misread (tokens.Sign signs.CloseInterval ∷ []) (misread_is (expected_misreads text signs.CloseInterval (cursor_after_node text second_)) bad)
    (on_interval scope ts here.token _ _ _ _ _ a at is_open from_term is_comma (time_argument_is st scope second_ to high) close_interval_sign) (λ o. tt)))
    (λ last close h6. never_err h6))))))

-- ---- parts of a formula

-- the fault is one of the term that should stand first, whatever stands after it, or it is decided by a later token
pub data FaultReported (text : List ℕ) (st : Bool) (level : Level) (scope : List Variable) (depth : ℕ) (here : Cursor) (e : TextFault) : Type 0 where
  first : term_of scope here ≡ Err e → ((o : List ℕ) → HasFirstFault o st level scope depth here e) → FaultReported text st level scope depth here e
  later : Later text (FormulaSentence level scope) here e (λ o. HasFirstFault o st level scope depth here e) → FaultReported text st level scope depth here e

pub told_exact : {text : List ℕ} {st : Bool} {level : Level} {scope : List Variable} {depth : ℕ} {here : Cursor} {e : TextFault} → FaultReported text st level scope depth here e → Exact text (FormulaSentence level scope) here e (λ o. HasFirstFault o st level scope depth here e)
told_exact {level = level} {scope} {here = here} (first bad all) = here_misread (Keyword keywords.True ∷ []) (misread_is (term_misreads scope here) bad) (default level scope) all
told_exact (later x) = x.exact

pass : {text : List ℕ} {st : Bool} {level level' : Level} {scope : List Variable} {depth : ℕ} {here : Cursor} {e : TextFault} → ((ts : List Token) → FormulaSentence level scope ts → FormulaSentence level' scope ts)
    → ((o : List ℕ) → HasFirstFault o st level scope depth here e → HasFirstFault o st level' scope depth here e) → FaultReported text st level scope depth here e → FaultReported text st level' scope depth here e
pass f g (first bad all) = first bad (λ o. g o (all o))
pass f g (later x) = later (later_with f g x)

told_after : {text : List ℕ} {st : Bool} {level level' : Level} {scope scope' : List Variable} {depth depth' : ℕ} {here mid : Cursor} {e : TextFault} {front : List Token} {P : List ℕ → Type 0} (back : List Token) → Part text here mid front P
    → ((ts : List Token) → FormulaSentence level scope ts → FormulaSentence level' scope' (front ++ (ts ++ back))) → ((o : List ℕ) → P o → HasFirstFault o st level scope depth mid e → HasFirstFault o st level' scope' depth' here e)
    → FaultReported text st level scope depth mid e → FaultReported text st level' scope' depth' here e
told_after back p f g t = later (later_after back p f g (told_exact t))

told_next : {text : List ℕ} {st : Bool} {level level' : Level} {scope scope' : List Variable} {depth depth' : ℕ} {here mid : Cursor} {e : TextFault} {front : List Token} {P : List ℕ → Type 0} → Part text here mid front P
    → ((ts : List Token) → FormulaSentence level scope ts → FormulaSentence level' scope' (front ++ ts)) → ((o : List ℕ) → P o → HasFirstFault o st level scope depth mid e → HasFirstFault o st level' scope' depth' here e)
    → FaultReported text st level scope depth mid e → FaultReported text st level' scope' depth' here e
told_next p f g t = later (later_next p f g (told_exact t))

-- what is read after the sign that follows what was read
told_operand : {text : List ℕ} {st : Bool} {level level' : Level} {scope : List Variable} {depth : ℕ} {here mid : Cursor} {e : TextFault} {ts : List Token} {P : List ℕ → Type 0} → Part text here mid ts P
    → ((us : List Token) → FormulaSentence level scope us → FormulaSentence level' scope (ts ++ mid.token ∷ us))
    → ((o : List ℕ) → P o → HasFirstFault o st level scope depth (cursor_after_node o mid) e → HasFirstFault o st level' scope depth here e)
    → FaultReported text st level scope depth (cursor_after_node text mid) e → FaultReported text st level' scope depth here e
told_operand {text} {level' = level'} {scope} {mid = mid} {ts = ts} p f g t =
    told_next (part_then p (part_node text mid)) (λ us c. subst (FormulaSentence level' scope) (sym (append_assoc ts (mid.token ∷ []) us)) (f us c)) (λ o q k. g o q.0 (stops_at (sym q.1) k)) t

-- at the sign after what was read no node is left
told_full : {text : List ℕ} {st : Bool} {level : Level} {scope : List Variable} {depth : ℕ} {here mid : Cursor} {e : TextFault} {ts : List Token} {P : List ℕ → Type 0} → Part text here mid ts P
    → FormulaSentence level scope (ts ++ mid.token ∷ Keyword keywords.True ∷ []) → ((o : List ℕ) → P o → HasFirstFault o st level scope depth here e) → count mid ≡ Err e → FaultReported text st level scope depth here e
told_full {level = level} {scope} {mid = mid} {ts = ts} p sentence g full =
    later (later_at {B = FormulaSentence level scope} p g (here_limit {IsOne = λ us. FormulaSentence level scope (ts ++ us)} (Keyword keywords.True ∷ []) (only_is (count_only mid) full) sentence (λ o. tt)).exact)

-- ---- formulas without parentheses

less_ends : (token : Token) → IsSign signs.UpTo token → ends_term token ≡ true
less_ends token h = ap (λ b. b || is_word keywords.Says token) h

says_ends : (token : Token) → is_word keywords.Says token ≡ true → ends_term token ≡ true
says_ends token h = or_right (is_sign signs.UpTo token) (is_word keywords.Says token) h

told_comparison : (text : List ℕ) (st : Bool) (scope : List Variable) (depth : ℕ) (here : Cursor) (e : TextFault) → is_sign signs.Open here.token ≡ false → ((o : List ℕ) → is_call o here ≡ false)
    → ((o : List ℕ) → simple_formula o st scope here ≡ comparison o st scope here) → comparison text st scope here ≡ Err e → FaultReported text st primary scope depth here e
unfolding comparison
told_comparison text st scope depth here e closed none simple_is h =
    let second = cursor_after_node text here in
    let third = cursor_after_node text second in
    let stops : (o : List ℕ) → comparison o st scope here ≡ Err e → HasFirstFault o st primary scope depth here e = λ o p. in_simple scope depth here e closed (none o) (simple_is o ∙ p) in
    let one = part_node text here in
    err_cases (term_of scope here) _ h
    (λ bad. first bad (λ o. stops o (err_first (term_of scope here) _ bad)))
    (λ low is h1.
    let term = term_is scope here low is in
    err_cases (count here) _ h1
    (λ full. later (here_limit (tokens.Sign signs.UpTo ∷ Constant Ctime ∷ []) (only_is (count_only here) full) (compared scope _ _ _ term up_to_sign (constant Ctime)) (λ o. stops o (ok_then (term_of scope here) _ low is (err_first (count here) _ full)))))
    (λ u room h2. err_cases (less_sign second) _ h2
    (λ bad. later (later_at one (λ o p. stops o (ok_then (term_of scope here) _ low is (ok_then (count here) _ u room (err_first (less_sign (cursor_after_node o here)) _ (ap less_sign p ∙ bad)))))
    (here_misread (tokens.Sign signs.UpTo ∷ Constant Ctime ∷ []) (misread_is (less_misreads second) bad) (compared scope _ _ _ term up_to_sign (constant Ctime)) (λ o. tt))))
    (λ l less h3.
    let sign = less_is second l less in
    err_cases (require_sayable st here.at low) _ h3
    (λ bad. later (before (Constant Ctime ∷ []) one (λ o p. stops o (ok_then (term_of scope here) _ low is (ok_then (count here) _ u room (ok_then (less_sign (cursor_after_node o here)) _ l (ap less_sign p ∙ less)
    (err_first (require_sayable st here.at low) _ bad))))) (only_is (sayable_only st here.at low) bad) (less_ends second.token sign) (compared scope _ _ _ term sign (constant Ctime))))
    (λ d said h4. err_cases (require_sort scope sorts.Time here.at low) _ h4
    (λ bad. later (before (Constant Ctime ∷ []) one (λ o p. stops o (ok_then (term_of scope here) _ low is (ok_then (count here) _ u room (ok_then (less_sign (cursor_after_node o here)) _ l (ap less_sign p ∙ less)
    (ok_then (require_sayable st here.at low) _ d said (err_first (require_sort scope sorts.Time here.at low) _ bad)))))) (only_is (sorted_only scope sorts.Time here.at low) bad) (less_ends second.token sign)
    (compared scope _ _ _ term sign (constant Ctime))))
    (λ t time h5. err_cases (count second) _ h5
    (λ full. later (later_at one (λ o p. stops o (ok_then (term_of scope here) _ low is (ok_then (count here) _ u room (ok_then (less_sign (cursor_after_node o here)) _ l (ap less_sign p ∙ less)
    (ok_then (require_sayable st here.at low) _ d said (ok_then (require_sort scope sorts.Time here.at low) _ t time (err_first (count (cursor_after_node o here)) _ (ap count p ∙ full))))))))
    (here_limit (Constant Ctime ∷ []) (only_is (count_only second) full) (compared scope _ _ _ term sign (constant Ctime)) (λ o. tt)).exact))
    (λ n next h6. err_cases (time_argument st scope third) _ h6
    (λ bad. later (later_at (part_then one (part_node text second)) (λ o p. stops o (ok_then (term_of scope here) _ low is (ok_then (count here) _ u room (ok_then (less_sign (cursor_after_node o here)) _ l (ap less_sign p.0 ∙ less)
    (ok_then (require_sayable st here.at low) _ d said (ok_then (require_sort scope sorts.Time here.at low) _ t time (ok_then (count (cursor_after_node o here)) _ n (ap count p.0 ∙ next)
    (err_first (time_argument st scope (cursor_after_node o (cursor_after_node o here))) _ (ap (time_argument st scope) (ap (cursor_after_node o) p.0 ∙ p.1) ∙ bad)))))))))
    (term_exact [] (time_argument_stops st scope third e bad) (λ t' is'. compared scope _ _ _ term sign is') (λ o. tt))))
    (λ high last h7. never_err h7)))))))

-- a word, `true` or `false`
later_constant : (text : List ℕ) (scope : List Variable) (f : FormulaView) (t : Token) (here : Cursor) (e : TextFault) → here.token ≡ t → FormulaSentence primary scope (t ∷ []) → constant_formula text f here ≡ Err e
    → Later text (FormulaSentence primary scope) here e (λ o. constant_formula o f here ≡ Err e)
unfolding constant_formula
later_constant text scope f t here e is sentence h =
    err_cases (count here) _ h (λ full. here_limit [] (only_is (count_only here) full) (subst (λ t'. FormulaSentence primary scope (t' ∷ [])) (sym is) sentence) (λ o. err_first (count here) _ full)) (λ u room h1. never_err h1)

alone_here : {scope : List Variable} {name : List ℕ} (here : Cursor) → here.token ≡ tokens.Name name → FormulaSentence primary scope (here.token ∷ [])
alone_here {scope} {name} here is = subst (λ t. FormulaSentence primary scope (t ∷ [])) (sym is) (alone scope name)

named_here : {scope : List Variable} {name : List ℕ} (here : Cursor) → here.token ≡ tokens.Name name → IsTerm scope here.token
named_here {scope} {name} here is = subst (IsTerm scope) (sym is) (principal name)

-- at a predicate's name no node is left
full_at_name : (text : List ℕ) (scope : List Variable) (name : List ℕ) (here : Cursor) (e : TextFault) → here.token ≡ tokens.Name name → e ≡ TooLarge here.at → {P : List ℕ → Type 0} → ((o : List ℕ) → cursor_after_node o here ≡ cursor_after_node text here → P o)
    → Later text (FormulaSentence primary scope) here e P
full_at_name text scope name here e named is {P} g =
    subst (λ f. Later text (FormulaSentence primary scope) here f P) (sym is) (record {
      exact = record { number = 0; ahead = 1; met = at_limit; ts = here.token ∷ []; spelled = refl; others = []; sentence = alone_here here named; holds = λ o same. g o ((part_node text here).holds o same) };
      some = omega arith;
    })

sort_fault : {A : Type 0} {at : ℕ} {e : TextFault} → ◌≡◌ {A = Result A TextFault} (Err (Sort at)) (Err e) → e ≡ Sort at
sort_fault {A} {at} {e} h = let same : ◌≡◌ {A = Result A TextFault} (Err (Sort at)) (Err e) = h in cc

no_call_closed : (text : List ℕ) (here : Cursor) (name : List ℕ) → here.token ≡ tokens.Name name → is_call text here ≡ false → is_sign signs.Open (cursor_after_node text here).token ≡ false
unfolding is_call
no_call_closed text here name named h = sym (ap (λ t. is_call_token t (is_sign signs.Open (cursor_after_node text here).token)) named) ∙ h

-- a predicate without arguments
later_bare : (text : List ℕ) (scope : List Variable) (name : List ℕ) (here : Cursor) (e : TextFault) → here.token ≡ tokens.Name name → is_sign signs.Open (cursor_after_node text here).token ≡ false → is_sign signs.UpTo (cursor_after_node text here).token ≡ false
    → e ≡ Sort here.at → {P : List ℕ → Type 0} → ((o : List ℕ) → cursor_after_node o here ≡ cursor_after_node text here → P o) → Later text (FormulaSentence primary scope) here e P
later_bare text scope name here e named closed other is {P} g =
    let one = part_node text here in
    subst (λ f. Later text (FormulaSentence primary scope) here f P) (sym is) (record {
      exact = record {
        number = 0;
        ahead = 1;
        met = without_arguments name named (ap (λ (h : Cursor). is_sign signs.Open h.token) one.reads.reach ∙ closed) (ap (λ (h : Cursor). is_sign signs.UpTo h.token) one.reads.reach ∙ other);
        ts = here.token ∷ [];
        spelled = refl;
        others = [];
        sentence = alone_here here named;
        holds = λ o same. g o (one.holds o same);
      };
      some = omega arith;
    })

name_chosen : (text : List ℕ) (scope : List Variable) (name : List ℕ) (here : Cursor) (e : TextFault) → here.token ≡ tokens.Name name → is_sign signs.Open (cursor_after_node text here).token ≡ false → (b : Bool) → is_sign signs.UpTo (cursor_after_node text here).token ≡ b
    → name_by scope name here (cursor_after_node text here) b ≡ Err e
    → {P : List ℕ → Type 0} → ((o : List ℕ) → cursor_after_node o here ≡ cursor_after_node text here → P o) → Later text (FormulaSentence primary scope) here e P
name_chosen text scope name here e named closed true sign h g =
    err_cases (count here) _ h (λ full. full_at_name text scope name here e named (only_is (count_only here) full) g)
    (λ u room h1. before (Constant Ctime ∷ []) (part_node text here) g (sort_fault h1) (less_ends (cursor_after_node text here).token sign) (compared scope _ _ _ (named_here here named) sign (constant Ctime)))
name_chosen text scope name here e named closed false other h g =
    err_cases (apply_predicate scope here.at name []) _ h (λ bad. later_bare text scope name here e named closed other (only_is (applied_only scope here.at name []) bad) g)
    (λ f applied h1. err_cases (count here) _ h1 (λ full. full_at_name text scope name here e named (only_is (count_only here) full) g) (λ u room h2. never_err h2))

later_name : (text : List ℕ) (scope : List Variable) (name : List ℕ) (here : Cursor) (e : TextFault) → here.token ≡ tokens.Name name → is_call text here ≡ false → name_alone text scope name here ≡ Err e
    → Later text (FormulaSentence primary scope) here e (λ o. name_alone o scope name here ≡ Err e)
later_name text scope name here e named no_call h =
    name_chosen text scope name here e named (no_call_closed text here name named no_call) (is_sign signs.UpTo (cursor_after_node text here).token) refl (sym (alone_before text scope name here) ∙ h)
    (λ o same. alone_before o scope name here ∙ ap (name_before scope name here) same ∙ sym (alone_before text scope name here) ∙ h)

abbrev IsUnnamed : Token → Type 0
IsUnnamed (tokens.Name name) = ⊥
IsUnnamed _ = Unit {0}

unnamed_calls_not : (text : List ℕ) (here : Cursor) (t : Token) → here.token ≡ t → IsUnnamed t → is_call text here ≡ false
unfolding is_call
unnamed_calls_not text here (tokens.Name name) is n = absurd n
unnamed_calls_not text here t is n = rw is refl

simple_from : (text : List ℕ) (st : Bool) (scope : List Variable) (here : Cursor) (t : Token) → here.token ≡ t → simple_formula text st scope here ≡ simple_by text st scope here t
unfolding simple_formula
simple_from text st scope here t is = ap (simple_by text st scope here) is

told_simple : (text : List ℕ) (st : Bool) (scope : List Variable) (depth : ℕ) (here : Cursor) (e : TextFault) (t : Token) → here.token ≡ t → is_sign signs.Open here.token ≡ false → is_call text here ≡ false → simple_formula text st scope here ≡ Err e
    → FaultReported text st primary scope depth here e
told_simple text st scope depth here e (tokens.Keyword keywords.True) is closed no_call h =
    later (later_with (λ ts s. s) (λ o p. in_simple scope depth here e closed (unnamed_calls_not o here (tokens.Keyword keywords.True) is tt) (simple_from o st scope here (tokens.Keyword keywords.True) is ∙ p))
    (later_constant text scope forms.truth (tokens.Keyword keywords.True) here e is (truth scope) (sym (simple_from text st scope here (tokens.Keyword keywords.True) is) ∙ h)))
told_simple text st scope depth here e (tokens.Keyword keywords.False) is closed no_call h =
    later (later_with (λ ts s. s) (λ o p. in_simple scope depth here e closed (unnamed_calls_not o here (tokens.Keyword keywords.False) is tt) (simple_from o st scope here (tokens.Keyword keywords.False) is ∙ p))
    (later_constant text scope forms.falsity (tokens.Keyword keywords.False) here e is (falsity scope) (sym (simple_from text st scope here (tokens.Keyword keywords.False) is) ∙ h)))
told_simple text st scope depth here e (tokens.Name name) is closed no_call h =
    later (later_with (λ ts s. s) (λ o p. in_simple scope depth here e closed p.0 (simple_from o st scope here (tokens.Name name) is ∙ p.1))
    (later_peeks (here.left - 1) (λ o same. call_same text o here same no_call) (later_name text scope name here e is no_call (sym (simple_from text st scope here (tokens.Name name) is) ∙ h))))
told_simple text st scope depth here e t is closed no_call h =
    told_comparison text st scope depth here e closed (λ o. unnamed_calls_not o here t is tt) (λ o. simple_from o st scope here t is) (sym (simple_from text st scope here t is) ∙ h)

-- ---- speakers

speaker_err : (text : List ℕ) (scope : List Variable) (here : Cursor) {e : TextFault} → term_of scope here ≡ Err e → speaker text scope here ≡ Err e
unfolding speaker
speaker_err text scope here bad = err_first (term_of scope here) _ bad

comparison_err : (text : List ℕ) (st : Bool) (scope : List Variable) (here : Cursor) {e : TextFault} → term_of scope here ≡ Err e → comparison text st scope here ≡ Err e
unfolding comparison
comparison_err text st scope here bad = err_first (term_of scope here) _ bad

-- no term stands first, with `says` after it or not
unsaid : (st : Bool) (scope : List Variable) (depth : ℕ) (here : Cursor) (e : TextFault) → term_of scope here ≡ Err e → ((o : List ℕ) → HasFirstFault o st postfix scope depth here e) → (o : List ℕ) → HasFirstFault o st unary scope depth here e
unsaid st scope depth here e bad all o = by_test (is_saying o here) (λ said. in_speaker scope depth here e said (speaker_err o scope here bad)) (λ none. in_postfix scope depth here e none (all o))

variable_closed : (here : Cursor) (name : List ℕ) → here.token ≡ tokens.Variable name → is_sign signs.Open here.token ≡ false
unfolding is_sign
variable_closed here name is = rw is refl

no_speaker : (text : List ℕ) (here : Cursor) (t : Token) → here.token ≡ t → IsUnnamed t → ((name : List ℕ) → t ≡ tokens.Variable name → ⊥) → is_saying text here ≡ false
unfolding is_saying
no_speaker text here (tokens.Name name) is n v = absurd n
no_speaker text here (tokens.Variable name) is n v = absurd (v name refl)
no_speaker text here t is n v = rw is refl

told_term : (text : List ℕ) (st : Bool) (scope : List Variable) (depth : ℕ) (here : Cursor) (e : TextFault) (t : Token) → here.token ≡ t → is_saying text here ≡ true → term_of scope here ≡ Err e → FaultReported text st unary scope depth here e
told_term text st scope depth here e (tokens.Name name) is said bad = never_err (sym (name_term scope here name is) ∙ bad)
told_term text st scope depth here e (tokens.Variable name) is said bad =
    first bad (unsaid st scope depth here e bad (λ o. in_primary scope depth here e (in_simple scope depth here e (variable_closed here name is) (unnamed_calls_not o here (tokens.Variable name) is tt)
    (simple_from o st scope here (tokens.Variable name) is ∙ comparison_err o st scope here bad))))
told_term text st scope depth here e t is said bad = absurd (false≢true (sym (no_speaker text here t is tt (λ name same. (let never : ⊥ = cc in never))) ∙ said))

told_speaker : (text : List ℕ) (st : Bool) (scope : List Variable) (depth : ℕ) (here : Cursor) (e : TextFault) → is_saying text here ≡ true → speaker text scope here ≡ Err e → FaultReported text st unary scope depth here e
unfolding speaker
told_speaker text st scope depth here e said h =
    let second = cursor_after_node text here in
    let one = part_peeks (here.left - 1) (λ o same. saying_same text o here same said) (part_node text here) in
    let word = says_word text here said in
    err_cases (term_of scope here) _ h (λ bad. told_term text st scope depth here e here.token refl said bad)
    (λ who is h1.
    let who_speaks = speaker_is_by text scope here who said is here.token refl in
    err_cases (count here) _ h1
    (λ full. later (later_with (λ ts s. s) (λ o p. in_speaker scope depth here e p.0 p.1) (later_peeks (here.left - 1) (λ o same. saying_same text o here same said)
    (here_limit (Keyword keywords.Says ∷ Keyword keywords.True ∷ []) (only_is (count_only here) full) (saying scope here.token (Keyword keywords.Says) (Keyword keywords.True ∷ []) who_speaks says_keyword (default unary scope))
    (λ o. ok_then (term_of scope here) _ who is (err_first (count here) _ full))))))
    (λ u room h2. err_cases (require_sort scope sorts.Principal here.at who) _ h2
    (λ bad. later (before (Keyword keywords.True ∷ []) one (λ o p. in_speaker scope depth here e p.0 (ok_then (term_of scope here) _ who is (ok_then (count here) _ u room (err_first (require_sort scope sorts.Principal here.at who) _ bad))))
    (only_is (sorted_only scope sorts.Principal here.at who) bad) (says_ends second.token word) (saying scope here.token second.token (Keyword keywords.True ∷ []) who_speaks word (default unary scope))))
    (λ v sort h3. err_cases (count second) _ h3
    (λ full. later (later_at one (λ o p. in_speaker scope depth here e p.0 (ok_then (term_of scope here) _ who is (ok_then (count here) _ u room (ok_then (require_sort scope sorts.Principal here.at who) _ v sort
    (err_first (count (cursor_after_node o here)) _ (ap count p.1 ∙ full))))))
    (here_limit (Keyword keywords.True ∷ []) (only_is (count_only second) full) (saying scope here.token second.token (Keyword keywords.True ∷ []) who_speaks word (default unary scope)) (λ o. tt)).exact))
    (λ w next h4. never_err h4))))

told_postfix : {text : List ℕ} {st : Bool} {scope : List Variable} {depth : ℕ} {here : Cursor} {e : TextFault} → is_saying text here ≡ false → FaultReported text st postfix scope depth here e → FaultReported text st unary scope depth here e
told_postfix {st = st} {scope} {depth} {here} {e} none (first bad all) = first bad (unsaid st scope depth here e bad all)
told_postfix {text} {scope = scope} {depth} {here} {e} none (later x) =
    later (later_with (one_postfix scope) (λ o p. in_postfix scope depth here e p.0 p.1) (later_peeks (here.left - 1) (λ o same. saying_same text o here same none) x))

-- ---- calls

-- what stops, or out of memory
abbrev pub OrMemory : TextFault → Type 0 → Type 0
OrMemory e P = (e ≡ NoMemory) ⊎ P

pub or_met : {e : TextFault} {A B : Type 0} → OrMemory e A → (A → B) → OrMemory e B
or_met (inl none) f = inl none
or_met (inr a) f = inr (f a)

arguments_stop_at : {text : List ℕ} {st : Bool} {scope : List Variable} {is_atom : Bool} {here here' : Cursor} {e : TextFault} → here ≡ here' → ArgumentsHaveFirstFault text st scope is_atom here e → ArgumentsHaveFirstFault text st scope is_atom here' e
arguments_stop_at {text} {st} {scope} {is_atom} {here} {here'} {e} same h = subst (λ (p : Cursor). ArgumentsHaveFirstFault text st scope is_atom p e) same h

exact_arguments : {text : List ℕ} {st : Bool} {scope : List Variable} {is_atom : Bool} {here : Cursor} {e : TextFault} → ArgumentsHaveFirstFault text st scope is_atom here e
    → OrMemory e (Exact text (AreTerms scope) here e (λ o. ArgumentsHaveFirstFault o st scope is_atom here e))
exact_arguments no_memory_for_arguments = inl refl
exact_arguments {text} {st} {scope} {is_atom} {here} (in_first_argument e h) = inr (term_exact [] (argument_stops st scope here e h) (λ t is. one_term t is) (λ o. in_first_argument e h))
exact_arguments {text} {st} {scope} {is_atom} {here} (in_argument mid place terms e args comma h) =
    let front = arguments_part args in
    let sign = (expected_ok text signs.Comma mid place comma).0 in
    inr (later_at {B = AreTerms scope} (part_then front.part (part_sign signs.Comma comma)) (λ o p. in_argument mid place terms e p.0 p.1 h)
    (term_exact {IsOne = λ us. AreTerms scope ((front.ts ++ mid.token ∷ []) ++ us)} [] (next_argument_stops st scope is_atom (length terms) place e h)
    (λ t is. subst (AreTerms scope) (sym (append_assoc front.ts (mid.token ∷ []) (t ∷ []))) (further_term front.ts mid.token t front.are_terms sign is)) (λ o. tt))).exact

-- a predicate's arguments are wrong, which is met at its parenthesis
later_by_sorts : {text : List ℕ} {st : Bool} {scope : List Variable} {here mid place : Cursor} {terms : List Term} (name : List ℕ) → here.token ≡ tokens.Name name → count here ≡ Ok tt → is_call text here ≡ true
    → AreArguments text st scope (is_predicate_name name) (cursor_after text (cursor_after_node text here)) mid terms → expect_sign text signs.Close mid ≡ Ok place → apply_predicate scope here.at name terms ≡ Err (Sort here.at)
    → Later text (FormulaSentence primary scope) here (Sort here.at) (λ o. (is_call o here ≡ true) × CallHasFirstFault o st scope here (Sort here.at))
later_by_sorts {text} {st} {scope} {here} {mid} {place} {terms} name is room calls args close wrong =
    let open_ = (cursor_after_node text here).token in
    let opened = call_opened text here calls in
    let inside = arguments_part args in
    let front : List Token = tokens.Name name ∷ open_ ∷ inside.ts in
    let start = part_then (call_part is calls) inside.part in
    let found = (expected_ok text signs.Close mid place close).0 in
    let len : length (front ++ mid.token ∷ []) ≡ length front + 1 = length-append front (mid.token ∷ []) in
    let all : length (front ++ mid.token ∷ []) ≡ 2 + length inside.ts + 1 = omega (arith, len) in
    let few : 2 + length inside.ts + 0 ≡ length front = omega arith in
    record {
      exact = record {
        number = 2 + length inside.ts;
        ahead = 0;
        met = at_close 0 (call_met text mid name (length inside.ts) is opened inside.part.reads.reach inside.inside found);
        ts = front ++ mid.token ∷ [];
        spelled = ap (λ n. between text n here) (sym all) ∙ joined text here mid front (mid.token ∷ []) start.reads refl;
        others = [];
        sentence = subst (FormulaSentence primary scope) (sym (append-nil (front ++ mid.token ∷ []))) (called scope name open_ mid.token inside.ts opened inside.are_terms found);
        holds = λ o same. (let p = start.holds o (subst (λ n. SameTokens text o n here.end) few same) in
            (p.0.0, by_sorts name mid (cursor_after o mid) terms (Sort here.at) is room (arguments_at (sym p.0.1) p.1) (expected-Ok o signs.Close mid found) wrong));
      };
      some = omega arith;
    }

told_call : {text : List ℕ} {st : Bool} {scope : List Variable} {depth : ℕ} {here : Cursor} {e : TextFault} → is_sign signs.Open here.token ≡ false → is_call text here ≡ true → CallHasFirstFault text st scope here e → OrMemory e (FaultReported text st primary scope depth here e)
told_call {text} {st} {scope} {depth} {here} {e} closed calls (at_name _ full) =
    let name = is_call-name text here calls in
    inr (later (later_with (λ ts s. s) (λ o p. in_call scope depth here e closed p.0 p.1) (later_peeks (here.left - 1) (λ o same. call_same text o here same calls)
    (here_limit ((cursor_after_node text here).token ∷ Constant Ctime ∷ tokens.Sign signs.Close ∷ []) (only_is (count_only here) full)
    (subst (λ t. FormulaSentence primary scope (t ∷ (cursor_after_node text here).token ∷ Constant Ctime ∷ tokens.Sign signs.Close ∷ [])) (sym name.1)
    (called scope name.0 (cursor_after_node text here).token (tokens.Sign signs.Close) (Constant Ctime ∷ []) (call_opened text here calls) (one_term (Constant Ctime) (constant Ctime)) close_sign)) (λ o. at_name e full)))))
told_call {text} {st} {scope} {depth} {here} {e} closed calls (in_arguments name _ is room stop) =
    or_met (exact_arguments stop) (λ x. later (later_after (tokens.Sign signs.Close ∷ []) (call_part is calls)
    (λ ts terms. called scope name (cursor_after_node text here).token (tokens.Sign signs.Close) ts (call_opened text here calls) terms close_sign)
    (λ o p k. in_call scope depth here e closed p.0 (in_arguments name e is room (arguments_stop_at (sym p.1) k))) x))
told_call {text} {st} {scope} {depth} {here} {e} closed calls (before_close name mid terms _ is room args no_comma close) =
    let inside = arguments_part args in
    inr (later (later_at (part_then (call_part is calls) inside.part)
    (λ o p. in_call scope depth here e closed p.0.0 (before_close name mid terms e is room (arguments_at (sym p.0.1) p.1) no_comma (expected_err text o signs.Close mid close)))
    (here_misread (tokens.Sign signs.Close ∷ []) (misread_is (expected_misreads text signs.Close mid) close)
    (called scope name (cursor_after_node text here).token (tokens.Sign signs.Close) inside.ts (call_opened text here calls) inside.are_terms close_sign) (λ o. tt))))
told_call {text} {st} {scope} {depth} {here} {e} closed calls (by_sorts name mid place terms _ is room args close wrong) =
    let sort = only_is (applied_only scope here.at name terms) wrong in
    inr (subst (λ f. FaultReported text st primary scope depth here f) (sym sort) (later (later_with (λ ts s. s) (λ o p. in_call scope depth here (Sort here.at) closed p.0 p.1)
    (later_by_sorts name is room calls args close (wrong ∙ ap Err sort)))))

-- ---- formulas

pub told_stops : {text : List ℕ} {st : Bool} {level : Level} {scope : List Variable} {depth : ℕ} {here : Cursor} {e : TextFault} → HasFirstFault text st level scope depth here e → OrMemory e (FaultReported text st level scope depth here e)
told_stops (no_memory level scope depth here) = inl refl
told_stops {text} {st} (in_binder scope depth here e q b) = inr (later (later_with (λ ts s. s) (λ o p. in_binder scope depth here e q p) (later_binder text scope here e q b)))
told_stops {text} {st} (in_body scope depth here mid name s e q b h) =
    let start = binder_part text here mid name s b in
    or_met (told_stops h) (told_next start.part (λ ts body. quantified scope here.token start.colon start.dot name s ts q start.is_colon start.is_dot body) (λ o p k. in_body scope depth here mid name s e q p k))
told_stops {text} {st} (in_premise scope depth here e nq h) = or_met (told_stops h) (pass (one_disjunction scope) (λ o p. in_premise scope depth here e nq p))
told_stops {text} {st} (at_implies scope depth here mid a e nq d sign full) =
    let left = spelled d in
    inr (told_full left.part (implication scope left.ts (Keyword keywords.True ∷ []) mid.token left.sentence sign (default formula scope)) (λ o p. at_implies scope depth here mid a e nq p sign full) full)
told_stops {text} {st} (in_conclusion scope depth here mid a e nq d sign room h) =
    let left = spelled d in
    or_met (told_stops h) (told_operand left.part (λ us right. implication scope left.ts us mid.token left.sentence sign right) (λ o p k. in_conclusion scope depth here mid a e nq p sign room k))
told_stops {text} {st} (in_first_disjunct scope depth here e h) = or_met (told_stops h) (pass (one_conjunction scope) (λ o p. in_first_disjunct scope depth here e p))
told_stops {text} {st} (at_or scope depth here mid a e d sign full) =
    let left = spelled d in
    inr (told_full left.part (or_further scope left.ts (Keyword keywords.True ∷ []) mid.token left.sentence sign (default conjunction scope)) (λ o p. at_or scope depth here mid a e p sign full) full)
told_stops {text} {st} (in_disjunct scope depth here mid a e d sign room h) =
    let left = spelled d in
    or_met (told_stops h) (told_operand left.part (λ us right. or_further scope left.ts us mid.token left.sentence sign right) (λ o p k. in_disjunct scope depth here mid a e p sign room k))
told_stops {text} {st} (in_first_conjunct scope depth here e h) = or_met (told_stops h) (pass (one_unary scope) (λ o p. in_first_conjunct scope depth here e p))
told_stops {text} {st} (at_and scope depth here mid a e d sign full) =
    let left = spelled d in
    inr (told_full left.part (and_further scope left.ts (Keyword keywords.True ∷ []) mid.token left.sentence sign (default unary scope)) (λ o p. at_and scope depth here mid a e p sign full) full)
told_stops {text} {st} (in_conjunct scope depth here mid a e d sign room h) =
    let left = spelled d in
    or_met (told_stops h) (told_operand left.part (λ us right. and_further scope left.ts us mid.token left.sentence sign right) (λ o p k. in_conjunct scope depth here mid a e p sign room k))
told_stops {text} {st} (in_speaker scope depth here e said k) = inr (told_speaker text st scope depth here e said k)
told_stops {text} {st} (in_said scope depth here mid who e said sp h) =
    let start = speaker_part text scope here mid who said sp in
    or_met (told_stops h) (told_next start.part (λ ts body. saying scope here.token start.word ts start.speaks start.is_says body) (λ o p k. in_said scope depth here mid who e p.0 p.1 k))
told_stops {text} {st} (in_postfix scope depth here e none h) = or_met (told_stops h) (told_postfix none)
told_stops {text} {st} (in_primary scope depth here e h) = or_met (told_stops h) (pass (one_primary scope) (λ o p. in_primary scope depth here e p))
told_stops {text} {st} (in_interval scope depth here mid a e d sign iv) =
    let body = spelled d in
    inr (later (later_next body.part (λ us s. s) (λ o p q. in_interval scope depth here mid a e p sign q) (later_interval text st scope mid body.ts e body.sentence sign iv).exact))
told_stops {text} {st} (too_deep scope depth here opens full) =
    inr (later (here_limit (Keyword keywords.True ∷ tokens.Sign signs.Close ∷ []) refl (group scope here.token (tokens.Sign signs.Close) (Keyword keywords.True ∷ []) opens (default formula scope) close_sign) (λ o. too_deep scope depth here opens full)))
told_stops {text} {st} (in_group scope depth here e opens room h) =
    or_met (told_stops h) (told_after (tokens.Sign signs.Close ∷ []) (part_behind text here) (λ ts inside. group scope here.token (tokens.Sign signs.Close) ts opens inside close_sign)
    (λ o p k. in_group scope depth here e opens room (stops_at (sym p) k)))
told_stops {text} {st} (not_closed scope depth here mid a e opens room d ended close) =
    let inside = spelled d in
    inr (later (later_at (part_then (part_behind text here) inside.part) (λ o p. not_closed scope depth here mid a e opens room (is_at (sym p.0) p.1) ended (expected_err text o signs.Close mid close))
    (here_misread (tokens.Sign signs.Close ∷ []) (misread_is (expected_misreads text signs.Close mid) close) (group scope here.token (tokens.Sign signs.Close) inside.ts opens inside.sentence close_sign) (λ o. tt))))
told_stops {text} {st} (in_call scope depth here e closed calls h) = told_call closed calls h
told_stops {text} {st} (in_simple scope depth here e closed no_call h) = inr (told_simple text st scope depth here e here.token refl closed no_call h)
