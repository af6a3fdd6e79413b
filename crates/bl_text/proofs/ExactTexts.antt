-- The fault of a whole text is exact, and where one of the grammar is met no sentence goes on.
use Rattle.std.proofs.Common.{◌≡◌, ℕ, suc, ◌+◌, true, List, [], ◌∷◌, ◌++◌, append-nil, refl, sym, ap, ◌∙◌, subst, arith, Err, ◌⊎◌, inl, inr}
use Rattle.bl_syntax.specs.declared.terms.Term.TheVariants.{Time}
use Rattle.bl_syntax.specs.declared.terms.TimePoint.TheVariants as times
use Rattle.bl_syntax.specs.Formula.{FormulaView}
use Rattle.bl_syntax.specs.Statement.{StatementView}
use Rattle.bl_tokens.specs.declared.faults.TextFault.{TextFault}
use Rattle.bl_tokens.specs.declared.faults.TextFault.TheVariants.{Unexpected, Sort, TooLarge, NoMemory}
use Rattle.bl_tokens.specs.declared.tokens.Keyword.{Keyword as Word}
use Rattle.bl_tokens.specs.declared.tokens.Keyword.TheVariants as keywords
use Rattle.bl_tokens.specs.declared.tokens.Token.{Token}
use Rattle.bl_tokens.specs.declared.tokens.Token.TheVariants.{Constant, Keyword}
use Rattle.bl_tokens.specs.declared.tokens.Token.TheVariants as tokens
use Rattle.bl_tokens.specs.declared.tokens.Cursor.{Cursor}
use Rattle.bl_tokens.specs.Tokens.{cursor_after, is_word}
use Rattle.bl_text.specs.Grammar.{formula}
use Rattle.bl_text.specs.Texts.{beginning, IsFormulaText, FormulaFault, in_formula, behind_formula, expect_word, time_constant, principal_name, opening, at_end, span, IsStatementText, StatementFault, in_opening, in_body, in_span, AreOneFault}
use Rattle.bl_text.specs.Exact.{IsExact}
use Rattle.bl_text.specs.FirstTokens.{token_number, SameTokens}
use Rattle.bl_text.specs.Met.{IsMisread, unexpected, unknown_name, bad_date, IsMetAt, misread, at_term, before_sign, at_close, without_arguments, at_limit, allowed}
use Rattle.bl_text.specs.Sentences.{IsSentence, FormulaSentence, IsStatementSentence, statement, IsSentenceText}
use Rattle.bl_text.proofs.ReadLemmas.{is_at, stops_at}
use Rattle.bl_text.proofs.FirstTokensLemmas.{bare_token, one_token, walk_number, tokens_from, met_shifted}
use Rattle.bl_text.proofs.PieceLemmas.{err_cases, never_err, err_first, ok_then, misread_is, name_misreads_by, time_misreads_by, ended_misreads, word_misreads, says_keyword, from_keyword, to_keyword, not_expected}
use Rattle.bl_text.proofs.TextLemmas.{formula_or_fault, formula_fault_once, statement_or_fault, statement_fault_once}
use Rattle.bl_text.proofs.SentenceTexts.{sentence_is_formula, sentence_is_statement}
use Rattle.bl_text.proofs.PartLemmas.{part_then, part_token, part_behind, spelled}
use Rattle.bl_text.proofs.TextSentences.{first_between, word_is, part_word, time_is_by, name_is_by, opening_part}
use Rattle.bl_text.proofs.ExactLemmas.{default, Exact, exact_with, later_after, later_next, later_at, here_misread, told_exact, OrMemory, or_met, told_stops}

-- ---- whole texts

number_met : (text : List ℕ) {n ahead : ℕ} {e : TextFault} → IsMetAt (tokens_from text (beginning text)) n ahead e → IsMetAt (token_number text) n ahead e
number_met text {n} {ahead} {e} h =
    let sum : 0 + n ≡ n = omega arith in
    subst (λ k. IsMetAt (token_number text) k ahead e) sum
    (met_shifted (token_number text) (tokens_from text (beginning text)) 0 (λ k. (let same : 0 + k ≡ k = omega arith in ap (token_number text) same ∙ sym (walk_number text k 0 512))) h)

-- what depends on the tokens after the first one depends on the tokens of the text
exact_text : {HasFault : List ℕ → TextFault → Type 0} {IsOne : List Token → Type 0} {text : List ℕ} {e : TextFault} → Exact text IsOne (beginning text) e (λ o. beginning o ≡ beginning text → HasFault o e) → IsExact HasFault IsOne text e
exact_text {HasFault} {IsOne} {text} {e} x = record {
  number = x.number;
  ahead = x.ahead;
  met = number_met text x.met;
  others = x.others;
  sentence = subst (λ ts. IsOne (ts ++ x.others)) (sym (first_between text (x.number + allowed e) 0 512 ∙ x.spelled)) x.sentence;
  same = λ o same. (let n : x.number + 1 + x.ahead ≡ suc (x.number + x.ahead) = omega arith in
      let all : SameTokens text o (suc (x.number + x.ahead)) 0 = subst (λ k. SameTokens text o k 0) n same in
      x.holds o (subst (λ (h : Cursor). SameTokens text o (x.number + x.ahead) h.end) (sym (bare_token text 0 512)) all.1) (one_token text o 0 512 all.0));
}

pub exact_formula : {text : List ℕ} {e : TextFault} → FormulaFault text e → OrMemory e (IsExact FormulaFault IsSentence text e)
exact_formula {text} (in_formula e h) = or_met (told_stops h) (λ x. exact_text {HasFault = FormulaFault} {IsOne = IsSentence} (exact_with (λ ts s. s) (λ o p same. in_formula e (stops_at (sym same) p)) (told_exact x)))
exact_formula {text} (behind_formula mid f d ended_ more) =
    let read = spelled d in
    inr (exact_text {HasFault = FormulaFault} {IsOne = IsSentence} (later_at {B = IsSentence} read.part (λ o p same. behind_formula mid f (is_at (sym same) p) ended_ more)
    (here_misread [] unexpected (subst IsSentence (sym (append-nil read.ts)) read.sentence) (λ o. tt))).exact)

-- ---- statements

word_err : (text other : List ℕ) (word : Word) (here : Cursor) {e : TextFault} → expect_word text word here ≡ Err e → expect_word other word here ≡ Err e
unfolding expect_word
word_err text other word here {e} h = not_expected (is_word word here.token) (cursor_after text here) (cursor_after other here) (Unexpected here.at) e h

-- from always on
abbrev always : List Token
always = Keyword keywords.From ∷ Constant (Time times.NegInf) ∷ Keyword keywords.To ∷ Constant (Time times.PosInf) ∷ []

exact_opening : (text : List ℕ) (here : Cursor) (e : TextFault) → opening text here ≡ Err e → Exact text IsStatementSentence here e (λ o. opening o here ≡ Err e)
unfolding opening
exact_opening text here e h =
    err_cases (principal_name here) _ h
    (λ bad. here_misread (tokens.Name [] ∷ Keyword keywords.Says ∷ Keyword keywords.True ∷ always) (misread_is (name_misreads_by here here.token refl) bad)
    (statement [] (Keyword keywords.Says) (Keyword keywords.From) (Keyword keywords.To) (Keyword keywords.True ∷ []) times.NegInf times.PosInf says_keyword (default formula []) from_keyword to_keyword) (λ o. err_first (principal_name here) _ bad))
    (λ who name h1. err_cases (expect_word text keywords.Says (cursor_after text here)) _ h1
    (λ bad. (later_at {B = IsStatementSentence} (part_token (name_is_by here who name here.token refl) (part_behind text here))
    (λ o p. ok_then (principal_name here) _ who name (err_first (expect_word o keywords.Says (cursor_after o here)) _ (ap (expect_word o keywords.Says) p ∙ word_err text o keywords.Says (cursor_after text here) bad)))
    (here_misread (Keyword keywords.Says ∷ Keyword keywords.True ∷ always) (misread_is (word_misreads text keywords.Says (cursor_after text here)) bad)
    (statement who (Keyword keywords.Says) (Keyword keywords.From) (Keyword keywords.To) (Keyword keywords.True ∷ []) times.NegInf times.PosInf says_keyword (default formula []) from_keyword to_keyword) (λ o. tt))).exact)
    (λ place says h2. never_err h2))

-- after a name, `says` and a formula
abbrev EndsStatement : List ℕ → Token → List Token → List Token → Type 0
EndsStatement who word ts us = IsStatementSentence (tokens.Name who ∷ word ∷ (ts ++ us))

exact_span : (text : List ℕ) (here : Cursor) (who : List ℕ) (word : Token) (ts : List Token) (e : TextFault) → is_word keywords.Says word ≡ true → FormulaSentence formula [] ts → span text here ≡ Err e
    → Exact text (EndsStatement who word ts) here e (λ o. span o here ≡ Err e)
unfolding span
exact_span text here who word ts e says body h =
    err_cases (expect_word text keywords.From here) _ h
    (λ bad. here_misread always (misread_is (word_misreads text keywords.From here) bad) (statement who word (Keyword keywords.From) (Keyword keywords.To) ts times.NegInf times.PosInf says body from_keyword to_keyword)
    (λ o. err_first (expect_word o keywords.From here) _ (word_err text o keywords.From here bad)))
    (λ first from_ h1.
    let from_is = word_is text keywords.From here first from_ in
    let one = part_word keywords.From from_ in
    err_cases (time_constant first) _ h1
    (λ bad. (later_at {B = EndsStatement who word ts} one (λ o p. ok_then (expect_word o keywords.From here) _ first p (err_first (time_constant first) _ bad))
    (here_misread (Constant (Time times.NegInf) ∷ Keyword keywords.To ∷ Constant (Time times.PosInf) ∷ []) (misread_is (time_misreads_by first first.token refl) bad)
    (statement who word here.token (Keyword keywords.To) ts times.NegInf times.PosInf says body from_is to_keyword) (λ o. tt))).exact)
    (λ from low h2.
    let two = part_then one (part_token (time_is_by first from low first.token refl) (part_behind text first)) in
    err_cases (expect_word text keywords.To (cursor_after text first)) _ h2
    (λ bad. (later_at {B = EndsStatement who word ts} two (λ o p. ok_then (expect_word o keywords.From here) _ first p.0 (ok_then (time_constant first) _ from low
    (err_first (expect_word o keywords.To (cursor_after o first)) _ (ap (expect_word o keywords.To) p.1 ∙ word_err text o keywords.To (cursor_after text first) bad))))
    (here_misread (Keyword keywords.To ∷ Constant (Time times.PosInf) ∷ []) (misread_is (word_misreads text keywords.To (cursor_after text first)) bad)
    (statement who word here.token (Keyword keywords.To) ts from times.PosInf says body from_is to_keyword) (λ o. tt))).exact)
    (λ second to_ h3.
    let to_is = word_is text keywords.To (cursor_after text first) second to_ in
    let three = part_then two (part_word keywords.To to_) in
    err_cases (time_constant second) _ h3
    (λ bad. (later_at {B = EndsStatement who word ts} three (λ o p. ok_then (expect_word o keywords.From here) _ first p.0.0 (ok_then (time_constant first) _ from low
    (ok_then (expect_word o keywords.To (cursor_after o first)) _ second (ap (expect_word o keywords.To) p.0.1 ∙ p.1) (err_first (time_constant second) _ bad))))
    (here_misread (Constant (Time times.PosInf) ∷ []) (misread_is (time_misreads_by second second.token refl) bad)
    (statement who word here.token (cursor_after text first).token ts from times.PosInf says body from_is to_is) (λ o. tt))).exact)
    (λ to high h4. err_cases (at_end (cursor_after text second)) _ h4
    (λ bad. (later_at {B = EndsStatement who word ts} (part_then three (part_token (time_is_by second to high second.token refl) (part_behind text second)))
    (λ o p. ok_then (expect_word o keywords.From here) _ first p.0.0.0 (ok_then (time_constant first) _ from low
    (ok_then (expect_word o keywords.To (cursor_after o first)) _ second (ap (expect_word o keywords.To) p.0.0.1 ∙ p.0.1) (ok_then (time_constant second) _ to high
    (err_first (at_end (cursor_after o second)) _ (ap at_end p.1 ∙ bad))))))
    (here_misread [] (misread_is (ended_misreads (cursor_after text second)) bad) (statement who word here.token (cursor_after text first).token ts from to says body from_is to_is) (λ o. tt))).exact)
    (λ u end h5. never_err h5)))))

pub exact_statement : {text : List ℕ} {e : TextFault} → StatementFault text e → OrMemory e (IsExact StatementFault IsStatementSentence text e)
exact_statement {text} (in_opening e h) =
    inr (exact_text {HasFault = StatementFault} {IsOne = IsStatementSentence} (exact_with (λ ts s. s) (λ o p same. in_opening e (ap (opening o) same ∙ p)) (exact_opening text (beginning text) e h)))
exact_statement {text} (in_body who here e opens h) =
    let start = opening_part text (beginning text) here who opens in
    or_met (told_stops h) (λ x. exact_text {HasFault = StatementFault} {IsOne = IsStatementSentence} (later_after {B = IsStatementSentence} always start.part
    (λ ts body. statement who start.word (Keyword keywords.From) (Keyword keywords.To) ts times.NegInf times.PosInf start.is_says body from_keyword to_keyword)
    (λ o p k same. in_body who here e (ap (opening o) same ∙ p) k) (told_exact x)).exact)
exact_statement {text} (in_span who here place f e opens d ended_ h) =
    let start = opening_part text (beginning text) here who opens in
    let body = spelled d in
    inr (exact_text {HasFault = StatementFault} {IsOne = IsStatementSentence} (later_next {B = IsStatementSentence} (part_then start.part body.part) (λ us s. s)
    (λ o p k same. in_span who here place f e (ap (opening o) same ∙ p.0) p.1 ended_ k) (exact_span text place who start.word body.ts e start.is_says body.sentence h)).exact)

-- ---- no sentence goes on

abbrev IsNoMisreading : TextFault → Type 0
IsNoMisreading (Sort at) = Unit {0}
IsNoMisreading (TooLarge at) = Unit {0}
IsNoMisreading NoMemory = Unit {0}
IsNoMisreading _ = ⊥

never_both : {at : ℕ} {e : TextFault} → IsMisread at e → IsNoMisreading e → ⊥
never_both unexpected s = s
never_both unknown_name s = s
never_both bad_date s = s

differs : {at : ℕ} {e f : TextFault} → IsMisread at e → IsNoMisreading f → (f ≡ NoMemory → ⊥) → AreOneFault e f → ⊥
differs m s kept (inl none) = never_both m (subst IsNoMisreading (sym none) tt)
differs m s kept (inr (inl none)) = kept none
differs m s kept (inr (inr same)) = never_both m (subst IsNoMisreading (sym same) s)

sort_kept : (at : ℕ) → Sort at ≡ NoMemory → ⊥
sort_kept at same = cc

size_kept : (at : ℕ) → TooLarge at ≡ NoMemory → ⊥
size_kept at same = cc

by_formula : {text : List ℕ} {at : ℕ} {e : TextFault} → IsMisread at e → FormulaFault text e → ((f : FormulaView) × IsFormulaText text f) ⊎ ((at : ℕ) × (FormulaFault text (Sort at) ⊎ FormulaFault text (TooLarge at))) → ⊥
by_formula m h (inl (f, t)) = never_both m (subst IsNoMisreading (sym (formula_or_fault t h)) tt)
by_formula m h (inr (at, inl k)) = differs m tt (sort_kept at) (formula_fault_once h k)
by_formula m h (inr (at, inr k)) = differs m tt (size_kept at) (formula_fault_once h k)

by_statement : {text : List ℕ} {at : ℕ} {e : TextFault} → IsMisread at e → StatementFault text e → ((s : StatementView) × IsStatementText text s) ⊎ ((at : ℕ) × (StatementFault text (Sort at) ⊎ StatementFault text (TooLarge at))) → ⊥
by_statement m h (inl (s, t)) = never_both m (subst IsNoMisreading (sym (statement_or_fault t h)) tt)
by_statement m h (inr (at, inl k)) = differs m tt (sort_kept at) (statement_fault_once h k)
by_statement m h (inr (at, inr k)) = differs m tt (size_kept at) (statement_fault_once h k)

not_ahead : {tokens_of : ℕ → Cursor} {n ahead at : ℕ} {e : TextFault} → IsMetAt tokens_of n ahead e → IsMisread at e → ahead ≡ 0
not_ahead (misread e h) m = refl
not_ahead at_term m = refl
not_ahead (before_sign first is ends) m = refl
not_ahead (at_close first c) m = refl
not_ahead (without_arguments name named closed other) m = absurd (never_both m tt)
not_ahead at_limit m = absurd (never_both m tt)

same_more : (text other : List ℕ) (n ahead : ℕ) → ahead ≡ 0 → SameTokens text other (n + 1) 0 → SameTokens text other (n + 1 + ahead) 0
same_more text other n ahead none same = let all : n + 1 ≡ n + 1 + ahead = omega (arith, none) in subst (λ k. SameTokens text other k 0) all same

pub no_formula_goes_on : {text other : List ℕ} {at : ℕ} {e : TextFault} → IsMisread at e → (x : IsExact FormulaFault IsSentence text e) → SameTokens text other (x.number + 1) 0 → IsSentenceText IsSentence other → ⊥
no_formula_goes_on {text} {other} m x same s = by_formula m (x.same other (same_more text other x.number x.ahead (not_ahead x.met m) same)) (sentence_is_formula s)

pub no_statement_goes_on : {text other : List ℕ} {at : ℕ} {e : TextFault} → IsMisread at e → (x : IsExact StatementFault IsStatementSentence text e) → SameTokens text other (x.number + 1) 0 → IsSentenceText IsStatementSentence other → ⊥
no_statement_goes_on {text} {other} m x same s = by_statement m (x.same other (same_more text other x.number x.ahead (not_ahead x.met m) same)) (sentence_is_statement s)
