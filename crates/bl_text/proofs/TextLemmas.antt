-- A whole text is one formula or one statement, or has one fault, and never both.
use Rattle.std.proofs.Common.{◌≡◌, ℕ, Bool, true, false, List, [], refl, sym, ap, ◌∙◌, subst, Result, Ok, Err, inl, inr}
use Rattle.std.specs.Prelude.{if◌then◌else◌, IfOk, IfErr, MatchResult}
use Rattle.std.proofs.lemmas.Bool.{false≢true, or_from}
use Rattle.bl_syntax.specs.declared.terms.TimePoint.{TimePoint}
use Rattle.bl_syntax.specs.declared.formula.Formula.{Formula}
use Rattle.bl_syntax.specs.Formula.{FormulaView}
use Rattle.bl_syntax.specs.Formula as syntax
use Rattle.bl_syntax.specs.Statement.{StatementView, statement_view, IsStatement}
use Rattle.bl_tokens.specs.declared.faults.TextFault.{TextFault}
use Rattle.bl_tokens.specs.declared.faults.TextFault.TheVariants.{Unexpected, NoMemory}
use Rattle.bl_tokens.specs.declared.tokens.Sign.{Sign}
use Rattle.bl_tokens.specs.declared.tokens.Sign.TheVariants as signs
use Rattle.bl_tokens.specs.declared.tokens.Keyword.{Keyword as Word}
use Rattle.bl_tokens.specs.declared.tokens.Keyword.TheVariants as keywords
use Rattle.bl_tokens.specs.declared.tokens.Token.{Token}
use Rattle.bl_tokens.specs.declared.tokens.Token.TheVariants.{Name, LongWord, Constant, BadDate, SortName, Keyword, End, Bad}
use Rattle.bl_tokens.specs.declared.tokens.Token.TheVariants as tokens
use Rattle.bl_tokens.specs.declared.tokens.Cursor.{Cursor}
use Rattle.bl_tokens.specs.Tokens.{cursor_after, is_sign, is_word}
use Rattle.bl_text.specs.Grammar.{formula, is_continued_by, Is}
use Rattle.bl_text.specs.FirstFaults.{HasFirstFault}
use Rattle.bl_text.specs.Texts.{beginning, is_end, IsFormulaText, whole, FormulaFault, in_formula, behind_formula, opening, span, expect_word, at_end, IsSayingText, whole_saying, IsStatementText, StatementFault, in_opening, in_body, in_span, AreOneFault}
use Rattle.bl_text.proofs.OneFaultLemmas.{word_is, one_reading, read_or_fault, one_stop}
use Rattle.bl_text.proofs.PieceLemmas.{bind_ok}

-- no sign goes on after what is no sign
no_signs : (t : Token) → ((sign : Sign) → is_sign sign t ≡ false) → is_continued_by formula t ≡ false
no_signs t none = or_from _ _ (or_from _ _ (or_from _ _ (none signs.Implies) (none signs.Or)) (none signs.And)) (none signs.At)

end_no_sign : (t : Token) (sign : Sign) → is_end t ≡ true → is_sign sign t ≡ false
unfolding is_sign
end_no_sign End sign h = refl
end_no_sign (tokens.Sign found) sign h = absurd (false≢true h)
end_no_sign (Name name) sign h = refl
end_no_sign LongWord sign h = refl
end_no_sign (tokens.Variable name) sign h = refl
end_no_sign (Constant t) sign h = refl
end_no_sign BadDate sign h = refl
end_no_sign (SortName s) sign h = refl
end_no_sign (Keyword word) sign h = refl
end_no_sign Bad sign h = refl

keyword_no_sign : (sign : Sign) (word : Word) → is_sign sign (Keyword word) ≡ false
unfolding is_sign
keyword_no_sign sign word = refl

end_ends : (t : Token) → is_end t ≡ true → is_continued_by formula t ≡ false
end_ends t h = no_signs t (λ sign. end_no_sign t sign h)

word_ends : (word : Word) (t : Token) → is_word word t ≡ true → is_continued_by formula t ≡ false
word_ends word t h = let found = word_is word t h in no_signs t (λ sign. ap (is_sign sign) found.1.0 ∙ keyword_no_sign sign found.0)

pub formula_once : {text : List ℕ} {f g : FormulaView} → IsFormulaText text f → IsFormulaText text g → f ≡ g
formula_once (whole there d end) (whole there' e end') = (one_reading d (end_ends there.token end) e (end_ends there'.token end')).0

pub formula_or_fault : {text : List ℕ} {f : FormulaView} {e : TextFault} → IsFormulaText text f → FormulaFault text e → e ≡ NoMemory
formula_or_fault (whole there d end) (in_formula e h) = read_or_fault d (end_ends there.token end) h
formula_or_fault (whole there d end) (behind_formula there' g d' at_end more) =
    let same = (one_reading d (end_ends there.token end) d' at_end).1 in absurd (false≢true (sym more ∙ ap (λ (p : Cursor). is_end p.token) (sym same) ∙ end))

pub formula_fault_once : {text : List ℕ} {e e' : TextFault} → FormulaFault text e → FormulaFault text e' → AreOneFault e e'
formula_fault_once (in_formula e h) (in_formula e' h') = one_stop h h'
formula_fault_once (in_formula e h) (behind_formula there f d at_end more) = inl (read_or_fault d at_end h)
formula_fault_once (behind_formula there f d at_end more) (in_formula e' h') = inr (inl (read_or_fault d at_end h'))
formula_fault_once (behind_formula there f d at_end more) (behind_formula there' f' d' ended' more') = inr (inr (ap (λ (p : Cursor). Unexpected p.at) (one_reading d at_end d' ended').1))

-- ---- statements

chosen_word : (b : Bool) (x : Result Cursor TextFault) (e : TextFault) (y : Cursor) → (if b then x else Err e) ≡ Ok y → b ≡ true
chosen_word true x e y h = refl
chosen_word false x e y h = absurd (let never : ◌≡◌ {A = Result Cursor TextFault} (Err e) (Ok y) = h in cc)

word_there : (text : List ℕ) (word : Word) (here there : Cursor) → expect_word text word here ≡ Ok there → is_word word here.token ≡ true
unfolding expect_word
word_there text word here there h = chosen_word (is_word word here.token) (Ok (cursor_after text here)) (Unexpected here.at) there h

span_ends : (text : List ℕ) (here : Cursor) (p : TimePoint × TimePoint) → span text here ≡ Ok p → is_continued_by formula here.token ≡ false
unfolding span
span_ends text here p h =
    let first = bind_ok (expect_word text keywords.From here) _ p h in word_ends keywords.From here.token (word_there text keywords.From here first.0 first.1.0)

-- what opens a statement is determined
opened_once : (text : List ℕ) (here : Cursor) {who_here who_here' : Cursor} {who who' : List ℕ} → opening text here ≡ Ok (who, who_here) → opening text here ≡ Ok (who', who_here') → (who ≡ who') × (who_here ≡ who_here')
opened_once text here {who_here} {who_here'} {who} {who'} o o' =
    let same : ◌≡◌ {A = Result (List ℕ × Cursor) TextFault} (Ok (who, who_here)) (Ok (who', who_here')) = sym o ∙ o' in
    let pair : ◌≡◌ {A = List ℕ × Cursor} (who, who_here) (who', who_here') = cc in (ap (λ (p : List ℕ × Cursor). p.0) pair, ap (λ (p : List ℕ × Cursor). p.1) pair)

not_opened : (text : List ℕ) (here : Cursor) {there : Cursor} {who : List ℕ} {e : TextFault} → opening text here ≡ Ok (who, there) → opening text here ≡ Err e → ⊥
not_opened text here {there} {who} {e} o o' = let never : ◌≡◌ {A = Result (List ℕ × Cursor) TextFault} (Ok (who, there)) (Err e) = sym o ∙ o' in cc

body_at : {text : List ℕ} {here here' there : Cursor} {f : FormulaView} → here ≡ here' → Is text true formula [] 0 here' there f → Is text true formula [] 0 here there f
body_at {text} {here} {here'} {there} {f} same d = subst (λ (p : Cursor). Is text true formula [] 0 p there f) (sym same) d

stop_at : {text : List ℕ} {here here' : Cursor} {e : TextFault} → here ≡ here' → HasFirstFault text true formula [] 0 here' e → HasFirstFault text true formula [] 0 here e
stop_at {text} {here} {here'} {e} same h = subst (λ (p : Cursor). HasFirstFault text true formula [] 0 p e) (sym same) h

spanned_or_fault : (text : List ℕ) {there there' : Cursor} {p : TimePoint × TimePoint} {e : TextFault} → there ≡ there' → span text there ≡ Ok p → span text there' ≡ Err e → ⊥
spanned_or_fault text {there} {there'} {p} {e} same h k = let never : ◌≡◌ {A = Result (TimePoint × TimePoint) TextFault} (Ok p) (Err e) = sym h ∙ ap (span text) same ∙ k in cc

span_fault_once : (text : List ℕ) {there there' : Cursor} {e e' : TextFault} → there ≡ there' → span text there ≡ Err e → span text there' ≡ Err e' → e ≡ e'
span_fault_once text {there} {there'} {e} {e'} same h k = let both : ◌≡◌ {A = Result (TimePoint × TimePoint) TextFault} (Err e) (Err e') = sym h ∙ ap (span text) same ∙ k in cc

span_once : (text : List ℕ) {there there' : Cursor} {p p' : TimePoint × TimePoint} → there ≡ there' → span text there ≡ Ok p → span text there' ≡ Ok p' → p ≡ p'
span_once text {there} {there'} {p} {p'} same h k = let both : ◌≡◌ {A = Result (TimePoint × TimePoint) TextFault} (Ok p) (Ok p') = sym h ∙ ap (span text) same ∙ k in cc

pub saying_once : {text : List ℕ} {s s' : StatementView} → IsSayingText text s → IsSayingText text s' → s ≡ s'
saying_once {text} (whole_saying who here there f from to o d p) (whole_saying who' here' there' f' from' to' o' d' p') =
    let opened = opened_once text (beginning text) o o' in
    let read = one_reading d (span_ends text there _ p) (body_at opened.1 d') (span_ends text there' _ p') in
    let times = span_once text read.1 p p' in
    ap (λ (w : List ℕ). statement_view w f from to) opened.0 ∙ ap (λ (a : FormulaView). statement_view who' a from to) read.0
    ∙ ap (λ (q : TimePoint × TimePoint). statement_view who' f' q.0 q.1) times

saying_or_fault : {text : List ℕ} {s : StatementView} {e : TextFault} → IsSayingText text s → IsStatement s → StatementFault text e → e ≡ NoMemory
saying_or_fault {text} (whole_saying who here there f from to o d p) st (in_opening e o') = absurd (not_opened text (beginning text) o o')
saying_or_fault {text} (whole_saying who here there f from to o d p) st (in_body who' here' e o' h) = read_or_fault d (span_ends text there _ p) (stop_at (opened_once text (beginning text) o o').1 h)
saying_or_fault {text} (whole_saying who here there f from to o d p) st (in_span who' here' there' f' e o' d' ended' q) =
    absurd (spanned_or_fault text (one_reading d (span_ends text there _ p) (body_at (opened_once text (beginning text) o o').1 d') ended').1 p q)

pub statement_or_fault : {text : List ℕ} {s : StatementView} {e : TextFault} → IsStatementText text s → StatementFault text e → e ≡ NoMemory
statement_or_fault t h = saying_or_fault t.is_text t.is_statement h

pub statement_fault_once : {text : List ℕ} {e e' : TextFault} → StatementFault text e → StatementFault text e' → AreOneFault e e'
statement_fault_once {text} (in_opening e o) (in_opening e' o') = let both : ◌≡◌ {A = Result (List ℕ × Cursor) TextFault} (Err e) (Err e') = sym o ∙ o' in inr (inr (cc))
statement_fault_once {text} (in_opening e o) (in_body who' here' e' o' h') = absurd (not_opened text (beginning text) o' o)
statement_fault_once {text} (in_opening e o) (in_span who' here' there' f' e' o' d' ended' q') = absurd (not_opened text (beginning text) o' o)
statement_fault_once {text} (in_body who here e o h) (in_opening e' o') = absurd (not_opened text (beginning text) o o')
statement_fault_once {text} (in_body who here e o h) (in_body who' here' e' o' h') = one_stop h (stop_at (opened_once text (beginning text) o o').1 h')
statement_fault_once {text} (in_body who here e o h) (in_span who' here' there' f' e' o' d' ended' q') = inl (read_or_fault (body_at (opened_once text (beginning text) o o').1 d') ended' h)
statement_fault_once {text} (in_span who here there f e o d at_end q) (in_opening e' o') = absurd (not_opened text (beginning text) o o')
statement_fault_once {text} (in_span who here there f e o d at_end q) (in_body who' here' e' o' h') = inr (inl (read_or_fault d at_end (stop_at (opened_once text (beginning text) o o').1 h')))
statement_fault_once {text} (in_span who here there f e o d at_end q) (in_span who' here' there' f' e' o' d' ended' q') =
    inr (inr (span_fault_once text (one_reading d at_end (body_at (opened_once text (beginning text) o o').1 d') ended').1 q q'))

-- ---- what a reading answers

pub only_formula : (text : List ℕ) (r : Result Formula TextFault) → IfOk r (λ f. IsFormulaText text (syntax.formula_view f)) → IfErr r (FormulaFault text) → (f : FormulaView) → IsFormulaText text f
    → MatchResult r (λ g. syntax.formula_view g ≡ f) (λ e. e ≡ NoMemory)
only_formula text (Ok g) read fault f t = formula_once read t
only_formula text (Err e) read fault f t = formula_or_fault t fault

pub only_formula_fault : (text : List ℕ) (r : Result Formula TextFault) → IfOk r (λ f. IsFormulaText text (syntax.formula_view f)) → IfErr r (FormulaFault text) → (e : TextFault) → FormulaFault text e
    → MatchResult r (λ g. e ≡ NoMemory) (λ d. AreOneFault d e)
only_formula_fault text (Ok g) read fault e h = formula_or_fault read h
only_formula_fault text (Err d) read fault e h = formula_fault_once fault h

pub only_statement : (text : List ℕ) (r : Result StatementView TextFault) → IfOk r (IsStatementText text) → IfErr r (StatementFault text) → (s : StatementView) → IsStatementText text s
    → MatchResult r (λ t. t ≡ s) (λ e. e ≡ NoMemory)
only_statement text (Ok t) read fault s is = saying_once read.is_text is.is_text
only_statement text (Err e) read fault s is = statement_or_fault is fault

pub only_statement_fault : (text : List ℕ) (r : Result StatementView TextFault) → IfOk r (IsStatementText text) → IfErr r (StatementFault text) → (e : TextFault) → StatementFault text e
    → MatchResult r (λ t. e ≡ NoMemory) (λ d. AreOneFault d e)
only_statement_fault text (Ok t) read fault e h = statement_or_fault read h
only_statement_fault text (Err d) read fault e h = statement_fault_once fault h
