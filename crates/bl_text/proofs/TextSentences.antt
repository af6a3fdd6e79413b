-- The tokens of a text that writes a formula or a statement are a sentence.
use Rattle.std.proofs.Common.{◌≡◌, ℕ, zero, suc, true, List, [], ◌∷◌, ◌++◌, length, refl, sym, ap, ◌∙◌, subst, Ok, Err}
use Rattle.bl_syntax.specs.declared.terms.Term.TheVariants.{Prin, File, Perm, Time, Text, Ctime, Param, Bound}
use Rattle.bl_syntax.specs.declared.terms.TimePoint.{TimePoint}
use Rattle.bl_syntax.specs.Formula.{FormulaView}
use Rattle.bl_syntax.specs.Statement.{StatementView}
use Rattle.bl_tokens.specs.declared.faults.TextFault.TheVariants.{Unexpected}
use Rattle.bl_tokens.specs.declared.tokens.Keyword.{Keyword as Word}
use Rattle.bl_tokens.specs.declared.tokens.Keyword.TheVariants as keywords
use Rattle.bl_tokens.specs.declared.tokens.Token.{Token}
use Rattle.bl_tokens.specs.declared.tokens.Token.TheVariants.{Name, LongWord, Constant, BadDate, SortName, Keyword, End, Bad}
use Rattle.bl_tokens.specs.declared.tokens.Token.TheVariants as tokens
use Rattle.bl_tokens.specs.declared.tokens.Cursor.{Cursor}
use Rattle.bl_tokens.specs.Tokens.{token_from, cursor_after, is_word}
use Rattle.bl_text.specs.Texts.{beginning, is_end, IsFormulaText, whole, expect_word, time_constant, principal_name, opening, at_end, span, IsSayingText, whole_saying}
use Rattle.bl_text.specs.Sentences.{IsSentence, IsStatementSentence, statement, first_tokens, IsSentenceText}
use Rattle.bl_text.proofs.FirstTokensLemmas.{bare_token, walk_number}
use Rattle.bl_text.proofs.PieceLemmas.{bind_ok, ok_then}
use Rattle.bl_text.proofs.IsStatementLemmas.{ok_same, refused, if_ok, word_place, timed, untimed, badly_timed}
use Rattle.bl_text.proofs.PartLemmas.{between, Reads, reads_then, Part, part_with, part_then, part_place, part_token, part_behind, spelled}

pub first_between : (text : List ℕ) (n from left : ℕ) → first_tokens text n from ≡ between text n (token_from text from left)
first_between text zero from left = refl
first_between text (suc n) from left =
    ap (λ ts. (token_from text from 0).token ∷ ts) (first_between text n (token_from text from 0).end 0)
    ∙ ap (λ (h : Cursor). h.token ∷ between text n (token_from text h.end 0)) (sym (bare_token text from left))

pub spelled_text : {IsOne : List Token → Type 0} {text : List ℕ} {place : Cursor} (ts : List Token) → Reads text (beginning text) place ts → IsOne ts → is_end place.token ≡ true → IsSentenceText IsOne text
spelled_text {IsOne} {text} {place} ts r sentence end = record {
  number = length ts;
  sentence = subst IsOne (sym (first_between text (length ts) 0 512 ∙ r.spelled)) sentence;
  end = ap (λ (h : Cursor). is_end h.token) (sym (walk_number text (length ts) 0 512) ∙ r.reach) ∙ end;
}

pub formula_spelled : {text : List ℕ} {f : FormulaView} → IsFormulaText text f → IsSentenceText IsSentence text
formula_spelled {text} (whole place d end) = let s = spelled d in spelled_text {IsOne = IsSentence} s.ts s.part.reads s.sentence end

-- ---- words, names and times

pub word_is : (text : List ℕ) (word : Word) (here place : Cursor) → expect_word text word here ≡ Ok place → is_word word here.token ≡ true
unfolding expect_word
word_is text word here place h = (if_ok (is_word word here.token) (Ok (cursor_after text here)) (Unexpected here.at) place h).0

pub word_ok : (text : List ℕ) (word : Word) (here : Cursor) → is_word word here.token ≡ true → expect_word text word here ≡ Ok (cursor_after text here)
unfolding expect_word
word_ok text word here is = rw is

pub part_word : {text : List ℕ} (word : Word) {here place : Cursor} → expect_word text word here ≡ Ok place → Part text here place (here.token ∷ []) (λ o. expect_word o word here ≡ Ok place)
part_word {text} word {here} {place} h =
    let at = word_place text word here place h in
    part_place at (part_with (λ o same. word_ok o word here (word_is text word here place h) ∙ ap Ok (same ∙ sym at)) (part_behind text here))

pub time_is_by : (here : Cursor) (point : TimePoint) → time_constant here ≡ Ok point → (token : Token) → here.token ≡ token → token ≡ Constant (Time point)
unfolding time_constant
time_is_by here point h (Constant (Time found)) is = ap (λ p. Constant (Time p)) (ok_same (sym (timed here found is) ∙ h))
time_is_by here point h (Constant (Prin name)) is = absurd (untimed here point h (rw is refl))
time_is_by here point h (Constant (File number)) is = absurd (untimed here point h (rw is refl))
time_is_by here point h (Constant (Perm permission)) is = absurd (untimed here point h (rw is refl))
time_is_by here point h (Constant (Text constant)) is = absurd (untimed here point h (rw is refl))
time_is_by here point h (Constant Ctime) is = absurd (untimed here point h (rw is refl))
time_is_by here point h (Constant (Param n)) is = absurd (untimed here point h (rw is refl))
time_is_by here point h (Constant (Bound n)) is = absurd (untimed here point h (rw is refl))
time_is_by here point h (Name name) is = absurd (untimed here point h (rw is refl))
time_is_by here point h (tokens.Variable name) is = absurd (untimed here point h (rw is refl))
time_is_by here point h LongWord is = absurd (untimed here point h (rw is refl))
time_is_by here point h BadDate is = absurd (badly_timed here point h (rw is refl))
time_is_by here point h (SortName s) is = absurd (untimed here point h (rw is refl))
time_is_by here point h (Keyword word) is = absurd (untimed here point h (rw is refl))
time_is_by here point h (tokens.Sign sign) is = absurd (untimed here point h (rw is refl))
time_is_by here point h End is = absurd (untimed here point h (rw is refl))
time_is_by here point h Bad is = absurd (untimed here point h (rw is refl))

name_found : (here : Cursor) (name : List ℕ) → here.token ≡ tokens.Name name → principal_name here ≡ Ok name
unfolding principal_name
name_found here name is = rw is

unnamed : (here : Cursor) (name : List ℕ) → principal_name here ≡ Ok name → principal_name here ≡ Err (Unexpected here.at) → ⊥
unnamed here name h k = refused (sym k ∙ h)

pub name_is_by : (here : Cursor) (name : List ℕ) → principal_name here ≡ Ok name → (token : Token) → here.token ≡ token → token ≡ tokens.Name name
unfolding principal_name
name_is_by here name h (Name found) is = ap tokens.Name (ok_same (sym (name_found here found is) ∙ h))
name_is_by here name h LongWord is = absurd (unnamed here name h (rw is refl))
name_is_by here name h (tokens.Variable n) is = absurd (unnamed here name h (rw is refl))
name_is_by here name h (Constant t) is = absurd (unnamed here name h (rw is refl))
name_is_by here name h BadDate is = absurd (unnamed here name h (rw is refl))
name_is_by here name h (SortName s) is = absurd (unnamed here name h (rw is refl))
name_is_by here name h (Keyword word) is = absurd (unnamed here name h (rw is refl))
name_is_by here name h (tokens.Sign sign) is = absurd (unnamed here name h (rw is refl))
name_is_by here name h End is = absurd (unnamed here name h (rw is refl))
name_is_by here name h Bad is = absurd (unnamed here name h (rw is refl))

-- ---- the opening

pub record OpeningPart (text : List ℕ) (here place : Cursor) (who : List ℕ) : Type 0 where
  pub word : Token
  pub is_says : is_word keywords.Says word ≡ true
  pub part : Part text here place (tokens.Name who ∷ word ∷ []) (λ o. opening o here ≡ Ok (who, place))

pub opening_part : (text : List ℕ) (here place : Cursor) (who : List ℕ) → opening text here ≡ Ok (who, place) → OpeningPart text here place who
unfolding opening
opening_part text here place who h =
    let name = bind_ok (principal_name here) _ (who, place) h in
    let says = bind_ok (expect_word text keywords.Says (cursor_after text here)) _ (who, place) name.1.1 in
    subst (λ (p : List ℕ × Cursor). OpeningPart text here p.1 p.0) (ok_same says.1.1) (record {
      word = (cursor_after text here).token;
      is_says = word_is text keywords.Says (cursor_after text here) says.0 says.1.0;
      part = part_with (λ o p. ok_then (principal_name here) _ name.0 name.1.0 (ok_then (expect_word o keywords.Says (cursor_after o here)) _ says.0 (ap (expect_word o keywords.Says) p.0 ∙ p.1) refl))
          (part_then (part_token (name_is_by here name.0 name.1.0 here.token refl) (part_behind text here)) (part_word keywords.Says says.1.0));
    })

-- ---- the span

end_is : (here : Cursor) (u : Unit {0}) → at_end here ≡ Ok u → is_end here.token ≡ true
unfolding at_end
end_is here u h = (if_ok (is_end here.token) (Ok tt) (Unexpected here.at) u h).0

-- the two words with their times, and the end of the text
pub record SpanTokens (text : List ℕ) (here : Cursor) (from to : TimePoint) : Type 0 where
  pub place : Cursor
  pub from_word : Token
  pub to_word : Token
  pub is_from : is_word keywords.From from_word ≡ true
  pub is_to : is_word keywords.To to_word ≡ true
  pub reads : Reads text here place (from_word ∷ tokens.Constant (Time from) ∷ to_word ∷ tokens.Constant (Time to) ∷ [])
  pub is_last : is_end place.token ≡ true

span_tokens : (text : List ℕ) (here : Cursor) (from to : TimePoint) → span text here ≡ Ok (from, to) → SpanTokens text here from to
unfolding span
span_tokens text here from to h =
    let first = bind_ok (expect_word text keywords.From here) _ (from, to) h in
    let low = bind_ok (time_constant first.0) _ (from, to) first.1.1 in
    let second = bind_ok (expect_word text keywords.To (cursor_after text first.0)) _ (from, to) low.1.1 in
    let high = bind_ok (time_constant second.0) _ (from, to) second.1.1 in
    let last = bind_ok (at_end (cursor_after text second.0)) _ (from, to) high.1.1 in
    subst (λ (p : TimePoint × TimePoint). SpanTokens text here p.0 p.1) (ok_same last.1.1) (record {
      place = cursor_after text second.0;
      from_word = here.token;
      to_word = (cursor_after text first.0).token;
      is_from = word_is text keywords.From here first.0 first.1.0;
      is_to = word_is text keywords.To (cursor_after text first.0) second.0 second.1.0;
      reads = (part_then (part_word keywords.From first.1.0) (part_then (part_token (time_is_by first.0 low.0 low.1.0 first.0.token refl) (part_behind text first.0))
          (part_then (part_word keywords.To second.1.0) (part_token (time_is_by second.0 high.0 high.1.0 second.0.token refl) (part_behind text second.0))))).reads;
      is_last = end_is (cursor_after text second.0) last.0 last.1.0;
    })

pub saying_spelled : {text : List ℕ} {s : StatementView} → IsSayingText text s → IsSentenceText IsStatementSentence text
saying_spelled {text} (whole_saying who here place f from to opens d spans) =
    let start = opening_part text (beginning text) here who opens in
    let body = spelled d in
    let rest = span_tokens text place from to spans in
    spelled_text {IsOne = IsStatementSentence} (tokens.Name who ∷ start.word ∷ (body.ts ++ rest.from_word ∷ tokens.Constant (Time from) ∷ rest.to_word ∷ tokens.Constant (Time to) ∷ []))
    (reads_then start.part.reads (reads_then body.part.reads rest.reads))
    (statement who start.word rest.from_word rest.to_word body.ts from to start.is_says body.sentence rest.is_from rest.is_to) rest.is_last
