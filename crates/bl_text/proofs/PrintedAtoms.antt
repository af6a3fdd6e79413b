-- What is printed of binders, speakers, intervals and predicates is read.
use Rattle.std.proofs.Common.{◌≡◌, ℕ, suc, ◌+◌, ◌-◌, ◌≤◌, Bool, true, false, List, [], ◌∷◌, ◌++◌, length, append_assoc, append-nil, refl, sym, ap, ◌∙◌, subst, arith, Ok}
use Rattle.std.specs.Prelude.{◌<◌, codes, not, ◌&&◌}
use Rattle.std.specs.List.{AllByRecursion}
use Rattle.std.specs.Str.{bytes_eq}
use Rattle.std.specs.Fmt.{decimal}
use Rattle.std.proofs.lemmas.Bool.{false≢true, and_from}
use Rattle.std.proofs.lemmas.Bool.Decides.{nat_tests}
use Rattle.std.proofs.lemmas.Slice.Eq.{bytes_eq-Decides}
use Rattle.bl_syntax.specs.declared.terms.Sort.{Sort}
use Rattle.bl_syntax.specs.declared.terms.Sort.TheVariants as sorts
use Rattle.bl_syntax.specs.declared.terms.Term.{Term}
use Rattle.bl_syntax.specs.declared.terms.StatePred.{StatePred}
use Rattle.bl_syntax.specs.declared.terms.StatePred.TheVariants.{Owner, HasXattr, InDir}
use Rattle.bl_syntax.specs.Formula.{FormulaView, atom, state, forall_, exists_, says, on}
use Rattle.bl_syntax.specs.Names.{is_principal_name, is_predicate_name}
use Rattle.bl_syntax.specs.WellSorted.{may, HasSort, HaveSorts, sorts_of_may, FitsPredicate, IsSortedState, terms_of_state, size}
use Rattle.bl_tokens.specs.declared.tokens.Sign.TheVariants as signs
use Rattle.bl_tokens.specs.declared.tokens.Keyword.{Keyword as Word'}
use Rattle.bl_tokens.specs.declared.tokens.Keyword.TheVariants as keywords
use Rattle.bl_tokens.specs.declared.tokens.Token.{Token}
use Rattle.bl_tokens.specs.declared.tokens.Token.TheVariants as tokens
use Rattle.bl_tokens.specs.declared.tokens.Cursor.{Cursor}
use Rattle.bl_tokens.specs.Tokens.{sized_lexeme, first_lexeme, token_from, cursor_after, cursor_after_node, is_sign, is_word}
use Rattle.bl_text.specs.Scope.{Variable, is_of_wanted_sort}
use Rattle.bl_text.specs.Pieces.{count, expect_sign, term_of, require_sort, argument, time_argument, interval, variable_name, sort_at, binder, speaker, are_may_arguments, apply_atom, apply_owner, apply_attribute, apply_directory, apply_state, apply_predicate, bare_predicate, named_time, name_alone, simple_formula}
use Rattle.bl_text.specs.Grammar.{primary, is_quantifier, is_saying, is_call, is_call_token, AreArguments, one, IsCall, call, for_every, for_some, saying, on_interval, called, one_simple}
use Rattle.bl_text.specs.Printed.{sort_text, term_text, terms_text, arguments_text, inner_depth, binder_text, rank, operand, formula_text}
use Rattle.bl_text.specs.PrintedTokens.{EndsRun, term_token}
use Rattle.bl_text.proofs.ReadLemmas.{expected-Ok}
use Rattle.bl_text.proofs.WordLemmas.{word_lexed, name_lexed, variable_lexed}
use Rattle.bl_text.proofs.PlaceLemmas.{Stands, stands_behind, stands_at, space_skipped}
use Rattle.bl_text.proofs.PrintedLemmas.{scope_of, IsPrintableTerm, term_read, sort_fits, Word, word, spaced_word, term_word, count_ok, sorted_ok, argument_ok, time_argument_ok, if_true, if_false, arguments_more, others_end}
use Rattle.bl_text.proofs.PrintedFormulas.{Ends, at_ends, Reading, Reader, operand_read, postfix_place, unary_place, formula_place, place_left}
use Rattle.bl_text.proofs.PieceLemmas.{colon_sign, dot_sign, comma_sign, close_sign, open_interval_sign, close_interval_sign, open_sign, says_keyword}
use Rattle.bl_text.proofs.PartLemmas.{variable_found}

-- ---- binders

sort_ok : (here : Cursor) (s : Sort) → here.token ≡ tokens.SortName s → sort_at here ≡ Ok s
unfolding sort_at
sort_ok here s is = rw is

sign_ok : (text : List ℕ) (here : Cursor) {place : Cursor} (sign : signs.the_data) → here.token ≡ tokens.Sign sign → is_sign sign (tokens.Sign sign) ≡ true → cursor_after text here ≡ place → expect_sign text sign here ≡ Ok place
sign_ok text here {place} sign token itself next = expected-Ok text sign here (ap (is_sign sign) token ∙ itself) ∙ ap Ok next

sort_lexed : (s : Sort) (rest : List ℕ) → EndsRun rest → first_lexeme (sort_text s ++ rest) ≡ sized_lexeme (tokens.SortName s) (length (sort_text s))
sort_lexed sorts.Principal rest ends = word_lexed 112 (114 ∷ 105 ∷ 110 ∷ 99 ∷ 105 ∷ 112 ∷ 97 ∷ 108 ∷ []) rest refl refl ends
sort_lexed sorts.File rest ends = word_lexed 102 (105 ∷ 108 ∷ 101 ∷ []) rest refl refl ends
sort_lexed sorts.Perm rest ends = word_lexed 112 (101 ∷ 114 ∷ 109 ∷ []) rest refl refl ends
sort_lexed sorts.Time rest ends = word_lexed 116 (105 ∷ 109 ∷ 101 ∷ []) rest refl refl ends
sort_lexed sorts.Text rest ends = word_lexed 116 (101 ∷ 120 ∷ 116 ∷ []) rest refl refl ends

-- the binder that was read, and where its body stands
pub record Binder (text : List ℕ) (here : Cursor) (left depth : ℕ) (s : Sort) (body : List ℕ) : Type 0 where
  pub to : ℕ
  pub stands : Stands text to body
  pub is : binder text here ≡ Ok (88 ∷ decimal depth, s, token_from text to (left - 1))

binder_ok : (text : List ℕ) (here place : Cursor) (name : List ℕ) (s : Sort) (colon : Cursor) → count here ≡ Ok tt → variable_name (cursor_after_node text here) ≡ Ok name → expect_sign text signs.Colon (cursor_after text (cursor_after_node text here)) ≡ Ok colon → sort_at colon ≡ Ok s
    → expect_sign text signs.Dot (cursor_after text colon) ≡ Ok place → binder text here ≡ Ok (name, s, place)
unfolding binder
binder_ok text here place name s colon room named found sort dot = rw (room, named, found, sort, dot) refl

binder_parts : (name s rest : List ℕ) → (codes "X" ++ (name ++ (codes ":" ++ (s ++ codes ". ")))) ++ rest ≡ codes "X" ++ (name ++ (codes ":" ++ (s ++ (codes ". " ++ rest))))
binder_parts name s rest =
    ap (λ bs. 88 ∷ bs) (append_assoc name (codes ":" ++ (s ++ codes ". ")) rest ∙ ap (λ bs. name ++ (58 ∷ bs)) (append_assoc s (codes ". ") rest))

-- after the word of a binder
binder_read : (text : List ℕ) (here : Cursor) (left depth at : ℕ) (s : Sort) (body : List ℕ) → depth < 1000 → 1 ≤ left → here.left ≡ left → cursor_after_node text here ≡ token_from text at (left - 1)
    → Stands text at (32 ∷ ((codes "X" ++ (decimal depth ++ (codes ":" ++ (sort_text s ++ codes ". ")))) ++ body)) → Binder text here left depth s body
binder_read text here left depth at s body few some nodes next stands =
    let v = spaced_word (left - 1) (88 ∷ decimal depth) (58 ∷ (sort_text s ++ (46 ∷ 32 ∷ body))) (tokens.Variable (88 ∷ decimal depth)) (stands_at refl (ap (λ bs. 32 ∷ bs) (binder_parts (decimal depth) (sort_text s) body)) stands) (variable_lexed depth _ few (refl, refl)) refl in
    let c = word (left - 1) (codes ":") (sort_text s ++ (46 ∷ 32 ∷ body)) (tokens.Sign signs.Colon) v.stands refl refl in
    let w = word (left - 1) (sort_text s) (46 ∷ 32 ∷ body) (tokens.SortName s) c.stands (sort_lexed s (46 ∷ 32 ∷ body) (refl, refl)) refl in
    let d = word (left - 1) (codes ".") (32 ∷ body) (tokens.Sign signs.Dot) w.stands refl refl in
    let variable = token_from text at (left - 1) in
    let colon = token_from text v.to (left - 1) in
    let sort = token_from text c.to (left - 1) in
    let dot = token_from text w.to (left - 1) in
    record {
      to = d.to + 1;
      stands = stands_behind (32 ∷ []) body d.stands;
      is = binder_ok text here (token_from text (d.to + 1) (left - 1)) (88 ∷ decimal depth) s sort (count_ok here (let n = nodes in omega arith))
          (ap variable_name next ∙ variable_found variable (88 ∷ decimal depth) v.token)
          (ap (λ h. expect_sign text signs.Colon (cursor_after text h)) next ∙ ap (expect_sign text signs.Colon) v.next ∙ sign_ok text _ signs.Colon c.token colon_sign c.next)
          (sort_ok sort s w.token)
          (ap (expect_sign text signs.Dot) w.next ∙ sign_ok text _ signs.Dot d.token dot_sign (d.next ∙ space_skipped (left - 1) d.stands));
    }

keyword_word : {text : List ℕ} {from : ℕ} (left : ℕ) (first : ℕ) (others rest : List ℕ) (w : Word') → Stands text from (first ∷ (others ++ 32 ∷ rest)) → first_lexeme (first ∷ (others ++ 32 ∷ rest)) ≡ sized_lexeme (tokens.Keyword w) (length (first ∷ others))
    → Word text (token_from text from left) left (tokens.Keyword w) (32 ∷ rest)
keyword_word left first others rest w stands lexed = word left (first ∷ others) (32 ∷ rest) (tokens.Keyword w) stands lexed refl

forall_is : is_word keywords.Forall (tokens.Keyword keywords.Forall) ≡ true
unfolding is_word
forall_is = refl

exists_is : is_word keywords.Exists (tokens.Keyword keywords.Exists) ≡ true
unfolding is_word
exists_is = refl

deeper_is : (depth : ℕ) → depth ≤ 512 → inner_depth depth ≡ suc depth
deeper_is depth few = grind (arith, nat_tests)

pub forall_read : (st : Bool) (binders : List Sort) (s : Sort) (a : FormulaView) → length binders + 1 ≤ 512 → Reader st (s ∷ binders) a → Reader st binders (forall_ s a)
forall_read st binders s a few read text depth from left rest deep nodes ends stands =
    let d = length binders in
    let ta = operand 0 (rank a) (formula_text (inner_depth d) a) in
    let body = ta ++ rest in
    let w = keyword_word left 102 (111 ∷ 114 ∷ 97 ∷ 108 ∷ 108 ∷ []) ((codes "X" ++ (decimal d ++ (codes ":" ++ (sort_text s ++ codes ". ")))) ++ body) keywords.Forall
    (stands_at refl (append_assoc (binder_text (codes "forall X") d s) ta rest) stands) refl in
    let here = token_from text from left in
    let b = binder_read text here left d w.to s body (omega arith) (omega arith) w.nodes w.node w.stands in
    let inside = operand_read formula_place st (s ∷ binders) a read text depth b.to (left - 1) rest (omega arith) (omega arith) ends
    (stands_at refl (ap (λ n. operand 0 (rank a) (formula_text n a) ++ rest) (deeper_is d (omega arith))) b.stands) in
    let same : left - 1 - size a ≡ left - size (forall_ s a) = omega arith in
    record {
      to = inside.to;
      stands = inside.stands;
      is = place_left inside.to same (for_every (scope_of binders) depth here (token_from text b.to (left - 1)) (token_from text inside.to (left - 1 - size a)) (88 ∷ decimal d) s a (ap (is_word keywords.Forall) w.token ∙ forall_is) b.is inside.is);
      plain = λ h. absurd (false≢true h);
      silent = λ h. absurd (false≢true h);
    }

pub exists_read : (st : Bool) (binders : List Sort) (s : Sort) (a : FormulaView) → length binders + 1 ≤ 512 → Reader st (s ∷ binders) a → Reader st binders (exists_ s a)
exists_read st binders s a few read text depth from left rest deep nodes ends stands =
    let d = length binders in
    let ta = operand 0 (rank a) (formula_text (inner_depth d) a) in
    let body = ta ++ rest in
    let w = keyword_word left 101 (120 ∷ 105 ∷ 115 ∷ 116 ∷ 115 ∷ []) ((codes "X" ++ (decimal d ++ (codes ":" ++ (sort_text s ++ codes ". ")))) ++ body) keywords.Exists
    (stands_at refl (append_assoc (binder_text (codes "exists X") d s) ta rest) stands) refl in
    let here = token_from text from left in
    let b = binder_read text here left d w.to s body (omega arith) (omega arith) w.nodes w.node w.stands in
    let inside = operand_read formula_place st (s ∷ binders) a read text depth b.to (left - 1) rest (omega arith) (omega arith) ends
    (stands_at refl (ap (λ n. operand 0 (rank a) (formula_text n a) ++ rest) (deeper_is d (omega arith))) b.stands) in
    let same : left - 1 - size a ≡ left - size (exists_ s a) = omega arith in
    record {
      to = inside.to;
      stands = inside.stands;
      is = place_left inside.to same (for_some (scope_of binders) depth here (token_from text b.to (left - 1)) (token_from text inside.to (left - 1 - size a)) (88 ∷ decimal d) s a (ap (is_word keywords.Exists) w.token ∙ exists_is) b.is inside.is);
      plain = λ h. absurd (false≢true h);
      silent = λ h. absurd (false≢true h);
    }

-- ---- speakers

speaker_ok : (text : List ℕ) (scope : List Variable) (here : Cursor) (who : Term) → term_of scope here ≡ Ok who → count here ≡ Ok tt → require_sort scope sorts.Principal here.at who ≡ Ok tt → count (cursor_after_node text here) ≡ Ok tt
    → speaker text scope here ≡ Ok (who, cursor_after_node text (cursor_after_node text here))
unfolding speaker
speaker_ok text scope here who term room sort next = rw (term, room, sort, next) refl

-- a principal or a variable, as its token
abbrev pub IsSpeakerToken : Token → Type 0
IsSpeakerToken (tokens.Name name) = Unit {0}
IsSpeakerToken (tokens.Variable name) = Unit {0}
IsSpeakerToken _ = ⊥

abbrev speaks_token : Token → Bool
speaks_token (tokens.Name name) = true
speaks_token (tokens.Variable name) = true
speaks_token _ = false

saying_is : (text : List ℕ) (here : Cursor) → is_saying text here ≡ (speaks_token here.token && is_word keywords.Says (cursor_after_node text here).token)
unfolding is_saying
saying_is text here = refl

pub saying_at : (text : List ℕ) (here : Cursor) (t : Token) (b : Bool) → here.token ≡ t → is_word keywords.Says (cursor_after_node text here).token ≡ b → is_saying text here ≡ (speaks_token t && b)
saying_at text here t b is w = saying_is text here ∙ ap (λ t'. speaks_token t' && is_word keywords.Says (cursor_after_node text here).token) is ∙ ap (λ b'. speaks_token t && b') w

call_at : (text : List ℕ) (here : Cursor) (t : Token) (b : Bool) → here.token ≡ t → is_sign signs.Open (cursor_after_node text here).token ≡ b → is_call text here ≡ is_call_token t b
unfolding is_call
call_at text here t b is w = ap (λ t'. is_call_token t' (is_sign signs.Open (cursor_after_node text here).token)) is ∙ ap (is_call_token t) w

saying_by : (text : List ℕ) (here : Cursor) (t : Token) → here.token ≡ t → IsSpeakerToken t → is_word keywords.Says (cursor_after_node text here).token ≡ true → is_saying text here ≡ true
saying_by text here (tokens.Name name) is speaks says_ = saying_at text here (tokens.Name name) true is says_
saying_by text here (tokens.Variable name) is speaks says_ = saying_at text here (tokens.Variable name) true is says_
saying_by text here tokens.LongWord is speaks says_ = absurd speaks
saying_by text here (tokens.Constant c) is speaks says_ = absurd speaks
saying_by text here tokens.BadDate is speaks says_ = absurd speaks
saying_by text here (tokens.SortName s) is speaks says_ = absurd speaks
saying_by text here (tokens.Keyword w) is speaks says_ = absurd speaks
saying_by text here (tokens.Sign s) is speaks says_ = absurd speaks
saying_by text here tokens.End is speaks says_ = absurd speaks
saying_by text here tokens.Bad is speaks says_ = absurd speaks

speaker_plain : (t : Token) → IsSpeakerToken t → is_quantifier t ≡ false
unfolding is_word
speaker_plain (tokens.Name name) speaks = refl
speaker_plain (tokens.Variable name) speaks = refl
speaker_plain tokens.LongWord speaks = absurd speaks
speaker_plain (tokens.Constant c) speaks = absurd speaks
speaker_plain tokens.BadDate speaks = absurd speaks
speaker_plain (tokens.SortName s) speaks = absurd speaks
speaker_plain (tokens.Keyword w) speaks = absurd speaks
speaker_plain (tokens.Sign s) speaks = absurd speaks
speaker_plain tokens.End speaks = absurd speaks
speaker_plain tokens.Bad speaks = absurd speaks

pub says_read : (st : Bool) (parameters binders : List Sort) (k : Term) (a : FormulaView) → length binders ≤ 512 → IsPrintableTerm parameters binders st k → HasSort parameters binders sorts.Principal k → IsSpeakerToken (term_token (length binders) k) → Reader st binders a → Reader st binders (says k a)
says_read st parameters binders k a few printable sort speaks read text depth from left rest deep nodes ends stands =
    let d = length binders in
    let ta = operand 3 (rank a) (formula_text d a) in
    let parts = append_assoc (term_text d k) (codes " says " ++ ta) rest ∙ ap (λ bs. term_text d k ++ bs) (append_assoc (codes " says ") ta rest) in
    let w = term_word left parameters binders st k (32 ∷ 115 ∷ 97 ∷ 121 ∷ 115 ∷ 32 ∷ (ta ++ rest)) printable few (refl, refl) (stands_at refl parts stands) in
    let s = spaced_word (left - 1) (codes "says") (32 ∷ (ta ++ rest)) (tokens.Keyword keywords.Says) w.stands refl refl in
    let here = token_from text from left in
    let word_here = token_from text w.to (left - 1) in
    let at_word : is_word keywords.Says (cursor_after_node text here).token ≡ true = ap (λ (h : Cursor). is_word keywords.Says h.token) w.node ∙ ap (is_word keywords.Says) s.token ∙ says_keyword in
    let place : cursor_after_node text (cursor_after_node text here) ≡ token_from text (s.to + 1) (left - 1 - 1) = ap (cursor_after_node text) w.node ∙ s.node ∙ space_skipped (left - 1 - 1) s.stands in
    let term = term_read parameters binders here k w.token printable.in_scope few in
    let spoken : speaker text (scope_of binders) here ≡ Ok (k, token_from text (s.to + 1) (left - 1 - 1)) =
    speaker_ok text (scope_of binders) here k term (count_ok here (let n = w.nodes in omega arith)) (sorted_ok (scope_of binders) sorts.Principal here.at k (sort_fits parameters binders sorts.Principal k sort))
    (ap count w.node ∙ count_ok word_here (let n = s.nodes in omega arith)) ∙ ap (λ h. Ok (k, h)) place in
    let inside = operand_read unary_place st binders a read text depth (s.to + 1) (left - 1 - 1) rest (omega arith) (omega arith) ends (stands_behind (32 ∷ []) (ta ++ rest) s.stands) in
    let same : left - 1 - 1 - size a ≡ left - size (says k a) = omega arith in
    record {
      to = inside.to;
      stands = inside.stands;
      is = place_left inside.to same (saying (scope_of binders) depth here (token_from text (s.to + 1) (left - 1 - 1)) (token_from text inside.to (left - 1 - 1 - size a)) k a (saying_by text here (term_token d k) w.token speaks at_word) spoken inside.is);
      plain = λ h. ap is_quantifier w.token ∙ speaker_plain (term_token d k) speaks;
      silent = λ h. absurd (false≢true h);
    }

-- ---- intervals

interval_ok : (text : List ℕ) (st : Bool) (scope : List Variable) (here first second place : Cursor) (from to : Term) → count here ≡ Ok tt → expect_sign text signs.OpenInterval (cursor_after_node text here) ≡ Ok first → time_argument st scope first ≡ Ok from
    → expect_sign text signs.Comma (cursor_after_node text first) ≡ Ok second → time_argument st scope second ≡ Ok to → expect_sign text signs.CloseInterval (cursor_after_node text second) ≡ Ok place → interval text st scope here ≡ Ok (from, to, place)
unfolding interval
interval_ok text st scope here first second place from to room opens low comma high close = rw (room, opens, low, comma, high, close) refl

at_is : is_sign signs.At (tokens.Sign signs.At) ≡ true
unfolding is_sign
at_is = refl

interval_parts : (a u v rest : List ℕ) → (a ++ (codes " @ [" ++ (u ++ (codes "," ++ (v ++ codes "]"))))) ++ rest ≡ a ++ (codes " @ [" ++ (u ++ (codes "," ++ (v ++ (codes "]" ++ rest)))))
interval_parts a u v rest =
    append_assoc a (codes " @ [" ++ (u ++ (codes "," ++ (v ++ codes "]")))) rest
    ∙ ap (λ bs. a ++ (codes " @ [" ++ bs)) (append_assoc u (codes "," ++ (v ++ codes "]")) rest ∙ ap (λ bs. u ++ (44 ∷ bs)) (append_assoc v (codes "]") rest))

pub on_read : (st : Bool) (parameters binders : List Sort) (a : FormulaView) (u v : Term) → length binders ≤ 512 → IsPrintableTerm parameters binders st u → IsPrintableTerm parameters binders st v → HasSort parameters binders sorts.Time u → HasSort parameters binders sorts.Time v
    → Reader st binders a → Reader st binders (on a u v)
on_read st parameters binders a u v few pu pv su sv read text depth from left rest deep nodes ends stands =
    let d = length binders in
    let tv = term_text d v ++ (93 ∷ rest) in
    let tu = term_text d u ++ (44 ∷ tv) in
    let l = left - size a in
    let body = operand_read postfix_place st binders a read text depth from left (32 ∷ 64 ∷ 32 ∷ 91 ∷ tu) (omega arith) (omega arith) (at_ends (91 ∷ tu))
    (stands_at refl (interval_parts (operand 4 (rank a) (formula_text d a)) (term_text d u) (term_text d v) rest) stands) in
    let sign = spaced_word l (codes "@") (32 ∷ 91 ∷ tu) (tokens.Sign signs.At) body.stands refl refl in
    let opens = spaced_word (l - 1) (codes "[") tu (tokens.Sign signs.OpenInterval) sign.stands refl refl in
    let low = term_word (l - 1) parameters binders st u (44 ∷ tv) pu few (refl, refl) opens.stands in
    let comma = word (l - 1 - 1) (codes ",") tv (tokens.Sign signs.Comma) low.stands refl refl in
    let high = term_word (l - 1 - 1) parameters binders st v (93 ∷ rest) pv few (refl, refl) comma.stands in
    let closes = word (l - 1 - 1 - 1) (codes "]") rest (tokens.Sign signs.CloseInterval) high.stands refl refl in
    let here = token_from text from left in
    let mid = token_from text body.to l in
    let first = token_from text opens.to (l - 1) in
    let second = token_from text comma.to (l - 1 - 1) in
    let place = token_from text closes.to (l - 1 - 1 - 1) in
    let iv : interval text st (scope_of binders) mid ≡ Ok (u, v, place) =
    interval_ok text st (scope_of binders) mid first second place u v (count_ok mid (let n = sign.nodes in omega arith))
    (ap (expect_sign text signs.OpenInterval) sign.node ∙ sign_ok text _ signs.OpenInterval opens.token open_interval_sign opens.next)
    (time_argument_ok st (scope_of binders) first u (term_read parameters binders first u low.token pu.in_scope few) (pu.sayable first.at) (sort_fits parameters binders sorts.Time u su) (let n = low.nodes in omega arith))
    (ap (expect_sign text signs.Comma) low.node ∙ sign_ok text _ signs.Comma comma.token comma_sign comma.next)
    (time_argument_ok st (scope_of binders) second v (term_read parameters binders second v high.token pv.in_scope few) (pv.sayable second.at) (sort_fits parameters binders sorts.Time v sv) (let n = high.nodes in omega arith))
    (ap (expect_sign text signs.CloseInterval) high.node ∙ sign_ok text _ signs.CloseInterval closes.token close_interval_sign closes.next) in
    let same : l - 1 - 1 - 1 ≡ left - size (on a u v) = omega arith in
    record {
      to = closes.to;
      stands = closes.stands;
      is = place_left closes.to same (on_interval (scope_of binders) depth here mid place a u v body.is (ap (is_sign signs.At) sign.token ∙ at_is) iv);
      plain = λ h. body.plain refl;
      silent = λ h. body.silent refl;
    }

-- ---- predicates

name_no_sign : (t : Token) (name : List ℕ) (sign : signs.the_data) → t ≡ tokens.Name name → is_sign sign t ≡ false
unfolding is_sign
name_no_sign t name sign is = rw is refl

name_no_quantifier : (t : Token) (name : List ℕ) → t ≡ tokens.Name name → is_quantifier t ≡ false
unfolding is_word
name_no_quantifier t name is = rw is refl

not_saying_next : (text : List ℕ) (here : Cursor) (name : List ℕ) → here.token ≡ tokens.Name name → is_word keywords.Says (cursor_after_node text here).token ≡ false → is_saying text here ≡ false
not_saying_next text here name is no_says = saying_at text here (tokens.Name name) false is no_says

not_calling_next : (text : List ℕ) (here : Cursor) (name : List ℕ) → here.token ≡ tokens.Name name → is_sign signs.Open (cursor_after_node text here).token ≡ false → is_call text here ≡ false
not_calling_next text here name is no_open = call_at text here (tokens.Name name) false is no_open

calling_next : (text : List ℕ) (here : Cursor) (name : List ℕ) → here.token ≡ tokens.Name name → is_sign signs.Open (cursor_after_node text here).token ≡ true → is_call text here ≡ true
calling_next text here name is opened = call_at text here (tokens.Name name) true is opened

bare_ok : (text : List ℕ) (scope : List Variable) (name : List ℕ) (here : Cursor) (f : FormulaView) → apply_predicate scope here.at name [] ≡ Ok f → count here ≡ Ok tt → bare_predicate text scope name here ≡ Ok (f, cursor_after_node text here)
unfolding bare_predicate
bare_ok text scope name here f fits_ room = rw (fits_, room) refl

name_alone_ok : (text : List ℕ) (scope : List Variable) (name : List ℕ) (here : Cursor) (f : FormulaView) → is_sign signs.UpTo (cursor_after_node text here).token ≡ false → apply_predicate scope here.at name [] ≡ Ok f → count here ≡ Ok tt → name_alone text scope name here ≡ Ok (f, cursor_after_node text here)
unfolding name_alone
name_alone_ok text scope name here f no_up_to fits_ room = if_false (named_time here) (bare_predicate text scope name here) no_up_to ∙ bare_ok text scope name here f fits_ room

simple_name : (text : List ℕ) (st : Bool) (scope : List Variable) (here : Cursor) (name : List ℕ) → here.token ≡ tokens.Name name → simple_formula text st scope here ≡ name_alone text scope name here
unfolding simple_formula
simple_name text st scope here name is = rw is refl

open_no_says : is_word keywords.Says (tokens.Sign signs.Open) ≡ false
unfolding is_word
open_no_says = refl

predicate_ends : (terms_behind rest : List ℕ) → EndsRun (codes "(" ++ terms_behind)
predicate_ends terms_behind rest = (refl, refl)

arguments_parts : (depth : ℕ) (name : List ℕ) (t : Term) (others : List Term) (rest : List ℕ) → (name ++ arguments_text depth (t ∷ others)) ++ rest ≡ name ++ (codes "(" ++ (term_text depth t ++ (terms_text depth others ++ 41 ∷ rest)))
arguments_parts depth name t others rest =
    append_assoc name (arguments_text depth (t ∷ others)) rest
    ∙ ap (λ bs. name ++ (40 ∷ bs)) (append_assoc (term_text depth t) (terms_text depth others ++ codes ")") rest ∙ ap (λ bs. term_text depth t ++ bs) (append_assoc (terms_text depth others) (codes ")") rest))

-- a name with these arguments, where it may be applied to them
pub applied_read : (st : Bool) (parameters binders : List Sort) (name : List ℕ) (terms : List Term) (f : FormulaView) → length binders ≤ 512 → is_principal_name name ≡ true → AllByRecursion (IsPrintableTerm parameters binders st) terms
    → (is_predicate_name name ≡ true → length terms ≤ 8) → ((at : ℕ) → apply_predicate (scope_of binders) at name terms ≡ Ok f) → size f ≡ 1 + length terms
    → (text : List ℕ) (depth from left : ℕ) (rest : List ℕ) → size f ≤ left → Ends rest → Stands text from ((name ++ arguments_text (length binders) terms) ++ rest)
    → Reading text st primary (scope_of binders) depth (token_from text from left) left 5 f rest
applied_read st parameters binders name [] f few named all ninth fits_ nodes text depth from left rest some ends stands =
    let w = word left name rest (tokens.Name name) (stands_at refl (ap (λ bs. bs ++ rest) (append-nil name)) stands) (name_lexed name rest named ends.run) refl in
    let here = token_from text from left in
    let next : (cursor_after_node text here).token ≡ ends.t = ap (λ (h : Cursor). h.token) w.node ∙ ends.token text w.to (left - 1) w.stands in
    let read : simple_formula text st (scope_of binders) here ≡ Ok (f, cursor_after_node text here) =
    simple_name text st (scope_of binders) here name w.token ∙ name_alone_ok text (scope_of binders) name here f (ap (is_sign signs.UpTo) next ∙ ends.no_up_to) (fits_ here.at) (count_ok here (let n = w.nodes in omega arith)) in
    let same : left - 1 ≡ left - size f = omega arith in
    let place : cursor_after_node text here ≡ token_from text w.to (left - size f) = w.node ∙ ap (token_from text w.to) same in
    record {
      to = w.to;
      stands = w.stands;
      is = one_simple (scope_of binders) depth here (token_from text w.to (left - size f)) f (name_no_sign here.token name signs.Open w.token)
          (not_calling_next text here name w.token (ap (is_sign signs.Open) next ∙ ends.no_open)) (read ∙ ap (λ h. Ok (f, h)) place);
      plain = λ h. name_no_quantifier here.token name w.token;
      silent = λ h. not_saying_next text here name w.token (ap (is_word keywords.Says) next ∙ ends.no_says);
    }
applied_read st parameters binders name (t ∷ others) f few named all ninth fits_ nodes text depth from left rest some ends stands =
    let d = length binders in
    let behind_first = terms_text d others ++ 41 ∷ rest in
    let w = word left name (40 ∷ (term_text d t ++ behind_first)) (tokens.Name name) (stands_at refl (arguments_parts d name t others rest) stands) (name_lexed name (40 ∷ (term_text d t ++ behind_first)) named (refl, refl)) refl in
    let opened = word (left - 1) (codes "(") (term_text d t ++ behind_first) (tokens.Sign signs.Open) w.stands refl refl in
    let first = term_word (left - 1) parameters binders st t behind_first all.0 few (others_end d others rest) opened.stands in
    let here = token_from text from left in
    let open_here = token_from text w.to (left - 1) in
    let start = token_from text opened.to (left - 1) in
    let is_atom = is_predicate_name name in
    let read : argument st (scope_of binders) start ≡ Ok t = argument_ok st (scope_of binders) start t (term_read parameters binders start t first.token all.0.in_scope few) (all.0.sayable start.at) (let n = first.nodes in omega arith) in
    let one_read : AreArguments text st (scope_of binders) is_atom start (token_from text first.to (left - 1 - 1)) (t ∷ []) =
    subst (λ (p : Cursor). AreArguments text st (scope_of binders) is_atom start p (t ∷ [])) first.node (one t read) in
    let more = arguments_more parameters binders others (t ∷ []) first.to (left - 1 - 1) rest few all.1 one_read first.stands (omega arith) (λ is. (let most = ninth is in omega arith)) in
    let l = left - 1 - 1 - length others in
    let mid = token_from text more.to l in
    let closed = word l (codes ")") rest (tokens.Sign signs.Close) more.stands refl refl in
    let next : (cursor_after_node text here).token ≡ tokens.Sign signs.Open = ap (λ (h : Cursor). h.token) w.node ∙ opened.token in
    let begun : start ≡ cursor_after text (cursor_after_node text here) = sym (ap (cursor_after text) w.node ∙ opened.next) in
    let same : l ≡ left - size f = omega arith in
    let call_is : IsCall text st (scope_of binders) here (token_from text closed.to l) f =
    call name mid (token_from text closed.to l) (t ∷ others) f w.token (count_ok here (let n = w.nodes in omega arith))
    (subst (λ (p : Cursor). AreArguments text st (scope_of binders) is_atom p mid (t ∷ others)) begun more.are) (sign_ok text _ signs.Close closed.token close_sign closed.next) (fits_ here.at) in
    record {
      to = closed.to;
      stands = closed.stands;
      is = place_left closed.to same (called (scope_of binders) depth here (token_from text closed.to l) f (name_no_sign here.token name signs.Open w.token) (calling_next text here name w.token (ap (is_sign signs.Open) next ∙ open_sign)) call_is);
      plain = λ h. name_no_quantifier here.token name w.token;
      silent = λ h. not_saying_next text here name w.token (ap (is_word keywords.Says) next ∙ open_no_says);
    }

-- ---- which arguments fit

may_fits : (parameters binders : List Sort) (terms : List Term) → HaveSorts parameters binders sorts_of_may terms → are_may_arguments (scope_of binders) terms ≡ true
unfolding are_may_arguments
may_fits parameters binders [] h = absurd h
may_fits parameters binders (a ∷ []) h = absurd h.1
may_fits parameters binders (a ∷ b ∷ []) h = absurd h.1.1
may_fits parameters binders (a ∷ b ∷ c ∷ []) h =
    and_from (is_of_wanted_sort (scope_of binders) sorts.Principal a && is_of_wanted_sort (scope_of binders) sorts.File b) (is_of_wanted_sort (scope_of binders) sorts.Perm c)
    (and_from (is_of_wanted_sort (scope_of binders) sorts.Principal a) (is_of_wanted_sort (scope_of binders) sorts.File b) (sort_fits parameters binders sorts.Principal a h.0) (sort_fits parameters binders sorts.File b h.1.0)) (sort_fits parameters binders sorts.Perm c h.1.1.0)
may_fits parameters binders (a ∷ b ∷ c ∷ d ∷ more) h = absurd h.1.1.1

atom_ok : (parameters binders : List Sort) (name : List ℕ) (terms : List Term) (at : ℕ) → FitsPredicate parameters binders name terms → is_predicate_name name ≡ true → apply_predicate (scope_of binders) at name terms ≡ Ok (atom name terms)
unfolding apply_predicate apply_atom
atom_ok parameters binders name terms at h named = if_true _ _ named ∙ if_false _ _ (by_name (bytes_eq name may) refl)
  where
    by_name : (b : Bool) → bytes_eq name may ≡ b → (b && not (are_may_arguments (scope_of binders) terms)) ≡ false
    by_name false is = refl
    by_name true is = ap not (may_fits parameters binders terms (h.of_may ((bytes_eq-Decides name may).0 is)))

owner_ok : (parameters binders : List Sort) (file owner : Term) (at : ℕ) → HasSort parameters binders sorts.File file → HasSort parameters binders sorts.Principal owner → apply_predicate (scope_of binders) at (codes "owner") (file ∷ owner ∷ []) ≡ Ok (state (Owner file owner))
unfolding apply_predicate apply_state apply_owner
owner_ok parameters binders file owner at f o =
    if_true _ _ (and_from (is_of_wanted_sort (scope_of binders) sorts.File file) (is_of_wanted_sort (scope_of binders) sorts.Principal owner) (sort_fits parameters binders sorts.File file f) (sort_fits parameters binders sorts.Principal owner o))

attribute_ok : (parameters binders : List Sort) (file name value : Term) (at : ℕ) → HasSort parameters binders sorts.File file → HasSort parameters binders sorts.Text name → HasSort parameters binders sorts.Text value
    → apply_predicate (scope_of binders) at (codes "has_xattr") (file ∷ name ∷ value ∷ []) ≡ Ok (state (HasXattr file name value))
unfolding apply_predicate apply_state apply_attribute
attribute_ok parameters binders file name value at f n v =
    if_true _ _ (and_from (is_of_wanted_sort (scope_of binders) sorts.File file && is_of_wanted_sort (scope_of binders) sorts.Text name) (is_of_wanted_sort (scope_of binders) sorts.Text value)
    (and_from (is_of_wanted_sort (scope_of binders) sorts.File file) (is_of_wanted_sort (scope_of binders) sorts.Text name) (sort_fits parameters binders sorts.File file f) (sort_fits parameters binders sorts.Text name n)) (sort_fits parameters binders sorts.Text value v))

directory_ok : (parameters binders : List Sort) (file directory : Term) (at : ℕ) → HasSort parameters binders sorts.File file → HasSort parameters binders sorts.File directory → apply_predicate (scope_of binders) at (codes "in_dir") (file ∷ directory ∷ []) ≡ Ok (state (InDir file directory))
unfolding apply_predicate apply_state apply_directory
directory_ok parameters binders file directory at f o =
    if_true _ _ (and_from (is_of_wanted_sort (scope_of binders) sorts.File file) (is_of_wanted_sort (scope_of binders) sorts.File directory) (sort_fits parameters binders sorts.File file f) (sort_fits parameters binders sorts.File directory o))

pub atom_read : (st : Bool) (parameters binders : List Sort) (name : List ℕ) (terms : List Term) → length binders ≤ 512 → is_principal_name name ≡ true → is_predicate_name name ≡ true → AllByRecursion (IsPrintableTerm parameters binders st) terms → length terms ≤ 8
    → FitsPredicate parameters binders name terms → Reader st binders (atom name terms)
atom_read st parameters binders name terms few named predicate all ninth h text depth from left rest deep nodes ends stands =
    applied_read st parameters binders name terms (atom name terms) few named all (λ is. ninth) (λ at. atom_ok parameters binders name terms at h predicate) refl text depth from left rest nodes ends stands

two_text : (depth : ℕ) (name : List ℕ) (a b : Term) → name ++ arguments_text depth (a ∷ b ∷ []) ≡ name ++ (codes "(" ++ (term_text depth a ++ (codes "," ++ (term_text depth b ++ codes ")"))))
two_text depth name a b = ap (λ bs. name ++ (40 ∷ (term_text depth a ++ bs))) (append_assoc (codes "," ++ term_text depth b) [] (codes ")"))

three_text : (depth : ℕ) (name : List ℕ) (a b c : Term) → name ++ arguments_text depth (a ∷ b ∷ c ∷ []) ≡ name ++ (codes "(" ++ (term_text depth a ++ (codes "," ++ (term_text depth b ++ (codes "," ++ (term_text depth c ++ codes ")"))))))
three_text depth name a b c =
    ap (λ bs. name ++ (40 ∷ (term_text depth a ++ bs))) (append_assoc (codes "," ++ term_text depth b) ((codes "," ++ term_text depth c) ++ []) (codes ")")
    ∙ append_assoc (codes ",") (term_text depth b) (((codes "," ++ term_text depth c) ++ []) ++ codes ")") ∙ ap (λ bs. 44 ∷ (term_text depth b ++ bs)) (append_assoc (codes "," ++ term_text depth c) [] (codes ")")))

pub state_read : (st : Bool) (parameters binders : List Sort) (s : StatePred) → length binders ≤ 512 → AllByRecursion (IsPrintableTerm parameters binders st) (terms_of_state s) → IsSortedState parameters binders s → Reader st binders (state s)
state_read st parameters binders (Owner a b) few all h text depth from left rest deep nodes ends stands =
    applied_read st parameters binders (codes "owner") (a ∷ b ∷ []) (state (Owner a b)) few refl all (λ is. absurd (false≢true is)) (λ at. owner_ok parameters binders a b at h.0 h.1) refl text depth from left rest nodes ends
    (stands_at refl (ap (λ bs. bs ++ rest) (sym (two_text (length binders) (codes "owner") a b))) stands)
state_read st parameters binders (HasXattr a b c) few all h text depth from left rest deep nodes ends stands =
    applied_read st parameters binders (codes "has_xattr") (a ∷ b ∷ c ∷ []) (state (HasXattr a b c)) few refl all (λ is. absurd (false≢true is)) (λ at. attribute_ok parameters binders a b c at h.0 h.1.0 h.1.1) refl text depth from left rest nodes ends
    (stands_at refl (ap (λ bs. bs ++ rest) (sym (three_text (length binders) (codes "has_xattr") a b c))) stands)
state_read st parameters binders (InDir a b) few all h text depth from left rest deep nodes ends stands =
    applied_read st parameters binders (codes "in_dir") (a ∷ b ∷ []) (state (InDir a b)) few refl all (λ is. absurd (false≢true is)) (λ at. directory_ok parameters binders a b at h.0 h.1) refl text depth from left rest nodes ends
    (stands_at refl (ap (λ bs. bs ++ rest) (sym (two_text (length binders) (codes "in_dir") a b))) stands)
