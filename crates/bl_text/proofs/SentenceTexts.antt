-- A text whose tokens are a sentence of the grammar is read to its end, or stops for sorts or for want of room.
use Rattle.std.proofs.Common.{◌≡◌, ℕ, zero, suc, ◌+◌, Bool, true, false, List, [], ◌∷◌, ◌++◌, length, append_assoc, refl, sym, ap, ◌∙◌, subst, Ok, ◌⊎◌, inl, inr}
use Rattle.std.specs.Prelude.{nat_lt, ◌==◌}
use Rattle.std.proofs.lemmas.Bool.{false≢true, or_from, and_right}
use Rattle.bl_syntax.specs.declared.terms.Term.{Term}
use Rattle.bl_syntax.specs.declared.terms.Term.TheVariants.{Time}
use Rattle.bl_syntax.specs.Formula.{FormulaView}
use Rattle.bl_syntax.specs.Formula as forms
use Rattle.bl_syntax.specs.Names.{is_predicate_name}
use Rattle.bl_syntax.specs.Statement.{StatementView}
use Rattle.bl_syntax.specs.Statement as statements
use Rattle.bl_tokens.specs.declared.faults.TextFault.{TextFault}
use Rattle.bl_tokens.specs.declared.faults.TextFault.TheVariants.{Unexpected, UnknownName, BadDate, Sort, TooLarge, NoMemory}
use Rattle.bl_tokens.specs.declared.tokens.Sign.{Sign as Sign'}
use Rattle.bl_tokens.specs.declared.tokens.Sign.TheVariants as signs
use Rattle.bl_tokens.specs.declared.tokens.Keyword.{Keyword as Word}
use Rattle.bl_tokens.specs.declared.tokens.Keyword.TheVariants as keywords
use Rattle.bl_tokens.specs.declared.tokens.Token.{Token}
use Rattle.bl_tokens.specs.declared.tokens.Token.TheVariants as tokens
use Rattle.bl_tokens.specs.declared.tokens.Cursor.{Cursor}
use Rattle.bl_tokens.specs.Tokens.{token_from, cursor_after, cursor_after_node, is_sign, is_word, sign_code}
use Rattle.bl_text.specs.Scope.{Variable}
use Rattle.bl_text.specs.Pieces.{count, expect_sign, argument, next_argument, interval, binder, speaker, apply_predicate, simple_formula}
use Rattle.bl_text.specs.Grammar.{Level, formula, disjunction, conjunction, unary, postfix, primary, is_quantifier, is_saying, is_call, AreArguments, one, further, call, Is}
use Rattle.bl_text.specs.Grammar as g
use Rattle.bl_text.specs.FirstFaults.{ArgumentsHaveFirstFault, in_first_argument, in_argument, at_name, in_arguments, by_sorts, HasFirstFault}
use Rattle.bl_text.specs.FirstFaults as s
use Rattle.bl_text.specs.Texts.{beginning, is_end, IsFormulaText, whole, FormulaFault, in_formula, opening, span, whole_saying, IsStatementText, StatementFault}
use Rattle.bl_text.specs.Texts as texts
use Rattle.bl_text.specs.FirstTokens.{behind_tokens, token_number}
use Rattle.bl_text.specs.Sentences.{IsTerm, principal, constant, variable, IsSpeaker, named, bound, AreTerms, one_term, further_term, FormulaSentence, quantified, implication, one_disjunction, or_further, one_conjunction, and_further, one_unary, saying, one_postfix, on_interval, one_primary, group, called, alone, compared, truth, falsity, IsSentence, IsStatementSentence, statement, first_tokens, IsSentenceText}
use Rattle.bl_text.proofs.FirstTokensLemmas.{bare_token}
use Rattle.bl_text.proofs.OneFaultLemmas.{other_sign}
use Rattle.bl_text.proofs.PieceTotalLemmas.{Any, resolved}
use Rattle.bl_text.proofs.TotalLemmas.{by_test, quantified_reads, stated}
use Rattle.bl_text.proofs.SentencePieces.{StandAt, stand_behind, stand_node, sign_stands, IsLimit, count_limited, expected_found, argument_limited, next_argument_limited, applied_limited, interval_limited, BinderRead, binder_limited, speaker_limited, true_limited, false_limited, alone_limited, compared_limited, opening_found, span_found}

-- ---- what a token is not

sign_no_word : (sign : Sign') (word : Word) (t : Token) → is_sign sign t ≡ true → is_word word t ≡ false
unfolding is_sign is_word
sign_no_word sign word (tokens.Sign found) h = refl
sign_no_word sign word _ h = absurd (false≢true h)

sign_plain : (sign : Sign') (t : Token) → is_sign sign t ≡ true → is_quantifier t ≡ false
sign_plain sign t h = or_from _ _ (sign_no_word sign keywords.Forall t h) (sign_no_word sign keywords.Exists t h)

name_plain : (name : List ℕ) → is_quantifier (tokens.Name name) ≡ false
unfolding is_word
name_plain name = refl

true_plain : is_quantifier (tokens.Keyword keywords.True) ≡ false
unfolding is_word
true_plain = refl

false_plain : is_quantifier (tokens.Keyword keywords.False) ≡ false
unfolding is_word
false_plain = refl

term_plain : {scope : List Variable} {t : Token} → IsTerm scope t → is_quantifier t ≡ false
unfolding is_word
term_plain (principal name) = refl
term_plain (constant c) = refl
term_plain (variable name some) = refl

speaker_plain : {scope : List Variable} {t : Token} → IsSpeaker scope t → is_quantifier t ≡ false
unfolding is_word
speaker_plain (named name) = refl
speaker_plain (bound name some) = refl

name_closed : (name : List ℕ) → is_sign signs.Open (tokens.Name name) ≡ false
unfolding is_sign
name_closed name = refl

keyword_closed : (word : Word) → is_sign signs.Open (tokens.Keyword word) ≡ false
unfolding is_sign
keyword_closed word = refl

term_closed : {scope : List Variable} {t : Token} → IsTerm scope t → is_sign signs.Open t ≡ false
unfolding is_sign
term_closed (principal name) = refl
term_closed (constant c) = refl
term_closed (variable name some) = refl

closed_at : {t : Token} (here : Cursor) → here.token ≡ t → is_sign signs.Open t ≡ false → is_sign signs.Open here.token ≡ false
closed_at here is h = ap (is_sign signs.Open) is ∙ h

-- ---- calls and `says`, by the first two tokens

name_calls : (text : List ℕ) (here : Cursor) (name : List ℕ) → here.token ≡ tokens.Name name → is_sign signs.Open (cursor_after_node text here).token ≡ true → is_call text here ≡ true
unfolding is_call cursor_after_node
name_calls text here name is h = rw is h

calls_not : (text : List ℕ) (here : Cursor) → is_sign signs.Open (cursor_after_node text here).token ≡ false → is_call text here ≡ false
unfolding is_call
calls_not text here h = and_right _ _ h

speaker_says : {scope : List Variable} {who : Token} (text : List ℕ) (here : Cursor) → IsSpeaker scope who → here.token ≡ who → is_word keywords.Says (cursor_after_node text here).token ≡ true → is_saying text here ≡ true
unfolding is_saying cursor_after_node
speaker_says text here (named name) is h = rw is h
speaker_says text here (bound name some) is h = rw is h

says_not : (text : List ℕ) (here : Cursor) → is_word keywords.Says (cursor_after_node text here).token ≡ false → is_saying text here ≡ false
unfolding is_saying
says_not text here h = and_right _ _ h

sign_says_not : (text : List ℕ) (here : Cursor) (sign : Sign') (t : Token) → here.token ≡ t → is_sign sign t ≡ true → is_saying text here ≡ false
unfolding is_saying is_sign
sign_says_not text here sign (tokens.Sign found) is h = rw is refl
sign_says_not text here sign _ is h = absurd (false≢true h)

-- ---- what may follow a part

abbrev IsNext : Token → Type 0
IsNext t = (is_sign signs.Open t ≡ false) × (is_word keywords.Says t ≡ false)

-- the first of these tokens is neither `(` nor `says`
abbrev Follow : List Token → Type 0
Follow [] = ⊥
Follow (t ∷ ts) = IsNext t

sign_next : (sign : Sign') (t : Token) → is_sign sign t ≡ true → (sign_code signs.Open == sign_code sign) ≡ false → IsNext t
sign_next sign t h differ = (other_sign sign signs.Open t h differ, sign_no_word sign keywords.Says t h)

from_next : (t : Token) → is_word keywords.From t ≡ true → IsNext t
unfolding is_sign is_word
from_next (tokens.Keyword keywords.From) h = (refl, refl)
from_next _ h = absurd (false≢true h)

end_next : (t : Token) → is_end t ≡ true → IsNext t
unfolding is_sign is_word
end_next tokens.End h = (refl, refl)
end_next _ h = absurd (false≢true h)

next_at : (text : List ℕ) (here : Cursor) (rest : List Token) → Follow rest → StandAt text here rest → IsNext here.token
next_at text here [] f h = absurd f
next_at text here (t ∷ ts) f h = (ap (is_sign signs.Open) h.0 ∙ f.0, ap (is_word keywords.Says) h.0 ∙ f.1)

-- ---- the first token of a part

abbrev IsPlain : List Token → Type 0
IsPlain [] = ⊥
IsPlain (t ∷ ts) = is_quantifier t ≡ false

plain_more : (ts us : List Token) → IsPlain ts → IsPlain (ts ++ us)
plain_more [] us h = absurd h
plain_more (t ∷ ts) us h = h

abbrev IsNarrow : Level → Type 0
IsNarrow formula = ⊥
IsNarrow disjunction = Unit {0}
IsNarrow conjunction = Unit {0}
IsNarrow unary = Unit {0}
IsNarrow postfix = Unit {0}
IsNarrow primary = Unit {0}

-- no quantifier stands first below the widest level
plain : {level : Level} {scope : List Variable} {ts : List Token} → FormulaSentence level scope ts → IsNarrow level → IsPlain ts
plain (quantified scope word colon dot name s ts q c d a) n = absurd n
plain (implication scope ts us sign a is b) n = absurd n
plain (one_disjunction scope ts a) n = absurd n
plain (or_further scope ts us sign a is b) n = plain_more ts (sign ∷ us) (plain a tt)
plain (one_conjunction scope ts a) n = plain a tt
plain (and_further scope ts us sign a is b) n = plain_more ts (sign ∷ us) (plain a tt)
plain (one_unary scope ts a) n = plain a tt
plain (saying scope who word ts speaks says a) n = speaker_plain speaks
plain (one_postfix scope ts a) n = plain a tt
plain (on_interval scope ts sign open_ from comma to close a is o f c t l) n = plain_more ts (sign ∷ open_ ∷ from ∷ comma ∷ to ∷ close ∷ []) (plain a tt)
plain (one_primary scope ts a) n = plain a tt
plain (group scope open_ close ts opens a closes) n = sign_plain signs.Open open_ opens
plain (called scope name open_ close ts opens args closes) n = name_plain name
plain (alone scope name) n = name_plain name
plain (compared scope low sign high lows is highs) n = term_plain lows
plain (truth scope) n = true_plain
plain (falsity scope) n = false_plain

plain_at : (text : List ℕ) (here : Cursor) (ts rest : List Token) → IsPlain ts → StandAt text here (ts ++ rest) → is_quantifier here.token ≡ false
plain_at text here [] rest p h = absurd p
plain_at text here (t ∷ ts) rest p h = ap is_quantifier h.0 ∙ p

regroup : (text : List ℕ) (here : Cursor) (ts us rest : List Token) → StandAt text here ((ts ++ us) ++ rest) → StandAt text here (ts ++ (us ++ rest))
regroup text here ts us rest h = subst (λ vs. StandAt text here vs) (append_assoc ts us rest) h

abbrev IsTight : Level → Type 0
IsTight postfix = Unit {0}
IsTight primary = Unit {0}
IsTight _ = ⊥

-- nobody says what stands at a narrow level
not_said : {level : Level} {scope : List Variable} {ts : List Token} → FormulaSentence level scope ts → IsTight level → (text : List ℕ) (here : Cursor) (rest : List Token) → StandAt text here (ts ++ rest) → Follow rest → is_saying text here ≡ false
not_said (quantified scope word colon dot name s ts q c d a) n text here rest h f = absurd n
not_said (implication scope ts us sign a is b) n text here rest h f = absurd n
not_said (one_disjunction scope ts a) n text here rest h f = absurd n
not_said (or_further scope ts us sign a is b) n text here rest h f = absurd n
not_said (one_conjunction scope ts a) n text here rest h f = absurd n
not_said (and_further scope ts us sign a is b) n text here rest h f = absurd n
not_said (one_unary scope ts a) n text here rest h f = absurd n
not_said (saying scope who word ts speaks says a) n text here rest h f = absurd n
not_said (one_postfix scope ts a) n text here rest h f = absurd n
not_said (on_interval scope ts sign open_ from comma to close a is o m c t l) n text here rest h f =
    not_said a tt text here (sign ∷ open_ ∷ from ∷ comma ∷ to ∷ close ∷ rest) (regroup text here ts (sign ∷ open_ ∷ from ∷ comma ∷ to ∷ close ∷ []) rest h) (sign_next signs.At sign is refl)
not_said (one_primary scope ts a) n text here rest h f = not_said a tt text here rest h f
not_said (group scope open_ close ts opens a closes) n text here rest h f = sign_says_not text here signs.Open open_ h.0 opens
not_said (called scope name open_ close ts opens args closes) n text here rest h f =
    says_not text here (ap (is_word keywords.Says) (stand_node text here (tokens.Name name) (open_ ∷ ((ts ++ close ∷ []) ++ rest)) h).0 ∙ sign_no_word signs.Open keywords.Says open_ opens)
not_said (alone scope name) n text here rest h f = says_not text here (next_at text (cursor_after_node text here) rest f (stand_node text here (tokens.Name name) rest h)).1
not_said (compared scope low sign high lows is highs) n text here rest h f =
    says_not text here (ap (is_word keywords.Says) (stand_node text here low (sign ∷ high ∷ rest) h).0 ∙ sign_no_word signs.UpTo keywords.Says sign is)
not_said (truth scope) n text here rest h f = says_not text here (next_at text (cursor_after_node text here) rest f (stand_node text here (tokens.Keyword keywords.True) rest h)).1
not_said (falsity scope) n text here rest h f = says_not text here (next_at text (cursor_after_node text here) rest f (stand_node text here (tokens.Keyword keywords.False) rest h)).1

-- ---- what is read

-- what stands at that place is read up to where the other tokens stand, or stops for sorts or for want of room
pub data Completed (text : List ℕ) (st : Bool) (level : Level) (scope : List Variable) (depth : ℕ) (here : Cursor) (rest : List Token) : Type 0 where
  completed : (place : Cursor) (f : FormulaView) → Is text st level scope depth here place f → StandAt text place rest → Completed text st level scope depth here rest
  limited : (e : TextFault) → HasFirstFault text st level scope depth here e → IsLimit e → Completed text st level scope depth here rest

completed_by : {text : List ℕ} {st : Bool} {level : Level} {scope : List Variable} {depth : ℕ} {here : Cursor} {rest : List Token} {V : Type 0} → Completed text st level scope depth here rest
    → ((place : Cursor) (f : FormulaView) → Is text st level scope depth here place f → StandAt text place rest → V) → ((e : TextFault) → HasFirstFault text st level scope depth here e → IsLimit e → V) → V
completed_by (completed place f d h) read stopped = read place f d h
completed_by (limited e h l) read stopped = stopped e h l

abbrev Never : TextFault → Type 0
Never e = ⊥

terms_completed : {V : Type 0} {scope : List Variable} {ts : List Token} → AreTerms scope ts → (text : List ℕ) (st is_atom : Bool) (here : Cursor) (rest : List Token) → StandAt text here (ts ++ rest)
    → ((mid : Cursor) (terms : List Term) → AreArguments text st scope is_atom here mid terms → StandAt text mid rest → V) → ((e : TextFault) → ArgumentsHaveFirstFault text st scope is_atom here e → IsLimit e → V) → V
terms_completed {scope = scope} (one_term t is) text st is_atom here rest h read stopped =
    resolved IsLimit Any (argument st scope here) (argument_limited st here is h.0)
    (λ x found _. read (cursor_after_node text here) (x ∷ []) (one x found) (stand_node text here t rest h)) (λ e bad l. stopped e (in_first_argument e bad) l)
terms_completed {scope = scope} (further_term ts comma t args commas is) text st is_atom here rest h read stopped =
    terms_completed args text st is_atom here (comma ∷ t ∷ rest) (regroup text here ts (comma ∷ t ∷ []) rest h)
    (λ mid terms a stands. resolved Never (λ place. StandAt text place (t ∷ rest)) (expect_sign text signs.Comma mid) (expected_found Never text signs.Comma mid comma (t ∷ rest) commas stands)
    (λ place close next. resolved IsLimit Any (next_argument st scope is_atom (length terms) place) (next_argument_limited st is_atom (length terms) place is next.0)
    (λ x found _. read (cursor_after_node text place) (terms ++ x ∷ []) (further mid place terms x a close found) (stand_node text place t rest next)) (λ e bad l. stopped e (in_argument mid place terms e a close bad) l))
    (λ e bad never. absurd never)) stopped

complete : {level : Level} {scope : List Variable} {ts : List Token} → FormulaSentence level scope ts → (text : List ℕ) (st : Bool) (depth : ℕ) (here : Cursor) (rest : List Token) → StandAt text here (ts ++ rest) → Follow rest
    → Completed text st level scope depth here rest
complete (quantified scope word colon dot name sort ts q colons dots a) text st depth here rest h f =
    let quantifies = ap is_quantifier h.0 ∙ q in
    resolved IsLimit (BinderRead text name sort (ts ++ rest)) (binder text here) (binder_limited text here name sort (ts ++ rest) colons dots h)
    (λ v is read.
    let found : binder text here ≡ Ok (name, sort, v.2) = is ∙ ap (λ n. Ok (n, v.1, v.2)) read.name_is ∙ ap (λ s'. Ok (name, s', v.2)) read.sort_is in
    completed_by (complete a text st depth v.2 rest read.stands f)
    (λ place b d stands. let all = quantified_reads {name = name} {s = sort} quantifies found d in completed place all.0 all.1 stands)
    (λ e stop l. limited e (s.in_body scope depth here v.2 name sort e quantifies found stop) l))
    (λ e bad l. limited e (s.in_binder scope depth here e quantifies bad) l)
complete (implication scope ts us sign a is b) text st depth here rest h f =
    let parts = regroup text here ts (sign ∷ us) rest h in
    let none = plain_at text here ts (sign ∷ (us ++ rest)) (plain a tt) parts in
    completed_by (complete a text st depth here (sign ∷ (us ++ rest)) parts (sign_next signs.Implies sign is refl))
    (λ mid x d stands.
    let there = sign_stands signs.Implies mid is stands.0 in
    resolved IsLimit Any (count mid) (count_limited mid)
    (λ u room _. completed_by (complete b text st depth (cursor_after_node text mid) rest (stand_node text mid sign (us ++ rest) stands) f)
    (λ place y d' last. completed place (forms.implies x y) (g.implication scope depth here mid place x y none d there room d') last)
    (λ e stop l. limited e (s.in_conclusion scope depth here mid x e none d there room stop) l))
    (λ e full l. limited e (s.at_implies scope depth here mid x e none d there full) l))
    (λ e stop l. limited e (s.in_premise scope depth here e none stop) l)
complete (one_disjunction scope ts a) text st depth here rest h f =
    let none = plain_at text here ts rest (plain a tt) h in
    completed_by (complete a text st depth here rest h f) (λ place x d last. completed place x (g.one_disjunction scope depth here place x none d) last) (λ e stop l. limited e (s.in_premise scope depth here e none stop) l)
complete (or_further scope ts us sign a is b) text st depth here rest h f =
    completed_by (complete a text st depth here (sign ∷ (us ++ rest)) (regroup text here ts (sign ∷ us) rest h) (sign_next signs.Or sign is refl))
    (λ mid x d stands.
    let there = sign_stands signs.Or mid is stands.0 in
    resolved IsLimit Any (count mid) (count_limited mid)
    (λ u room _. completed_by (complete b text st depth (cursor_after_node text mid) rest (stand_node text mid sign (us ++ rest) stands) f)
    (λ place y d' last. completed place (forms.either x y) (g.or_further scope depth here mid place x y d there room d') last)
    (λ e stop l. limited e (s.in_disjunct scope depth here mid x e d there room stop) l))
    (λ e full l. limited e (s.at_or scope depth here mid x e d there full) l))
    (λ e stop l. limited e stop l)
complete (one_conjunction scope ts a) text st depth here rest h f =
    completed_by (complete a text st depth here rest h f) (λ place x d last. completed place x (g.one_conjunction scope depth here place x d) last) (λ e stop l. limited e (s.in_first_disjunct scope depth here e stop) l)
complete (and_further scope ts us sign a is b) text st depth here rest h f =
    completed_by (complete a text st depth here (sign ∷ (us ++ rest)) (regroup text here ts (sign ∷ us) rest h) (sign_next signs.And sign is refl))
    (λ mid x d stands.
    let there = sign_stands signs.And mid is stands.0 in
    resolved IsLimit Any (count mid) (count_limited mid)
    (λ u room _. completed_by (complete b text st depth (cursor_after_node text mid) rest (stand_node text mid sign (us ++ rest) stands) f)
    (λ place y d' last. completed place (forms.both x y) (g.and_further scope depth here mid place x y d there room d') last)
    (λ e stop l. limited e (s.in_conjunct scope depth here mid x e d there room stop) l))
    (λ e full l. limited e (s.at_and scope depth here mid x e d there full) l))
    (λ e stop l. limited e stop l)
complete (one_unary scope ts a) text st depth here rest h f =
    completed_by (complete a text st depth here rest h f) (λ place x d last. completed place x (g.one_unary scope depth here place x d) last) (λ e stop l. limited e (s.in_first_conjunct scope depth here e stop) l)
complete (saying scope who word ts speaks says a) text st depth here rest h f =
    let said = speaker_says text here speaks h.0 (ap (is_word keywords.Says) (stand_node text here who (word ∷ (ts ++ rest)) h).0 ∙ says) in
    resolved IsLimit (λ v. StandAt text v.1 (ts ++ rest)) (speaker text scope here) (speaker_limited text here (ts ++ rest) speaks h)
    (λ v is stands. completed_by (complete a text st depth v.1 rest stands f)
    (λ place x d last. completed place (forms.says v.0 x) (g.saying scope depth here v.1 place v.0 x said is d) last)
    (λ e stop l. limited e (s.in_said scope depth here v.1 v.0 e said is stop) l))
    (λ e bad l. limited e (s.in_speaker scope depth here e said bad) l)
complete (one_postfix scope ts a) text st depth here rest h f =
    let none = not_said a tt text here rest h f in
    completed_by (complete a text st depth here rest h f) (λ place x d last. completed place x (g.one_postfix scope depth here place x none d) last) (λ e stop l. limited e (s.in_postfix scope depth here e none stop) l)
complete (on_interval scope ts sign open_ from comma to close a is opens low commas high closes) text st depth here rest h f =
    completed_by (complete a text st depth here (sign ∷ open_ ∷ from ∷ comma ∷ to ∷ close ∷ rest) (regroup text here ts (sign ∷ open_ ∷ from ∷ comma ∷ to ∷ close ∷ []) rest h) (sign_next signs.At sign is refl))
    (λ mid x d stands.
    let there = sign_stands signs.At mid is stands.0 in
    resolved IsLimit (λ v. StandAt text v.2 rest) (interval text st scope mid) (interval_limited text st mid rest opens low commas high closes stands)
    (λ v found last. completed v.2 (forms.on x v.0 v.1) (g.on_interval scope depth here mid v.2 x v.0 v.1 d there found) last)
    (λ e bad l. limited e (s.in_interval scope depth here mid x e d there bad) l))
    (λ e stop l. limited e stop l)
complete (one_primary scope ts a) text st depth here rest h f =
    completed_by (complete a text st depth here rest h f) (λ place x d last. completed place x (g.one_primary scope depth here place x d) last) (λ e stop l. limited e (s.in_primary scope depth here e stop) l)
complete (group scope open_ close ts opens a closes) text st depth here rest h f =
    let there = sign_stands signs.Open here opens h.0 in
    by_test (nat_lt depth 512)
    (λ room. completed_by (complete a text st (depth + 1) (cursor_after text here) (close ∷ rest) (regroup text (cursor_after text here) ts (close ∷ []) rest (stand_behind text here open_ ((ts ++ close ∷ []) ++ rest) h)) (sign_next signs.Close close closes refl))
    (λ mid x d stands. resolved Never (λ place. StandAt text place rest) (expect_sign text signs.Close mid) (expected_found Never text signs.Close mid close rest closes stands)
    (λ place closed last. completed place x (g.group scope depth here mid place x there room d closed) last)
    (λ e bad never. absurd never))
    (λ e stop l. limited e (s.in_group scope depth here e there room stop) l))
    (λ full. limited (TooLarge here.at) (s.too_deep scope depth here there full) tt)
complete (called scope name open_ close ts opens args closes) text st depth here rest h f =
    let next = stand_node text here (tokens.Name name) (open_ ∷ ((ts ++ close ∷ []) ++ rest)) h in
    let closed = closed_at here h.0 (name_closed name) in
    let calls = name_calls text here name h.0 (sign_stands signs.Open (cursor_after_node text here) opens next.0) in
    resolved IsLimit Any (count here) (count_limited here)
    (λ u room _. terms_completed args text st (is_predicate_name name) (cursor_after text (cursor_after_node text here)) (close ∷ rest)
    (regroup text (cursor_after text (cursor_after_node text here)) ts (close ∷ []) rest (stand_behind text (cursor_after_node text here) open_ ((ts ++ close ∷ []) ++ rest) next))
    (λ mid terms a stands. resolved Never (λ place. StandAt text place rest) (expect_sign text signs.Close mid) (expected_found Never text signs.Close mid close rest closes stands)
    (λ place ends last. resolved IsLimit Any (apply_predicate scope here.at name terms) (applied_limited scope here.at name terms)
    (λ x is _. completed place x (g.called scope depth here place x closed calls (call name mid place terms x h.0 room a ends is)) last)
    (λ e wrong l. limited e (s.in_call scope depth here e closed calls (by_sorts name mid place terms e h.0 room a ends wrong)) l))
    (λ e bad never. absurd never))
    (λ e stop l. limited e (s.in_call scope depth here e closed calls (in_arguments name e h.0 room stop)) l))
    (λ e full l. limited e (s.in_call scope depth here e closed calls (at_name e full)) l)
complete (alone scope name) text st depth here rest h f =
    let closed = closed_at here h.0 (name_closed name) in
    let no_call = calls_not text here (next_at text (cursor_after_node text here) rest f (stand_node text here (tokens.Name name) rest h)).0 in
    resolved IsLimit (λ v. StandAt text v.1 rest) (simple_formula text st scope here) (alone_limited text st scope name here rest h)
    (λ v is last. completed v.1 v.0 (g.one_simple scope depth here v.1 v.0 closed no_call is) last) (λ e bad l. limited e (s.in_simple scope depth here e closed no_call bad) l)
complete (compared scope low sign high lows is highs) text st depth here rest h f =
    let closed = closed_at here h.0 (term_closed lows) in
    let no_call = calls_not text here (ap (is_sign signs.Open) (stand_node text here low (sign ∷ high ∷ rest) h).0 ∙ other_sign signs.UpTo signs.Open sign is refl) in
    resolved IsLimit (λ v. StandAt text v.1 rest) (simple_formula text st scope here) (compared_limited text st here rest lows is highs h)
    (λ v found last. completed v.1 v.0 (g.one_simple scope depth here v.1 v.0 closed no_call found) last) (λ e bad l. limited e (s.in_simple scope depth here e closed no_call bad) l)
complete (truth scope) text st depth here rest h f =
    let closed = closed_at here h.0 (keyword_closed keywords.True) in
    let no_call = calls_not text here (next_at text (cursor_after_node text here) rest f (stand_node text here (tokens.Keyword keywords.True) rest h)).0 in
    resolved IsLimit (λ v. StandAt text v.1 rest) (simple_formula text st scope here) (true_limited text st scope here rest h)
    (λ v is last. completed v.1 v.0 (g.one_simple scope depth here v.1 v.0 closed no_call is) last) (λ e bad l. limited e (s.in_simple scope depth here e closed no_call bad) l)
complete (falsity scope) text st depth here rest h f =
    let closed = closed_at here h.0 (keyword_closed keywords.False) in
    let no_call = calls_not text here (next_at text (cursor_after_node text here) rest f (stand_node text here (tokens.Keyword keywords.False) rest h)).0 in
    resolved IsLimit (λ v. StandAt text v.1 rest) (simple_formula text st scope here) (false_limited text st scope here rest h)
    (λ v is last. completed v.1 v.0 (g.one_simple scope depth here v.1 v.0 closed no_call is) last) (λ e bad l. limited e (s.in_simple scope depth here e closed no_call bad) l)

-- ---- whole texts

number_stands : (text : List ℕ) (n from left : ℕ) → StandAt text (token_from text from left) (first_tokens text n from ++ (token_from text (behind_tokens text n from) 0).token ∷ [])
number_stands text zero from left = (ap (λ (h : Cursor). h.token) (bare_token text from left), tt)
number_stands text (suc n) from left = (
  ap (λ (h : Cursor). h.token) (bare_token text from left),
  subst (λ k. StandAt text (token_from text k 0) (first_tokens text n (token_from text from 0).end ++ (token_from text (behind_tokens text n (token_from text from 0).end) 0).token ∷ []))
      (sym (ap (λ (h : Cursor). h.end) (bare_token text from left))) (number_stands text n (token_from text from 0).end 0),
)

-- such a fault is one of two
told : (P : TextFault → Type 0) (e : TextFault) → IsLimit e → P e → (at : ℕ) × (P (Sort at) ⊎ P (TooLarge at))
told P (Sort at) l h = (at, inl h)
told P (TooLarge at) l h = (at, inr h)
told P (Unexpected at) l h = absurd l
told P (UnknownName at) l h = absurd l
told P (BadDate at) l h = absurd l
told P NoMemory l h = absurd l

pub sentence_is_formula : {text : List ℕ} → IsSentenceText IsSentence text → ((f : FormulaView) × IsFormulaText text f) ⊎ ((at : ℕ) × (FormulaFault text (Sort at) ⊎ FormulaFault text (TooLarge at)))
sentence_is_formula {text} h =
    completed_by (complete h.sentence text false 0 (beginning text) ((token_number text h.number).token ∷ []) (number_stands text h.number 0 512) (end_next (token_number text h.number).token h.end))
    (λ place f d last. inl (f, whole place d (ap is_end last.0 ∙ h.end)))
    (λ e stop l. inr (told (FormulaFault text) e l (in_formula e stop)))

statement_completed : {us : List Token} → IsStatementSentence us → (text : List ℕ) (last : Token) → is_end last ≡ true → StandAt text (beginning text) (us ++ last ∷ [])
    → ((t : StatementView) × IsStatementText text t) ⊎ ((at : ℕ) × (StatementFault text (Sort at) ⊎ StatementFault text (TooLarge at)))
statement_completed (statement who says from_word to_word ts from to is_says body is_from is_to) text last end h =
    let words : List Token = from_word ∷ tokens.Constant (Time from) ∷ to_word ∷ tokens.Constant (Time to) ∷ [] in
    resolved Never (λ v. StandAt text v.1 ((ts ++ words) ++ last ∷ [])) (opening text (beginning text)) (opening_found Never text (beginning text) who ((ts ++ words) ++ last ∷ []) is_says h)
    (λ o opens stands. completed_by (complete body text true 0 o.1 (words ++ last ∷ []) (regroup text o.1 ts words (last ∷ []) stands) (from_next from_word is_from))
    (λ place f d rest. resolved Never Any (span text place) (span_found Never text place from to is_from is_to end rest)
    (λ times is _. inl (statements.statement_view o.0 f times.0 times.1, stated (whole_saying o.0 o.1 place f times.0 times.1 opens d is)))
    (λ e bad never. absurd never))
    (λ e stop l. inr (told (StatementFault text) e l (texts.in_body o.0 o.1 e opens stop))))
    (λ e bad never. absurd never)

pub sentence_is_statement : {text : List ℕ} → IsSentenceText IsStatementSentence text → ((t : StatementView) × IsStatementText text t) ⊎ ((at : ℕ) × (StatementFault text (Sort at) ⊎ StatementFault text (TooLarge at)))
sentence_is_statement {text} h = statement_completed h.sentence text (token_number text h.number).token h.end (number_stands text h.number 0 512)
