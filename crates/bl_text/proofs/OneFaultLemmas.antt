-- The reader finds each text of a formula, and each fault. So a text is one formula or has one fault, and never both.
use Rattle.std.proofs.Common.{◌≡◌, ℕ, suc, ◌+◌, Bool, true, false, List, [], ◌∷◌, ◌++◌, length, refl, sym, ap, ◌∙◌, subst, arith, Result, Ok, Err, ◌⊎◌, inl, inr}
use Rattle.std.specs.Prelude.{nat_lt, if◌then◌else◌, ◌==◌}
use Rattle.std.proofs.lemmas.Bool.{false≢true, or_parts, or_from}
use Rattle.std.proofs.lemmas.Bool.Decides.{nat_tests}
use Rattle.bl_syntax.specs.declared.terms.Sort.{Sort}
use Rattle.bl_syntax.specs.declared.terms.Term.{Term}
use Rattle.bl_syntax.specs.Formula.{FormulaView, both, either, implies, forall_, exists_, says, on}
use Rattle.bl_syntax.specs.Names.{is_predicate_name}
use Rattle.bl_tokens.specs.declared.faults.TextFault.{TextFault}
use Rattle.bl_tokens.specs.declared.faults.TextFault.TheVariants.{TooLarge, NoMemory}
use Rattle.bl_tokens.specs.declared.tokens.Sign.{Sign}
use Rattle.bl_tokens.specs.declared.tokens.Sign.TheVariants as signs
use Rattle.bl_tokens.specs.declared.tokens.Keyword.{Keyword as Word}
use Rattle.bl_tokens.specs.declared.tokens.Keyword.TheVariants as keywords
use Rattle.bl_tokens.specs.declared.tokens.Token.{Token}
use Rattle.bl_tokens.specs.declared.tokens.Token.TheVariants.{Name, LongWord, Constant, BadDate, SortName, Keyword, End, Bad}
use Rattle.bl_tokens.specs.declared.tokens.Token.TheVariants as tokens
use Rattle.bl_tokens.specs.declared.tokens.Cursor.{Cursor}
use Rattle.bl_tokens.specs.Tokens.{cursor_after, cursor_after_node, is_sign, is_word, sign_code, word_code}
use Rattle.bl_text.specs.Scope.{Variable}
use Rattle.bl_text.specs.Pieces.{◌>>=◌, count, expect_sign, argument, next_argument, interval, binder, speaker, apply_predicate, simple_formula}
use Rattle.bl_text.specs.Grammar.{Level, formula, disjunction, conjunction, unary, postfix, primary, is_quantifier, is_saying, is_call, is_continued_by, AreArguments, one, further, IsCall, call, Is, for_every, for_some, implication, one_disjunction, or_further, one_conjunction, and_further, one_unary, saying, one_postfix, on_interval, one_primary, group, called, one_simple}
use Rattle.bl_text.specs.FirstFaults.{ArgumentsHaveFirstFault, no_memory_for_arguments, in_first_argument, in_argument, CallHasFirstFault, at_name, in_arguments, before_close, by_sorts, HasFirstFault, no_memory, in_binder, in_body, in_premise, at_implies, in_conclusion, in_first_disjunct, at_or, in_disjunct, in_first_conjunct, at_and, in_conjunct, in_speaker, in_said, in_postfix, in_primary, in_interval, too_deep, in_group, not_closed, in_call, in_simple}
use Rattle.bl_text.proofs.ReadLemmas.{every_quantifies, some_quantifies, expected-Ok, is_call-name}
use Rattle.bl_text.proofs.Reader.{Read, ReadTerms, further_terms, all_terms, named, called_by, Task, at, more, quantify, run, Settles, settles_at_once, settles_same, settles_step, settles_bind, settles_fault, settles_true, settles_false, settles_once}

-- ---- one token is not two signs

sign_is : (sign : Sign) (t : Token) → is_sign sign t ≡ true → (found : Sign) × ((t ≡ tokens.Sign found) × ((sign_code sign == sign_code found) ≡ true))
unfolding is_sign
sign_is sign (tokens.Sign found) h = (found, (refl, h))
sign_is sign (Name name) h = absurd (false≢true h)
sign_is sign LongWord h = absurd (false≢true h)
sign_is sign (tokens.Variable name) h = absurd (false≢true h)
sign_is sign (Constant t) h = absurd (false≢true h)
sign_is sign BadDate h = absurd (false≢true h)
sign_is sign (SortName s) h = absurd (false≢true h)
sign_is sign (Keyword word) h = absurd (false≢true h)
sign_is sign End h = absurd (false≢true h)
sign_is sign Bad h = absurd (false≢true h)

sign_of_sign : (sign found : Sign) → is_sign sign (tokens.Sign found) ≡ (sign_code sign == sign_code found)
unfolding is_sign
sign_of_sign sign found = refl

equal_numbers : (m n : ℕ) → (m == n) ≡ true → m ≡ n
equal_numbers m n h = grind (arith, nat_tests)

pub other_sign : (sign other : Sign) (t : Token) → is_sign sign t ≡ true → (sign_code other == sign_code sign) ≡ false → is_sign other t ≡ false
other_sign sign other t h differ =
    let found = sign_is sign t h in
    let same : sign_code sign ≡ sign_code found.0 = equal_numbers (sign_code sign) (sign_code found.0) found.1.1 in
    ap (is_sign other) found.1.0 ∙ sign_of_sign other found.0 ∙ ap (λ n. sign_code other == n) (sym same) ∙ differ

pub word_is : (word : Word) (t : Token) → is_word word t ≡ true → (found : Word) × ((t ≡ Keyword found) × ((word_code word == word_code found) ≡ true))
unfolding is_word
word_is word (Keyword found) h = (found, (refl, h))
word_is word (tokens.Sign sign) h = absurd (false≢true h)
word_is word (Name name) h = absurd (false≢true h)
word_is word LongWord h = absurd (false≢true h)
word_is word (tokens.Variable name) h = absurd (false≢true h)
word_is word (Constant t) h = absurd (false≢true h)
word_is word BadDate h = absurd (false≢true h)
word_is word (SortName s) h = absurd (false≢true h)
word_is word End h = absurd (false≢true h)
word_is word Bad h = absurd (false≢true h)

word_of_word : (word found : Word) → is_word word (Keyword found) ≡ (word_code word == word_code found)
unfolding is_word
word_of_word word found = refl

other_word : (word other : Word) (t : Token) → is_word word t ≡ true → (word_code other == word_code word) ≡ false → is_word other t ≡ false
other_word word other t h differ =
    let found = word_is word t h in
    let same : word_code word ≡ word_code found.0 = equal_numbers (word_code word) (word_code found.0) found.1.1 in
    ap (is_word other) found.1.0 ∙ word_of_word other found.0 ∙ ap (λ n. word_code other == n) (sym same) ∙ differ

every_is : (t : Token) (s : Sort) (a : FormulaView) → is_word keywords.Forall t ≡ true → quantify t s a ≡ forall_ s a
every_is t s a h = ap (λ b. if b then forall_ s a else exists_ s a) h

some_is : (t : Token) (s : Sort) (a : FormulaView) → is_word keywords.Exists t ≡ true → quantify t s a ≡ exists_ s a
some_is t s a h = ap (λ b. if b then forall_ s a else exists_ s a) (other_word keywords.Exists keywords.Forall t h refl)

-- ---- which signs end a level

conjunction_goes_on-or : (t : Token) → is_sign signs.Or t ≡ true → is_continued_by conjunction t ≡ false
conjunction_goes_on-or t h = or_from _ _ (other_sign signs.Or signs.And t h refl) (other_sign signs.Or signs.At t h refl)

conjunction_goes_on-implies : (t : Token) → is_sign signs.Implies t ≡ true → is_continued_by conjunction t ≡ false
conjunction_goes_on-implies t h = or_from _ _ (other_sign signs.Implies signs.And t h refl) (other_sign signs.Implies signs.At t h refl)

formula_goes_on-close : (t : Token) → is_sign signs.Close t ≡ true → is_continued_by formula t ≡ false
formula_goes_on-close t h =
    or_from _ _ (or_from _ _ (or_from _ _ (other_sign signs.Close signs.Implies t h refl) (other_sign signs.Close signs.Or t h refl)) (other_sign signs.Close signs.And t h refl)) (other_sign signs.Close signs.At t h refl)

-- the signs that a level's end excludes
no_at : (t : Token) → is_continued_by conjunction t ≡ false → is_sign signs.At t ≡ false
no_at t h = (or_parts _ _ h).1

no_and : (t : Token) → is_continued_by conjunction t ≡ false → is_sign signs.And t ≡ false
no_and t h = (or_parts _ _ h).0

formula_no_implies : (t : Token) → is_continued_by formula t ≡ false → is_sign signs.Implies t ≡ false
formula_no_implies t h = (or_parts _ _ (or_parts _ _ (or_parts _ _ h).0).0).0

formula_no_or : (t : Token) → is_continued_by formula t ≡ false → is_sign signs.Or t ≡ false
formula_no_or t h = (or_parts _ _ (or_parts _ _ (or_parts _ _ h).0).0).1

formula_conjunction : (t : Token) → is_continued_by formula t ≡ false → is_continued_by conjunction t ≡ false
formula_conjunction t h =
    let at_end : is_sign signs.At t ≡ false = (or_parts _ _ h).1 in
    let and_end : is_sign signs.And t ≡ false = (or_parts _ _ (or_parts _ _ h).0).1 in
    or_from (is_sign signs.And t) (is_sign signs.At t) and_end at_end

expected_sign : (text : List ℕ) (sign : Sign) (here there : Cursor) → expect_sign text sign here ≡ Ok there → is_sign sign here.token ≡ true
unfolding expect_sign
expected_sign text sign here there h = chosen (is_sign sign here.token) (Ok (cursor_after text here)) (TextFault.Unexpected here.at) there h
  where
    chosen : (b : Bool) (x : Result Cursor TextFault) (e : TextFault) (y : Cursor) → (if b then x else Err e) ≡ Ok y → b ≡ true
    chosen true x e y h = refl
    chosen false x e y h = absurd (let no : Err e ≡ Ok y = h in cc)

expected_place : (text : List ℕ) (sign : Sign) (here there : Cursor) → expect_sign text sign here ≡ Ok there → there ≡ cursor_after text here
expected_place text sign here there h = let both : Result.Ok there ≡ Ok (cursor_after text here) = sym h ∙ expected-Ok text sign here (expected_sign text sign here there h) in cc

-- ---- steps of the reader

one_step : (text : List ℕ) (st : Bool) (task : Task) (x : Read) → Settles (λ n. run text st (suc n) task) x → Settles (λ n. run text st n task) x
one_step text st task x h = settles_step (λ n. run text st n task) x h

disjunction_from : (text : List ℕ) (st : Bool) (scope : List Variable) (depth : ℕ) (here mid : Cursor) (a : FormulaView) (x : Read) → Settles (λ n. run text st n (at conjunction scope depth here)) (Ok (a, mid)) → Settles (λ n. run text st n (more disjunction scope depth mid a)) x → Settles (λ n. run text st n (at disjunction scope depth here)) x
disjunction_from text st scope depth here mid a x h k =
    one_step text st (at disjunction scope depth here) x (settles_bind (λ n. run text st n (at conjunction scope depth here)) (λ n r. run text st n (more disjunction scope depth r.1 r.0)) (a, mid) x h k)

disjunction_fault : (text : List ℕ) (st : Bool) (scope : List Variable) (depth : ℕ) (here : Cursor) (e : TextFault) → Settles (λ n. run text st n (at conjunction scope depth here)) (Err e) → Settles (λ n. run text st n (at disjunction scope depth here)) (Err e)
disjunction_fault text st scope depth here e h =
    one_step text st (at disjunction scope depth here) (Err e) (settles_fault (λ n. run text st n (at conjunction scope depth here)) (λ n r. run text st n (more disjunction scope depth r.1 r.0)) e h)

conjunction_from : (text : List ℕ) (st : Bool) (scope : List Variable) (depth : ℕ) (here mid : Cursor) (a : FormulaView) (x : Read) → Settles (λ n. run text st n (at unary scope depth here)) (Ok (a, mid)) → Settles (λ n. run text st n (more conjunction scope depth mid a)) x → Settles (λ n. run text st n (at conjunction scope depth here)) x
conjunction_from text st scope depth here mid a x h k =
    one_step text st (at conjunction scope depth here) x (settles_bind (λ n. run text st n (at unary scope depth here)) (λ n r. run text st n (more conjunction scope depth r.1 r.0)) (a, mid) x h k)

conjunction_fault : (text : List ℕ) (st : Bool) (scope : List Variable) (depth : ℕ) (here : Cursor) (e : TextFault) → Settles (λ n. run text st n (at unary scope depth here)) (Err e) → Settles (λ n. run text st n (at conjunction scope depth here)) (Err e)
conjunction_fault text st scope depth here e h =
    one_step text st (at conjunction scope depth here) (Err e) (settles_fault (λ n. run text st n (at unary scope depth here)) (λ n r. run text st n (more conjunction scope depth r.1 r.0)) e h)

postfix_from : (text : List ℕ) (st : Bool) (scope : List Variable) (depth : ℕ) (here mid : Cursor) (a : FormulaView) (x : Read) → Settles (λ n. run text st n (at primary scope depth here)) (Ok (a, mid)) → Settles (λ n. run text st n (more postfix scope depth mid a)) x → Settles (λ n. run text st n (at postfix scope depth here)) x
postfix_from text st scope depth here mid a x h k =
    one_step text st (at postfix scope depth here) x (settles_bind (λ n. run text st n (at primary scope depth here)) (λ n r. run text st n (more postfix scope depth r.1 r.0)) (a, mid) x h k)

postfix_fault : (text : List ℕ) (st : Bool) (scope : List Variable) (depth : ℕ) (here : Cursor) (e : TextFault) → Settles (λ n. run text st n (at primary scope depth here)) (Err e) → Settles (λ n. run text st n (at postfix scope depth here)) (Err e)
postfix_fault text st scope depth here e h =
    one_step text st (at postfix scope depth here) (Err e) (settles_fault (λ n. run text st n (at primary scope depth here)) (λ n r. run text st n (more postfix scope depth r.1 r.0)) e h)

formula_from : (text : List ℕ) (st : Bool) (scope : List Variable) (depth : ℕ) (here mid : Cursor) (a : FormulaView) (x : Read) → is_quantifier here.token ≡ false → Settles (λ n. run text st n (at disjunction scope depth here)) (Ok (a, mid)) → Settles (λ n. run text st n (more formula scope depth mid a)) x → Settles (λ n. run text st n (at formula scope depth here)) x
formula_from text st scope depth here mid a x nq h k =
    one_step text st (at formula scope depth here) x (settles_false (is_quantifier here.token) (λ n. binder text here >>= (λ v. run text st n (at formula ((v.0, v.1) ∷ scope) depth v.2) >>= (λ r. Ok (quantify here.token v.1 r.0, r.1)))) (λ n. run text st n (at disjunction scope depth here) >>= (λ r. run text st n (more formula scope depth r.1 r.0))) x nq
    (settles_bind (λ n. run text st n (at disjunction scope depth here)) (λ n r. run text st n (more formula scope depth r.1 r.0)) (a, mid) x h k))

formula_fault : (text : List ℕ) (st : Bool) (scope : List Variable) (depth : ℕ) (here : Cursor) (e : TextFault) → is_quantifier here.token ≡ false → Settles (λ n. run text st n (at disjunction scope depth here)) (Err e) → Settles (λ n. run text st n (at formula scope depth here)) (Err e)
formula_fault text st scope depth here e nq h =
    one_step text st (at formula scope depth here) (Err e) (settles_false (is_quantifier here.token) (λ n. binder text here >>= (λ v. run text st n (at formula ((v.0, v.1) ∷ scope) depth v.2) >>= (λ r. Ok (quantify here.token v.1 r.0, r.1)))) (λ n. run text st n (at disjunction scope depth here) >>= (λ r. run text st n (more formula scope depth r.1 r.0))) (Err e) nq
    (settles_fault (λ n. run text st n (at disjunction scope depth here)) (λ n r. run text st n (more formula scope depth r.1 r.0)) e h))

quantified_from : (text : List ℕ) (st : Bool) (scope : List Variable) (depth : ℕ) (here mid there : Cursor) (name : List ℕ) (s : Sort) (a : FormulaView) → is_quantifier here.token ≡ true → binder text here ≡ Ok (name, s, mid)
    → Settles (λ n. run text st n (at formula ((name, s) ∷ scope) depth mid)) (Ok (a, there)) → Settles (λ n. run text st n (at formula scope depth here)) (Ok (quantify here.token s a, there))
quantified_from text st scope depth here mid there name s a q b h =
    one_step text st (at formula scope depth here) _ (settles_true (is_quantifier here.token) (λ n. binder text here >>= (λ v. run text st n (at formula ((v.0, v.1) ∷ scope) depth v.2) >>= (λ r. Ok (quantify here.token v.1 r.0, r.1)))) (λ n. run text st n (at disjunction scope depth here) >>= (λ r. run text st n (more formula scope depth r.1 r.0))) _ q
    (settles_bind (λ n. binder text here) (λ n v. run text st n (at formula ((v.0, v.1) ∷ scope) depth v.2) >>= (λ r. Ok (quantify here.token v.1 r.0, r.1))) (name, s, mid) _ (settles_same _ _ b)
    (settles_bind (λ n. run text st n (at formula ((name, s) ∷ scope) depth mid)) (λ n r. Ok (quantify here.token s r.0, r.1)) (a, there) _ h (settles_at_once _))))

binder_fault : (text : List ℕ) (st : Bool) (scope : List Variable) (depth : ℕ) (here : Cursor) (e : TextFault) → is_quantifier here.token ≡ true → binder text here ≡ Err e → Settles (λ n. run text st n (at formula scope depth here)) (Err e)
binder_fault text st scope depth here e q b =
    one_step text st (at formula scope depth here) (Err e) (settles_true (is_quantifier here.token) (λ n. binder text here >>= (λ v. run text st n (at formula ((v.0, v.1) ∷ scope) depth v.2) >>= (λ r. Ok (quantify here.token v.1 r.0, r.1)))) (λ n. run text st n (at disjunction scope depth here) >>= (λ r. run text st n (more formula scope depth r.1 r.0))) (Err e) q
    (settles_fault (λ n. binder text here) (λ n v. run text st n (at formula ((v.0, v.1) ∷ scope) depth v.2) >>= (λ r. Ok (quantify here.token v.1 r.0, r.1))) e (settles_same _ _ b)))

body_fault : (text : List ℕ) (st : Bool) (scope : List Variable) (depth : ℕ) (here mid : Cursor) (name : List ℕ) (s : Sort) (e : TextFault) → is_quantifier here.token ≡ true → binder text here ≡ Ok (name, s, mid)
    → Settles (λ n. run text st n (at formula ((name, s) ∷ scope) depth mid)) (Err e) → Settles (λ n. run text st n (at formula scope depth here)) (Err e)
body_fault text st scope depth here mid name s e q b h =
    one_step text st (at formula scope depth here) (Err e) (settles_true (is_quantifier here.token) (λ n. binder text here >>= (λ v. run text st n (at formula ((v.0, v.1) ∷ scope) depth v.2) >>= (λ r. Ok (quantify here.token v.1 r.0, r.1)))) (λ n. run text st n (at disjunction scope depth here) >>= (λ r. run text st n (more formula scope depth r.1 r.0))) (Err e) q
    (settles_bind (λ n. binder text here) (λ n v. run text st n (at formula ((v.0, v.1) ∷ scope) depth v.2) >>= (λ r. Ok (quantify here.token v.1 r.0, r.1))) (name, s, mid) (Err e) (settles_same _ _ b)
    (settles_fault (λ n. run text st n (at formula ((name, s) ∷ scope) depth mid)) (λ n r. Ok (quantify here.token s r.0, r.1)) e h)))

disjunction_ends : (text : List ℕ) (st : Bool) (scope : List Variable) (depth : ℕ) (mid : Cursor) (a : FormulaView) → is_sign signs.Or mid.token ≡ false → Settles (λ n. run text st n (more disjunction scope depth mid a)) (Ok (a, mid))
disjunction_ends text st scope depth mid a none = one_step text st (more disjunction scope depth mid a) (Ok (a, mid)) (settles_false (is_sign signs.Or mid.token) (λ n. count mid >>= (λ _. run text st n (at conjunction scope depth (cursor_after_node text mid)) >>= (λ r. run text st n (more disjunction scope depth r.1 (either a r.0))))) (λ n. Ok (a, mid)) (Ok (a, mid)) none (settles_at_once (Ok (a, mid))))

disjunction_full : (text : List ℕ) (st : Bool) (scope : List Variable) (depth : ℕ) (mid : Cursor) (a : FormulaView) (e : TextFault) → is_sign signs.Or mid.token ≡ true → count mid ≡ Err e → Settles (λ n. run text st n (more disjunction scope depth mid a)) (Err e)
disjunction_full text st scope depth mid a e sign full = one_step text st (more disjunction scope depth mid a) (Err e) (settles_true (is_sign signs.Or mid.token) (λ n. count mid >>= (λ _. run text st n (at conjunction scope depth (cursor_after_node text mid)) >>= (λ r. run text st n (more disjunction scope depth r.1 (either a r.0))))) (λ n. Ok (a, mid)) (Err e) sign
    (settles_fault (λ n. count mid) (λ n _. run text st n (at conjunction scope depth (cursor_after_node text mid)) >>= (λ r. run text st n (more disjunction scope depth r.1 (either a r.0)))) e (settles_same _ _ full)))

disjunction_operand_fault : (text : List ℕ) (st : Bool) (scope : List Variable) (depth : ℕ) (mid : Cursor) (a : FormulaView) (e : TextFault) → is_sign signs.Or mid.token ≡ true → count mid ≡ Ok tt → Settles (λ n. run text st n (at conjunction scope depth (cursor_after_node text mid))) (Err e) → Settles (λ n. run text st n (more disjunction scope depth mid a)) (Err e)
disjunction_operand_fault text st scope depth mid a e sign room h = one_step text st (more disjunction scope depth mid a) (Err e) (settles_true (is_sign signs.Or mid.token) (λ n. count mid >>= (λ _. run text st n (at conjunction scope depth (cursor_after_node text mid)) >>= (λ r. run text st n (more disjunction scope depth r.1 (either a r.0))))) (λ n. Ok (a, mid)) (Err e) sign
    (settles_bind (λ n. count mid) (λ n _. run text st n (at conjunction scope depth (cursor_after_node text mid)) >>= (λ r. run text st n (more disjunction scope depth r.1 (either a r.0)))) tt (Err e) (settles_same _ _ room) (settles_fault (λ n. run text st n (at conjunction scope depth (cursor_after_node text mid))) (λ n r. run text st n (more disjunction scope depth r.1 (either a r.0))) e h)))

disjunction_more : (text : List ℕ) (st : Bool) (scope : List Variable) (depth : ℕ) (mid there : Cursor) (a b : FormulaView) (x : Read) → is_sign signs.Or mid.token ≡ true → count mid ≡ Ok tt → Settles (λ n. run text st n (at conjunction scope depth (cursor_after_node text mid))) (Ok (b, there)) → Settles (λ n. run text st n (more disjunction scope depth there (either a b))) x → Settles (λ n. run text st n (more disjunction scope depth mid a)) x
disjunction_more text st scope depth mid there a b x sign room h k = one_step text st (more disjunction scope depth mid a) x (settles_true (is_sign signs.Or mid.token) (λ n. count mid >>= (λ _. run text st n (at conjunction scope depth (cursor_after_node text mid)) >>= (λ r. run text st n (more disjunction scope depth r.1 (either a r.0))))) (λ n. Ok (a, mid)) x sign
    (settles_bind (λ n. count mid) (λ n _. run text st n (at conjunction scope depth (cursor_after_node text mid)) >>= (λ r. run text st n (more disjunction scope depth r.1 (either a r.0)))) tt x (settles_same _ _ room) (settles_bind (λ n. run text st n (at conjunction scope depth (cursor_after_node text mid))) (λ n r. run text st n (more disjunction scope depth r.1 (either a r.0))) (b, there) x h k)))

conjunction_ends : (text : List ℕ) (st : Bool) (scope : List Variable) (depth : ℕ) (mid : Cursor) (a : FormulaView) → is_sign signs.And mid.token ≡ false → Settles (λ n. run text st n (more conjunction scope depth mid a)) (Ok (a, mid))
conjunction_ends text st scope depth mid a none = one_step text st (more conjunction scope depth mid a) (Ok (a, mid)) (settles_false (is_sign signs.And mid.token) (λ n. count mid >>= (λ _. run text st n (at unary scope depth (cursor_after_node text mid)) >>= (λ r. run text st n (more conjunction scope depth r.1 (both a r.0))))) (λ n. Ok (a, mid)) (Ok (a, mid)) none (settles_at_once (Ok (a, mid))))

conjunction_full : (text : List ℕ) (st : Bool) (scope : List Variable) (depth : ℕ) (mid : Cursor) (a : FormulaView) (e : TextFault) → is_sign signs.And mid.token ≡ true → count mid ≡ Err e → Settles (λ n. run text st n (more conjunction scope depth mid a)) (Err e)
conjunction_full text st scope depth mid a e sign full = one_step text st (more conjunction scope depth mid a) (Err e) (settles_true (is_sign signs.And mid.token) (λ n. count mid >>= (λ _. run text st n (at unary scope depth (cursor_after_node text mid)) >>= (λ r. run text st n (more conjunction scope depth r.1 (both a r.0))))) (λ n. Ok (a, mid)) (Err e) sign
    (settles_fault (λ n. count mid) (λ n _. run text st n (at unary scope depth (cursor_after_node text mid)) >>= (λ r. run text st n (more conjunction scope depth r.1 (both a r.0)))) e (settles_same _ _ full)))

conjunction_operand_fault : (text : List ℕ) (st : Bool) (scope : List Variable) (depth : ℕ) (mid : Cursor) (a : FormulaView) (e : TextFault) → is_sign signs.And mid.token ≡ true → count mid ≡ Ok tt → Settles (λ n. run text st n (at unary scope depth (cursor_after_node text mid))) (Err e) → Settles (λ n. run text st n (more conjunction scope depth mid a)) (Err e)
conjunction_operand_fault text st scope depth mid a e sign room h = one_step text st (more conjunction scope depth mid a) (Err e) (settles_true (is_sign signs.And mid.token) (λ n. count mid >>= (λ _. run text st n (at unary scope depth (cursor_after_node text mid)) >>= (λ r. run text st n (more conjunction scope depth r.1 (both a r.0))))) (λ n. Ok (a, mid)) (Err e) sign
    (settles_bind (λ n. count mid) (λ n _. run text st n (at unary scope depth (cursor_after_node text mid)) >>= (λ r. run text st n (more conjunction scope depth r.1 (both a r.0)))) tt (Err e) (settles_same _ _ room) (settles_fault (λ n. run text st n (at unary scope depth (cursor_after_node text mid))) (λ n r. run text st n (more conjunction scope depth r.1 (both a r.0))) e h)))

conjunction_more : (text : List ℕ) (st : Bool) (scope : List Variable) (depth : ℕ) (mid there : Cursor) (a b : FormulaView) (x : Read) → is_sign signs.And mid.token ≡ true → count mid ≡ Ok tt → Settles (λ n. run text st n (at unary scope depth (cursor_after_node text mid))) (Ok (b, there)) → Settles (λ n. run text st n (more conjunction scope depth there (both a b))) x → Settles (λ n. run text st n (more conjunction scope depth mid a)) x
conjunction_more text st scope depth mid there a b x sign room h k = one_step text st (more conjunction scope depth mid a) x (settles_true (is_sign signs.And mid.token) (λ n. count mid >>= (λ _. run text st n (at unary scope depth (cursor_after_node text mid)) >>= (λ r. run text st n (more conjunction scope depth r.1 (both a r.0))))) (λ n. Ok (a, mid)) x sign
    (settles_bind (λ n. count mid) (λ n _. run text st n (at unary scope depth (cursor_after_node text mid)) >>= (λ r. run text st n (more conjunction scope depth r.1 (both a r.0)))) tt x (settles_same _ _ room) (settles_bind (λ n. run text st n (at unary scope depth (cursor_after_node text mid))) (λ n r. run text st n (more conjunction scope depth r.1 (both a r.0))) (b, there) x h k)))

formula_ends : (text : List ℕ) (st : Bool) (scope : List Variable) (depth : ℕ) (mid : Cursor) (a : FormulaView) → is_sign signs.Implies mid.token ≡ false → Settles (λ n. run text st n (more formula scope depth mid a)) (Ok (a, mid))
formula_ends text st scope depth mid a none = one_step text st (more formula scope depth mid a) (Ok (a, mid)) (settles_false (is_sign signs.Implies mid.token) (λ n. count mid >>= (λ _. run text st n (at formula scope depth (cursor_after_node text mid)) >>= (λ r. Ok (implies a r.0, r.1)))) (λ n. Ok (a, mid)) (Ok (a, mid)) none (settles_at_once (Ok (a, mid))))

formula_full : (text : List ℕ) (st : Bool) (scope : List Variable) (depth : ℕ) (mid : Cursor) (a : FormulaView) (e : TextFault) → is_sign signs.Implies mid.token ≡ true → count mid ≡ Err e → Settles (λ n. run text st n (more formula scope depth mid a)) (Err e)
formula_full text st scope depth mid a e sign full = one_step text st (more formula scope depth mid a) (Err e) (settles_true (is_sign signs.Implies mid.token) (λ n. count mid >>= (λ _. run text st n (at formula scope depth (cursor_after_node text mid)) >>= (λ r. Ok (implies a r.0, r.1)))) (λ n. Ok (a, mid)) (Err e) sign
    (settles_fault (λ n. count mid) (λ n _. run text st n (at formula scope depth (cursor_after_node text mid)) >>= (λ r. Ok (implies a r.0, r.1))) e (settles_same _ _ full)))

formula_operand_fault : (text : List ℕ) (st : Bool) (scope : List Variable) (depth : ℕ) (mid : Cursor) (a : FormulaView) (e : TextFault) → is_sign signs.Implies mid.token ≡ true → count mid ≡ Ok tt → Settles (λ n. run text st n (at formula scope depth (cursor_after_node text mid))) (Err e) → Settles (λ n. run text st n (more formula scope depth mid a)) (Err e)
formula_operand_fault text st scope depth mid a e sign room h = one_step text st (more formula scope depth mid a) (Err e) (settles_true (is_sign signs.Implies mid.token) (λ n. count mid >>= (λ _. run text st n (at formula scope depth (cursor_after_node text mid)) >>= (λ r. Ok (implies a r.0, r.1)))) (λ n. Ok (a, mid)) (Err e) sign
    (settles_bind (λ n. count mid) (λ n _. run text st n (at formula scope depth (cursor_after_node text mid)) >>= (λ r. Ok (implies a r.0, r.1))) tt (Err e) (settles_same _ _ room) (settles_fault (λ n. run text st n (at formula scope depth (cursor_after_node text mid))) (λ n r. Ok (implies a r.0, r.1)) e h)))

formula_more : (text : List ℕ) (st : Bool) (scope : List Variable) (depth : ℕ) (mid there : Cursor) (a b : FormulaView) → is_sign signs.Implies mid.token ≡ true → count mid ≡ Ok tt → Settles (λ n. run text st n (at formula scope depth (cursor_after_node text mid))) (Ok (b, there)) → Settles (λ n. run text st n (more formula scope depth mid a)) (Ok (implies a b, there))
formula_more text st scope depth mid there a b sign room h = one_step text st (more formula scope depth mid a) (Ok (implies a b, there)) (settles_true (is_sign signs.Implies mid.token) (λ n. count mid >>= (λ _. run text st n (at formula scope depth (cursor_after_node text mid)) >>= (λ r. Ok (implies a r.0, r.1)))) (λ n. Ok (a, mid)) _ sign
    (settles_bind (λ n. count mid) (λ n _. run text st n (at formula scope depth (cursor_after_node text mid)) >>= (λ r. Ok (implies a r.0, r.1))) tt _ (settles_same _ _ room) (settles_bind (λ n. run text st n (at formula scope depth (cursor_after_node text mid))) (λ n r. Ok (implies a r.0, r.1)) (b, there) _ h (settles_at_once _))))

plain_from : (text : List ℕ) (st : Bool) (scope : List Variable) (depth : ℕ) (here : Cursor) (x : Read) → is_saying text here ≡ false → Settles (λ n. run text st n (at postfix scope depth here)) x → Settles (λ n. run text st n (at unary scope depth here)) x
plain_from text st scope depth here x none h = one_step text st (at unary scope depth here) x (settles_false (is_saying text here) (λ n. speaker text scope here >>= (λ k. run text st n (at unary scope depth k.1) >>= (λ r. Ok (says k.0 r.0, r.1)))) (λ n. run text st n (at postfix scope depth here)) x none h)

said_from : (text : List ℕ) (st : Bool) (scope : List Variable) (depth : ℕ) (here mid there : Cursor) (who : Term) (a : FormulaView) → is_saying text here ≡ true → speaker text scope here ≡ Ok (who, mid) → Settles (λ n. run text st n (at unary scope depth mid)) (Ok (a, there)) → Settles (λ n. run text st n (at unary scope depth here)) (Ok (says who a, there))
said_from text st scope depth here mid there who a said k h = one_step text st (at unary scope depth here) (Ok (says who a, there)) (settles_true (is_saying text here) (λ n. speaker text scope here >>= (λ k. run text st n (at unary scope depth k.1) >>= (λ r. Ok (says k.0 r.0, r.1)))) (λ n. run text st n (at postfix scope depth here)) _ said
    (settles_bind (λ n. speaker text scope here) (λ n k. run text st n (at unary scope depth k.1) >>= (λ r. Ok (says k.0 r.0, r.1))) (who, mid) _ (settles_same _ _ k)
    (settles_bind (λ n. run text st n (at unary scope depth mid)) (λ n r. Ok (says who r.0, r.1)) (a, there) _ h (settles_at_once _))))

speaker_fault : (text : List ℕ) (st : Bool) (scope : List Variable) (depth : ℕ) (here : Cursor) (e : TextFault) → is_saying text here ≡ true → speaker text scope here ≡ Err e → Settles (λ n. run text st n (at unary scope depth here)) (Err e)
speaker_fault text st scope depth here e said k = one_step text st (at unary scope depth here) (Err e) (settles_true (is_saying text here) (λ n. speaker text scope here >>= (λ k. run text st n (at unary scope depth k.1) >>= (λ r. Ok (says k.0 r.0, r.1)))) (λ n. run text st n (at postfix scope depth here)) (Err e) said
    (settles_fault (λ n. speaker text scope here) (λ n k. run text st n (at unary scope depth k.1) >>= (λ r. Ok (says k.0 r.0, r.1))) e (settles_same _ _ k)))

said_fault : (text : List ℕ) (st : Bool) (scope : List Variable) (depth : ℕ) (here mid : Cursor) (who : Term) (e : TextFault) → is_saying text here ≡ true → speaker text scope here ≡ Ok (who, mid) → Settles (λ n. run text st n (at unary scope depth mid)) (Err e) → Settles (λ n. run text st n (at unary scope depth here)) (Err e)
said_fault text st scope depth here mid who e said k h = one_step text st (at unary scope depth here) (Err e) (settles_true (is_saying text here) (λ n. speaker text scope here >>= (λ k. run text st n (at unary scope depth k.1) >>= (λ r. Ok (says k.0 r.0, r.1)))) (λ n. run text st n (at postfix scope depth here)) (Err e) said
    (settles_bind (λ n. speaker text scope here) (λ n k. run text st n (at unary scope depth k.1) >>= (λ r. Ok (says k.0 r.0, r.1))) (who, mid) (Err e) (settles_same _ _ k)
    (settles_fault (λ n. run text st n (at unary scope depth mid)) (λ n r. Ok (says who r.0, r.1)) e h)))

postfix_ends : (text : List ℕ) (st : Bool) (scope : List Variable) (depth : ℕ) (mid : Cursor) (a : FormulaView) → is_sign signs.At mid.token ≡ false → Settles (λ n. run text st n (more postfix scope depth mid a)) (Ok (a, mid))
postfix_ends text st scope depth mid a none = one_step text st (more postfix scope depth mid a) (Ok (a, mid)) (settles_false (is_sign signs.At mid.token) (λ n. interval text st scope mid >>= (λ v. run text st n (more postfix scope depth v.2 (on a v.0 v.1)))) (λ n. Ok (a, mid)) _ none (settles_at_once _))

postfix_more : (text : List ℕ) (st : Bool) (scope : List Variable) (depth : ℕ) (mid there : Cursor) (a : FormulaView) (from to : Term) (x : Read) → is_sign signs.At mid.token ≡ true → interval text st scope mid ≡ Ok (from, to, there) → Settles (λ n. run text st n (more postfix scope depth there (on a from to))) x → Settles (λ n. run text st n (more postfix scope depth mid a)) x
postfix_more text st scope depth mid there a from to x sign iv k = one_step text st (more postfix scope depth mid a) x (settles_true (is_sign signs.At mid.token) (λ n. interval text st scope mid >>= (λ v. run text st n (more postfix scope depth v.2 (on a v.0 v.1)))) (λ n. Ok (a, mid)) x sign
    (settles_bind (λ n. interval text st scope mid) (λ n v. run text st n (more postfix scope depth v.2 (on a v.0 v.1))) (from, to, there) x (settles_same _ _ iv) k))

interval_fault : (text : List ℕ) (st : Bool) (scope : List Variable) (depth : ℕ) (mid : Cursor) (a : FormulaView) (e : TextFault) → is_sign signs.At mid.token ≡ true → interval text st scope mid ≡ Err e → Settles (λ n. run text st n (more postfix scope depth mid a)) (Err e)
interval_fault text st scope depth mid a e sign iv = one_step text st (more postfix scope depth mid a) (Err e) (settles_true (is_sign signs.At mid.token) (λ n. interval text st scope mid >>= (λ v. run text st n (more postfix scope depth v.2 (on a v.0 v.1)))) (λ n. Ok (a, mid)) (Err e) sign
    (settles_fault (λ n. interval text st scope mid) (λ n v. run text st n (more postfix scope depth v.2 (on a v.0 v.1))) e (settles_same _ _ iv)))

opened_from : (text : List ℕ) (st : Bool) (scope : List Variable) (depth : ℕ) (here mid there : Cursor) (a : FormulaView) → is_sign signs.Open here.token ≡ true → nat_lt depth 512 ≡ true → Settles (λ n. run text st n (at formula scope (depth + 1) (cursor_after text here))) (Ok (a, mid)) → expect_sign text signs.Close mid ≡ Ok there → Settles (λ n. run text st n (at primary scope depth here)) (Ok (a, there))
opened_from text st scope depth here mid there a opens room h close = one_step text st (at primary scope depth here) _ (settles_true (is_sign signs.Open here.token) (λ n. if nat_lt depth 512 then (run text st n (at formula scope (depth + 1) (cursor_after text here)) >>= (λ r. expect_sign text signs.Close r.1 >>= (λ there. Ok (r.0, there)))) else Err (TooLarge here.at)) (λ n. if is_call text here then called_by text st scope n here here.token else simple_formula text st scope here) _ opens
    (settles_true (nat_lt depth 512) (λ n. run text st n (at formula scope (depth + 1) (cursor_after text here)) >>= (λ r. expect_sign text signs.Close r.1 >>= (λ there. Ok (r.0, there)))) (λ n. Err (TooLarge here.at)) _ room
    (settles_bind (λ n. run text st n (at formula scope (depth + 1) (cursor_after text here))) (λ n r. expect_sign text signs.Close r.1 >>= (λ there. Ok (r.0, there))) (a, mid) _ h
    (settles_bind (λ n. expect_sign text signs.Close mid) (λ n there. Ok (a, there)) there _ (settles_same _ _ close) (settles_at_once _)))))

opened_fault : (text : List ℕ) (st : Bool) (scope : List Variable) (depth : ℕ) (here : Cursor) (e : TextFault) → is_sign signs.Open here.token ≡ true → nat_lt depth 512 ≡ true → Settles (λ n. run text st n (at formula scope (depth + 1) (cursor_after text here))) (Err e) → Settles (λ n. run text st n (at primary scope depth here)) (Err e)
opened_fault text st scope depth here e opens room h = one_step text st (at primary scope depth here) _ (settles_true (is_sign signs.Open here.token) (λ n. if nat_lt depth 512 then (run text st n (at formula scope (depth + 1) (cursor_after text here)) >>= (λ r. expect_sign text signs.Close r.1 >>= (λ there. Ok (r.0, there)))) else Err (TooLarge here.at)) (λ n. if is_call text here then called_by text st scope n here here.token else simple_formula text st scope here) _ opens
    (settles_true (nat_lt depth 512) (λ n. run text st n (at formula scope (depth + 1) (cursor_after text here)) >>= (λ r. expect_sign text signs.Close r.1 >>= (λ there. Ok (r.0, there)))) (λ n. Err (TooLarge here.at)) _ room
    (settles_fault (λ n. run text st n (at formula scope (depth + 1) (cursor_after text here))) (λ n r. expect_sign text signs.Close r.1 >>= (λ there. Ok (r.0, there))) e h)))

unclosed_fault : (text : List ℕ) (st : Bool) (scope : List Variable) (depth : ℕ) (here mid : Cursor) (a : FormulaView) (e : TextFault) → is_sign signs.Open here.token ≡ true → nat_lt depth 512 ≡ true → Settles (λ n. run text st n (at formula scope (depth + 1) (cursor_after text here))) (Ok (a, mid)) → expect_sign text signs.Close mid ≡ Err e → Settles (λ n. run text st n (at primary scope depth here)) (Err e)
unclosed_fault text st scope depth here mid a e opens room h close = one_step text st (at primary scope depth here) _ (settles_true (is_sign signs.Open here.token) (λ n. if nat_lt depth 512 then (run text st n (at formula scope (depth + 1) (cursor_after text here)) >>= (λ r. expect_sign text signs.Close r.1 >>= (λ there. Ok (r.0, there)))) else Err (TooLarge here.at)) (λ n. if is_call text here then called_by text st scope n here here.token else simple_formula text st scope here) _ opens
    (settles_true (nat_lt depth 512) (λ n. run text st n (at formula scope (depth + 1) (cursor_after text here)) >>= (λ r. expect_sign text signs.Close r.1 >>= (λ there. Ok (r.0, there)))) (λ n. Err (TooLarge here.at)) _ room
    (settles_bind (λ n. run text st n (at formula scope (depth + 1) (cursor_after text here))) (λ n r. expect_sign text signs.Close r.1 >>= (λ there. Ok (r.0, there))) (a, mid) _ h
    (settles_fault (λ n. expect_sign text signs.Close mid) (λ n there. Ok (a, there)) e (settles_same _ _ close)))))

deep_fault : (text : List ℕ) (st : Bool) (scope : List Variable) (depth : ℕ) (here : Cursor) → is_sign signs.Open here.token ≡ true → nat_lt depth 512 ≡ false → Settles (λ n. run text st n (at primary scope depth here)) (Err (TooLarge here.at))
deep_fault text st scope depth here opens full = one_step text st (at primary scope depth here) _ (settles_true (is_sign signs.Open here.token) (λ n. if nat_lt depth 512 then (run text st n (at formula scope (depth + 1) (cursor_after text here)) >>= (λ r. expect_sign text signs.Close r.1 >>= (λ there. Ok (r.0, there)))) else Err (TooLarge here.at)) (λ n. if is_call text here then called_by text st scope n here here.token else simple_formula text st scope here) _ opens
    (settles_false (nat_lt depth 512) (λ n. run text st n (at formula scope (depth + 1) (cursor_after text here)) >>= (λ r. expect_sign text signs.Close r.1 >>= (λ there. Ok (r.0, there)))) (λ n. Err (TooLarge here.at)) _ full (settles_at_once _)))

call_from : (text : List ℕ) (st : Bool) (scope : List Variable) (depth : ℕ) (here : Cursor) (x : Read) → is_sign signs.Open here.token ≡ false → is_call text here ≡ true → Settles (λ n. called_by text st scope n here here.token) x → Settles (λ n. run text st n (at primary scope depth here)) x
call_from text st scope depth here x closed calls h = one_step text st (at primary scope depth here) x (settles_false (is_sign signs.Open here.token) (λ n. if nat_lt depth 512 then (run text st n (at formula scope (depth + 1) (cursor_after text here)) >>= (λ r. expect_sign text signs.Close r.1 >>= (λ there. Ok (r.0, there)))) else Err (TooLarge here.at)) (λ n. if is_call text here then called_by text st scope n here here.token else simple_formula text st scope here) x closed
    (settles_true (is_call text here) (λ n. called_by text st scope n here here.token) (λ n. simple_formula text st scope here) x calls h))

simple_from : (text : List ℕ) (st : Bool) (scope : List Variable) (depth : ℕ) (here : Cursor) (x : Read) → is_sign signs.Open here.token ≡ false → is_call text here ≡ false → simple_formula text st scope here ≡ x → Settles (λ n. run text st n (at primary scope depth here)) x
simple_from text st scope depth here x closed no_call h = one_step text st (at primary scope depth here) x (settles_false (is_sign signs.Open here.token) (λ n. if nat_lt depth 512 then (run text st n (at formula scope (depth + 1) (cursor_after text here)) >>= (λ r. expect_sign text signs.Close r.1 >>= (λ there. Ok (r.0, there)))) else Err (TooLarge here.at)) (λ n. if is_call text here then called_by text st scope n here here.token else simple_formula text st scope here) x closed
    (settles_false (is_call text here) (λ n. called_by text st scope n here here.token) (λ n. simple_formula text st scope here) x no_call (settles_same _ _ h)))

-- ---- arguments

abbrev more_terms : (text : List ℕ) (st : Bool) (scope : List Variable) (is_atom : Bool) → ℕ → List Term → Cursor → ReadTerms
more_terms text st scope is_atom n terms mid = further_terms text st scope is_atom n terms mid

terms_step : (text : List ℕ) (st : Bool) (scope : List Variable) (is_atom : Bool) (terms : List Term) (mid : Cursor) (x : ReadTerms) → Settles (λ n. further_terms text st scope is_atom (suc n) terms mid) x
    → Settles (λ n. further_terms text st scope is_atom n terms mid) x
terms_step text st scope is_atom terms mid x h = settles_step (λ n. further_terms text st scope is_atom n terms mid) x h

terms_end : (text : List ℕ) (st : Bool) (scope : List Variable) (is_atom : Bool) (terms : List Term) (mid : Cursor) → is_sign signs.Comma mid.token ≡ false
    → Settles (λ n. further_terms text st scope is_atom n terms mid) (Ok (terms, mid))
terms_end text st scope is_atom terms mid none = terms_step text st scope is_atom terms mid _
    (settles_false (is_sign signs.Comma mid.token) (λ n. next_argument st scope is_atom (length terms) (cursor_after text mid) >>= (λ t. further_terms text st scope is_atom n (terms ++ t ∷ []) (cursor_after_node text (cursor_after text mid)))) (λ n. Ok (terms, mid)) _ none (settles_at_once _))

-- whatever going on after the terms gives, reading them gives
terms_read : (text : List ℕ) (st : Bool) (scope : List Variable) (is_atom : Bool) (here there : Cursor) (terms : List Term) → AreArguments text st scope is_atom here there terms
    → (x : ReadTerms) → Settles (λ n. further_terms text st scope is_atom n terms there) x → Settles (λ n. all_terms text st scope is_atom n here) x
terms_read text st scope is_atom here _ _ (one t first) x k =
    settles_bind (λ n. argument st scope here) (λ n t. further_terms text st scope is_atom n (t ∷ []) (cursor_after_node text here)) t x (settles_same _ _ first) k
terms_read text st scope is_atom here _ _ (further mid place terms t before comma next) x k =
    let sign = expected_sign text signs.Comma mid place comma in
    let place_is = expected_place text signs.Comma mid place comma in
    let next_is : next_argument st scope is_atom (length terms) (cursor_after text mid) ≡ Ok t = subst (λ (p : Cursor). next_argument st scope is_atom (length terms) p ≡ Ok t) place_is next in
    let goes = subst (λ (p : Cursor). Settles (λ n. further_terms text st scope is_atom n (terms ++ t ∷ []) (cursor_after_node text p)) x) place_is k in
    terms_read text st scope is_atom here mid terms before x (terms_step text st scope is_atom terms mid x
    (settles_true (is_sign signs.Comma mid.token) (λ n. next_argument st scope is_atom (length terms) (cursor_after text mid) >>= (λ t. further_terms text st scope is_atom n (terms ++ t ∷ []) (cursor_after_node text (cursor_after text mid)))) (λ n. Ok (terms, mid)) x sign
    (settles_bind (λ n. next_argument st scope is_atom (length terms) (cursor_after text mid)) (λ n t. further_terms text st scope is_atom n (terms ++ t ∷ []) (cursor_after_node text (cursor_after text mid))) t x (settles_same _ _ next_is) goes)))

terms_fault : (text : List ℕ) (st : Bool) (scope : List Variable) (is_atom : Bool) (here : Cursor) (e : TextFault) → ArgumentsHaveFirstFault text st scope is_atom here e
    → (e ≡ NoMemory) ⊎ Settles (λ n. all_terms text st scope is_atom n here) (Err e)
terms_fault text st scope is_atom here _ no_memory_for_arguments = inl refl
terms_fault text st scope is_atom here _ (in_first_argument e first) =
    inr (settles_fault (λ n. argument st scope here) (λ n t. further_terms text st scope is_atom n (t ∷ []) (cursor_after_node text here)) e (settles_same _ _ first))
terms_fault text st scope is_atom here _ (in_argument mid place terms e before comma next) =
    let sign = expected_sign text signs.Comma mid place comma in
    let place_is = expected_place text signs.Comma mid place comma in
    let next_is : next_argument st scope is_atom (length terms) (cursor_after text mid) ≡ Err e = subst (λ (p : Cursor). next_argument st scope is_atom (length terms) p ≡ Err e) place_is next in
    inr (terms_read text st scope is_atom here mid terms before (Err e) (terms_step text st scope is_atom terms mid (Err e)
    (settles_true (is_sign signs.Comma mid.token) (λ n. next_argument st scope is_atom (length terms) (cursor_after text mid) >>= (λ t. further_terms text st scope is_atom n (terms ++ t ∷ []) (cursor_after_node text (cursor_after text mid)))) (λ n. Ok (terms, mid)) (Err e) sign
    (settles_fault (λ n. next_argument st scope is_atom (length terms) (cursor_after text mid)) (λ n t. further_terms text st scope is_atom n (terms ++ t ∷ []) (cursor_after_node text (cursor_after text mid))) e (settles_same _ _ next_is)))))

-- ---- calls

named_read : (text : List ℕ) (st : Bool) (scope : List Variable) (here there : Cursor) (f : FormulaView) (name : List ℕ) (mid : Cursor) (terms : List Term) → count here ≡ Ok tt
    → AreArguments text st scope (is_predicate_name name) (cursor_after text (cursor_after_node text here)) mid terms → expect_sign text signs.Close mid ≡ Ok there → apply_predicate scope here.at name terms ≡ Ok f
    → Settles (λ n. named text st scope n here name) (Ok (f, there))
named_read text st scope here there f name mid terms room args close fits =
    let no_comma : is_sign signs.Comma mid.token ≡ false = other_sign signs.Close signs.Comma mid.token (expected_sign text signs.Close mid there close) refl in
    settles_bind (λ n. count here) (λ n _. all_terms text st scope (is_predicate_name name) n (cursor_after text (cursor_after_node text here)) >>= (λ r. expect_sign text signs.Close r.1 >>= (λ there. apply_predicate scope here.at name r.0 >>= (λ f. Ok (f, there))))) tt _ (settles_same _ _ room)
    (settles_bind (λ n. all_terms text st scope (is_predicate_name name) n (cursor_after text (cursor_after_node text here))) (λ n r. expect_sign text signs.Close r.1 >>= (λ there. apply_predicate scope here.at name r.0 >>= (λ f. Ok (f, there)))) (terms, mid) _
    (terms_read text st scope (is_predicate_name name) (cursor_after text (cursor_after_node text here)) mid terms args _ (terms_end text st scope (is_predicate_name name) terms mid no_comma))
    (settles_bind (λ n. expect_sign text signs.Close mid) (λ n there. apply_predicate scope here.at name terms >>= (λ f. Ok (f, there))) there _ (settles_same _ _ close)
    (settles_bind (λ n. apply_predicate scope here.at name terms) (λ n f. Ok (f, there)) f _ (settles_same _ _ fits) (settles_at_once _))))

by_name : (text : List ℕ) (st : Bool) (scope : List Variable) (here : Cursor) (name : List ℕ) (x : Read) → here.token ≡ Name name → Settles (λ n. named text st scope n here name) x
    → Settles (λ n. called_by text st scope n here here.token) x
by_name text st scope here name x is h = subst (λ (t : Token). Settles (λ n. called_by text st scope n here t) x) (sym is) h

call_read : (text : List ℕ) (st : Bool) (scope : List Variable) (here there : Cursor) (f : FormulaView) → IsCall text st scope here there f → Settles (λ n. called_by text st scope n here here.token) (Ok (f, there))
call_read text st scope here _ _ (call name mid there terms f is room args close fits) = by_name text st scope here name _ is (named_read text st scope here there f name mid terms room args close fits)

call_fault : (text : List ℕ) (st : Bool) (scope : List Variable) (here : Cursor) (e : TextFault) → is_call text here ≡ true → CallHasFirstFault text st scope here e
    → (e ≡ NoMemory) ⊎ Settles (λ n. called_by text st scope n here here.token) (Err e)
call_fault text st scope here _ calls (at_name e full) =
    let name = is_call-name text here calls in
    inr (by_name text st scope here name.0 _ name.1 (settles_fault (λ n. count here) (λ n _. all_terms text st scope (is_predicate_name name.0) n (cursor_after text (cursor_after_node text here)) >>= (λ r. expect_sign text signs.Close r.1 >>= (λ there. apply_predicate scope here.at name.0 r.0 >>= (λ f. Ok (f, there))))) e (settles_same _ _ full)))
call_fault text st scope here _ calls (in_arguments name e is room stop) =
    elim (terms_fault text st scope (is_predicate_name name) (cursor_after text (cursor_after_node text here)) e stop) [
      | inl none ↦ inl none
      | inr h ↦ inr (by_name text st scope here name _ is
          (settles_bind (λ n. count here) (λ n _. all_terms text st scope (is_predicate_name name) n (cursor_after text (cursor_after_node text here)) >>= (λ r. expect_sign text signs.Close r.1 >>= (λ there. apply_predicate scope here.at name r.0 >>= (λ f. Ok (f, there))))) tt _ (settles_same _ _ room)
          (settles_fault (λ n. all_terms text st scope (is_predicate_name name) n (cursor_after text (cursor_after_node text here))) (λ n r. expect_sign text signs.Close r.1 >>= (λ there. apply_predicate scope here.at name r.0 >>= (λ f. Ok (f, there)))) e h)))
    ]
call_fault text st scope here _ calls (before_close name mid terms e is room args no_comma close) =
    inr (by_name text st scope here name _ is
    (settles_bind (λ n. count here) (λ n _. all_terms text st scope (is_predicate_name name) n (cursor_after text (cursor_after_node text here)) >>= (λ r. expect_sign text signs.Close r.1 >>= (λ there. apply_predicate scope here.at name r.0 >>= (λ f. Ok (f, there))))) tt _ (settles_same _ _ room)
    (settles_bind (λ n. all_terms text st scope (is_predicate_name name) n (cursor_after text (cursor_after_node text here))) (λ n r. expect_sign text signs.Close r.1 >>= (λ there. apply_predicate scope here.at name r.0 >>= (λ f. Ok (f, there)))) (terms, mid) _
    (terms_read text st scope (is_predicate_name name) (cursor_after text (cursor_after_node text here)) mid terms args _ (terms_end text st scope (is_predicate_name name) terms mid no_comma))
    (settles_fault (λ n. expect_sign text signs.Close mid) (λ n there. apply_predicate scope here.at name terms >>= (λ f. Ok (f, there))) e (settles_same _ _ close)))))
call_fault text st scope here _ calls (by_sorts name mid there terms e is room args close wrong) =
    let no_comma : is_sign signs.Comma mid.token ≡ false = other_sign signs.Close signs.Comma mid.token (expected_sign text signs.Close mid there close) refl in
    inr (by_name text st scope here name _ is
    (settles_bind (λ n. count here) (λ n _. all_terms text st scope (is_predicate_name name) n (cursor_after text (cursor_after_node text here)) >>= (λ r. expect_sign text signs.Close r.1 >>= (λ there. apply_predicate scope here.at name r.0 >>= (λ f. Ok (f, there))))) tt _ (settles_same _ _ room)
    (settles_bind (λ n. all_terms text st scope (is_predicate_name name) n (cursor_after text (cursor_after_node text here))) (λ n r. expect_sign text signs.Close r.1 >>= (λ there. apply_predicate scope here.at name r.0 >>= (λ f. Ok (f, there)))) (terms, mid) _
    (terms_read text st scope (is_predicate_name name) (cursor_after text (cursor_after_node text here)) mid terms args _ (terms_end text st scope (is_predicate_name name) terms mid no_comma))
    (settles_bind (λ n. expect_sign text signs.Close mid) (λ n there. apply_predicate scope here.at name terms >>= (λ f. Ok (f, there))) there _ (settles_same _ _ close)
    (settles_fault (λ n. apply_predicate scope here.at name terms) (λ n f. Ok (f, there)) e (settles_same _ _ wrong))))))

-- ---- formulas

-- the reader finds what stands there; at a level whose signs may go on, what going on gives
abbrev Done : List ℕ → Bool → Level → List Variable → ℕ → Cursor → Cursor → FormulaView → Type 0
Done text st formula scope depth here there f = is_continued_by formula there.token ≡ false → Settles (λ n. run text st n (at formula scope depth here)) (Ok (f, there))
Done text st disjunction scope depth here there f =
    is_continued_by conjunction there.token ≡ false → (x : Read) → Settles (λ n. run text st n (more disjunction scope depth there f)) x → Settles (λ n. run text st n (at disjunction scope depth here)) x
Done text st conjunction scope depth here there f =
    is_sign signs.At there.token ≡ false → (x : Read) → Settles (λ n. run text st n (more conjunction scope depth there f)) x → Settles (λ n. run text st n (at conjunction scope depth here)) x
Done text st unary scope depth here there f = is_sign signs.At there.token ≡ false → Settles (λ n. run text st n (at unary scope depth here)) (Ok (f, there))
Done text st postfix scope depth here there f = (x : Read) → Settles (λ n. run text st n (more postfix scope depth there f)) x → Settles (λ n. run text st n (at postfix scope depth here)) x
Done text st primary scope depth here there f = Settles (λ n. run text st n (at primary scope depth here)) (Ok (f, there))

quantified_as : (text : List ℕ) (st : Bool) (scope : List Variable) (depth : ℕ) (here there : Cursor) (f g : FormulaView) → f ≡ g → Settles (λ n. run text st n (at formula scope depth here)) (Ok (f, there))
    → Settles (λ n. run text st n (at formula scope depth here)) (Ok (g, there))
quantified_as text st scope depth here there f g same h = subst (λ (a : FormulaView). Settles (λ n. run text st n (at formula scope depth here)) (Ok (a, there))) same h

done : {text : List ℕ} {st : Bool} {level : Level} {scope : List Variable} {depth : ℕ} {here there : Cursor} {f : FormulaView} → Is text st level scope depth here there f → Done text st level scope depth here there f
done {text} {st} (for_every scope depth here mid there name s a word b d) = λ ended.
    quantified_as text st scope depth here there _ _ (every_is here.token s a word) (quantified_from text st scope depth here mid there name s a (every_quantifies here.token word) b (done d ended))
done {text} {st} (for_some scope depth here mid there name s a word b d) = λ ended.
    quantified_as text st scope depth here there _ _ (some_is here.token s a word) (quantified_from text st scope depth here mid there name s a (some_quantifies here.token word) b (done d ended))
done {text} {st} (implication scope depth here mid there a b nq d sign room e) = λ ended.
    formula_from text st scope depth here mid a _ nq
    (done d (conjunction_goes_on-implies mid.token sign) _ (disjunction_ends text st scope depth mid a (other_sign signs.Implies signs.Or mid.token sign refl)))
    (formula_more text st scope depth mid there a b sign room (done e ended))
done {text} {st} (one_disjunction scope depth here there a nq d) = λ ended.
    formula_from text st scope depth here there a _ nq (done d (formula_conjunction there.token ended) _ (disjunction_ends text st scope depth there a (formula_no_or there.token ended)))
    (formula_ends text st scope depth there a (formula_no_implies there.token ended))
done {text} {st} (or_further scope depth here mid there a b d sign room e) = λ ended x k.
    done d (conjunction_goes_on-or mid.token sign) x
    (disjunction_more text st scope depth mid there a b x sign room (done e (no_at there.token ended) _ (conjunction_ends text st scope depth there b (no_and there.token ended))) k)
done {text} {st} (one_conjunction scope depth here there a d) = λ ended x k.
    disjunction_from text st scope depth here there a x (done d (no_at there.token ended) _ (conjunction_ends text st scope depth there a (no_and there.token ended))) k
done {text} {st} (and_further scope depth here mid there a b d sign room e) = λ ended x k.
    done d (other_sign signs.And signs.At mid.token sign refl) x (conjunction_more text st scope depth mid there a b x sign room (done e ended) k)
done {text} {st} (one_unary scope depth here there a d) = λ ended x k. conjunction_from text st scope depth here there a x (done d ended) k
done {text} {st} (saying scope depth here mid there who a said k d) = λ ended. said_from text st scope depth here mid there who a said k (done d ended)
done {text} {st} (one_postfix scope depth here there a none d) = λ ended. plain_from text st scope depth here _ none (done d _ (postfix_ends text st scope depth there a ended))
done {text} {st} (on_interval scope depth here mid there a from to d sign iv) = λ x k. done d x (postfix_more text st scope depth mid there a from to x sign iv k)
done {text} {st} (one_primary scope depth here there a d) = λ x k. postfix_from text st scope depth here there a x (done d) k
done {text} {st} (group scope depth here mid there a opens room d close) =
    opened_from text st scope depth here mid there a opens room (done d (formula_goes_on-close mid.token (expected_sign text signs.Close mid there close))) close
done {text} {st} (called scope depth here there a closed calls c) = call_from text st scope depth here _ closed calls (call_read text st scope here there a c)
done {text} {st} (one_simple scope depth here there a closed no_call h) = simple_from text st scope depth here _ closed no_call h

-- a formula that is read up to a sign that ends its level
done_disjunction : {text : List ℕ} {st : Bool} {scope : List Variable} {depth : ℕ} {here there : Cursor} {f : FormulaView} → Is text st disjunction scope depth here there f → is_sign signs.Implies there.token ≡ true
    → Settles (λ n. run text st n (at disjunction scope depth here)) (Ok (f, there))
done_disjunction {text} {st} {scope} {depth} {here} {there} {f} d sign = done d (conjunction_goes_on-implies there.token sign) _ (disjunction_ends text st scope depth there f (other_sign signs.Implies signs.Or there.token sign refl))

-- the reader finds the fault, or memory was refused
abbrev Found : List ℕ → Bool → Level → List Variable → ℕ → Cursor → TextFault → Type 0
Found text st level scope depth here e = (e ≡ NoMemory) ⊎ Settles (λ n. run text st n (at level scope depth here)) (Err e)

found : {text : List ℕ} {st : Bool} {level : Level} {scope : List Variable} {depth : ℕ} {here : Cursor} {e : TextFault} → HasFirstFault text st level scope depth here e → Found text st level scope depth here e
found {text} {st} (no_memory level scope depth here) = inl refl
found {text} {st} (in_binder scope depth here e q b) = inr (binder_fault text st scope depth here e q b)
found {text} {st} (in_body scope depth here mid name s e q b h) = elim (found h) [ inl none ↦ inl none | inr k ↦ inr (body_fault text st scope depth here mid name s e q b k) ]
found {text} {st} (in_premise scope depth here e nq h) = elim (found h) [ inl none ↦ inl none | inr k ↦ inr (formula_fault text st scope depth here e nq k) ]
found {text} {st} (at_implies scope depth here mid a e nq d sign full) = inr (formula_from text st scope depth here mid a _ nq (done_disjunction d sign) (formula_full text st scope depth mid a e sign full))
found {text} {st} (in_conclusion scope depth here mid a e nq d sign room h) =
    elim (found h) [ inl none ↦ inl none | inr k ↦ inr (formula_from text st scope depth here mid a _ nq (done_disjunction d sign) (formula_operand_fault text st scope depth mid a e sign room k)) ]
found {text} {st} (in_first_disjunct scope depth here e h) = elim (found h) [ inl none ↦ inl none | inr k ↦ inr (disjunction_fault text st scope depth here e k) ]
found {text} {st} (at_or scope depth here mid a e d sign full) = inr (done d (conjunction_goes_on-or mid.token sign) _ (disjunction_full text st scope depth mid a e sign full))
found {text} {st} (in_disjunct scope depth here mid a e d sign room h) =
    elim (found h) [ inl none ↦ inl none | inr k ↦ inr (done d (conjunction_goes_on-or mid.token sign) _ (disjunction_operand_fault text st scope depth mid a e sign room k)) ]
found {text} {st} (in_first_conjunct scope depth here e h) = elim (found h) [ inl none ↦ inl none | inr k ↦ inr (conjunction_fault text st scope depth here e k) ]
found {text} {st} (at_and scope depth here mid a e d sign full) = inr (done d (other_sign signs.And signs.At mid.token sign refl) _ (conjunction_full text st scope depth mid a e sign full))
found {text} {st} (in_conjunct scope depth here mid a e d sign room h) =
    elim (found h) [ inl none ↦ inl none | inr k ↦ inr (done d (other_sign signs.And signs.At mid.token sign refl) _ (conjunction_operand_fault text st scope depth mid a e sign room k)) ]
found {text} {st} (in_speaker scope depth here e said k) = inr (speaker_fault text st scope depth here e said k)
found {text} {st} (in_said scope depth here mid who e said sp h) = elim (found h) [ inl none ↦ inl none | inr k ↦ inr (said_fault text st scope depth here mid who e said sp k) ]
found {text} {st} (in_postfix scope depth here e none h) = elim (found h) [ inl none' ↦ inl none' | inr k ↦ inr (plain_from text st scope depth here _ none k) ]
found {text} {st} (in_primary scope depth here e h) = elim (found h) [ inl none ↦ inl none | inr k ↦ inr (postfix_fault text st scope depth here e k) ]
found {text} {st} (in_interval scope depth here mid a e d sign iv) = inr (done d _ (interval_fault text st scope depth mid a e sign iv))
found {text} {st} (too_deep scope depth here opens full) = inr (deep_fault text st scope depth here opens full)
found {text} {st} (in_group scope depth here e opens room h) = elim (found h) [ inl none ↦ inl none | inr k ↦ inr (opened_fault text st scope depth here e opens room k) ]
found {text} {st} (not_closed scope depth here mid a e opens room d ended close) = inr (unclosed_fault text st scope depth here mid a e opens room (done d ended) close)
found {text} {st} (in_call scope depth here e closed calls h) = elim (call_fault text st scope here e calls h) [ inl none ↦ inl none | inr k ↦ inr (call_from text st scope depth here _ closed calls k) ]
found {text} {st} (in_simple scope depth here e closed no_call h) = inr (simple_from text st scope depth here _ closed no_call h)

-- ---- what is read and what stops is determined

abbrev Reading : List ℕ → Bool → List Variable → ℕ → Cursor → ℕ → Read
Reading text st scope depth here n = run text st n (at formula scope depth here)

pub one_reading : {text : List ℕ} {st : Bool} {scope : List Variable} {depth : ℕ} {here there there' : Cursor} {f g : FormulaView} → Is text st formula scope depth here there f → is_continued_by formula there.token ≡ false
    → Is text st formula scope depth here there' g → is_continued_by formula there'.token ≡ false → (f ≡ g) × (there ≡ there')
one_reading {text} {st} {scope} {depth} {here} {there} {there'} {f} {g} d ended e ended' =
    let same : ◌≡◌ {A = Read} (Ok (f, there)) (Ok (g, there')) = settles_once (Reading text st scope depth here) _ _ (done d ended) (done e ended') in
    let pair : ◌≡◌ {A = FormulaView × Cursor} (f, there) (g, there') = cc in (ap (λ (p : FormulaView × Cursor). p.0) pair, ap (λ (p : FormulaView × Cursor). p.1) pair)

pub read_or_fault : {text : List ℕ} {st : Bool} {scope : List Variable} {depth : ℕ} {here there : Cursor} {f : FormulaView} {e : TextFault} → Is text st formula scope depth here there f → is_continued_by formula there.token ≡ false
    → HasFirstFault text st formula scope depth here e → e ≡ NoMemory
read_or_fault {text} {st} {scope} {depth} {here} {there} {f} {e} d ended h = elim (found h) [
  | inl none ↦ none
  | inr k ↦ absurd (let no : ◌≡◌ {A = Read} (Ok (f, there)) (Err e) = settles_once (Reading text st scope depth here) _ _ (done d ended) k in cc)
]

pub one_stop : {text : List ℕ} {st : Bool} {scope : List Variable} {depth : ℕ} {here : Cursor} {e e' : TextFault} → HasFirstFault text st formula scope depth here e → HasFirstFault text st formula scope depth here e'
    → (e ≡ NoMemory) ⊎ ((e' ≡ NoMemory) ⊎ (e ≡ e'))
one_stop {text} {st} {scope} {depth} {here} {e} {e'} h h' = elim (found h) [
  | inl none ↦ inl none
  | inr k ↦ elim (found h') [
    | inl none ↦ inr (inl none)
    | inr k' ↦ inr (inr (let same : ◌≡◌ {A = Read} (Err e) (Err e') = settles_once (Reading text st scope depth here) _ _ k k' in cc))
  ]
]
