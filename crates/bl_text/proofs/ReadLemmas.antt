-- Steps of a reading.
use Rattle.std.proofs.Common.{◌≡◌, ℕ, Bool, true, false, List, refl, sym, subst, arith, Result, Ok, Err}
use Rattle.std.specs.Prelude.{◌<◌, ◌≤◌, ◌||◌, nat_lt, IfOk, IfErr, MatchResult}
use Rattle.std.proofs.lemmas.Bool.Decides.{nat_tests}
use Rattle.std.proofs.lemmas.Bool.{false≢true, or_left, or_right}
use Rattle.bl_syntax.specs.declared.terms.Term.{Term}
use Rattle.bl_tokens.specs.declared.faults.TextFault.{TextFault}
use Rattle.bl_syntax.specs.Formula.{FormulaView}
use Rattle.bl_tokens.specs.declared.faults.TextFault.TheVariants.{NoMemory}
use Rattle.bl_tokens.specs.declared.tokens.Sign.{Sign}
use Rattle.bl_tokens.specs.declared.tokens.Sign.TheVariants as signs
use Rattle.bl_tokens.specs.declared.tokens.Keyword.TheVariants as keywords
use Rattle.bl_tokens.specs.declared.tokens.Token.{Token}
use Rattle.bl_tokens.specs.declared.tokens.Token.TheVariants.{Name, LongWord, Variable, Constant, BadDate, SortName, Keyword, End, Bad}
use Rattle.bl_tokens.specs.declared.tokens.Token.TheVariants as tokens
use Rattle.bl_tokens.specs.declared.tokens.Cursor.{Cursor}
use Rattle.bl_tokens.specs.Tokens.{cursor_after, is_sign, is_word}
use Rattle.bl_text.specs.Scope as scopes
use Rattle.bl_text.specs.Pieces.{expect_sign}
use Rattle.bl_text.specs.Grammar.{Level, is_call, is_call_token, is_quantifier, is_continued_by, AreArguments, Is}
use Rattle.bl_text.specs.Grammar as grammar
use Rattle.bl_text.specs.FirstFaults.{HasFirstFault, no_memory, in_interval}
use Rattle.bl_text.specs.Read.{IntervalHasFirstFault, no_memory_for_interval, interval_stops}

-- an error that is handed on
pub passed : {T : Type 0} (r : Result T TextFault) (e : TextFault) (P : TextFault → Type 0) → r ≡ Err e → P e → IfErr r P
passed r e P is h = subst (λ r'. IfErr r' P) (sym is) h

pub expected-Ok : (text : List ℕ) (sign : Sign) (here : Cursor) → is_sign sign here.token ≡ true → expect_sign text sign here ≡ Ok (cursor_after text here)
unfolding expect_sign
expected-Ok text sign here is = rw is

-- a call begins with a name
names_name : (t : Token) (b : Bool) → is_call_token t b ≡ true → (name : List ℕ) × (t ≡ Name name)
names_name (Name name) b h = (name, refl)
names_name LongWord b h = absurd (false≢true h)
names_name (Variable name) b h = absurd (false≢true h)
names_name (Constant t) b h = absurd (false≢true h)
names_name BadDate b h = absurd (false≢true h)
names_name (SortName s) b h = absurd (false≢true h)
names_name (Keyword word) b h = absurd (false≢true h)
names_name (tokens.Sign sign) b h = absurd (false≢true h)
names_name End b h = absurd (false≢true h)
names_name Bad b h = absurd (false≢true h)

pub is_call-name : (text : List ℕ) (here : Cursor) → is_call text here ≡ true → (name : List ℕ) × (here.token ≡ Name name)
unfolding is_call
is_call-name text here h = names_name here.token _ h

pub arguments_at : {text : List ℕ} {in_statement : Bool} {scope : List scopes.Variable} {is_atom : Bool} {here there there' : Cursor} {terms terms' : List Term} → there' ≡ there → terms' ≡ terms
    → AreArguments text in_statement scope is_atom here there terms → AreArguments text in_statement scope is_atom here there' terms'
arguments_at {text} {in_statement} {scope} {is_atom} {here} {there} {there'} {terms} {terms'} place same h =
    let moved = subst (λ (p : Cursor). AreArguments text in_statement scope is_atom here p terms) (sym place) h in
    subst (λ (ts : List Term). AreArguments text in_statement scope is_atom here there' ts) (sym same) moved

pub bool_same : (a b : Bool) → (a ≡ true → b ≡ true) → (b ≡ true → a ≡ true) → a ≡ b
bool_same true b there back = sym (there refl)
bool_same false true there back = back refl
bool_same false false there back = refl

-- ---- formulas

pub stops_at : {text : List ℕ} {in_statement : Bool} {level : Level} {scope : List scopes.Variable} {depth : ℕ} {place place' : Cursor} {e : TextFault} → place ≡ place'
    → HasFirstFault text in_statement level scope depth place e → HasFirstFault text in_statement level scope depth place' e
stops_at {text} {in_statement} {level} {scope} {depth} {place} {place'} {e} same h = subst (λ (p : Cursor). HasFirstFault text in_statement level scope depth p e) same h

pub is_at : {text : List ℕ} {in_statement : Bool} {level : Level} {scope : List scopes.Variable} {depth : ℕ} {place place' there : Cursor} {f : FormulaView} → place ≡ place'
    → Is text in_statement level scope depth place there f → Is text in_statement level scope depth place' there f
is_at {text} {in_statement} {level} {scope} {depth} {place} {place'} {there} {f} same h = subst (λ (p : Cursor). Is text in_statement level scope depth p there f) same h

pub is_form : {text : List ℕ} {in_statement : Bool} {level : Level} {scope : List scopes.Variable} {depth : ℕ} {here there : Cursor} {f f' : FormulaView} → f' ≡ f
    → Is text in_statement level scope depth here there f → Is text in_statement level scope depth here there f'
is_form {text} {in_statement} {level} {scope} {depth} {here} {there} {f} {f'} same h = subst (λ (a : FormulaView). Is text in_statement level scope depth here there a) (sym same) h

pub every_quantifies : (t : Token) → is_word keywords.Forall t ≡ true → is_quantifier t ≡ true
every_quantifies t h = or_left _ _ h

pub some_quantifies : (t : Token) → is_word keywords.Exists t ≡ true → is_quantifier t ≡ true
some_quantifies t h = or_right _ _ h

no_sign : (i o a t : Bool) → i ≡ false → (o || a || t) ≡ false → (i || o || a || t) ≡ false
no_sign true o a t h rest = absurd (false≢true (sym h))
no_sign false o a t h rest = rest

pub formula_ended : (t : Token) → is_sign signs.Implies t ≡ false → is_continued_by grammar.disjunction t ≡ false → is_continued_by grammar.formula t ≡ false
formula_ended t h rest = no_sign _ _ _ _ h rest

pub lt_true : (m n : ℕ) → m < n → nat_lt m n ≡ true
lt_true m n h = grind (arith, nat_tests)

pub lt_false : (m n : ℕ) → n ≤ m → nat_lt m n ≡ false
lt_false m n h = grind (arith, nat_tests)

-- what is made of what was read
pub ok_of : {T : Type 0} (r : Result T TextFault) (P : T → Type 0) (Q : TextFault → Type 0) (R : T → Type 0) → ((x : T) → P x → R x) → MatchResult r P Q → IfOk r R
ok_of (Ok x) P Q R f h = f x h
ok_of (Err e) P Q R f h = tt

pub err_of : {T : Type 0} (r : Result T TextFault) (P : T → Type 0) (Q : TextFault → Type 0) (R : TextFault → Type 0) → ((e : TextFault) → Q e → R e) → MatchResult r P Q → IfErr r R
err_of (Ok x) P Q R f h = tt
err_of (Err e) P Q R f h = f e h

-- memory may be refused anywhere
pub none_left : {text : List ℕ} {in_statement : Bool} {level : Level} {scope : List scopes.Variable} {depth : ℕ} {here : Cursor} {e : TextFault} → e ≡ NoMemory
    → HasFirstFault text in_statement level scope depth here e
none_left {text} {in_statement} {level} {scope} {depth} {here} {e} same = subst (λ (e' : TextFault). HasFirstFault text in_statement level scope depth here e') (sym same) (no_memory level scope depth here)

-- an interval stops after the formula that would be put on it
pub stops_at_interval : {text : List ℕ} {in_statement : Bool} {scope : List scopes.Variable} {depth : ℕ} {here mid : Cursor} {a : FormulaView} {e : TextFault} → Is text in_statement grammar.postfix scope depth here mid a
    → is_sign signs.At mid.token ≡ true → IntervalHasFirstFault text in_statement scope mid e → HasFirstFault text in_statement grammar.postfix scope depth here e
stops_at_interval {scope} {depth} {here} is sign no_memory_for_interval = no_memory grammar.postfix scope depth here
stops_at_interval {scope} {depth} {here} {mid} {a} is sign (interval_stops e stop) = in_interval scope depth here mid a e is sign stop
