-- The first fault of a formula's text (this project's own): what was read up to it is a text of a
-- part, and the part that comes next stops. Memory may be refused anywhere.
use Rattle.std.specs.Prelude.{◌≡◌, ℕ, ◌+◌, List, ◌∷◌, length, Bool, true, false, nat_lt, Ok, Err}
use Rattle.bl_syntax.specs.declared.limits.TheConstants.{MOST_FORMULA_NODES}
use Rattle.bl_syntax.specs.declared.terms.Sort.{Sort}
use Rattle.bl_syntax.specs.declared.terms.Term.{Term}
use Rattle.bl_syntax.specs.Formula.{FormulaView}
use Rattle.bl_syntax.specs.Names.{is_predicate_name}
use Rattle.bl_tokens.specs.declared.faults.TextFault.{TextFault}
use Rattle.bl_tokens.specs.declared.faults.TextFault.TheVariants.{TooLarge, NoMemory}
use Rattle.bl_tokens.specs.declared.tokens.Sign.TheVariants as signs
use Rattle.bl_tokens.specs.declared.tokens.Token.TheVariants as tokens
use Rattle.bl_tokens.specs.declared.tokens.Cursor.{Cursor}
use Rattle.bl_tokens.specs.Tokens.{cursor_after, cursor_after_node, is_sign}
use Rattle.bl_text.specs.Scope.{Variable}
use Rattle.bl_text.specs.Pieces.{count, expect_sign, argument, next_argument, interval, binder, speaker, apply_predicate, simple_formula}
use Rattle.bl_text.specs.Grammar.{Level, formula, disjunction, conjunction, unary, postfix, primary, is_quantifier, is_saying, is_call, is_continued_by, AreArguments, Is}

-- the arguments at that place stop
pub data ArgumentsHaveFirstFault (text : List ℕ) (in_statement : Bool) (scope : List Variable) (is_atom : Bool) (here : Cursor) : TextFault → Type 0 where
  no_memory_for_arguments : ArgumentsHaveFirstFault text in_statement scope is_atom here NoMemory
  in_first_argument : (e : TextFault) → argument in_statement scope here ≡ Err e
      → ArgumentsHaveFirstFault text in_statement scope is_atom here e
  in_argument : (mid place : Cursor) (terms : List Term) (e : TextFault)
      → AreArguments text in_statement scope is_atom here mid terms
      → expect_sign text signs.Comma mid ≡ Ok place
      → next_argument in_statement scope is_atom (length terms) place ≡ Err e
      → ArgumentsHaveFirstFault text in_statement scope is_atom here e

-- the predicate of a name at that place, before `(`, stops
pub data CallHasFirstFault (text : List ℕ) (in_statement : Bool) (scope : List Variable) (here : Cursor) : TextFault → Type 0 where
  at_name : (e : TextFault) → count here ≡ Err e → CallHasFirstFault text in_statement scope here e
  in_arguments : (name : List ℕ) (e : TextFault) → here.token ≡ tokens.Name name
      → count here ≡ Ok tt
      → ArgumentsHaveFirstFault text in_statement scope (is_predicate_name name) (cursor_after text (cursor_after_node text here)) e
      → CallHasFirstFault text in_statement scope here e
  before_close : (name : List ℕ) (mid : Cursor) (terms : List Term) (e : TextFault)
      → here.token ≡ tokens.Name name → count here ≡ Ok tt
      → AreArguments text in_statement scope (is_predicate_name name) (cursor_after text (cursor_after_node text here)) mid terms
      → is_sign signs.Comma mid.token ≡ false
      → expect_sign text signs.Close mid ≡ Err e → CallHasFirstFault text in_statement scope here e
  by_sorts : (name : List ℕ) (mid there : Cursor) (terms : List Term) (e : TextFault)
      → here.token ≡ tokens.Name name → count here ≡ Ok tt
      → AreArguments text in_statement scope (is_predicate_name name) (cursor_after text (cursor_after_node text here)) mid terms
      → expect_sign text signs.Close mid ≡ Ok there
      → apply_predicate scope here.at name terms ≡ Err e
      → CallHasFirstFault text in_statement scope here e

-- the formula at that place stops
pub data HasFirstFault (text : List ℕ) (in_statement : Bool) : Level → List Variable → ℕ → Cursor
    → TextFault → Type 0 where
  no_memory : (level : Level) (scope : List Variable) (depth : ℕ) (here : Cursor)
      → HasFirstFault text in_statement level scope depth here NoMemory
  in_binder : (scope : List Variable) (depth : ℕ) (here : Cursor) (e : TextFault)
      → is_quantifier here.token ≡ true → binder text here ≡ Err e
      → HasFirstFault text in_statement formula scope depth here e
  in_body : (scope : List Variable) (depth : ℕ) (here mid : Cursor) (name : List ℕ) (s : Sort) (e : TextFault)
      → is_quantifier here.token ≡ true → binder text here ≡ Ok (name, s, mid)
      → HasFirstFault text in_statement formula ((name, s) ∷ scope) depth mid e
      → HasFirstFault text in_statement formula scope depth here e
  in_premise : (scope : List Variable) (depth : ℕ) (here : Cursor) (e : TextFault)
      → is_quantifier here.token ≡ false
      → HasFirstFault text in_statement disjunction scope depth here e
      → HasFirstFault text in_statement formula scope depth here e
  at_implies : (scope : List Variable) (depth : ℕ) (here mid : Cursor) (a : FormulaView) (e : TextFault)
      → is_quantifier here.token ≡ false → Is text in_statement disjunction scope depth here mid a
      → is_sign signs.Implies mid.token ≡ true → count mid ≡ Err e
      → HasFirstFault text in_statement formula scope depth here e
  in_conclusion : (scope : List Variable) (depth : ℕ) (here mid : Cursor) (a : FormulaView) (e : TextFault)
      → is_quantifier here.token ≡ false → Is text in_statement disjunction scope depth here mid a
      → is_sign signs.Implies mid.token ≡ true → count mid ≡ Ok tt
      → HasFirstFault text in_statement formula scope depth (cursor_after_node text mid) e
      → HasFirstFault text in_statement formula scope depth here e
  in_first_disjunct : (scope : List Variable) (depth : ℕ) (here : Cursor) (e : TextFault)
      → HasFirstFault text in_statement conjunction scope depth here e
      → HasFirstFault text in_statement disjunction scope depth here e
  at_or : (scope : List Variable) (depth : ℕ) (here mid : Cursor) (a : FormulaView) (e : TextFault)
      → Is text in_statement disjunction scope depth here mid a → is_sign signs.Or mid.token ≡ true
      → count mid ≡ Err e → HasFirstFault text in_statement disjunction scope depth here e
  in_disjunct : (scope : List Variable) (depth : ℕ) (here mid : Cursor) (a : FormulaView) (e : TextFault)
      → Is text in_statement disjunction scope depth here mid a → is_sign signs.Or mid.token ≡ true
      → count mid ≡ Ok tt
      → HasFirstFault text in_statement conjunction scope depth (cursor_after_node text mid) e
      → HasFirstFault text in_statement disjunction scope depth here e
  in_first_conjunct : (scope : List Variable) (depth : ℕ) (here : Cursor) (e : TextFault)
      → HasFirstFault text in_statement unary scope depth here e
      → HasFirstFault text in_statement conjunction scope depth here e
  at_and : (scope : List Variable) (depth : ℕ) (here mid : Cursor) (a : FormulaView) (e : TextFault)
      → Is text in_statement conjunction scope depth here mid a → is_sign signs.And mid.token ≡ true
      → count mid ≡ Err e → HasFirstFault text in_statement conjunction scope depth here e
  in_conjunct : (scope : List Variable) (depth : ℕ) (here mid : Cursor) (a : FormulaView) (e : TextFault)
      → Is text in_statement conjunction scope depth here mid a → is_sign signs.And mid.token ≡ true
      → count mid ≡ Ok tt
      → HasFirstFault text in_statement unary scope depth (cursor_after_node text mid) e
      → HasFirstFault text in_statement conjunction scope depth here e
  in_speaker : (scope : List Variable) (depth : ℕ) (here : Cursor) (e : TextFault)
      → is_saying text here ≡ true → speaker text scope here ≡ Err e
      → HasFirstFault text in_statement unary scope depth here e
  in_said : (scope : List Variable) (depth : ℕ) (here mid : Cursor) (who : Term) (e : TextFault)
      → is_saying text here ≡ true → speaker text scope here ≡ Ok (who, mid)
      → HasFirstFault text in_statement unary scope depth mid e
      → HasFirstFault text in_statement unary scope depth here e
  in_postfix : (scope : List Variable) (depth : ℕ) (here : Cursor) (e : TextFault)
      → is_saying text here ≡ false → HasFirstFault text in_statement postfix scope depth here e
      → HasFirstFault text in_statement unary scope depth here e
  in_primary : (scope : List Variable) (depth : ℕ) (here : Cursor) (e : TextFault)
      → HasFirstFault text in_statement primary scope depth here e
      → HasFirstFault text in_statement postfix scope depth here e
  in_interval : (scope : List Variable) (depth : ℕ) (here mid : Cursor) (a : FormulaView) (e : TextFault)
      → Is text in_statement postfix scope depth here mid a → is_sign signs.At mid.token ≡ true
      → interval text in_statement scope mid ≡ Err e
      → HasFirstFault text in_statement postfix scope depth here e
  too_deep : (scope : List Variable) (depth : ℕ) (here : Cursor)
      → is_sign signs.Open here.token ≡ true → nat_lt depth MOST_FORMULA_NODES ≡ false
      → HasFirstFault text in_statement primary scope depth here (TooLarge here.at)
  in_group : (scope : List Variable) (depth : ℕ) (here : Cursor) (e : TextFault)
      → is_sign signs.Open here.token ≡ true → nat_lt depth MOST_FORMULA_NODES ≡ true
      → HasFirstFault text in_statement formula scope (depth + 1) (cursor_after text here) e
      → HasFirstFault text in_statement primary scope depth here e
  not_closed : (scope : List Variable) (depth : ℕ) (here mid : Cursor) (a : FormulaView) (e : TextFault)
      → is_sign signs.Open here.token ≡ true → nat_lt depth MOST_FORMULA_NODES ≡ true
      → Is text in_statement formula scope (depth + 1) (cursor_after text here) mid a
      → is_continued_by formula mid.token ≡ false → expect_sign text signs.Close mid ≡ Err e
      → HasFirstFault text in_statement primary scope depth here e
  in_call : (scope : List Variable) (depth : ℕ) (here : Cursor) (e : TextFault)
      → is_sign signs.Open here.token ≡ false → is_call text here ≡ true
      → CallHasFirstFault text in_statement scope here e
      → HasFirstFault text in_statement primary scope depth here e
  in_simple : (scope : List Variable) (depth : ℕ) (here : Cursor) (e : TextFault)
      → is_sign signs.Open here.token ≡ false → is_call text here ≡ false
      → simple_formula text in_statement scope here ≡ Err e
      → HasFirstFault text in_statement primary scope depth here e
