-- The texts of formulas (this project's own), as a relation between two places of a text: what
-- stands from the one up to the other is a text of the formula. A level of the grammar is what may
-- stand
-- in one place of it: `&` and `|` group to the left, `=>` to the right.
use Rattle.std.specs.Prelude.{◌≡◌, ℕ, ◌+◌, List, [], ◌∷◌, ◌++◌, length, Bool, true, false, nat_lt, ◌||◌, ◌&&◌, Ok}
use Rattle.bl_syntax.specs.declared.limits.TheConstants.{MOST_FORMULA_NODES}
use Rattle.bl_syntax.specs.declared.terms.Sort.{Sort}
use Rattle.bl_syntax.specs.declared.terms.Term.{Term}
use Rattle.bl_syntax.specs.Formula.{FormulaView, both, either, implies, forall_, exists_, says, on}
use Rattle.bl_syntax.specs.Names.{is_predicate_name}
use Rattle.bl_tokens.specs.declared.tokens.Sign.TheVariants as signs
use Rattle.bl_tokens.specs.declared.tokens.Keyword.TheVariants as keywords
use Rattle.bl_tokens.specs.declared.tokens.Token.{Token}
use Rattle.bl_tokens.specs.declared.tokens.Token.TheVariants as tokens
use Rattle.bl_tokens.specs.declared.tokens.Cursor.{Cursor}
use Rattle.bl_tokens.specs.Tokens.{cursor_after, cursor_after_node, is_sign, is_word}
use Rattle.bl_text.specs.Scope.{Variable}
use Rattle.bl_text.specs.Pieces.{count, expect_sign, argument, next_argument, interval, binder, speaker, apply_predicate, simple_formula}

-- the levels of the grammar, from the widest
pub data Level : Type 0 where
  formula : Level
  disjunction : Level
  conjunction : Level
  unary : Level
  postfix : Level
  primary : Level

-- ---- which case of the grammar a token and the one after it fix

abbrev pub is_quantifier : Token → Bool
is_quantifier token = is_word keywords.Forall token || is_word keywords.Exists token

abbrev is_speaker_name : Token → Bool
is_speaker_name (tokens.Name name) = true
is_speaker_name (tokens.Variable name) = true
is_speaker_name _ = false

abbrev is_predicate_token : Token → Bool
is_predicate_token (tokens.Name name) = true
is_predicate_token _ = false

-- a principal or a variable before `says`
unfoldable pub is_saying : List ℕ → Cursor → Bool
is_saying text here = is_speaker_name here.token && is_word keywords.Says (cursor_after_node text here).token

abbrev pub is_call_token : Token → Bool → Bool
is_call_token token opened = is_predicate_token token && opened

-- a name before `(`
unfoldable pub is_call : List ℕ → Cursor → Bool
is_call text here = is_call_token here.token (is_sign signs.Open (cursor_after_node text here).token)

-- a sign that goes on with what was read at a level
abbrev pub is_continued_by : Level → Token → Bool
is_continued_by formula token = is_sign signs.Implies token || is_sign signs.Or token || is_sign signs.And token || is_sign signs.At token
is_continued_by disjunction token = is_sign signs.Or token || is_sign signs.And token || is_sign signs.At token
is_continued_by conjunction token = is_sign signs.And token || is_sign signs.At token
is_continued_by unary token = is_sign signs.At token
is_continued_by postfix token = is_sign signs.At token
is_continued_by primary token = false

-- ---- arguments

-- terms between commas, from the one place up to the other. Of an atom there are at most eight
pub data AreArguments (text : List ℕ) (in_statement : Bool) (scope : List Variable) (is_atom : Bool) (here : Cursor) : Cursor → List Term → Type 0 where
  one : (t : Term) → argument in_statement scope here ≡ Ok t
      → AreArguments text in_statement scope is_atom here (cursor_after_node text here) (t ∷ [])
  further : (mid place : Cursor) (terms : List Term) (t : Term)
      → AreArguments text in_statement scope is_atom here mid terms
      → expect_sign text signs.Comma mid ≡ Ok place
      → next_argument in_statement scope is_atom (length terms) place ≡ Ok t
      → AreArguments text in_statement scope is_atom here (cursor_after_node text place) (terms ++ t ∷ [])

-- the predicate of a name at that place, before `(`, and its arguments
pub data IsCall (text : List ℕ) (in_statement : Bool) (scope : List Variable) (here : Cursor) : Cursor → FormulaView → Type 0 where
  call : (name : List ℕ) (mid there : Cursor) (terms : List Term) (f : FormulaView)
      → here.token ≡ tokens.Name name → count here ≡ Ok tt
      → AreArguments text in_statement scope (is_predicate_name name) (cursor_after text (cursor_after_node text here)) mid terms
      → expect_sign text signs.Close mid ≡ Ok there
      → apply_predicate scope here.at name terms ≡ Ok f
      → IsCall text in_statement scope here there f

-- ---- formulas

-- what stands from the first place up to the second is a text of the formula at that level, within
-- these variables and so many open parentheses
pub data Is (text : List ℕ) (in_statement : Bool) : Level → List Variable → ℕ → Cursor → Cursor
    → FormulaView → Type 0 where
  for_every : (scope : List Variable) (depth : ℕ) (here mid there : Cursor) (name : List ℕ) (s : Sort) (a : FormulaView)
      → is_word keywords.Forall here.token ≡ true → binder text here ≡ Ok (name, s, mid)
      → Is text in_statement formula ((name, s) ∷ scope) depth mid there a
      → Is text in_statement formula scope depth here there (forall_ s a)
  for_some : (scope : List Variable) (depth : ℕ) (here mid there : Cursor) (name : List ℕ) (s : Sort) (a : FormulaView)
      → is_word keywords.Exists here.token ≡ true → binder text here ≡ Ok (name, s, mid)
      → Is text in_statement formula ((name, s) ∷ scope) depth mid there a
      → Is text in_statement formula scope depth here there (exists_ s a)
  implication : (scope : List Variable) (depth : ℕ) (here mid there : Cursor) (a b : FormulaView)
      → is_quantifier here.token ≡ false → Is text in_statement disjunction scope depth here mid a
      → is_sign signs.Implies mid.token ≡ true → count mid ≡ Ok tt
      → Is text in_statement formula scope depth (cursor_after_node text mid) there b
      → Is text in_statement formula scope depth here there (implies a b)
  one_disjunction : (scope : List Variable) (depth : ℕ) (here there : Cursor) (a : FormulaView)
      → is_quantifier here.token ≡ false → Is text in_statement disjunction scope depth here there a
      → Is text in_statement formula scope depth here there a
  or_further : (scope : List Variable) (depth : ℕ) (here mid there : Cursor) (a b : FormulaView)
      → Is text in_statement disjunction scope depth here mid a
      → is_sign signs.Or mid.token ≡ true → count mid ≡ Ok tt
      → Is text in_statement conjunction scope depth (cursor_after_node text mid) there b
      → Is text in_statement disjunction scope depth here there (either a b)
  one_conjunction : (scope : List Variable) (depth : ℕ) (here there : Cursor) (a : FormulaView)
      → Is text in_statement conjunction scope depth here there a
      → Is text in_statement disjunction scope depth here there a
  and_further : (scope : List Variable) (depth : ℕ) (here mid there : Cursor) (a b : FormulaView)
      → Is text in_statement conjunction scope depth here mid a
      → is_sign signs.And mid.token ≡ true → count mid ≡ Ok tt
      → Is text in_statement unary scope depth (cursor_after_node text mid) there b
      → Is text in_statement conjunction scope depth here there (both a b)
  one_unary : (scope : List Variable) (depth : ℕ) (here there : Cursor) (a : FormulaView)
      → Is text in_statement unary scope depth here there a
      → Is text in_statement conjunction scope depth here there a
  saying : (scope : List Variable) (depth : ℕ) (here mid there : Cursor) (who : Term) (a : FormulaView)
      → is_saying text here ≡ true → speaker text scope here ≡ Ok (who, mid)
      → Is text in_statement unary scope depth mid there a
      → Is text in_statement unary scope depth here there (says who a)
  one_postfix : (scope : List Variable) (depth : ℕ) (here there : Cursor) (a : FormulaView)
      → is_saying text here ≡ false → Is text in_statement postfix scope depth here there a
      → Is text in_statement unary scope depth here there a
  on_interval : (scope : List Variable) (depth : ℕ) (here mid there : Cursor) (a : FormulaView) (from to : Term)
      → Is text in_statement postfix scope depth here mid a
      → is_sign signs.At mid.token ≡ true
      → interval text in_statement scope mid ≡ Ok (from, to, there)
      → Is text in_statement postfix scope depth here there (on a from to)
  one_primary : (scope : List Variable) (depth : ℕ) (here there : Cursor) (a : FormulaView)
      → Is text in_statement primary scope depth here there a
      → Is text in_statement postfix scope depth here there a
  group : (scope : List Variable) (depth : ℕ) (here mid there : Cursor) (a : FormulaView)
      → is_sign signs.Open here.token ≡ true → nat_lt depth MOST_FORMULA_NODES ≡ true
      → Is text in_statement formula scope (depth + 1) (cursor_after text here) mid a
      → expect_sign text signs.Close mid ≡ Ok there
      → Is text in_statement primary scope depth here there a
  called : (scope : List Variable) (depth : ℕ) (here there : Cursor) (a : FormulaView)
      → is_sign signs.Open here.token ≡ false → is_call text here ≡ true
      → IsCall text in_statement scope here there a
      → Is text in_statement primary scope depth here there a
  one_simple : (scope : List Variable) (depth : ℕ) (here there : Cursor) (a : FormulaView)
      → is_sign signs.Open here.token ≡ false → is_call text here ≡ false
      → simple_formula text in_statement scope here ≡ Ok (a, there)
      → Is text in_statement primary scope depth here there a
