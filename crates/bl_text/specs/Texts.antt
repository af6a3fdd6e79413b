-- The texts of formulas and of statements, and their first faults (this project's own).
use Rattle.std.specs.Prelude.{◌≡◌, ◌⊎◌, ℕ, List, [], Bool, true, false, Result, Ok, Err, if◌then◌else◌}
use Rattle.bl_syntax.specs.declared.limits.TheConstants.{MOST_FORMULA_NODES}
use Rattle.bl_syntax.specs.declared.terms.TimePoint.{TimePoint}
use Rattle.bl_syntax.specs.declared.terms.Term.TheVariants.{Time}
use Rattle.bl_syntax.specs.Formula.{FormulaView}
use Rattle.bl_syntax.specs.Statement.{StatementView, statement_view, IsStatement}
use Rattle.bl_tokens.specs.declared.faults.TextFault.{TextFault}
use Rattle.bl_tokens.specs.declared.faults.TextFault.TheVariants.{Unexpected}
use Rattle.bl_tokens.specs.declared.faults.TextFault.TheVariants as faults
use Rattle.bl_tokens.specs.declared.tokens.Keyword.{Keyword}
use Rattle.bl_tokens.specs.declared.tokens.Keyword.TheVariants as keywords
use Rattle.bl_tokens.specs.declared.tokens.Token.{Token}
use Rattle.bl_tokens.specs.declared.tokens.Token.TheVariants.{Name, Constant, BadDate, End}
use Rattle.bl_tokens.specs.declared.tokens.Cursor.{Cursor}
use Rattle.bl_tokens.specs.Tokens.{token_from, cursor_after, is_word}
use Rattle.bl_text.specs.Pieces.{◌>>=◌}
use Rattle.bl_text.specs.Grammar.{formula, is_continued_by, Is}
use Rattle.bl_text.specs.FirstFaults.{HasFirstFault}

-- the place of the first token. A formula may have 512 nodes
abbrev pub beginning : List ℕ → Cursor
beginning text = token_from text 0 MOST_FORMULA_NODES

abbrev pub is_end : Token → Bool
is_end End = true
is_end _ = false

-- two faults are one and the same, or memory was refused
abbrev pub AreOneFault : TextFault → TextFault → Type 0
AreOneFault e f = (e ≡ faults.NoMemory) ⊎ ((f ≡ faults.NoMemory) ⊎ (e ≡ f))

-- the whole text is one of the formula
pub data IsFormulaText (text : List ℕ) (f : FormulaView) : Type 0 where
  whole : (there : Cursor) → Is text false formula [] 0 (beginning text) there f
      → is_end there.token ≡ true → IsFormulaText text f

-- the text is none of a formula, and this is its first fault
pub data FormulaFault (text : List ℕ) : TextFault → Type 0 where
  in_formula : (e : TextFault) → HasFirstFault text false formula [] 0 (beginning text) e
      → FormulaFault text e
  behind_formula : (there : Cursor) (f : FormulaView)
      → Is text false formula [] 0 (beginning text) there f
      → is_continued_by formula there.token ≡ false → is_end there.token ≡ false
      → FormulaFault text (Unexpected there.at)

-- ---- statements

-- what stands after the word, where it is there
unfoldable pub expect_word : List ℕ → Keyword → Cursor → Result Cursor TextFault
expect_word text word here = if is_word word here.token then Ok (cursor_after text here) else Err (Unexpected here.at)

abbrev token_time : ℕ → Token → Result TimePoint TextFault
token_time at (Constant (Time point)) = Ok point
token_time at BadDate = Err (faults.BadDate at)
token_time at _ = Err (Unexpected at)

-- a time as a constant
unfoldable pub time_constant : Cursor → Result TimePoint TextFault
time_constant here = token_time here.at here.token

abbrev token_name : ℕ → Token → Result (List ℕ) TextFault
token_name at (Name name) = Ok name
token_name at _ = Err (Unexpected at)

unfoldable pub principal_name : Cursor → Result (List ℕ) TextFault
principal_name here = token_name here.at here.token

-- a principal and `says` at that place, and what follows
unfoldable pub opening : List ℕ → Cursor → Result (List ℕ × Cursor) TextFault
opening text here = do
  who ← principal_name here
  there ← expect_word text keywords.Says (cursor_after text here)
  Ok (who, there)

unfoldable pub at_end : Cursor → Result (Unit {0}) TextFault
at_end here = if is_end here.token then Ok tt else Err (Unexpected here.at)

-- `from` and `to` with their times, and nothing after them
unfoldable pub span : List ℕ → Cursor → Result (TimePoint × TimePoint) TextFault
span text here = do
  first ← expect_word text keywords.From here
  from ← time_constant first
  second ← expect_word text keywords.To (cursor_after text first)
  to ← time_constant second
  _ ← at_end (cursor_after text second)
  Ok (from, to)

-- the whole text is one of what is said
pub data IsSayingText (text : List ℕ) : StatementView → Type 0 where
  whole_saying : (who : List ℕ) (here there : Cursor) (f : FormulaView) (from to : TimePoint)
      → opening text (beginning text) ≡ Ok (who, here) → Is text true formula [] 0 here there f
      → span text there ≡ Ok (from, to) → IsSayingText text (statement_view who f from to)

-- the whole text is one of the statement
pub record IsStatementText (text : List ℕ) (s : StatementView) : Type 0 where
  pub is_text : IsSayingText text s
  pub is_statement : IsStatement s

-- the text is none of a statement, and this is its first fault
pub data StatementFault (text : List ℕ) : TextFault → Type 0 where
  in_opening : (e : TextFault) → opening text (beginning text) ≡ Err e → StatementFault text e
  in_body : (who : List ℕ) (here : Cursor) (e : TextFault)
      → opening text (beginning text) ≡ Ok (who, here) → HasFirstFault text true formula [] 0 here e
      → StatementFault text e
  in_span : (who : List ℕ) (here there : Cursor) (f : FormulaView) (e : TextFault)
      → opening text (beginning text) ≡ Ok (who, here) → Is text true formula [] 0 here there f
      → is_continued_by formula there.token ≡ false → span text there ≡ Err e
      → StatementFault text e
