-- The parts of a proof's text that hold no proof themselves, each with its first fault (this
-- project's own). A part takes a token at a time, from the left. What token is read depends on the
-- place: a rule is
-- the longest run of letters, digits and `_` that begins with a letter, the number of a hypothesis
-- the longest run of digits; everything else is a token of formulas.
use Rattle.std.specs.Prelude.{ℕ, ◌+◌, ◌-◌, ◌^◌, List, [], ◌∷◌, length, drop, Bool, false, nat_le, ◌&&◌, ◌||◌, Option, Some, None, Result, Ok, Err, if◌then◌else◌}
use Rattle.std.specs.List.{prefix_len, take_while}
use Rattle.bl_syntax.specs.Names.{is_lower_case, is_upper_case}
use Rattle.bl_syntax.specs.declared.terms.Sort.TheVariants as sorts
use Rattle.bl_syntax.specs.declared.terms.Term.{Term}
use Rattle.bl_tokens.specs.declared.classes.Class.TheVariants as classes
use Rattle.bl_tokens.specs.declared.faults.TextFault.{TextFault}
use Rattle.bl_tokens.specs.declared.faults.TextFault.TheVariants.{Unexpected, UnknownName, TooLarge}
use Rattle.bl_tokens.specs.declared.tokens.Sign.{Sign}
use Rattle.bl_tokens.specs.declared.tokens.Cursor.{Cursor}
use Rattle.bl_tokens.specs.Classes.{is_in}
use Rattle.bl_tokens.specs.Numerals.{numeral_below}
use Rattle.bl_tokens.specs.Tokens.{token_from, is_sign}
use Rattle.bl_text.specs.Pieces.{◌>>=◌, term_of, require_sort}
use Rattle.proof_text.specs.declared.names.RuleName.{RuleName}
use Rattle.proof_text.specs.declared.cursor.ProofCursor.{ProofCursor}
use Rattle.proof_text.specs.Rules.{rule_named}

-- the place from a byte on, if so many rules are left
abbrev pub cursor_at : ℕ → ℕ → ProofCursor
cursor_at from left = record { from = from; left = left }

-- the first byte that is no space
abbrev pub first_byte : List ℕ → ProofCursor → ℕ
first_byte text here = here.from + prefix_len (is_in classes.Space) (drop here.from text)

-- the token of formulas at that place
abbrev pub token_at : List ℕ → ProofCursor → Cursor
token_at text here = token_from text here.from here.left

abbrev pub cursor_after_token : Cursor → ProofCursor
cursor_after_token token = cursor_at token.end token.left

-- what stands after the sign, if it is there
unfoldable pub cursor_after_sign : List ℕ → Sign → ProofCursor → Result ProofCursor TextFault
cursor_after_sign text sign here = if is_sign sign (token_at text here).token
    then Ok (cursor_after_token (token_at text here)) else Err (Unexpected (token_at text here).at)

-- ---- terms and hypotheses

-- the term at that place, and what follows it. There are no binders, and so no variables
unfoldable pub term_at : List ℕ → ProofCursor → Result (Term × ProofCursor) TextFault
term_at text here = do
  t ← term_of [] (token_at text here)
  Ok (t, cursor_after_token (token_at text here))

-- the time at that place, and what follows it
unfoldable pub time_at : List ℕ → ProofCursor → Result (Term × ProofCursor) TextFault
time_at text here = do
  t ← term_of [] (token_at text here)
  _ ← require_sort [] sorts.Time (token_at text here).at t
  Ok (t, cursor_after_token (token_at text here))

abbrev pub hypothesis_reading : ℕ → ℕ → ℕ → Option ℕ → Result (ℕ × ProofCursor) TextFault
hypothesis_reading at size left None = Err (Unexpected at)
hypothesis_reading at size left (Some number) = Ok (number, cursor_at (at + size) left)

abbrev pub hypothesis_in : ℕ → ℕ → List ℕ → Result (ℕ × ProofCursor) TextFault
hypothesis_in at left digits = hypothesis_reading at (length digits) left (numeral_below (2 ^ 16) digits)

-- the number of a hypothesis at that place, below 65,536 and without leading zeros, and what
-- follows it
unfoldable pub hypothesis_at : List ℕ → ProofCursor → Result (ℕ × ProofCursor) TextFault
hypothesis_at text here = hypothesis_in (first_byte text here) here.left (take_while (is_in classes.Digit) (drop (first_byte text here) text))

-- ---- rules

abbrev pub is_letter : ℕ → Bool
is_letter byte = is_lower_case byte || is_upper_case byte

abbrev pub rule_reading : ℕ → ℕ → ℕ → Option RuleName → Result (RuleName × ProofCursor) TextFault
rule_reading at size left None = Err (UnknownName at)
rule_reading at size left (Some name) = Ok (name, cursor_at (at + size) left)

abbrev pub rule_of_word : ℕ → ℕ → List ℕ → Result (RuleName × ProofCursor) TextFault
rule_of_word at left word = rule_reading at (length word) left (rule_named word)

-- whether a word begins there
abbrev pub is_word_start : List ℕ → Bool
is_word_start [] = false
is_word_start (first ∷ others) = is_letter first

abbrev pub rule_in : ℕ → ℕ → List ℕ → Result (RuleName × ProofCursor) TextFault
rule_in at left bytes = if is_word_start bytes then rule_of_word at left (take_while (is_in classes.Word) bytes) else Err (Unexpected at)

-- the rule at that place, and what follows its name
unfoldable pub rule_at : List ℕ → ProofCursor → Result (RuleName × ProofCursor) TextFault
rule_at text here = rule_in (first_byte text here) here.left (drop (first_byte text here) text)

-- takes a rule, if so many levels are left for it and what is above it
unfoldable pub room : List ℕ → ℕ → ProofCursor → Result (Unit {0}) TextFault
room text levels here = if nat_le 1 here.left && nat_le 1 levels then Ok tt else Err (TooLarge (first_byte text here))

-- one rule fewer is left
abbrev pub take_rule : ProofCursor → ProofCursor
take_rule here = cursor_at here.from (here.left - 1)
