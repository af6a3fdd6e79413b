-- What a reading of a part of a text gives: the part is a text of the value, the place after it
-- lies within the text, no sign there goes on with the part, and no more nodes are left than
-- before.
use Rattle.std.specs.Prelude.{◌≡◌, ◌≤◌, ◌+◌, ℕ, List, length, Bool, false, Ok, Err}
use Rattle.bl_syntax.specs.declared.terms.Term.{Term}
use Rattle.bl_syntax.specs.Formula.{FormulaView, on}
use Rattle.bl_tokens.specs.declared.faults.TextFault.{TextFault}
use Rattle.bl_tokens.specs.declared.faults.TextFault.TheVariants.{NoMemory}
use Rattle.bl_text.specs.Pieces.{interval}
use Rattle.bl_tokens.specs.declared.tokens.Cursor.{Cursor}
use Rattle.bl_tokens.specs.declared.tokens.Sign.TheVariants as signs
use Rattle.bl_tokens.specs.Tokens.{is_sign}
use Rattle.bl_text.specs.Scope.{Variable}
use Rattle.bl_text.specs.Grammar.{Level, is_continued_by, AreArguments, IsCall, Is}

pub record ReadsFormula (text : List ℕ) (in_statement : Bool) (level : Level)
    (scope : List Variable) (depth : ℕ) (here there : Cursor) (f : FormulaView) : Type 0 where
  pub is_text : Is text in_statement level scope depth here there f
  pub ended : is_continued_by level there.token ≡ false
  pub left : there.left + 1 ≤ here.left
  pub within : there.end ≤ length text

pub record ReadsArguments (text : List ℕ) (in_statement : Bool) (scope : List Variable)
    (is_atom : Bool) (here there : Cursor) (terms : List Term) : Type 0 where
  pub are_arguments : AreArguments text in_statement scope is_atom here there terms
  pub ended : is_sign signs.Comma there.token ≡ false
  pub left : there.left + 1 ≤ here.left
  pub within : there.end ≤ length text

pub record ReadsCall (text : List ℕ) (in_statement : Bool) (scope : List Variable) (here there : Cursor) (f : FormulaView) : Type 0 where
  pub is_call : IsCall text in_statement scope here there f
  pub left : there.left + 1 ≤ here.left
  pub within : there.end ≤ length text

-- the first formula was put on the interval at that place, which gave the second
pub record PutsOn (text : List ℕ) (in_statement : Bool) (scope : List Variable) (here there : Cursor) (a f : FormulaView) : Type 0 where
  pub from : Term
  pub to : Term
  pub interval_is : interval text in_statement scope here ≡ Ok (from, to, there)
  pub value : f ≡ on a from to
  pub left : there.left + 1 ≤ here.left
  pub within : there.end ≤ length text

-- the interval at that place stops
pub data IntervalHasFirstFault (text : List ℕ) (in_statement : Bool) (scope : List Variable) (here : Cursor) : TextFault → Type 0 where
  no_memory_for_interval : IntervalHasFirstFault text in_statement scope here NoMemory
  interval_stops : (e : TextFault) → interval text in_statement scope here ≡ Err e →
      IntervalHasFirstFault text in_statement scope here e
