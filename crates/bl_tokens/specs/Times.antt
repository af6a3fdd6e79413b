-- The text of a point in time (this project's own).
use Rattle.std.specs.Prelude.{ℕ, List, Result, Ok, Err}
use Rattle.bl_syntax.specs.declared.terms.Term.TheVariants.{Time}
use Rattle.bl_syntax.specs.declared.terms.TimePoint.{TimePoint}
use Rattle.bl_tokens.specs.declared.faults.TextFault.{TextFault}
use Rattle.bl_tokens.specs.declared.faults.TextFault.TheVariants.{Unexpected}
use Rattle.bl_tokens.specs.declared.faults.TextFault.TheVariants as faults
use Rattle.bl_tokens.specs.declared.tokens.Token.{Token}
use Rattle.bl_tokens.specs.declared.tokens.Token.TheVariants.{Constant, End}
use Rattle.bl_tokens.specs.declared.tokens.Token.TheVariants as tokens
use Rattle.bl_tokens.specs.declared.tokens.Cursor.{Cursor}
use Rattle.bl_tokens.specs.Tokens.{token_from}

-- the token at that place is a time
abbrev pub time_at : ℕ → Token → Result TimePoint TextFault
time_at at (Constant (Time point)) = Ok point
time_at at tokens.BadDate = Err (faults.BadDate at)
time_at at _ = Err (Unexpected at)

-- nothing stands after it
abbrev pub at_end : ℕ → Token → TimePoint → Result TimePoint TextFault
at_end at End point = Ok point
at_end at _ point = Err (Unexpected at)

-- what was read up to there, if nothing stands after it
abbrev pub up_to_end : List ℕ → ℕ → Result TimePoint TextFault → Result TimePoint TextFault
up_to_end text end (Ok point) = at_end (token_from text end 0).at (token_from text end 0).token point
up_to_end text end (Err fault) = Err fault

abbrev pub from_first : List ℕ → Cursor → Result TimePoint TextFault
from_first text first = up_to_end text first.end (time_at first.at first.token)

-- what the text says: one time token, and nothing after it but spaces
abbrev pub time_reading : List ℕ → Result TimePoint TextFault
time_reading text = from_first text (token_from text 0 0)
