-- What stands after the name in a statement.
use Rattle.std.specs.Prelude.{ℕ, List, Ok, Err, if◌then◌else◌}
use Rattle.bl_syntax.specs.declared.codec_fault.CodecFault.TheVariants.{NotCanonical}
use Rattle.bl_syntax.specs.Statement.{StatementView, statement_view}
use Rattle.bl_syntax.specs.Reading.{◌>>=◌, Reading, time_at}
use Rattle.bl_syntax.specs.FormulaReading.{whole_formula_at, is_sayable}

-- the formula and the interval of what that principal says, in a statement that begins at start
unfoldable pub body_at : ℕ → ℕ → List ℕ → List ℕ → Reading StatementView
body_at input start who bytes = do
  body ← whole_formula_at input bytes
  from ← time_at input body.1
  to ← time_at input from.1
  if is_sayable body.0 then Ok (statement_view who body.0 from.0 to.0, to.1) else Err (NotCanonical start)
