-- The lines that are written of a table of modes, each with its end (this project's own).
use Rattle.std.specs.Prelude.{ℕ, List, ◌++◌, codes}
use Rattle.std.specs.Fmt.{decimal}
use Rattle.std.specs.List.{flat_map}
use Rattle.bl_syntax.specs.Statement.{StatementView}
use Rattle.bl_text.specs.Printed.{statement_text}
use Rattle.mode_policy.specs.declared.fault.ModeFault.{ModeFault}
use Rattle.mode_policy.specs.declared.fault.ModeFault.TheVariants.{BadLine, Twice, TooMany, NoMemory}

-- the line that registers the statement, which the server has to sign
abbrev pub register_line : StatementView → List ℕ
register_line s = codes "register - " ++ (statement_text s ++ codes "\n")

-- a line for each statement
abbrev pub register_lines : List StatementView → List ℕ
register_lines statements = flat_map register_line statements

-- the line of a fault
abbrev pub fault_line : ModeFault → List ℕ
fault_line (BadLine number) = codes "line " ++ (decimal number ++ codes " mode 1\n")
fault_line (Twice number) = codes "line " ++ (decimal number ++ codes " mode 2\n")
fault_line TooMany = codes "mode 3\n"
fault_line NoMemory = codes "nomemory\n"
