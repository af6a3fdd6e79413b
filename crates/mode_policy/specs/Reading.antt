-- What reading a table of modes answers (this project's own).
use Rattle.std.specs.Prelude.{◌≡◌, ℕ, List, Result, Ok, Err}
use Rattle.line_text.specs.Lines.{lines_of}
use Rattle.mode_policy.specs.declared.fault.LineFault.{LineFault}
use Rattle.mode_policy.specs.declared.fault.LineFault.TheVariants as lines
use Rattle.mode_policy.specs.declared.fault.ModeFault.{ModeFault}
use Rattle.mode_policy.specs.declared.fault.ModeFault.TheVariants.{BadLine, Twice, TooMany, NoMemory}
use Rattle.mode_policy.specs.Lines.{Adds, IsBad, IsTwice, IsFirst, AreOfTable}
use Rattle.mode_policy.specs.declared.entry.Entry.{Entry}
use Rattle.mode_policy.specs.Table.{TableView, with_entry}

-- what becomes of a table where a line is to be added to it
abbrev pub AddsLine : TableView → List ℕ → Result (Unit {0}) LineFault → TableView → Type 0
AddsLine t line (Ok u) after = (e : Entry) × Adds t line e × (after ≡ with_entry t e)
AddsLine t line (Err lines.Bad) after = IsBad t line
AddsLine t line (Err lines.Twice) after = IsTwice t line
AddsLine t line (Err lines.NoMemory) after = Unit {0}

-- the fault of the line of that number
abbrev pub fault_at : ℕ → LineFault → ModeFault
fault_at number lines.Bad = BadLine number
fault_at number lines.Twice = Twice number
fault_at number lines.NoMemory = NoMemory

-- why the lines are those of no table
abbrev pub IsFaultOf : List (List ℕ) → ModeFault → Type 0
IsFaultOf lines (BadLine number) = IsFirst IsBad lines number
IsFaultOf lines (Twice number) = IsFirst IsTwice lines number
IsFaultOf lines TooMany = ⊥
IsFaultOf lines NoMemory = Unit {0}

-- what a reading of the text answers
abbrev pub ReadsTable : List ℕ → Result TableView ModeFault → Type 0
ReadsTable text (Ok t) = AreOfTable (lines_of text) t
ReadsTable text (Err fault) = IsFaultOf (lines_of text) fault
