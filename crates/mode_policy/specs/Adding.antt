-- What becomes of a table where an entry is to be added to it (this project's own).
use Rattle.std.specs.Prelude.{◌≡◌, Result, Ok, Err}
use Rattle.mode_policy.specs.declared.fault.LineFault.{LineFault}
use Rattle.mode_policy.specs.declared.fault.LineFault.TheVariants.{Bad, Twice, NoMemory}
use Rattle.mode_policy.specs.declared.entry.Entry.{Entry}
use Rattle.mode_policy.specs.Table.{TableView, IsOfKnown, IsRepeated, with_entry}

-- the entry is added; it speaks of nobody whom the table has; the table has it; or there was no
-- memory
abbrev pub AddsEntry : TableView → Entry → Result (Unit {0}) LineFault → TableView → Type 0
AddsEntry t e (Ok u) after = IsOfKnown t e × (IsRepeated t e → ⊥) × (after ≡ with_entry t e)
AddsEntry t e (Err Bad) after = IsOfKnown t e → ⊥
AddsEntry t e (Err Twice) after = IsOfKnown t e × IsRepeated t e
AddsEntry t e (Err NoMemory) after = Unit {0}
