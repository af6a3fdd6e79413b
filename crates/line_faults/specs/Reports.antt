-- The report of a line that is wrong (this project's own).
use Rattle.std.specs.Prelude.{ℕ, List, ◌++◌, codes}
use Rattle.std.specs.Fmt.{decimal}
use Rattle.bl_tokens.specs.declared.faults.TextFault.{TextFault}
use Rattle.bl_tokens.specs.declared.faults.TextFault.TheVariants as texts
use Rattle.line_forms.specs.declared.fault.LineFault.{LineFault}
use Rattle.line_forms.specs.declared.fault.LineFault.TheVariants.{BadWord, BadCount, BadText, NoMemory}

-- the number of a fault of a text, and its place there
abbrev pub text_fault_text : TextFault → List ℕ
text_fault_text (texts.Unexpected at) = codes "11 " ++ decimal at
text_fault_text (texts.UnknownName at) = codes "12 " ++ decimal at
text_fault_text (texts.BadDate at) = codes "13 " ++ decimal at
text_fault_text (texts.Sort at) = codes "14 " ++ decimal at
text_fault_text (texts.TooLarge at) = codes "15 " ++ decimal at
text_fault_text texts.NoMemory = codes "nomemory"

-- the number of a fault of a line, and its place
abbrev pub line_fault_text : LineFault → List ℕ
line_fault_text (BadWord place) = codes "1 " ++ decimal place
line_fault_text BadCount = codes "2 0"
line_fault_text (BadText fault) = text_fault_text fault
line_fault_text NoMemory = codes "nomemory"

-- the line that is wrong, and its fault
abbrev pub bad_line_text : ℕ → LineFault → List ℕ
bad_line_text number fault = codes "line " ++ (decimal number ++ (codes " bad " ++ line_fault_text fault))
