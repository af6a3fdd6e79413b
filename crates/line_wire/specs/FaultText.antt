-- The texts of faults of proofs and of lines: the number of the fault, and the node or the byte
-- that has it, from 0 (this project's own).
use Rattle.std.specs.Prelude.{ℕ, List, ◌++◌, codes}
use Rattle.std.specs.Fmt.{decimal}
use Rattle.bl_tokens.specs.declared.faults.TextFault.{TextFault}
use Rattle.bl_tokens.specs.declared.faults.TextFault.TheVariants as texts
use Rattle.proof_verifier.specs.declared.fault.CheckFault.{CheckFault}
use Rattle.proof_verifier.specs.declared.fault.CheckFault.TheVariants as faults
use Rattle.line_forms.specs.declared.fault.LineFault.{LineFault}
use Rattle.line_forms.specs.declared.fault.LineFault.TheVariants.{BadWord, BadCount, BadText, NoMemory}

-- the number of a fault and its place, after a word and a space
abbrev pub placed_text : List ℕ → ℕ → ℕ → List ℕ
placed_text word number place = word ++ (decimal number ++ (codes " " ++ decimal place))

-- out of memory is no fault of the proof
abbrev pub unproved_text : CheckFault → List ℕ
unproved_text (faults.NoHypothesis node) = placed_text (codes "unproved ") 1 node
unproved_text (faults.WrongShape node) = placed_text (codes "unproved ") 2 node
unproved_text (faults.NotEntailed node) = placed_text (codes "unproved ") 3 node
unproved_text (faults.NotInState node) = placed_text (codes "unproved ") 4 node
unproved_text (faults.ViewTooWeak node) = placed_text (codes "unproved ") 5 node
unproved_text (faults.BadTerm node) = placed_text (codes "unproved ") 6 node
unproved_text (faults.TooManyConditions node) = placed_text (codes "unproved ") 7 node
unproved_text faults.NoMemory = codes "nomemory"

-- out of memory is no fault of the text
abbrev pub bad_text_text : TextFault → List ℕ
bad_text_text (texts.Unexpected at) = placed_text (codes "bad 4 ") 1 at
bad_text_text (texts.UnknownName at) = placed_text (codes "bad 4 ") 2 at
bad_text_text (texts.BadDate at) = placed_text (codes "bad 4 ") 3 at
bad_text_text (texts.Sort at) = placed_text (codes "bad 4 ") 4 at
bad_text_text (texts.TooLarge at) = placed_text (codes "bad 4 ") 5 at
bad_text_text texts.NoMemory = codes "nomemory"

-- a bad word by its place, then a wrong number of words, then a bad text by its own fault; out of
-- memory is no fault of the line
abbrev pub fault_text : LineFault → List ℕ
fault_text (BadWord place) = codes "bad 1 " ++ decimal place
fault_text BadCount = codes "bad 2"
fault_text (BadText fault) = bad_text_text fault
fault_text NoMemory = codes "nomemory"
