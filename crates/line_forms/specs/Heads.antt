-- The first words of a line, which name its form, and the number of the words after them (this
-- project's own).
use Rattle.std.specs.Prelude.{ℕ, ◌-◌, List, [], ◌∷◌, length, codes, Bool, true, false, Option, Some, None, Result, Ok, Err, if◌then◌else◌}
use Rattle.std.specs.Str.{bytes_eq}
use Rattle.line_words.specs.Cutting.{first_cut}
use Rattle.line_words.specs.Reading.{after_words}
use Rattle.line_forms.specs.declared.forms.Operation.{Operation}
use Rattle.line_forms.specs.declared.forms.Form.{Form}
use Rattle.line_forms.specs.declared.forms.Form.TheVariants.{Do}
use Rattle.line_forms.specs.declared.fault.LineFault.{LineFault}
use Rattle.line_forms.specs.declared.fault.LineFault.TheVariants.{BadWord, BadCount}
use Rattle.line_forms.specs.Forms.{form_named, operation_named, kinds_of, has_text}
use Rattle.line_forms.specs.Modes.{known}
use Rattle.line_forms.specs.declared.mode.Mode.{Mode}
use Rattle.line_forms.specs.declared.mode.Mode.TheVariants.{Operator, Guest, User, Inquiry}

-- a form, and what stands after the words that name it
abbrev pub Head : Type 0
Head = Form × List ℕ

-- the operation that this word names, in a line of that length of which the second word and all
-- after it are left
abbrev pub by_operation : ℕ → List ℕ → Option Operation → Result Head LineFault
by_operation whole line None = Err (BadWord (whole - length line))
by_operation whole line (Some operation) = Ok (Do operation, (first_cut line).behind)

-- the operation that the second word names
abbrev pub operation_head : ℕ → List ℕ → Result Head LineFault
operation_head whole [] = Err BadCount
operation_head whole (space ∷ line) = by_operation whole line (operation_named (first_cut line).word)

-- the form that the first word names, but for `do`
abbrev pub by_form : List ℕ → Option Form → Result Head LineFault
by_form behind None = Err (BadWord 0)
by_form behind (Some form) = Ok (form, behind)

-- the operation that the second word names, where operations are done
abbrev pub do_head : Mode → ℕ → List ℕ → Result Head LineFault
do_head Operator whole behind = operation_head whole behind
do_head Guest whole behind = operation_head whole behind
do_head (User who) whole behind = operation_head whole behind
do_head Inquiry whole behind = Err (BadWord 0)

-- the form that the first words of a line name in this mode
abbrev pub head_in : Mode → List ℕ → Result Head LineFault
head_in mode line =
    if bytes_eq (first_cut line).word (codes "do") then do_head mode (length line) (first_cut line).behind
    else by_form (first_cut line).behind (known mode (form_named (first_cut line).word))

-- whether this may stand after the words: a space and a text, or nothing
abbrev pub may_end : Bool → Option (List ℕ) → Bool
may_end text None = false
may_end true (Some []) = false
may_end true (Some (space ∷ others)) = true
may_end false (Some []) = true
may_end false (Some (space ∷ others)) = false

-- whether the number of words is right, of which these stand after the name of the form; a text
-- counts as one word
abbrev pub is_counted : Form → List ℕ → Bool
is_counted form behind = may_end (has_text form) (after_words (kinds_of form) behind)

-- the text after a space
abbrev pub text_of : List ℕ → List ℕ
text_of [] = []
text_of (space ∷ text) = text
