-- The fault of a line is not that memory ran out.
use Rattle.std.proofs.Common.{◌≡◌, ◌≢◌, ℕ, Bool, true, false, cond, List, [], ◌∷◌, length, Option, Some, None, Result, Ok, Err, subst}
use Rattle.std.specs.Prelude.{codes}
use Rattle.std.specs.Str.{bytes_eq}
use Rattle.bl_tokens.specs.declared.faults.TextFault.TheVariants as texts
use Rattle.line_words.specs.Cutting.{first_cut}
use Rattle.line_forms.specs.declared.fault.LineFault.{LineFault}
use Rattle.line_forms.specs.declared.fault.LineFault.TheVariants.{BadWord, BadCount, BadText, NoMemory}
use Rattle.line_forms.specs.declared.forms.Form.{Form}
use Rattle.line_forms.specs.declared.forms.Operation.{Operation}
use Rattle.line_forms.specs.declared.mode.Mode.{Mode}
use Rattle.line_forms.specs.declared.mode.Mode.TheVariants.{Operator, Guest, User, Inquiry}
use Rattle.line_forms.specs.Forms.{form_named, operation_named}
use Rattle.line_forms.specs.Heads.{Head, by_form, by_operation, operation_head, do_head, head_in}
use Rattle.line_forms.specs.Lines.{IsLineFaultIn, of_head, of_count, of_word, of_text}
use Rattle.line_forms.specs.Modes.{known}

-- a fault of words, or a fault of a text
abbrev pub IsReported : LineFault → Type 0
IsReported (BadWord place) = Unit {0}
IsReported BadCount = Unit {0}
IsReported (BadText fault) = fault ≢ texts.NoMemory
IsReported NoMemory = ⊥

abbrev MayFail : Result Head LineFault → Type 0
MayFail (Ok head) = Unit {0}
MayFail (Err fault) = IsReported fault

either : (b : Bool) (x y : Result Head LineFault) → MayFail x → MayFail y → MayFail (cond b x y)
either true x y first second = first
either false x y first second = second

by_form_fails : (behind : List ℕ) (form : Option Form) → MayFail (by_form behind form)
by_form_fails behind None = tt
by_form_fails behind (Some form) = tt

by_operation_fails : (whole : ℕ) (line : List ℕ) (operation : Option Operation) → MayFail (by_operation whole line operation)
by_operation_fails whole line None = tt
by_operation_fails whole line (Some operation) = tt

operation_fails : (whole : ℕ) (behind : List ℕ) → MayFail (operation_head whole behind)
operation_fails whole [] = tt
operation_fails whole (space ∷ line) = by_operation_fails whole line (operation_named (first_cut line).word)

do_fails : (mode : Mode) (whole : ℕ) (behind : List ℕ) → MayFail (do_head mode whole behind)
do_fails Operator whole behind = operation_fails whole behind
do_fails Guest whole behind = operation_fails whole behind
do_fails (User who) whole behind = operation_fails whole behind
do_fails Inquiry whole behind = tt

head_fails : (mode : Mode) (line : List ℕ) (head : Result Head LineFault) → head_in mode line ≡ head → MayFail head
head_fails mode line head is =
    subst MayFail is
    (either (bytes_eq (first_cut line).word (codes "do")) _ _ (do_fails mode (length line) (first_cut line).behind) (by_form_fails (first_cut line).behind (known mode (form_named (first_cut line).word))))

pub reported : {mode : Mode} {line : List ℕ} {fault : LineFault} → IsLineFaultIn mode line fault → IsReported fault
reported {mode} {line} (of_head fault head) = head_fails mode line (Err fault) head
reported {mode} {line} (of_count form behind head wrong) = tt
reported {mode} {line} (of_word form behind place head counted bad) = tt
reported {mode} {line} (of_text form arguments rest fault words bad some) = some
