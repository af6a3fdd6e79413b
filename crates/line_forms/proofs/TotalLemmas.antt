-- Each line asks for a command or has a first fault.
use Rattle.std.proofs.Common.{◌≡◌, ◌≢◌, ℕ, true, List, [], length, Result, Ok, Err, ◌⊎◌, inl, inr, refl}
use Rattle.std.specs.Prelude.{unwrap_or}
use Rattle.bl_tokens.specs.declared.faults.TextFault.{TextFault}
use Rattle.bl_tokens.specs.declared.faults.TextFault.TheVariants as texts
use Rattle.std.proofs.lemmas.Bool.{cases_Bool}
use Rattle.bl_text.proofs.TotalLemmas.{statement_or_its_fault}
use Rattle.proof_text.proofs.TotalLemmas.{proof_or_its_fault}
use Rattle.line_words.specs.Kinds.{blank}
use Rattle.line_words.specs.declared.arguments.Arguments.{Arguments}
use Rattle.line_words.proofs.TotalLemmas.{words_or_bad_word}
use Rattle.line_forms.specs.declared.asked.Line.{Line}
use Rattle.line_forms.specs.declared.asked.Line.TheVariants as lines
use Rattle.line_forms.specs.declared.mode.Mode.{Mode}
use Rattle.line_forms.specs.declared.mode.Mode.TheVariants.{Operator}
use Rattle.line_forms.specs.Said.{IsSaidIn}
use Rattle.line_forms.proofs.SaidLemmas.{said_in_mode}
use Rattle.line_forms.specs.declared.command.Command.{Command}
use Rattle.line_forms.specs.declared.command.Command.TheVariants as commands
use Rattle.line_forms.specs.declared.forms.Form.{Form}
use Rattle.line_forms.specs.declared.forms.Form.TheVariants.{At, As, Login, Register, Withdraw, Procap, Checkpoint, Verify, Check, Do, Statement, Goal}
use Rattle.line_forms.specs.declared.fault.LineFault.{LineFault}
use Rattle.line_forms.specs.declared.fault.LineFault.TheVariants.{BadWord, BadCount, BadText}
use Rattle.line_forms.specs.Heads.{Head, head_in, is_counted, text_of}
use Rattle.line_forms.specs.Lines.{IsAsked, HasTextFault, kinds_said, HasWords, IsLineIn, IsLineFaultIn, of_head, of_count, of_word, of_text, IsLine, IsLineFault}
use Rattle.line_forms.specs.Making.{op_of, written_goal}

-- the line asks for something, or has a fault
abbrev IsToldOf : Mode → List ℕ → Type 0
IsToldOf mode line = ((asked : Line) × IsLineIn mode line asked) ⊎ ((fault : LineFault) × IsLineFaultIn mode line fault)

by_text : (mode : Mode) (line : List ℕ) (form : Form) (a : Arguments) (rest : List ℕ) → HasWords mode line form a rest → ((asked : Line) × IsAsked form a (text_of rest) asked) ⊎ ((fault : TextFault) × HasTextFault form (text_of rest) fault × (fault ≢ texts.NoMemory)) → IsToldOf mode line
by_text mode line form a rest h (inl one) = inl (one.0, record { form = form; arguments = a; rest = rest; has_words = h; asked = one.1 })
by_text mode line form a rest h (inr bad) = inr (BadText bad.0, of_text form a rest bad.0 h bad.1 bad.2)

-- the text of a form is one that it asks for, or has a fault
abbrev IsTextTold : Form → Arguments → List ℕ → Type 0
IsTextTold form a text = ((asked : Line) × IsAsked form a text asked) ⊎ ((fault : TextFault) × HasTextFault form text fault × (fault ≢ texts.NoMemory))

told_text : (form : Form) (a : Arguments) (text : List ℕ) → IsTextTold form a text
told_text At a text = inl (lines.Command (commands.At a.second), refl)
told_text As a text = inl (lines.Command (commands.As a.who), refl)
told_text Login a text = inl (lines.Login a.who (unwrap_or a.signature []), refl)
told_text Register a text = elim (statement_or_its_fault text) [
  | inl one ↦ inl (lines.Command (commands.Register a.signature one.0), (one.0, one.1, refl))
  | inr bad ↦ inr (bad.0, bad.1, bad.2)
]
told_text Withdraw a text = inl (lines.Command (commands.Withdraw a.number a.signature), refl)
told_text Procap a text = inl (lines.Command (commands.Procap a.issue), refl)
told_text Checkpoint a text = inl (lines.Command commands.Checkpoint, refl)
told_text Verify a text = elim (proof_or_its_fault text) [
  | inl one ↦ inl (lines.Command (commands.Verify (written_goal a) a.cited one.0), (one.0, one.1, refl))
  | inr bad ↦ inr (bad.0, bad.1, bad.2)
]
told_text Check a text = elim (proof_or_its_fault text) [
  | inl one ↦ inl (lines.Command (commands.Check (written_goal a) a.cited one.0), (one.0, one.1, refl))
  | inr bad ↦ inr (bad.0, bad.1, bad.2)
]
told_text (Do operation) a text = inl (lines.Command (commands.Do (op_of operation a) a.procaps), refl)
told_text Statement a text = elim (statement_or_its_fault text) [
  | inl one ↦ inl (lines.Statement one.0, (one.0, one.1, refl))
  | inr bad ↦ inr (bad.0, bad.1, bad.2)
]
told_text Goal a text = elim (proof_or_its_fault text) [
  | inl one ↦ inl (lines.Goal (written_goal a) one.0, (one.0, one.1, refl))
  | inr bad ↦ inr (bad.0, bad.1, bad.2)
]

by_words : (mode : Mode) (line : List ℕ) (form : Form) (behind : List ℕ) → head_in mode line ≡ Ok (form, behind) → is_counted form behind ≡ true → IsToldOf mode line
by_words mode line form behind head counted = elim (words_or_bad_word (length line) (kinds_said mode form) behind blank) [
  | inl words ↦ by_text mode line form words.0 words.1 (record { behind = behind; head_is = head; counted = counted; words = words.2 }) (told_text form words.0 (text_of words.1))
  | inr bad ↦ inr (BadWord bad.0, of_word form behind bad.0 head counted bad.1)
]

by_count : (mode : Mode) (line : List ℕ) (form : Form) (behind : List ℕ) → head_in mode line ≡ Ok (form, behind) → IsToldOf mode line
by_count mode line form behind head = elim (cases_Bool (is_counted form behind)) [
  | inl counted ↦ by_words mode line form behind head counted
  | inr wrong ↦ inr (BadCount, of_count form behind head wrong)
]

by_head : (mode : Mode) (line : List ℕ) (r : Result Head LineFault) → head_in mode line ≡ r → IsToldOf mode line
by_head mode line (Ok head) is = by_count mode line head.0 head.1 is
by_head mode line (Err fault) is = inr (fault, of_head fault is)

-- in each mode
pub line_or_a_fault : (mode : Mode) (line : List ℕ) → IsToldOf mode line
line_or_a_fault mode line = by_head mode line (head_in mode line) refl

-- in a script a line asks for a command
by_line : (line : List ℕ) (asked : Line) → IsLineIn Operator line asked → IsSaidIn Operator asked → ((command : Command) × IsLine line command) ⊎ ((fault : LineFault) × IsLineFault line fault)
by_line line (lines.Command command) is said = inl (command, is)
by_line line (lines.Login who signature) is said = absurd said
by_line line (lines.Statement statement) is said = absurd said
by_line line (lines.Goal goal proof) is said = absurd said

pub command_or_a_fault : (line : List ℕ) → ((command : Command) × IsLine line command) ⊎ ((fault : LineFault) × IsLineFault line fault)
command_or_a_fault line = elim (line_or_a_fault Operator line) [
  | inl one ↦ by_line line one.0 one.1 (said_in_mode one.1)
  | inr bad ↦ inr bad
]
