-- What a line asks for, and its first fault (this project's own).
use Rattle.std.specs.Prelude.{◌≡◌, ◌≢◌, ℕ, List, [], length, false, IsTrue, unwrap_or, Ok, Err}
use Rattle.bl_syntax.specs.Statement.{StatementView}
use Rattle.bl_tokens.specs.declared.faults.TextFault.{TextFault}
use Rattle.bl_tokens.specs.declared.faults.TextFault.TheVariants as texts
use Rattle.bl_text.specs.Texts.{IsStatementText, StatementFault}
use Rattle.proof_term.specs.Proof.{ProofView}
use Rattle.proof_text.specs.Texts.{IsProofText, ProofTextFault}
use Rattle.line_words.specs.Kinds.{blank, kinds_in}
use Rattle.line_words.specs.declared.kinds.WordKind.{WordKind}
use Rattle.line_words.specs.Reading.{AreWords, IsBadWord}
use Rattle.line_words.specs.declared.arguments.Arguments.{Arguments}
use Rattle.line_forms.specs.declared.asked.Line.{Line}
use Rattle.line_forms.specs.declared.asked.Line.TheVariants as lines
use Rattle.line_forms.specs.declared.mode.Mode.{Mode}
use Rattle.line_forms.specs.declared.mode.Mode.TheVariants.{Operator}
use Rattle.line_forms.specs.declared.command.Command.{Command}
use Rattle.line_forms.specs.declared.command.Command.TheVariants as commands
use Rattle.line_forms.specs.declared.forms.Form.{Form}
use Rattle.line_forms.specs.declared.forms.Form.TheVariants.{At, As, Login, Register, Withdraw, Procap, Checkpoint, Verify, Check, Do, Statement, Goal}
use Rattle.line_forms.specs.declared.fault.LineFault.{LineFault}
use Rattle.line_forms.specs.declared.fault.LineFault.TheVariants.{BadWord, BadCount, BadText, NoMemory}
use Rattle.line_forms.specs.Forms.{kinds_of}
use Rattle.line_forms.specs.Heads.{head_in, is_counted, text_of}
use Rattle.line_forms.specs.Modes.{is_session}
use Rattle.line_forms.specs.Making.{op_of, written_goal}

-- a line of the form with these arguments and this text asks for this
abbrev pub IsAsked : Form → Arguments → List ℕ → Line → Type 0
IsAsked At a text asked = asked ≡ lines.Command (commands.At a.second)
IsAsked As a text asked = asked ≡ lines.Command (commands.As a.who)
IsAsked Login a text asked = asked ≡ lines.Login a.who (unwrap_or a.signature [])
IsAsked Register a text asked = (statement : StatementView) × IsStatementText text statement ×
    (asked ≡ lines.Command (commands.Register a.signature statement))
IsAsked Withdraw a text asked = asked ≡ lines.Command (commands.Withdraw a.number a.signature)
IsAsked Procap a text asked = asked ≡ lines.Command (commands.Procap a.issue)
IsAsked Checkpoint a text asked = asked ≡ lines.Command commands.Checkpoint
IsAsked Verify a text asked = (proof : ProofView) × IsProofText text proof ×
    (asked ≡ lines.Command (commands.Verify (written_goal a) a.cited proof))
IsAsked Check a text asked = (proof : ProofView) × IsProofText text proof ×
    (asked ≡ lines.Command (commands.Check (written_goal a) a.cited proof))
IsAsked (Do operation) a text asked = asked ≡ lines.Command (commands.Do (op_of operation a) a.procaps)
IsAsked Statement a text asked = (statement : StatementView) × IsStatementText text statement ×
    (asked ≡ lines.Statement statement)
IsAsked Goal a text asked = (proof : ProofView) × IsProofText text proof ×
    (asked ≡ lines.Goal (written_goal a) proof)

-- the text, which is none of what a line of the form has there, has this first fault
abbrev pub HasTextFault : Form → List ℕ → TextFault → Type 0
HasTextFault At text fault = ⊥
HasTextFault As text fault = ⊥
HasTextFault Login text fault = ⊥
HasTextFault Register text fault = StatementFault text fault
HasTextFault Withdraw text fault = ⊥
HasTextFault Procap text fault = ⊥
HasTextFault Checkpoint text fault = ⊥
HasTextFault Verify text fault = ProofTextFault text fault
HasTextFault Check text fault = ProofTextFault text fault
HasTextFault (Do operation) text fault = ⊥
HasTextFault Statement text fault = StatementFault text fault
HasTextFault Goal text fault = ProofTextFault text fault

-- the kinds of the words of a line of the form in this mode
abbrev pub kinds_said : Mode → Form → List WordKind
kinds_said mode form = kinds_in (is_session mode) (kinds_of form)

-- the line is of that form, and its words, of which there are as many as the form has, write these
-- arguments; then comes the rest
pub record HasWords (mode : Mode) (line : List ℕ) (form : Form) (arguments : Arguments) (rest : List ℕ) : Type 0 where
  pub behind : List ℕ
  pub head_is : head_in mode line ≡ Ok (form, behind)
  pub counted : IsTrue (is_counted form behind)
  pub words : AreWords (kinds_said mode form) behind blank arguments rest

-- the line asks for this in the mode
pub record IsLineIn (mode : Mode) (line : List ℕ) (asked_for : Line) : Type 0 where
  pub form : Form
  pub arguments : Arguments
  pub rest : List ℕ
  pub has_words : HasWords mode line form arguments rest
  pub asked : IsAsked form arguments (text_of rest) asked_for

-- the first fault of the line in the mode: the form is unknown, the number of words is wrong, a
-- word is not of its kind, or the text is faulty
pub data IsLineFaultIn (mode : Mode) (line : List ℕ) : LineFault → Type 0 where
  of_head : (fault : LineFault) → head_in mode line ≡ Err fault → IsLineFaultIn mode line fault
  of_count : (form : Form) (behind : List ℕ) → head_in mode line ≡ Ok (form, behind) →
      is_counted form behind ≡ false → IsLineFaultIn mode line BadCount
  of_word : (form : Form) (behind : List ℕ) (place : ℕ) → head_in mode line ≡ Ok (form, behind) →
      IsTrue (is_counted form behind) →
      IsBadWord (length line) (kinds_said mode form) behind place →
      IsLineFaultIn mode line (BadWord place)
  of_text : (form : Form) (arguments : Arguments) (rest : List ℕ) (fault : TextFault) →
      HasWords mode line form arguments rest →
      HasTextFault form (text_of rest) fault → fault ≢ texts.NoMemory →
      IsLineFaultIn mode line (BadText fault)

-- the line has this fault in the mode, or there was no memory to read it
abbrev pub IsUnreadIn : Mode → List ℕ → LineFault → Type 0
IsUnreadIn mode line (BadWord place) = IsLineFaultIn mode line (BadWord place)
IsUnreadIn mode line BadCount = IsLineFaultIn mode line BadCount
IsUnreadIn mode line (BadText fault) = IsLineFaultIn mode line (BadText fault)
IsUnreadIn mode line NoMemory = Unit {0}

-- the text has this fault, or there was no memory to read it
abbrev pub IsTextUnread : Form → List ℕ → LineFault → Type 0
IsTextUnread form text (BadWord place) = ⊥
IsTextUnread form text BadCount = ⊥
IsTextUnread form text (BadText fault) = HasTextFault form text fault × (fault ≢ texts.NoMemory)
IsTextUnread form text NoMemory = Unit {0}

-- ---- lines of scripts

-- the line of a script asks for the command
abbrev pub IsLine : List ℕ → Command → Type 0
IsLine line command = IsLineIn Operator line (lines.Command command)

-- the first fault of the line of a script
abbrev pub IsLineFault : List ℕ → LineFault → Type 0
IsLineFault line fault = IsLineFaultIn Operator line fault

-- the line of a script has this fault, or there was no memory to read it
abbrev pub IsUnread : List ℕ → LineFault → Type 0
IsUnread line fault = IsUnreadIn Operator line fault
