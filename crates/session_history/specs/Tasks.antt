-- How a line of a session is to be answered: at once, in a turn, or as a proof (this project's
-- own). It is read in the mode of who is logged in; before a login every line that is in its
-- grammar is answered that nobody is, but a login.
use Rattle.std.specs.Prelude.{◌≡◌, ℕ, List, map, Option, Some, None, IsTrue}
use Rattle.bl_syntax.specs.Citable.{AreCitable}
use Rattle.bl_syntax.specs.Names.{is_principal_name}
use Rattle.procap.specs.declared.procap.Procap.{Procap as Sealed}
use Rattle.proof_term.specs.Limits.{HasTimesInRange}
use Rattle.access_history.specs.declared.request.StepRequest.TheVariants as steps
use Rattle.line_words.specs.declared.procap_word.ProcapWord.TheVariants as words
use Rattle.line_forms.specs.declared.asked.Line.{Line}
use Rattle.line_forms.specs.declared.asked.Line.TheVariants as lines
use Rattle.line_forms.specs.declared.command.Command.{Command}
use Rattle.line_forms.specs.declared.command.Command.TheVariants.{At, As, Register, Withdraw, Procap, Checkpoint, Verify, Check, Do}
use Rattle.line_forms.specs.declared.fault.LineFault.{LineFault}
use Rattle.line_forms.specs.Lines.{IsLineIn, IsLineFaultIn}
use Rattle.line_forms.specs.Modes.{is_admin}
use Rattle.line_wire.specs.declared.reply.LineReply.TheVariants as replies
use Rattle.session_history.specs.declared.request.TurnRequest.{TurnRequest}
use Rattle.session_history.specs.declared.request.TurnRequest.TheVariants.{Step, Cite, Login}
use Rattle.session_history.specs.declared.request.TurnRequest.TheVariants as requests
use Rattle.session_history.specs.declared.task.LineTask.{LineTask}
use Rattle.session_history.specs.declared.task.LineTask.TheVariants as tasks
use Rattle.session_history.specs.Turn.{IsTurnFormed}
use Rattle.session_history.specs.SessionState.{SessionState, mode_of}

-- How a command of a user is to be answered: in one turn, or as a proof. A checkpoint is for
-- `admin`. A procap is shown to whom it names. A line of a session brings its signature and its
-- procaps themselves, and sets neither clock nor caller, so other commands are
-- none of a session.
abbrev pub IsUserTask : List ℕ → Command → LineTask → Type 0
IsUserTask who (At second) task = ⊥
IsUserTask who (As other) task = ⊥
IsUserTask who (Register None statement) task = ⊥
IsUserTask who (Register (Some signature) statement) task = task ≡ tasks.Turn (Step (steps.Register statement signature))
IsUserTask who (Withdraw number None) task = ⊥
IsUserTask who (Withdraw number (Some signature)) task = task ≡ tasks.Turn (Step (steps.Withdraw number signature))
IsUserTask who (Procap number) task = task ≡ tasks.Turn (Step (steps.ShowProcap number (Some who)))
IsUserTask who Checkpoint task = IsTrue (is_admin who) × (task ≡ tasks.Turn requests.Checkpoint)
IsUserTask who (Verify goal numbers proof) task = task ≡ tasks.Proof goal numbers proof
IsUserTask who (Check goal numbers proof) task = ⊥
IsUserTask who (Do op procap_words) task = (procaps : List Sealed) ×
    (procap_words ≡ map words.Procap procaps) ×
    (task ≡ tasks.Turn (Step (steps.Act who op procaps)))

-- how a command is to be answered, of a user or of nobody
abbrev pub IsCommandTask : Option (List ℕ) → Command → LineTask → Type 0
IsCommandTask None command task = task ≡ tasks.Reply replies.NotLoggedIn
IsCommandTask (Some who) command task = IsUserTask who command task

-- how a line is to be answered that was read; a login is one at any time, over the session's nonce
abbrev pub IsReadTask : SessionState → Line → LineTask → Type 0
IsReadTask s (lines.Command command) task = IsCommandTask s.caller command task
IsReadTask s (lines.Login who signature) task = task ≡ tasks.Turn (Login who s.nonce signature)
IsReadTask s (lines.Statement statement) task = ⊥
IsReadTask s (lines.Goal goal proof) task = ⊥

-- How the bytes of a line are to be answered in a session: the line has a first fault, or it is
-- read.
pub data IsTaskOf (s : SessionState) (line : List ℕ) : LineTask → Type 0 where
  faulty : (fault : LineFault) → IsLineFaultIn (mode_of s) line fault →
      IsTaskOf s line (tasks.Reply (replies.Faulty fault))
  read : (said : Line) (task : LineTask) → IsLineIn (mode_of s) line said → IsReadTask s said task →
      IsTaskOf s line task

-- a turn that is a line's only one: it asks for no statements
abbrev pub IsSingle : TurnRequest → Type 0
IsSingle (Step request) = Unit {0}
IsSingle (Cite numbers) = ⊥
IsSingle requests.Checkpoint = Unit {0}
IsSingle (Login who nonce signature) = Unit {0}

-- what a task asks may be asked
abbrev pub IsTaskFormed : LineTask → Type 0
IsTaskFormed (tasks.Reply reply) = Unit {0}
IsTaskFormed (tasks.Turn request) = IsTurnFormed request × IsSingle request
IsTaskFormed (tasks.Proof goal numbers proof) = AreCitable numbers × HasTimesInRange proof

-- who is logged in has a name
abbrev pub IsNamed : Option (List ℕ) → Type 0
IsNamed None = Unit {0}
IsNamed (Some who) = IsTrue (is_principal_name who)
