-- What a line may ask for: what is known of what it brings, and in which modes it is said (this
-- project's own).
use Rattle.std.specs.Prelude.{◌≡◌, ◌≤◌, ℕ, List, length, IsSome, IsTrue}
use Rattle.std.specs.List.{AllByRecursion}
use Rattle.bl_syntax.specs.declared.limits.TheConstants.{MOST_BYTES_AT_ONCE, LONGEST_SIGNATURE}
use Rattle.bl_syntax.specs.Citable.{AreCitable}
use Rattle.bl_syntax.specs.Names.{is_principal_name}
use Rattle.bl_syntax.specs.Statement.{IsStatement}
use Rattle.bl_syntax.specs.TimeOrder.{IsMoment}
use Rattle.file_world.specs.declared.operation.Op.{Op}
use Rattle.file_world.specs.Effect.{IsOperation}
use Rattle.file_world.specs.Needs.{slots, bytes_to_write}
use Rattle.proof_term.specs.Limits.{HasTimesInRange}
use Rattle.line_words.specs.declared.procap_word.ProcapWord.{ProcapWord}
use Rattle.line_words.specs.declared.procap_word.ProcapWord.TheVariants as words
use Rattle.line_forms.specs.declared.command.Command.{Command}
use Rattle.line_forms.specs.declared.command.Command.TheVariants.{At, As, Register, Withdraw, Procap, Checkpoint, Verify, Check, Do}
use Rattle.line_forms.specs.declared.asked.Line.{Line}
use Rattle.line_forms.specs.declared.asked.Line.TheVariants as lines
use Rattle.line_forms.specs.Modes.{is_admin}
use Rattle.line_forms.specs.declared.mode.Mode.{Mode}
use Rattle.line_forms.specs.declared.mode.Mode.TheVariants.{Operator, Guest, User, Inquiry}

-- an operation with a procap for each place of its needs
pub record IsOperationAsked (op : Op) (procaps : List ProcapWord) : Type 0 where
  pub one_each : length procaps ≡ slots op
  pub few_bytes : bytes_to_write op ≤ MOST_BYTES_AT_ONCE
  pub operation : IsOperation op

-- what is known of what a command brings
abbrev pub IsWithin : Command → Type 0
IsWithin (At second) = IsMoment second
IsWithin (As who) = IsTrue (is_principal_name who)
IsWithin (Register signature statement) = IsStatement statement
IsWithin (Withdraw number signature) = Unit {0}
IsWithin (Procap number) = Unit {0}
IsWithin Checkpoint = Unit {0}
IsWithin (Verify goal numbers proof) = AreCitable numbers × HasTimesInRange proof
IsWithin (Check goal numbers proof) = AreCitable numbers × HasTimesInRange proof
IsWithin (Do op procaps) = IsOperationAsked op procaps

-- what is known of what a line brings
abbrev pub IsLineWithin : Line → Type 0
IsLineWithin (lines.Command command) = IsWithin command
IsLineWithin (lines.Login who signature) = IsTrue (is_principal_name who) ×
    (length signature ≤ LONGEST_SIGNATURE)
IsLineWithin (lines.Statement statement) = IsStatement statement
IsLineWithin (lines.Goal goal proof) = HasTimesInRange proof

-- a procap itself, and not the number of its issue
abbrev pub IsWrittenOut : ProcapWord → Type 0
IsWrittenOut (words.Procap p) = Unit {0}
IsWrittenOut (words.Issue number) = ⊥

-- a command of a session
abbrev pub IsOfSession : Command → Type 0
IsOfSession (At second) = ⊥
IsOfSession (As who) = ⊥
IsOfSession (Register signature statement) = IsSome signature
IsOfSession (Withdraw number signature) = IsSome signature
IsOfSession (Procap number) = Unit {0}
IsOfSession Checkpoint = Unit {0}
IsOfSession (Verify goal numbers proof) = Unit {0}
IsOfSession (Check goal numbers proof) = ⊥
IsOfSession (Do op procaps) = AllByRecursion IsWrittenOut procaps

-- a line of a session: a login, or a command
abbrev pub IsSaidInSession : Line → Type 0
IsSaidInSession (lines.Command command) = IsOfSession command
IsSaidInSession (lines.Login who signature) = Unit {0}
IsSaidInSession (lines.Statement statement) = ⊥
IsSaidInSession (lines.Goal goal proof) = ⊥

-- what a command asks of who is logged in: a checkpoint is for `admin`
abbrev pub IsOfUser : List ℕ → Command → Type 0
IsOfUser who (At second) = Unit {0}
IsOfUser who (As other) = Unit {0}
IsOfUser who (Register signature statement) = Unit {0}
IsOfUser who (Withdraw number signature) = Unit {0}
IsOfUser who (Procap number) = Unit {0}
IsOfUser who Checkpoint = IsTrue (is_admin who)
IsOfUser who (Verify goal numbers proof) = Unit {0}
IsOfUser who (Check goal numbers proof) = Unit {0}
IsOfUser who (Do op procaps) = Unit {0}

-- a line of a session in which somebody is logged in
abbrev pub IsSaidByUser : List ℕ → Line → Type 0
IsSaidByUser who (lines.Command command) = IsOfSession command × IsOfUser who command
IsSaidByUser who (lines.Login other signature) = Unit {0}
IsSaidByUser who (lines.Statement statement) = ⊥
IsSaidByUser who (lines.Goal goal proof) = ⊥

-- a line of a script: a command
abbrev pub IsSaidInScript : Line → Type 0
IsSaidInScript (lines.Command command) = Unit {0}
IsSaidInScript (lines.Login who signature) = ⊥
IsSaidInScript (lines.Statement statement) = ⊥
IsSaidInScript (lines.Goal goal proof) = ⊥

-- a line of an inquiry: a statement, or the goal
abbrev pub IsSaidInInquiry : Line → Type 0
IsSaidInInquiry (lines.Command command) = ⊥
IsSaidInInquiry (lines.Login who signature) = ⊥
IsSaidInInquiry (lines.Statement statement) = Unit {0}
IsSaidInInquiry (lines.Goal goal proof) = Unit {0}

-- what a line may ask for in the mode
abbrev pub IsSaidIn : Mode → Line → Type 0
IsSaidIn Operator asked = IsSaidInScript asked
IsSaidIn Guest asked = IsSaidInSession asked
IsSaidIn (User who) asked = IsSaidByUser who asked
IsSaidIn Inquiry asked = IsSaidInInquiry asked
