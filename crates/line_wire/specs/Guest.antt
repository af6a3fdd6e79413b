-- What becomes of a line of a session in which nobody is logged in (this project's own).
use Rattle.std.specs.Prelude.{ℕ, List}
use Rattle.line_forms.specs.declared.asked.Line.{Line}
use Rattle.line_forms.specs.declared.asked.Line.TheVariants as lines
use Rattle.line_forms.specs.declared.command.Command.{Command}
use Rattle.line_forms.specs.declared.mode.Mode.TheVariants.{Guest}
use Rattle.line_forms.specs.declared.fault.LineFault.{LineFault}
use Rattle.line_forms.specs.declared.fault.LineFault.TheVariants.{BadWord, BadCount, BadText, NoMemory}
use Rattle.line_forms.specs.Lines.{IsLineIn, IsLineFaultIn}
use Rattle.line_wire.specs.declared.guest_line.GuestLine.{GuestLine}
use Rattle.line_wire.specs.declared.guest_line.GuestLine.TheVariants.{Login, Answered}
use Rattle.line_wire.specs.declared.reply.LineReply.TheVariants as replies

-- its fault comes first; then it logs in, or is rejected. Memory may run out instead
pub data IsGuestLine (line : List ℕ) : GuestLine → Type 0 where
  is_faulty : (fault : LineFault) → IsLineFaultIn Guest line fault →
      IsGuestLine line (Answered (replies.Faulty fault))
  logs_in : (who signature : List ℕ) → IsLineIn Guest line (lines.Login who signature) →
      IsGuestLine line (Login who signature)
  is_rejected : (command : Command) → IsLineIn Guest line (lines.Command command) →
      IsGuestLine line (Answered replies.NotLoggedIn)
  without_memory : IsGuestLine line (Answered replies.NoMemory)

-- what becomes of a line that is not read: its fault is reported, or that memory ran out
abbrev pub unread_guest : LineFault → GuestLine
unread_guest NoMemory = Answered replies.NoMemory
unread_guest (BadWord place) = Answered (replies.Faulty (BadWord place))
unread_guest BadCount = Answered (replies.Faulty BadCount)
unread_guest (BadText fault) = Answered (replies.Faulty (BadText fault))

-- what becomes of a line that asks for this
abbrev pub read_guest : Line → GuestLine
read_guest (lines.Command command) = Answered replies.NotLoggedIn
read_guest (lines.Login who signature) = Login who signature
read_guest (lines.Statement statement) = Answered replies.NotLoggedIn
read_guest (lines.Goal goal proof) = Answered replies.NotLoggedIn
