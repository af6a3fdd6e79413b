-- What becomes of a line before a login, by what was read of it.
use Rattle.std.proofs.Common.{ℕ, List}
use Rattle.line_forms.specs.declared.asked.Line.{Line}
use Rattle.line_forms.specs.declared.asked.Line.TheVariants as lines
use Rattle.line_forms.specs.declared.mode.Mode.TheVariants.{Guest}
use Rattle.line_forms.specs.declared.fault.LineFault.{LineFault}
use Rattle.line_forms.specs.declared.fault.LineFault.TheVariants.{BadWord, BadCount, BadText, NoMemory}
use Rattle.line_forms.specs.Lines.{IsLineIn, IsUnreadIn}
use Rattle.line_forms.specs.Said.{IsSaidIn}
use Rattle.line_forms.proofs.SaidLemmas.{said_in_mode}
use Rattle.line_wire.specs.Guest.{IsGuestLine, is_faulty, logs_in, is_rejected, without_memory, unread_guest, read_guest}

pub unread_line : (line : List ℕ) (fault : LineFault) → IsUnreadIn Guest line fault → IsGuestLine line (unread_guest fault)
unread_line line (BadWord place) bad = is_faulty (BadWord place) bad
unread_line line BadCount bad = is_faulty BadCount bad
unread_line line (BadText fault) bad = is_faulty (BadText fault) bad
unread_line line NoMemory bad = without_memory

by_asked : (line : List ℕ) (asked : Line) → IsLineIn Guest line asked → IsSaidIn Guest asked → IsGuestLine line (read_guest asked)
by_asked line (lines.Command command) is said = is_rejected command is
by_asked line (lines.Login who signature) is said = logs_in who signature is
by_asked line (lines.Statement statement) is said = absurd said
by_asked line (lines.Goal goal proof) is said = absurd said

pub read_line : (line : List ℕ) (asked : Line) → IsLineIn Guest line asked → IsGuestLine line (read_guest asked)
read_line line asked is = by_asked line asked is (said_in_mode is)
