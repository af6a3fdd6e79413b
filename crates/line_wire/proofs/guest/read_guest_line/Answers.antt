-- Its fault comes first; then what it asks for.
use Rattle.std.proofs.Common.{sym, subst}
use Rattle.line_wire.specs.Guest.{IsGuestLine}
use Rattle.line_wire.proofs.GuestLemmas.{unread_line, read_line}
use Rattle.line_wire.proofs.guest.read_guest_line.Goals as goal

pub returns-in-Ok : goal.returns-in-Ok
returns-in-Ok c = subst (IsGuestLine c.args.line.now) (sym c.login_alone.ensures) (read_line c.args.line.now c.in-Ok.asked c.in-Ok.ensures)

pub returns-in-Err : goal.returns-in-Err
returns-in-Err c = subst (IsGuestLine c.args.line.now) (sym c.unread.ensures) (unread_line c.args.line.now c.in-Err.fault c.in-Err.ensures)
