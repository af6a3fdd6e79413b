-- A line of a script asks for a command.
use Rattle.line_forms.proofs.SaidLemmas.{said_in_mode}
use Rattle.line_forms.proofs.line.read_line.Goals as goal

pub command_of-requires : goal.command_of-requires
command_of-requires c = said_in_mode c.in-Ok.ensures
