-- The line asks for the procap of the issue.
use Rattle.line_forms.specs.declared.asked.Line.TheVariants as lines
use Rattle.line_forms.specs.declared.command.Command.TheVariants as commands
use Rattle.client_tree.proofs.LineLemmas.{text_is_asked}
use Rattle.client_tree.proofs.rights.issue_reply.Goals as goal

pub ask-requires : goal.ask-requires
ask-requires g c = text_is_asked (lines.Command (commands.Procap c.args.issue)) _ c.in_ok-line.ensures
