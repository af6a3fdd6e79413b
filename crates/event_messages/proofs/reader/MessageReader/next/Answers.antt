-- The message is that at the front of what is left.
use Rattle.std.proofs.Common.{sym, ap, ◌∙◌}
use Rattle.event_messages.specs.Messages.{message_at}
use Rattle.event_messages.proofs.reader.MessageReader.next.Goals as goal

pub returns-in-Ok-clause-ok : goal.returns-in-Ok-clause-ok
returns-in-Ok-clause-ok c = record { rest = c.in-Ok.field-0-2.now; read = ap message_at (sym c.left.ensures) ∙ c.in-Ok.ensures }
