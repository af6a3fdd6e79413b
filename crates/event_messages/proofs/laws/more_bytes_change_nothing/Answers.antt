use Rattle.event_messages.proofs.MoreLemmas.{message_more, message_none}
use Rattle.event_messages.proofs.laws.more_bytes_change_nothing.Goals as goal

pub returns-clause-found : goal.returns-clause-found
returns-clause-found c = message_more

pub returns-clause-none : goal.returns-clause-none
returns-clause-none c = message_none
