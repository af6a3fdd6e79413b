use Rattle.nine_messages.proofs.CuttingLemmas.{sized_left}
use Rattle.nine_messages.proofs.framing.next_message.Goals as goal

pub sized_message-requires-clause-whole : goal.sized_message-requires-clause-whole
sized_message-requires-clause-whole c = (sized_left _ _ _ c.in-Some.ensures).1

pub sized_message-requires-clause-said : goal.sized_message-requires-clause-said
sized_message-requires-clause-said c = (sized_left _ _ _ c.in-Some.ensures).0
