use Rattle.event_messages.proofs.MessageLemmas.{message_codec}
use Rattle.event_messages.proofs.laws.messages_are_a_codec.Goals as goal

pub returns : goal.returns
returns c = message_codec
