use Rattle.nine_messages.proofs.MessageLemmas.{messages_codec}
use Rattle.nine_messages.proofs.laws.messages_are_a_codec.Goals as goal

pub returns : goal.returns
returns c = messages_codec
