use Rattle.nine_front.proofs.MessageEndLemmas.{message_ends}
use Rattle.nine_front.proofs.laws.messages_have_an_end.Goals as goal

pub returns : goal.returns
returns g c = λ p s m asked before always asks named few running. message_ends (g.C.TurnClock.gives c.args.clock.now) p always s m asked before asks named few running
