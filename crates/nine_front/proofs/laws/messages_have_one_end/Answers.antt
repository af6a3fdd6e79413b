use Rattle.nine_front.proofs.OneEndLemmas.{message_once}
use Rattle.nine_front.proofs.laws.messages_have_one_end.Goals as goal

pub returns : goal.returns
returns g c = λ p history from s m reply other after next to last given more one two had also turns.
    let same = message_once (g.C.TurnClock.gives c.args.clock.now) p history from s m reply other after next to last given more one two had also turns in
    (same.reply_same, same.after_same, same.to_same, same.given_same)
