use Rattle.reply_laws.proofs.KeptLemmas.{fresh_unbroken, replay_unbroken, answer_kept}
use Rattle.reply_laws.proofs.laws.states_keep_unbroken.Goals as goal

pub returns : goal.returns
returns c = record { fresh = fresh_unbroken; later = replay_unbroken; answered = answer_kept }
