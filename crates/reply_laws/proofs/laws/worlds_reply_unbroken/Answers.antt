use Rattle.reply_laws.proofs.WorldLemmas.{reply_unbroken}
use Rattle.reply_laws.proofs.laws.worlds_reply_unbroken.Goals as goal

pub returns : goal.returns
returns c = reply_unbroken
