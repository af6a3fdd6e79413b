use Rattle.reply_laws.proofs.KeptLemmas.{checked_unbroken}
use Rattle.reply_laws.proofs.VerdictLemmas.{verdict_unbroken}
use Rattle.reply_laws.proofs.laws.verdicts_are_unbroken.Goals as goal

pub returns : goal.returns
returns c = record { verdict = verdict_unbroken; checked = checked_unbroken }
