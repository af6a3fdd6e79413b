use Rattle.reply_laws.proofs.LineLemmas.{line_unbroken}
use Rattle.reply_laws.proofs.laws.lines_bring_unbroken.Goals as goal

pub returns : goal.returns
returns c = line_unbroken
