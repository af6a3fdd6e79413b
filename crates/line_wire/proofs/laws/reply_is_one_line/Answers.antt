use Rattle.line_wire.proofs.UnbrokenLemmas.{reply_unbroken}
use Rattle.line_wire.proofs.laws.reply_is_one_line.Goals as goal

pub returns : goal.returns
returns c = reply_unbroken
