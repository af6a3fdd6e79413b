use Rattle.std.proofs.Common.{length}
use Rattle.nine_messages.proofs.reply_writing.+add_qids.Given as goal

abbrev pub decreases-add_qids : goal.decreases-add_qids
decreases-add_qids l = length l.qids.now
