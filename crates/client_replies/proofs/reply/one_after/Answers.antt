-- Other words stand there, or what follows them is no number.
use Rattle.client_replies.proofs.ReplyLemmas.{one_elsewhere, no_number}
use Rattle.client_replies.proofs.reply.one_after.Goals as goal

pub returns-in_err-rest : goal.returns-in_err-rest
returns-in_err-rest c =
    rw c.from_residual.ensures (one_elsewhere c.args.words.now c.args.line.now c.in_err-rest.ensures)

pub returns-in_err-number : goal.returns-in_err-number
returns-in_err-number c =
    rw c.from_residual-in_err-number.ensures (no_number c.args.words.now c.args.line.now c.in_ok-rest.rest.now c.in_ok-rest.ensures c.in_err-number.ensures.found)
