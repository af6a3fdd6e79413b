-- Other words stand there, or what follows them is not two numbers with the text between them.
use Rattle.client_replies.proofs.ReplyLemmas.{two_elsewhere, no_between, no_first, no_second}
use Rattle.client_replies.proofs.reply.two_after.Goals as goal

pub returns-in_err-rest : goal.returns-in_err-rest
returns-in_err-rest c =
    rw c.from_residual.ensures (two_elsewhere c.args.words.now c.args.between.now c.args.line.now c.in_err-rest.ensures)

pub returns-in_err-first_word : goal.returns-in_err-first_word
returns-in_err-first_word c =
    rw c.from_residual-in_err-first_word.ensures (no_between c.args.words.now c.args.between.now c.args.line.now c.in_ok-rest.rest.now c.in_ok-rest.ensures c.in_err-first_word.ensures.only)

pub returns-in_err-first : goal.returns-in_err-first
returns-in_err-first c =
    rw c.from_residual-in_err-first.ensures (no_first c.args.words.now c.args.between.now c.args.line.now c.in_ok-rest.rest.now c.in_ok-first_word.first_word.now c.in_ok-first_word.second_word.now
    c.in_ok-rest.ensures c.in_ok-first_word.ensures.only c.in_err-first.ensures.found)

pub returns-in_err-second : goal.returns-in_err-second
returns-in_err-second c =
    rw c.from_residual-in_err-second.ensures (no_second c.args.words.now c.args.between.now c.args.line.now c.in_ok-rest.rest.now c.in_ok-first_word.first_word.now c.in_ok-first_word.second_word.now
    c.in_ok-rest.ensures c.in_ok-first_word.ensures.only c.in_err-second.ensures.found)
