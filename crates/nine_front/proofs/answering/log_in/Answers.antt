-- One turn, and who is logged in after it.
use Rattle.std.proofs.Common.{◌∙◌}
use Rattle.nine_messages.specs.Views.{request_view}
use Rattle.nine_front.specs.Views.{reply_view_of}
use Rattle.nine_front.proofs.AnsweredLemmas.{logged_in, login_short}
use Rattle.nine_front.proofs.answering.log_in.Goals as goal

pub reply_of-requires : goal.reply_of-requires
reply_of-requires g c = login_short (g.C.TurnClock.gives c.args.clock.now) c.args.pass.now c.ask-replied.new.pass c.ask-replied.result c.args.who c.args.connection.now.nonce c.args.signature c.logging_in-asked.result c.logging_in-asked.ensures c.ask-replied.ensures.asked

pub returns-clause-answered : goal.returns-clause-answered
returns-clause-answered g c =
    logged_in g.D.Disk.faults (g.C.TurnClock.gives c.args.clock.now) c.args.connection.now (request_view c.args.request.now) c.args.who c.args.signature c.logging_in-asked.result c.args.pass.now c.ask-replied.new.pass c.ask-replied.result (reply_view_of c.args.connection.now.nonce c.reply_of.result) c.count_of.result c.after_login.new.connection
    c.requires.step c.logging_in-asked.ensures c.ask-replied.ensures.asked c.ask-replied.ensures.stopped c.count_of.ensures c.after_login.ensures.after (c.reply_of.ensures.says c.args.connection.now.nonce)

pub returns-clause-writable : goal.returns-clause-writable
returns-clause-writable g c = c.reply_of.ensures.writable c.args.connection.now.nonce

pub returns-clause-same_lock : goal.returns-clause-same_lock
returns-clause-same_lock g c = c.ask-replied.ensures.asked.goes_on.lock ∙ c.requires.lock
