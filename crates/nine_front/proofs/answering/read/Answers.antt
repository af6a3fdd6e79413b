-- One turn of who is logged in.
use Rattle.std.proofs.Common.{◌∙◌}
use Rattle.file_world.specs.declared.operation.Op.TheVariants as operations
use Rattle.nine_messages.specs.Views.{request_view}
use Rattle.nine_fids.specs.declared.step.Step.TheVariants as steps
use Rattle.nine_front.specs.Asking.{act_of}
use Rattle.nine_front.specs.Views.{reply_view_of}
use Rattle.nine_front.proofs.AnsweredLemmas.{was_read, read_short, asked_lock}
use Rattle.nine_front.proofs.StepLemmas.{comes_to}
use Rattle.nine_front.proofs.answering.read.Goals as goal

pub caller_of-who-requires : goal.caller_of-who-requires
caller_of-who-requires g c = (comes_to c.args.connection.now (request_view c.args.request.now) (steps.Read c.args.node c.args.p c.args.offset c.args.len) c.requires.step).1.0

pub reply_of-requires : goal.reply_of-requires
reply_of-requires g c =
    read_short (g.C.TurnClock.gives c.args.clock.now) c.args.pass.now c.act-replied.new.pass c.act-replied.result c.args.connection.now (request_view c.args.request.now) c.args.node c.args.p c.args.offset c.args.len c.caller_of-who.result c.requires.step c.act-replied.ensures.asked

pub returns-clause-answered : goal.returns-clause-answered
returns-clause-answered g c =
    was_read g.D.Disk.faults (g.C.TurnClock.gives c.args.clock.now) c.args.connection.now (request_view c.args.request.now) c.args.node c.args.p c.args.offset c.args.len c.caller_of-who.result c.args.pass.now c.act-replied.new.pass c.act-replied.result (reply_view_of c.args.connection.now.nonce c.reply_of.result) c.count_of.result
    c.requires.step c.caller_of-who.ensures c.act-replied.ensures.asked c.act-replied.ensures.stopped c.count_of.ensures (c.reply_of.ensures.says c.args.connection.now.nonce)

pub returns-clause-writable : goal.returns-clause-writable
returns-clause-writable g c = c.reply_of.ensures.writable c.args.connection.now.nonce

pub returns-clause-same_lock : goal.returns-clause-same_lock
returns-clause-same_lock g c =
    asked_lock (g.C.TurnClock.gives c.args.clock.now) (act_of c.caller_of-who.result (operations.Read c.args.node c.args.offset c.args.len) c.args.p) c.args.pass.now c.act-replied.new.pass c.act-replied.result c.act-replied.ensures.asked ∙ c.requires.lock
