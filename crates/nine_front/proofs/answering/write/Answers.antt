-- One turn of who is logged in, if there is memory for the bytes.
use Rattle.std.proofs.Common.{◌∙◌, length, ap, arith}
use Rattle.file_world.specs.declared.operation.Op.TheVariants as operations
use Rattle.nine_messages.specs.Views.{request_view}
use Rattle.nine_fids.specs.declared.step.Step.TheVariants as steps
use Rattle.nine_front.specs.Asking.{act_of}
use Rattle.nine_front.specs.Views.{reply_view_of}
use Rattle.nine_front.proofs.AnsweredLemmas.{answered_without_memory, was_written, write_short, asked_lock}
use Rattle.nine_front.proofs.StepLemmas.{comes_to, may_lack}
use Rattle.nine_front.proofs.answering.write.Goals as goal

pub caller_of-who-requires : goal.caller_of-who-requires
caller_of-who-requires g c = (comes_to c.args.connection.now (request_view c.args.request.now) (steps.Write c.args.node c.args.p c.args.offset) c.requires.step).1

pub act-replied-requires-clause-few : goal.act-replied-requires-clause-few
act-replied-requires-clause-few g c = omega (arith, c.requires.few, ap length (c.in-Ok.ensures ∙ c.bytes_of.ensures))

pub reply_of-requires : goal.reply_of-requires
reply_of-requires g c =
    write_short (g.C.TurnClock.gives c.args.clock.now) c.args.pass.now c.act-replied.new.pass c.act-replied.result c.args.node c.args.p c.args.offset c.in-Ok.bytes c.caller_of-who.result c.act-replied.ensures.asked

pub returns-in-Ok-clause-answered : goal.returns-in-Ok-clause-answered
returns-in-Ok-clause-answered g c =
    was_written g.D.Disk.faults (g.C.TurnClock.gives c.args.clock.now) c.args.connection.now (request_view c.args.request.now) c.args.node c.args.p c.args.offset c.in-Ok.bytes c.caller_of-who.result c.args.pass.now c.act-replied.new.pass c.act-replied.result (reply_view_of c.args.connection.now.nonce c.reply_of.result) c.count_of.result
    c.requires.step c.caller_of-who.ensures (c.in-Ok.ensures ∙ c.bytes_of.ensures) c.act-replied.ensures.asked c.act-replied.ensures.stopped c.count_of.ensures (c.reply_of.ensures.says c.args.connection.now.nonce)

pub returns-in-Ok-clause-writable : goal.returns-in-Ok-clause-writable
returns-in-Ok-clause-writable g c = c.reply_of.ensures.writable c.args.connection.now.nonce

pub returns-in-Ok-clause-same_lock : goal.returns-in-Ok-clause-same_lock
returns-in-Ok-clause-same_lock g c =
    asked_lock (g.C.TurnClock.gives c.args.clock.now) (act_of c.caller_of-who.result (operations.Write c.args.node c.args.offset c.in-Ok.bytes) c.args.p) c.args.pass.now c.act-replied.new.pass c.act-replied.result c.act-replied.ensures.asked ∙ c.requires.lock

pub returns-in-Err-clause-answered : goal.returns-in-Err-clause-answered
returns-in-Err-clause-answered g c =
    answered_without_memory g.D.Disk.faults (g.C.TurnClock.gives c.args.clock.now) c.args.connection.now (request_view c.args.request.now) c.args.pass.now (may_lack c.args.connection.now (request_view c.args.request.now) (steps.Write c.args.node c.args.p c.args.offset) c.requires.step tt)
