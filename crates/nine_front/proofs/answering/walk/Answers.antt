-- A walk comes of a Twalk.
use Rattle.std.proofs.Common.{sym, subst}
use Rattle.nine_messages.specs.declared.request.Request.{Request}
use Rattle.nine_messages.specs.Views.{request_view}
use Rattle.nine_fids.specs.declared.step.Step.TheVariants as steps
use Rattle.nine_front.specs.Said.{HasAnswered}
use Rattle.nine_front.specs.Views.{reply_view_of}
use Rattle.nine_front.specs.Walked.{ComesTo}
use Rattle.nine_front.proofs.StepLemmas.{walk_known}
use Rattle.nine_front.proofs.answering.walk.Goals as goal

pub walk_to-requires-clause-step : goal.walk_to-requires-clause-step
walk_to-requires-clause-step g c = subst (λ (r : Request). ComesTo c.args.connection.now (request_view r) (steps.Walk c.args.node)) c.in-Walk.is c.requires.step

pub returns-clause-answered : goal.returns-clause-answered
returns-clause-answered g c =
    subst (λ (r : Request). HasAnswered g.D.Disk.faults (g.C.TurnClock.gives c.args.clock.now) c.args.connection.now (request_view r) c.args.pass.now c.walk_to.new.pass (reply_view_of c.args.connection.now.nonce c.walk_to.result) c.walk_to.new.connection) (sym c.in-Walk.is) c.walk_to.ensures.answered

pub unreachable-requires : goal.unreachable-requires
unreachable-requires g c = walk_known c.args.request.now c.requires.walk c.in_default.not-Walk
