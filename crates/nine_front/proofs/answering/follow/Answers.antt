-- Each step has its own function.
use Rattle.std.proofs.Common.{subst}
use Rattle.nine_messages.specs.Views.{request_view}
use Rattle.nine_fids.specs.declared.step.Step.TheVariants as steps
use Rattle.nine_front.specs.Walked.{ComesTo}
use Rattle.nine_front.proofs.StepLemmas.{comes_to, is_walk}
use Rattle.nine_front.proofs.answering.follow.Goals as goal

pub log_in-requires-clause-step : goal.log_in-requires-clause-step
log_in-requires-clause-step g c = subst (ComesTo c.args.connection.now (request_view c.args.request.now)) c.in-Login.is c.requires.step

pub read-requires-clause-step : goal.read-requires-clause-step
read-requires-clause-step g c = subst (ComesTo c.args.connection.now (request_view c.args.request.now)) c.in-Read.is c.requires.step

pub write-requires-clause-step : goal.write-requires-clause-step
write-requires-clause-step g c = subst (ComesTo c.args.connection.now (request_view c.args.request.now)) c.in-Write.is c.requires.step

pub walk-requires-clause-step : goal.walk-requires-clause-step
walk-requires-clause-step g c = subst (ComesTo c.args.connection.now (request_view c.args.request.now)) c.in-Walk.is c.requires.step

pub walk-requires-clause-walk : goal.walk-requires-clause-walk
walk-requires-clause-walk g c =
    is_walk c.args.connection.now (request_view c.args.request.now)
    (comes_to c.args.connection.now (request_view c.args.request.now) (steps.Walk c.in-Walk.node) (subst (ComesTo c.args.connection.now (request_view c.args.request.now)) c.in-Walk.is c.requires.step)).1
