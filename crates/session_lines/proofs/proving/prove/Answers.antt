-- The statements are asked for, and then what they prove; or it is told why there are none.
use Rattle.std.proofs.Common.{subst}
use Rattle.session_history.specs.declared.request.TurnRequest.{TurnRequest}
use Rattle.session_history.specs.declared.reply.TurnReply.TheVariants.{Cited}
use Rattle.session_history.proofs.FormedLemmas.{turn_cited}
use Rattle.session_history.proofs.StopLemmas.{stopped_turn}
use Rattle.shared_store.specs.Asking.{HasAsked}
use Rattle.shared_store.specs.Turning.{pass_at}
use Rattle.session_lines.proofs.DoneLemmas.{done_proof, done_uncited}
use Rattle.session_lines.proofs.proving.prove.Goals as goal

pub issue-requires-clause-cited : goal.issue-requires-clause-cited
issue-requires-clause-cited g c =
    let asked = subst (λ (r : TurnRequest). HasAsked (g.C.TurnClock.gives c.args.clock.now) r c.args.pass.now c.ask.new.pass (Cited c.in-Cited.cites)) c.new-request.ensures c.in-Cited.ensures.asked in
    turn_cited (g.C.TurnClock.gives c.args.clock.now) (pass_at asked.root c.args.pass.now.number) asked.found c.args.numbers c.in-Cited.cites asked.given c.requires.citable asked.turn

pub returns-in-Cited-clause-done : goal.returns-in-Cited-clause-done
returns-in-Cited-clause-done g c =
    done_proof (g.C.TurnClock.gives c.args.clock.now) c.args.goal c.args.numbers c.args.proof c.in-Cited.cites c.args.pass.now c.ask.new.pass c.issue.new.pass c.issue.result
    (subst (λ (r : TurnRequest). HasAsked (g.C.TurnClock.gives c.args.clock.now) r c.args.pass.now c.ask.new.pass (Cited c.in-Cited.cites)) c.new-request.ensures c.in-Cited.ensures.asked) c.issue.ensures.issued

pub returns-in-Cited-clause-stopped : goal.returns-in-Cited-clause-stopped
returns-in-Cited-clause-stopped g c = c.issue.ensures.stopped

pub returns-clause-done : goal.returns-clause-done
returns-clause-done g c =
    done_uncited (g.C.TurnClock.gives c.args.clock.now) c.args.goal c.args.numbers c.args.proof c.args.pass.now c.ask.new.pass c.ask.result c.reply_of.result
    (subst (λ (r : TurnRequest). HasAsked (g.C.TurnClock.gives c.args.clock.now) r c.args.pass.now c.ask.new.pass c.ask.result) c.new-request.ensures c.ask.ensures.asked) c.reply_of.ensures

pub returns-clause-stopped : goal.returns-clause-stopped
returns-clause-stopped g c = λ is. c.ask.ensures.stopped (stopped_turn c.ask.result c.reply_of.result c.reply_of.ensures is)
