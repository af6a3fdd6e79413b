-- What the turn replies is told.
use Rattle.std.proofs.Common.{subst, sym}
use Rattle.session_history.specs.declared.request.TurnRequest.{TurnRequest}
use Rattle.session_history.specs.Tasks.{IsSingle}
use Rattle.session_history.proofs.StopLemmas.{stopped_turn}
use Rattle.shared_store.specs.Asking.{HasAsked}
use Rattle.session_lines.proofs.ReplyLemmas.{tellable}
use Rattle.session_lines.proofs.line_replies.take_turn.Goals as goal

pub reply_of-requires : goal.reply_of-requires
reply_of-requires g c =
    let a = c.ask-found.ensures.asked in
    tellable (g.C.TurnClock.gives c.args.clock.now) _ a.found _ c.ask-found.result a.given (subst IsSingle (sym c.new.ensures) c.requires.single) a.turn

pub returns-clause-told : goal.returns-clause-told
returns-clause-told g c = record {
  replied = c.ask-found.result;
  asked = subst (λ (r : TurnRequest). HasAsked (g.C.TurnClock.gives c.args.clock.now) r c.args.pass.now c.ask-found.new.pass c.ask-found.result) c.new.ensures c.ask-found.ensures.asked;
  says = c.reply_of.ensures;
}

pub returns-clause-stopped : goal.returns-clause-stopped
returns-clause-stopped g c = λ is. c.ask-found.ensures.stopped (stopped_turn c.ask-found.result c.reply_of.result c.reply_of.ensures is)
