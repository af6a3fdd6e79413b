use Rattle.session_service.specs.Conversation.{tells_of}
use Rattle.nine_service.proofs.OutputLemmas.{DoneAnswersAll-nine}
use Rattle.nine_service.proofs.laws.done_answers_all_messages.Goals as goal

pub returns : goal.returns
returns g c = λ queue nonces. DoneAnswersAll-nine (g.C.TurnClock.gives c.args.clock.now) (tells_of g.L.In.Source.left g.L.In.Source.faults g.L.In.Source.broken g.L.Out.Sink.held g.L.Out.Sink.faults g.L.Out.Sink.broken) queue nonces
