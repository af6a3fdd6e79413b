-- What is heard last of what a session holds is heard of the state that it is in.
use Rattle.std.proofs.Common.{ℕ, List}
use Rattle.session_loop.specs.Heard.{HasHeardLast}
use Rattle.session_history.specs.SessionState.{SessionState}
use Rattle.session_service.specs.LineTalking.{line_talking}
use Rattle.session_service.proofs.HeardLemmas.{at_last}
use Rattle.session_service.proofs.talk.LineTalkTalkTreeLockOpenedStorePassOpenedStore.answer_last.Goals as goal

pub returns-clause-heard : goal.returns-clause-heard
returns-clause-heard g c state mark left stands is =
    at_last c.args.self.now.nonce c.args.self.now.caller c.args.self.now.framer c.args.self.now.is_long state mark left
    (λ (s : SessionState) (b : List ℕ). HasHeardLast (line_talking g.D.Disk.faults (g.C.TurnClock.gives c.args.clock.now)) s mark b c.args.pass.now c.hear_last.new.pass c.hear_last.new.out c.hear_last.result)
    stands is c.hear_last.ensures.heard
