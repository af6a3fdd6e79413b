-- What is heard of what a session holds is heard of the state that it is in.
use Rattle.session_loop.specs.Heard.{HasHeard}
use Rattle.session_history.specs.SessionState.{SessionState}
use Rattle.session_service.specs.LineTalking.{line_talking, StandsAt}
use Rattle.session_service.proofs.HeardLemmas.{at_state}
use Rattle.session_service.proofs.talk.LineTalkTalkTreeLockOpenedStorePassOpenedStore.answer_next.Goals as goal

pub returns-clause-heard : goal.returns-clause-heard
returns-clause-heard g c state mark left stands =
    at_state c.args.self.now.nonce c.args.self.now.caller c.args.self.now.framer c.args.self.now.is_long state mark left
    (λ (s : SessionState). HasHeard (line_talking g.D.Disk.faults (g.C.TurnClock.gives c.args.clock.now)) (StandsAt c.args.self.now.nonce c.hear.new.caller c.hear.new.framer c.args.self.now.is_long) s mark left c.args.pass.now c.hear.new.pass c.hear.new.out c.hear.result)
    stands (c.hear.ensures.heard left stands.held)
