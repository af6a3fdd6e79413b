-- What is heard of the connection and the framer is heard of the state that they are in.
use Rattle.std.proofs.Common.{ℕ, List}
use Rattle.session_loop.specs.Heard.{HasHeard}
use Rattle.nine_fids.specs.declared.connection.Connection.{Connection}
use Rattle.nine_front.specs.NineTalking.{nine_talking, StandsAt}
use Rattle.nine_front.proofs.HeardLemmas.{at_state}
use Rattle.nine_front.proofs.talk.NineTalkTalkTreeLockOpenedStorePassOpenedStore.answer_next.Goals as goal

pub returns-clause-heard : goal.returns-clause-heard
returns-clause-heard g c state mark left stands =
    at_state c.args.self.now.connection state c.args.self.now.framer mark left
    (λ (s : Connection) (agreed : ℕ) (b : List ℕ). HasHeard (nine_talking g.D.Disk.faults (g.C.TurnClock.gives c.args.clock.now)) (StandsAt c.hear.new.connection c.hear.new.framer) s agreed b c.args.pass.now c.hear.new.pass c.hear.new.out c.hear.result)
    stands c.hear.ensures.heard
