use Rattle.session_history.proofs.AskedLemmas.{entries_asked}
use Rattle.session_history.proofs.CallerLemmas.{callers_accepted}
use Rattle.session_history.proofs.GivenLemmas.{session_given}
use Rattle.session_history.proofs.laws.given_entries_are_of_the_session.Goals as goal

pub returns-clause-pass : goal.returns-clause-pass
returns-clause-pass g c = λ p history start from lines answers end to given. session_given (g.C.TurnClock.gives c.args.clock.now) p history start from lines answers end to given

pub returns-clause-callers : goal.returns-clause-callers
returns-clause-callers g c = λ p history nonce from lines answers end to given. callers_accepted (g.C.TurnClock.gives c.args.clock.now) p history nonce from lines answers end to given

pub returns-clause-asked : goal.returns-clause-asked
returns-clause-asked g c = λ p history start from lines answers end to given placed. entries_asked (g.C.TurnClock.gives c.args.clock.now) p history start from lines answers end to given placed
