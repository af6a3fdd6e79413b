use Rattle.session_history.proofs.GrowthLemmas.{turn_longer, line_longer, session_longer}
use Rattle.session_history.proofs.laws.what_is_placed_stays_placed.Goals as goal

pub returns-clause-turns : goal.returns-clause-turns
returns-clause-turns g c = λ p history more from request reply to given. turn_longer (g.C.TurnClock.gives c.args.clock.now) p history more from request reply to given

pub returns-clause-lines : goal.returns-clause-lines
returns-clause-lines g c = λ p history more from task reply to given. line_longer (g.C.TurnClock.gives c.args.clock.now) p history more from task reply to given

pub returns-clause-sessions : goal.returns-clause-sessions
returns-clause-sessions g c = λ p history more start from lines answers end to given. session_longer (g.C.TurnClock.gives c.args.clock.now) p history more start from lines answers end to given
