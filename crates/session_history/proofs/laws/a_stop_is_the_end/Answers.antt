use Rattle.session_history.proofs.StopLemmas.{line_stopped, stops_told}
use Rattle.session_history.proofs.TurnLemmas.{nothing_after_stop}
use Rattle.session_history.proofs.laws.a_stop_is_the_end.Goals as goal

pub returns-clause-turns : goal.returns-clause-turns
returns-clause-turns g c = λ p before request reply given. stops_told (g.C.TurnClock.gives c.args.clock.now) p before request reply given

pub returns-clause-told : goal.returns-clause-told
returns-clause-told g c = λ p history s from line task to given. line_stopped (g.C.TurnClock.gives c.args.clock.now) p history s from line task to given

pub returns-clause-nothing : goal.returns-clause-nothing
returns-clause-nothing g c = λ p before request reply given. nothing_after_stop (g.C.TurnClock.gives c.args.clock.now) p before request reply given
