use Rattle.session_history.proofs.EndLemmas.{line_ends}
use Rattle.session_history.proofs.TurnLemmas.{turn_ends}
use Rattle.session_history.proofs.laws.turns_and_lines_have_an_end.Goals as goal

pub returns-clause-turns : goal.returns-clause-turns
returns-clause-turns g c = λ p before request clock shown formed running. turn_ends (g.C.TurnClock.gives c.args.clock.now) p before request clock shown formed running

pub returns-clause-lines : goal.returns-clause-lines
returns-clause-lines g c = λ p s line task before clock shown named lawful running is. line_ends (g.C.TurnClock.gives c.args.clock.now) p s line task before clock shown named lawful running is
