use Rattle.session_lines.proofs.ToldLemmas.{line_after_left}
use Rattle.session_lines.proofs.laws.later_lines_find_what_was_told.Goals as goal

pub returns : goal.returns
returns g c = λ told made old new opening task reply h later more needs some d. line_after_left (g.C.TurnClock.gives c.args.clock.now) told made old new opening task reply h later more needs some d
