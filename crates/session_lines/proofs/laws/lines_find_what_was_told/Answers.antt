use Rattle.session_lines.proofs.ToldLemmas.{line_after_told}
use Rattle.session_lines.proofs.laws.lines_find_what_was_told.Goals as goal

pub returns : goal.returns
returns g c = λ told old new opening task reply h earlier needs some d. line_after_told (g.C.TurnClock.gives c.args.clock.now) told old new opening task reply h earlier needs some d
