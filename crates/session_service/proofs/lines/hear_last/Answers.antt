-- The last line is answered, if there is one.
use Rattle.session_service.proofs.HeardLemmas.{IsLastAnswered-line, HasHeardLast-line}
use Rattle.session_service.proofs.lines.hear_last.Goals as goal

pub returns-in-Ok-clause-heard : goal.returns-in-Ok-clause-heard
returns-in-Ok-clause-heard g c is =
    let line = c.in-Some.ensures.some in
    let said = c.in-Ok.ensures.said in
    HasHeardLast-line g.D.Disk.faults (g.C.TurnClock.gives c.args.clock.now) _ _ c.args.framer.now.left c.in-Some.line.now _ _ said.0 said.1 line.0 line.1 line.2 _ said.2

pub returns-in-Err-clause-heard : goal.returns-in-Err-clause-heard
returns-in-Err-clause-heard g c is =
    let line = c.in-Some.ensures.some in
    let said = c.in-Err.ensures.said in
    IsLastAnswered-line g.D.Disk.faults (g.C.TurnClock.gives c.args.clock.now) _ _ c.args.framer.now.left c.in-Some.line.now _ _ said.0 said.1 line.0 line.1 line.2
