-- The next line is answered and taken; or there is none, and the next one may be too long.
use Rattle.std.proofs.Common.{refl}
use Rattle.session_service.proofs.HeardLemmas.{IsAnswered-line, HasHeard-line}
use Rattle.session_service.proofs.HeldLemmas.{held_open, held_bad, takes_line}
use Rattle.session_service.proofs.lines.hear.Goals as goal

pub returns-then-is_long-clause-heard : goal.returns-then-is_long-clause-heard
returns-then-is_long-clause-heard g c left held = record { is_bad = held_bad c.args.framer.now c.args.framer.now c.args.is_long left c.if-is_long.true c.in-None.ensures.line held; same = refl }

pub returns-else-is_long-clause-heard : goal.returns-else-is_long-clause-heard
returns-else-is_long-clause-heard g c left held = record {
  is_open = held_open c.args.framer.now c.args.framer.now c.args.is_long left c.if-is_long.false c.in-None.ensures.line held;
  same = refl;
  stands = record { state_is = refl; held = held };
}

pub returns-in-Ok-clause-heard : goal.returns-in-Ok-clause-heard
returns-in-Ok-clause-heard g c left held =
    let line = c.in-Some.ensures.line in
    let said = c.in-Ok.ensures.said in
    HasHeard-line g.D.Disk.faults (g.C.TurnClock.gives c.args.clock.now) c.args.nonce.now _ _ c.args.framer.now c.take_line.new.self c.args.is_long left c.in-Some.line.now _ _ said.0 said.1 _ said.2
    (takes_line c.args.framer.now c.take_line.new.self c.args.is_long left c.in-Some.line.now line.0 line.1 c.in-Some.ensures.few (c.take_line.ensures.taken c.in-Some.line.now line.0 line.1) held)

pub returns-in-Err-clause-heard : goal.returns-in-Err-clause-heard
returns-in-Err-clause-heard g c left held =
    let line = c.in-Some.ensures.line in
    let said = c.in-Err.ensures.said in
    IsAnswered-line g.D.Disk.faults (g.C.TurnClock.gives c.args.clock.now) c.args.nonce.now _ _ c.args.framer.now c.take_line.new.self c.args.is_long left c.in-Some.line.now _ _ said.0 said.1
    (takes_line c.args.framer.now c.take_line.new.self c.args.is_long left c.in-Some.line.now line.0 line.1 c.in-Some.ensures.few (c.take_line.ensures.taken c.in-Some.line.now line.0 line.1) held)
