-- A connection that was accepted is the one of the number of the token that is admitted for it.
use Rattle.std.proofs.Common.{◌≡◌, ◌+◌, sym, ap, subst, arith}
use Rattle.pcfs_ports.specs.Telling.{AreTakenOff}
use Rattle.pcfs_server.proofs.TellingLemmas.{expected_here}
use Rattle.pcfs_server.proofs.serving.accept_all.Goals as goal

pub begin-requires-clause-expected : goal.begin-requires-clause-expected
begin-requires-clause-expected g c κs within =
    let attended = c.loop-attended.attended in
    let first = g.H.Service.admitted (g.F.Front.door c.args.front.now) in
    let queue = g.L.Listener.queue (g.F.Front.listener c.args.front.now) in
    let number : g.H.Service.number c.in-Ok.token ≡ first + attended + 1 =
    omega (arith, c.in-Ok.ensures.number, c.in-Ok.ensures.admitted, ap g.H.Service.admitted c.in-Conn.ensures.door, c.make_room.ensures.admitted, c.loop-attended.invariant.admitted) in
    expected_here (g.H.Service.expects c.args.service.now) first queue (g.L.Listener.queue (g.F.Front.listener c.make_room.new.front)) attended (g.H.Service.number c.in-Ok.token) c.in-Conn.input c.in-Conn.output c.requires.expected
    (subst (λ listener. AreTakenOff attended queue (g.L.Listener.queue listener)) (sym c.make_room.ensures.listener) c.loop-attended.invariant.queue) c.in-Conn.ensures.first number
