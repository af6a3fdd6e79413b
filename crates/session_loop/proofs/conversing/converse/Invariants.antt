use Rattle.std.proofs.Common.{◌≡◌, ◌≤◌, ◌-◌, [], length}
use Rattle.session_loop.proofs.EndLemmas.{IsReading}
use Rattle.session_loop.proofs.conversing.converse.Given as goal

abbrev pub invariant-loop-taken : goal.invariant-loop-taken
invariant-loop-taken g l = record {
  reading : (start : (g.T.Talk.talking l.clock).State) → g.T.Talk.stands l.clock l.fn.talk start (g.T.Talk.talking l.clock).cutting.first [] → IsReading (g.T.Talk.talking l.clock) start l.fn.pass (record { left = g.I.Source.left l.fn.input; read_faults = g.I.Source.faults l.fn.input; held = g.O.Sink.held l.fn.output; write_faults = g.O.Sink.faults l.fn.output }) (g.T.Talk.stands l.clock l.talk) l.pass (g.I.Source.left l.input) (g.O.Sink.held l.output) l.taken;
  fits : g.T.Talk.fits l.lock l.pass;
  within : l.taken ≤ 1073741824;
  room : length l.piece.items ≡ 65536;
  read_steady : g.I.Source.faults l.input ≡ g.I.Source.faults l.fn.input;
  write_steady : g.O.Sink.faults l.output ≡ g.O.Sink.faults l.fn.output;
  read_never_falls : g.I.Source.faults l.fn.input ≤ g.I.Source.faults l.input;
  write_never_falls : g.O.Sink.faults l.fn.output ≤ g.O.Sink.faults l.output;
}

abbrev pub decreases-loop-taken : goal.decreases-loop-taken
decreases-loop-taken g l = 1073741824 - l.taken
