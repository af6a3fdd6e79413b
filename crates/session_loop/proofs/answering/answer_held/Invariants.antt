use Rattle.std.proofs.Common.{◌≡◌, ◌≤◌, ℕ, List}
use Rattle.session_loop.proofs.SpokenLemmas.{IsSpeaking}
use Rattle.session_loop.proofs.answering.answer_held.Given as goal

abbrev pub invariant-loop-fault : goal.invariant-loop-fault
invariant-loop-fault g l = record {
  so_far : (state : (g.T.Talk.talking l.clock).State) (mark : (g.T.Talk.talking l.clock).cutting.Mark) (left : List ℕ) → g.T.Talk.stands l.clock l.fn.talk state mark left → IsSpeaking (g.T.Talk.talking l.clock) state mark left l.fn.pass (g.O.Sink.held l.fn.output) (g.T.Talk.stands l.clock l.talk) l.pass (g.O.Sink.held l.output);
  fits : g.T.Talk.fits l.lock l.pass;
  steady : g.O.Sink.faults l.output ≡ g.O.Sink.faults l.fn.output;
  never_falls : g.O.Sink.faults l.fn.output ≤ g.O.Sink.faults l.output;
}

abbrev pub decreases-loop-fault : goal.decreases-loop-fault
decreases-loop-fault g l = g.T.Talk.size l.talk
