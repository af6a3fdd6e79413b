-- Each item that was answered is one more of the first items.
use Rattle.std.proofs.Common.{◌∙◌, refl, arith}
use Rattle.session_loop.proofs.SpokenLemmas.{IsSpeaking-start, IsSpeaking-more, SpeaksAll-open, SpeaksToBad-bad, IsCutWithin-at}
use Rattle.session_loop.proofs.answering.answer_held.Goals as goal

pub loop-fault-init : goal.loop-fault-init
loop-fault-init g c = record {
  so_far = λ state mark left stands. IsSpeaking-start (g.T.Talk.talking c.args.clock.now) (g.met.T.Talk.laws c.args.clock.now) state mark left _ _ (g.T.Talk.stands c.args.clock.now c.args.talk.now) stands;
  fits = c.requires;
  steady = refl;
  never_falls = omega arith;
}

pub loop-fault-preserved : goal.loop-fault-preserved
loop-fault-preserved g c = record {
  so_far = λ state mark left stands.
      IsSpeaking-more (g.T.Talk.talking c.args.clock.now) (g.met.T.Talk.laws c.args.clock.now) state mark left _ _ (g.T.Talk.stands c.args.clock.now c.loop-fault.talk) (g.T.Talk.stands c.args.clock.now c.answer_one.new.talk) _ _ _ _ (c.loop-fault.invariant.so_far state mark left stands)
      (rw c.in-Ok-Answered.field-0-is at c.in-Ok-Answered.ensures.ok);
  fits = c.in-Ok-Answered.ensures.fits;
  steady = c.in-Ok-Answered.ensures.steady ∙ c.loop-fault.invariant.steady;
  never_falls = omega (arith, c.in-Ok-Answered.ensures.never_falls);
}

pub returns-in-Ok-Open-clause-ok : goal.returns-in-Ok-Open-clause-ok
returns-in-Ok-Open-clause-ok g c state mark left stands =
    SpeaksAll-open (g.T.Talk.talking c.args.clock.now) (g.met.T.Talk.laws c.args.clock.now) state mark left _ _ (g.T.Talk.stands c.args.clock.now c.loop-fault.talk) (g.T.Talk.stands c.args.clock.now c.answer_one.new.talk) _ _ _ _ (c.loop-fault.invariant.so_far state mark left stands)
    (rw c.in-Ok-Open.field-0-is at c.in-Ok-Open.ensures.ok)

pub returns-in-Ok-Bad-clause-ok : goal.returns-in-Ok-Bad-clause-ok
returns-in-Ok-Bad-clause-ok g c state mark left stands =
    SpeaksToBad-bad (g.T.Talk.talking c.args.clock.now) (g.met.T.Talk.laws c.args.clock.now) state mark left _ _ (g.T.Talk.stands c.args.clock.now c.loop-fault.talk) (g.T.Talk.stands c.args.clock.now c.answer_one.new.talk) _ _ _ _ (c.loop-fault.invariant.so_far state mark left stands)
    (rw c.in-Ok-Bad.field-0-is at c.in-Ok-Bad.ensures.ok)

pub returns-in-Err-clause-cut : goal.returns-in-Err-clause-cut
returns-in-Err-clause-cut g c state mark left stands =
    IsCutWithin-at (g.T.Talk.talking c.args.clock.now) (g.met.T.Talk.laws c.args.clock.now) state mark left _ _ (g.T.Talk.stands c.args.clock.now c.loop-fault.talk) (g.T.Talk.stands c.args.clock.now c.answer_one.new.talk) _ _ _ _ (c.loop-fault.invariant.so_far state mark left stands)
    c.in-Err.ensures.cut
