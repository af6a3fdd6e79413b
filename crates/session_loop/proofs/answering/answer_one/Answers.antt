-- The item is answered, and its reply is written, or some first part of it.
use Rattle.std.proofs.Common.{refl}
use Rattle.session_loop.proofs.SpokenLemmas.{one_cut_off, one_unsent}
use Rattle.session_loop.proofs.answering.answer_one.Goals as goal

pub returns-in-Err-clause-cut : goal.returns-in-Err-clause-cut
returns-in-Err-clause-cut g c state mark left stands =
    one_cut_off (g.T.Talk.talking c.args.clock.now) (g.met.T.Talk.laws c.args.clock.now) (g.T.Talk.stands c.args.clock.now c.answer_next.new.self) state mark left _ _ _ _ _ (c.in-Answered.ensures.heard state mark left stands) c.in-Err.ensures.err

pub returns-in-Unsent-clause-cut : goal.returns-in-Unsent-clause-cut
returns-in-Unsent-clause-cut g c state mark left stands =
    one_unsent (g.T.Talk.talking c.args.clock.now) (g.met.T.Talk.laws c.args.clock.now) (g.T.Talk.stands c.args.clock.now c.answer_next.new.self) state mark left _ _ _ _ (c.in-Unsent.ensures.heard state mark left stands) refl
