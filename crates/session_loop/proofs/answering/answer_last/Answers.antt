-- The last item is answered, if there is one.
use Rattle.std.proofs.Common.{refl}
use Rattle.session_loop.specs.declared.talk_end.Unsent.TheVariants as unsents
use Rattle.session_loop.specs.Spoken.{all_answered}
use Rattle.session_loop.proofs.PieceLemmas.{EndsAtLast-cut, EndsAtLast-bad}
use Rattle.session_loop.proofs.SpokenLemmas.{last_told, last_cut_off, last_unsent, last_none}
use Rattle.session_loop.proofs.answering.answer_last.Goals as goal

pub returns-in-Ok-clause-ends : goal.returns-in-Ok-clause-ends
returns-in-Ok-clause-ends g c state mark left stands is_open =
    let heard = c.in-Answered.ensures.heard state mark left stands is_open in
    all_answered (last_told (g.T.Talk.talking c.args.clock.now) (g.met.T.Talk.laws c.args.clock.now) state mark left _ _ _ _ _ heard.0 heard.1 c.in-Ok.ensures.ok)

pub returns-in-Answered-clause-ends : goal.returns-in-Answered-clause-ends
returns-in-Answered-clause-ends g c state mark left stands is_open =
    let heard = c.in-Answered.ensures.heard state mark left stands is_open in
    EndsAtLast-cut (g.T.Talk.talking c.args.clock.now) state mark left _ _ _ _ _ _ c.unsent_end.ensures
    (last_cut_off (g.T.Talk.talking c.args.clock.now) (g.met.T.Talk.laws c.args.clock.now) state mark left _ _ _ _ _ heard.0 heard.1 c.in-Err.ensures.err)

pub returns-in-Unsent-clause-ends : goal.returns-in-Unsent-clause-ends
returns-in-Unsent-clause-ends g c state mark left stands is_open =
    EndsAtLast-cut (g.T.Talk.talking c.args.clock.now) state mark left _ _ _ _ unsents.NoMemory _ refl
    (last_unsent (g.T.Talk.talking c.args.clock.now) (g.met.T.Talk.laws c.args.clock.now) state mark left _ _ _ _ (c.in-Unsent.ensures.heard state mark left stands is_open) refl)

pub returns-in-Open-clause-ends : goal.returns-in-Open-clause-ends
returns-in-Open-clause-ends g c state mark left stands is_open =
    all_answered (last_none (g.T.Talk.talking c.args.clock.now) (g.met.T.Talk.laws c.args.clock.now) state mark left _ _ _ (c.in-Open.ensures.heard state mark left stands is_open))

pub returns-clause-ends : goal.returns-clause-ends
returns-clause-ends g c state mark left stands is_open =
    EndsAtLast-bad (g.T.Talk.talking c.args.clock.now) state mark left _ _ _ _ _ (c.in-Bad.ensures.heard state mark left stands is_open) c.end_at_bad.ensures.tells
