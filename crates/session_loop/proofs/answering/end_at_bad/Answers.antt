-- It was told, or some first part of that.
use Rattle.std.proofs.Common.{◌∙◌, refl, ap, subst}
use Rattle.pcfs_ports.specs.Observable.{with_back, HoldsSome}
use Rattle.session_loop.specs.declared.talk_end.Unsent.TheVariants as unsents
use Rattle.session_loop.specs.Spoken.{told}
use Rattle.session_loop.proofs.PieceLemmas.{TellsBad-cut}
use Rattle.session_loop.proofs.PortLemmas.{nothing_out}
use Rattle.session_loop.proofs.answering.end_at_bad.Goals as goal

pub returns-in-Err-clause-tells : goal.returns-in-Err-clause-tells
returns-in-Err-clause-tells g c = TellsBad-cut (g.T.Talk.talking c.args.clock.now) _ _ unsents.NoMemory _ refl (nothing_out _ _ _ refl)

pub returns-in-Ok-send-clause-tells : goal.returns-in-Ok-send-clause-tells
returns-in-Ok-send-clause-tells g c = told (c.in-Ok-send.ensures.ok ∙ ap (with_back (g.O.Sink.held c.args.output.now)) c.in-Ok.ensures)

pub returns-clause-tells : goal.returns-clause-tells
returns-clause-tells g c =
    TellsBad-cut (g.T.Talk.talking c.args.clock.now) _ _ _ _ c.unsent_end.ensures (subst (HoldsSome (g.O.Sink.held c.args.output.now) (g.O.Sink.held c.send.new.output)) c.in-Ok.ensures c.in-Err-send.ensures.err)
