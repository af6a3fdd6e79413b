-- The verdict comes first, and then the turn that issues what is granted.
use Rattle.session_lines.proofs.DoneLemmas.{issued_refused, issued_granted}
use Rattle.session_lines.proofs.ReplyLemmas.{unproved_not_stopped}
use Rattle.session_lines.proofs.proving.issue.Goals as goal

pub take_turn-requires-clause-formed : goal.take_turn-requires-clause-formed
take_turn-requires-clause-formed g c = (c.in-Ok.ensures.are_cited, c.in-Ok.ensures.granted)

pub take_turn-requires-clause-single : goal.take_turn-requires-clause-single
take_turn-requires-clause-single g c = tt

pub returns-in-Ok-clause-issued : goal.returns-in-Ok-clause-issued
returns-in-Ok-clause-issued g c = issued_granted (g.C.TurnClock.gives c.args.clock.now) _ _ _ _ _ c.in-Ok.checked _ c.in-Ok.ensures.ok c.in-Ok.ensures.granted c.take_turn.ensures.told

pub returns-in-Ok-clause-stopped : goal.returns-in-Ok-clause-stopped
returns-in-Ok-clause-stopped g c = c.take_turn.ensures.stopped

pub returns-in-Err-clause-issued : goal.returns-in-Err-clause-issued
returns-in-Err-clause-issued g c = issued_refused (g.C.TurnClock.gives c.args.clock.now) _ _ _ _ c.in-Err.fault _ c.in-Err.ensures.fault c.unproved.ensures

pub returns-in-Err-clause-stopped : goal.returns-in-Err-clause-stopped
returns-in-Err-clause-stopped g c = λ is. absurd (unproved_not_stopped c.in-Err.fault c.unproved.result c.unproved.ensures is)
