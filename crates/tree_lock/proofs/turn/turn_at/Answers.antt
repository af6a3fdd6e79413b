use Rattle.std.proofs.Common.{◌∙◌, sym}
use Rattle.tree_lock.proofs.TurnLemmas.{same_view, turned}
use Rattle.tree_lock.proofs.turn.turn_at.Goals as goal

pub returns-clause-turned : goal.returns-clause-turned
returns-clause-turned g c turns =
    let told = c.show_entries.ensures in
    let came = same_view c.args.seat.now c.approach.new.seat c.approach.ensures.0 c.approach.ensures.1 in
    turned g.V.Recorded.entries (g.J.Job.done c.args.job) c.args.seat.now c.draw-ticket.new.seat c.wait_turn.new.seat c.work_at-out.new.seat c.show_entries.new.seat c.serve.new.seat c.call_next.new.seat c.args.number c.wait_turn.ensures.1.0
    c.work_at-out.result c.requires.number (c.draw-ticket.ensures.same ∙ came) c.wait_turn.ensures.0 c.wait_turn.ensures.1.1 c.work_at-out.ensures (told.0, told.3, told.4)
    (c.serve.ensures.idle.at.here ∙ sym (c.work_at-out.ensures.5 ∙ c.wait_turn.ensures.0 ∙ c.draw-ticket.ensures.seat.at.here)) c.serve.ensures.view c.call_next.ensures.0 c.call_next.ensures.1 turns
