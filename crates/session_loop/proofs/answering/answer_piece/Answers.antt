-- The items that are whole with a piece are answered, or what comes after them is none.
use Rattle.std.proofs.Common.{◌++◌}
use Rattle.session_loop.specs.Spoken.{at_bad}
use Rattle.session_loop.proofs.PieceLemmas.{EndsAtPiece-cut, EndsAtPiece-refused}
use Rattle.session_loop.proofs.answering.answer_piece.Goals as goal

pub returns-in-Err-clause-ends : goal.returns-in-Err-clause-ends
returns-in-Err-clause-ends g c state mark left stands is_open = EndsAtPiece-refused (g.T.Talk.talking c.args.clock.now) (g.met.T.Talk.laws c.args.clock.now) state mark (left ++ c.args.piece.now) _ _

pub returns-then-is_bad-clause-ends : goal.returns-then-is_bad-clause-ends
returns-then-is_bad-clause-ends g c state mark left stands is_open =
    let heard = rw c.if-is_bad.true at c.in-Ok-answer_held.ensures.ok in
    at_bad _ _ (heard state mark (left ++ c.args.piece.now) (c.in-Ok.ensures c.args.clock.now state mark left stands is_open)) c.end_at_bad.ensures.tells

pub returns-else-is_bad-clause-ok : goal.returns-else-is_bad-clause-ok
returns-else-is_bad-clause-ok g c state mark left stands is_open =
    let heard = rw c.if-is_bad.false at c.in-Ok-answer_held.ensures.ok in
    heard state mark (left ++ c.args.piece.now) (c.in-Ok.ensures c.args.clock.now state mark left stands is_open)

pub returns-in-Err-answer_held-clause-ends : goal.returns-in-Err-answer_held-clause-ends
returns-in-Err-answer_held-clause-ends g c state mark left stands is_open =
    EndsAtPiece-cut (g.T.Talk.talking c.args.clock.now) state mark (left ++ c.args.piece.now) _ _ _ _ _ _ c.unsent_end.ensures
    (c.in-Err-answer_held.ensures.cut state mark (left ++ c.args.piece.now) (c.in-Ok.ensures c.args.clock.now state mark left stands is_open))
