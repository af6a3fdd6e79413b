-- The lines that a piece ends are answered, or a line is too long.
use Rattle.std.proofs.Common.{◌≡◌, ap, ◌∙◌, Err, refl}
use Rattle.line_framer.specs.Framing.{FramerState}
use Rattle.pcfs_session.proofs.StillLemmas.{still_halted, halted_no_read}
use Rattle.pcfs_session.specs.declared.script_end.ScriptEnd.TheVariants as script_ends
use Rattle.pcfs_session.proofs.ScriptEndsLemmas.{AnswersPiece-held, few_held, PieceEnds-long, PieceEnds-refused, PieceEnds-halted, halted_write}
use Rattle.pcfs_session.proofs.script.answer_piece.Goals as goal

pub returns-in-Err-TooLong-clause-ends : goal.returns-in-Err-TooLong-clause-ends
returns-in-Err-TooLong-clause-ends g c = PieceEnds-long g.D.Disk.clock g.D.Disk.left_since g.D.Disk.image g.D.Disk.faults _ _ _ _ _ _ _ _ _ _ c.in-Err-TooLong.field-0-is c.requires.not_long c.in-Err-TooLong.ensures c.end_at_long_line.ensures.ends

pub returns-in-Err-TooLong-clause-risen : goal.returns-in-Err-TooLong-clause-risen
returns-in-Err-TooLong-clause-risen g c is =
    let same : c.end_at_long_line.result ≡ script_ends.WriteFault = cc in
    c.end_at_long_line.ensures.risen same

pub returns-in-Err-NoMemory-clause-ends : goal.returns-in-Err-NoMemory-clause-ends
returns-in-Err-NoMemory-clause-ends g c = PieceEnds-refused g.D.Disk.clock g.D.Disk.left_since g.D.Disk.image g.D.Disk.faults _ _ _ _ _ _ c.requires.running refl

pub returns-in-Ok-answer_out-clause-ok : goal.returns-in-Ok-answer_out-clause-ok
returns-in-Ok-answer_out-clause-ok g c = AnswersPiece-held g.D.Disk.clock g.D.Disk.left_since g.D.Disk.image g.D.Disk.faults _ _ _ _ _ _ _ _ _ _ c.in-Ok.ensures c.requires.nothing_waits c.in-Ok-answer_out.ensures.empty c.in-Ok-answer_out.ensures.ok

pub returns-in-Ok-answer_out-clause-few : goal.returns-in-Ok-answer_out-clause-few
returns-in-Ok-answer_out-clause-few g c = few_held g.D.Disk.clock g.D.Disk.left_since g.D.Disk.image g.D.Disk.faults _ _ _ _ _ _ _ _ _ _ c.in-Ok.ensures c.in-Ok-answer_out.ensures.ok

pub returns-in-Ok-answer_out-clause-stays_so : goal.returns-in-Ok-answer_out-clause-stays_so
returns-in-Ok-answer_out-clause-stays_so g c = c.in-Ok-answer_out.ensures.long_stays ∙ ap (λ (f : FramerState). f.is_long) c.in-Ok.ensures.after_is

pub returns-in-Err-clause-ends : goal.returns-in-Err-clause-ends
returns-in-Err-clause-ends g c = PieceEnds-halted g.D.Disk.clock g.D.Disk.left_since g.D.Disk.image g.D.Disk.faults _ _ _ _ _ _ _ _ _ _ _ c.halted_end.ensures c.requires.nothing_waits (ap (λ (f : FramerState). f.left) c.in-Ok.ensures.after_is) c.in-Err.ensures.halts

pub returns-in-Err-clause-risen : goal.returns-in-Err-clause-risen
returns-in-Err-clause-risen g c is =
    let same : c.halted_end.result ≡ script_ends.WriteFault = cc in
    c.in-Err.ensures.risen (ap Err (halted_write _ _ c.halted_end.ensures same))

pub returns-in-Err-TooLong-clause-by_one : goal.returns-in-Err-TooLong-clause-by_one
returns-in-Err-TooLong-clause-by_one g c is =
    let same : c.end_at_long_line.result ≡ script_ends.WriteFault = cc in
    c.end_at_long_line.ensures.by_one same

pub returns-in-Err-TooLong-clause-broken : goal.returns-in-Err-TooLong-clause-broken
returns-in-Err-TooLong-clause-broken g c is =
    let same : c.end_at_long_line.result ≡ script_ends.WriteFault = cc in
    c.end_at_long_line.ensures.broken same

pub returns-in-Err-NoMemory-clause-steady_end : goal.returns-in-Err-NoMemory-clause-steady_end
returns-in-Err-NoMemory-clause-steady_end g c = refl

pub returns-in-Err-clause-steady_end : goal.returns-in-Err-clause-steady_end
returns-in-Err-clause-steady_end g c = still_halted _ _ _ _ c.halted_end.ensures c.in-Err.ensures.steady_halt

pub returns-in-Err-clause-by_one : goal.returns-in-Err-clause-by_one
returns-in-Err-clause-by_one g c is =
    let same : c.halted_end.result ≡ script_ends.WriteFault = cc in
    c.in-Err.ensures.by_one (ap Err (halted_write _ _ c.halted_end.ensures same))

pub returns-in-Err-clause-broken : goal.returns-in-Err-clause-broken
returns-in-Err-clause-broken g c is =
    let same : c.halted_end.result ≡ script_ends.WriteFault = cc in
    c.in-Err.ensures.broken (ap Err (halted_write _ _ c.halted_end.ensures same))

pub returns-in-Err-clause-no_read : goal.returns-in-Err-clause-no_read
returns-in-Err-clause-no_read g c = halted_no_read _ _ c.halted_end.ensures
