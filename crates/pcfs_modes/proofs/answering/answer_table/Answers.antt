-- The input is read to its end, or it is not.
use Rattle.std.proofs.Common.{ap, Ok, Err, ◌∙◌}
use Rattle.std.specs.Prelude.{codes}
use Rattle.pcfs_modes.specs.Answers.{ModesEnds, read_fault, too_long}
use Rattle.pcfs_modes.proofs.EndLemmas.{at_seconds, ends_answered, ends_with, not_failed, on_err}
use Rattle.pcfs_modes.proofs.answering.answer_table.Goals as goal

pub returns-in-Ok-clause-ends : goal.returns-in-Ok-clause-ends
returns-in-Ok-clause-ends g c =
    ends_answered c.text_end.result c.args.from c.args.to _ _ _ _ _ c.in-Ok.bytes c.in-Ok.ensures.ok (c.in-Ok.ensures.steady (λ is. cc))
    (at_seconds c.text_end.result c.args.from c.args.to _ _ _ c.in-Ok.bytes c.point_at.ensures.same c.point_at-in-Ok.ensures.same c.as_slice.ensures c.text_end.ensures)

pub returns-in-Ok-clause-steady : goal.returns-in-Ok-clause-steady
returns-in-Ok-clause-steady g c = on_err c.text_end.result _ (c.in-Ok.ensures.steady (λ is. cc))

pub returns-in-Err-Failed-clause-ends : goal.returns-in-Err-Failed-clause-ends
returns-in-Err-Failed-clause-ends g c =
    let is = c.in-Err-Failed.is ∙ ap (λ e. Err e) c.in-Err-Failed.field-0-is in
    ends_with (Ok c.in_ok-failed.failed) 6 (codes "readfault\n")
    (ModesEnds c.args.from c.args.to (g.I.Source.left c.args.input.now) (g.I.Source.left c.read_to_end.new.input) (g.I.Source.faults c.args.input.now) (g.I.Source.faults c.read_to_end.new.input) (g.I.Source.broken c.read_to_end.new.input))
    c.in_ok-failed.ensures.status c.in_ok-failed.ensures.lines (read_fault (c.read_to_end.ensures.by_one is) (c.read_to_end.ensures.broken is))

pub returns-in-Err-TooLong-clause-ends : goal.returns-in-Err-TooLong-clause-ends
returns-in-Err-TooLong-clause-ends g c =
    let is = c.in-Err-TooLong.is ∙ ap (λ e. Err e) c.in-Err-TooLong.field-0-is in
    ends_with c.unread_end-in-Err-TooLong.result 13 (codes "toolong\n")
    (ModesEnds c.args.from c.args.to (g.I.Source.left c.args.input.now) (g.I.Source.left c.read_to_end.new.input) (g.I.Source.faults c.args.input.now) (g.I.Source.faults c.read_to_end.new.input) (g.I.Source.broken c.read_to_end.new.input))
    c.unread_end-in-Err-TooLong.ensures.status c.unread_end-in-Err-TooLong.ensures.lines (too_long (c.read_to_end.ensures.too_long is) (c.read_to_end.ensures.steady (not_failed _ is)))

pub returns-in-Err-TooLong-clause-steady : goal.returns-in-Err-TooLong-clause-steady
returns-in-Err-TooLong-clause-steady g c =
    let is = c.in-Err-TooLong.is ∙ ap (λ e. Err e) c.in-Err-TooLong.field-0-is in
    on_err c.unread_end-in-Err-TooLong.result _ (c.read_to_end.ensures.steady (not_failed _ is))
