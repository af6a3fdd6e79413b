-- The input is read to its end, or it is not; and a line is too long, or none is.
use Rattle.std.proofs.Common.{List, ℕ, ap, Ok, Err, subst, sym, ◌∙◌}
use Rattle.std.specs.Prelude.{codes}
use Rattle.std.proofs.lemmas.Bool.{false≢true}
use Rattle.line_faults.specs.LongLines.{HasLongLine}
use Rattle.line_text.specs.Lines.{lines_of}
use Rattle.root_signing.specs.Signed.{SigningEnds, long_line, read_fault, too_long}
use Rattle.root_signing.proofs.EndLemmas.{ends_answered, ends_with, not_failed, on_err}
use Rattle.root_signing.proofs.answering.answer_signing.Goals as goal

pub returns-in-Err-Failed-clause-ends : goal.returns-in-Err-Failed-clause-ends
returns-in-Err-Failed-clause-ends g c =
    let is = c.in-Err-Failed.is ∙ ap (λ e. Err e) c.in-Err-Failed.field-0-is in
    ends_with (Ok c.in_ok-failed.failed) 6 (codes "readfault\n")
    (SigningEnds c.args.height c.args.from (g.I.Source.left c.args.input.now) (g.I.Source.left c.read_to_end.new.input) (g.I.Source.faults c.args.input.now) (g.I.Source.faults c.read_to_end.new.input) (g.I.Source.broken c.read_to_end.new.input))
    c.in_ok-failed.ensures.status c.in_ok-failed.ensures.lines (read_fault (c.read_to_end.ensures.by_one is) (c.read_to_end.ensures.broken is))

pub returns-in-Err-TooLong-clause-ends : goal.returns-in-Err-TooLong-clause-ends
returns-in-Err-TooLong-clause-ends g c =
    let is = c.in-Err-TooLong.is ∙ ap (λ e. Err e) c.in-Err-TooLong.field-0-is in
    ends_with c.unread_end-in-Err-TooLong.result 13 (codes "toolong\n")
    (SigningEnds c.args.height c.args.from (g.I.Source.left c.args.input.now) (g.I.Source.left c.read_to_end.new.input) (g.I.Source.faults c.args.input.now) (g.I.Source.faults c.read_to_end.new.input) (g.I.Source.broken c.read_to_end.new.input))
    c.unread_end-in-Err-TooLong.ensures.status c.unread_end-in-Err-TooLong.ensures.lines (too_long (c.read_to_end.ensures.too_long is) (c.read_to_end.ensures.steady (not_failed _ is)))

pub returns-in-Err-TooLong-clause-steady : goal.returns-in-Err-TooLong-clause-steady
returns-in-Err-TooLong-clause-steady g c =
    let is = c.in-Err-TooLong.is ∙ ap (λ e. Err e) c.in-Err-TooLong.field-0-is in
    on_err c.unread_end-in-Err-TooLong.result _ (c.read_to_end.ensures.steady (not_failed _ is))

pub returns-then-has_long_line-clause-ends : goal.returns-then-has_long_line-clause-ends
returns-then-has_long_line-clause-ends g c =
    ends_with c.unread_end-then-has_long_line.result 2 (codes "bad 3\n")
    (SigningEnds c.args.height c.args.from (g.I.Source.left c.args.input.now) (g.I.Source.left c.read_to_end.new.input) (g.I.Source.faults c.args.input.now) (g.I.Source.faults c.read_to_end.new.input) (g.I.Source.broken c.read_to_end.new.input))
    c.unread_end-then-has_long_line.ensures.status c.unread_end-then-has_long_line.ensures.lines
    (long_line _ c.in-Ok.ensures.ok (subst (λ (bytes : List ℕ). HasLongLine (lines_of bytes)) c.as_slice.ensures (c.has_long_line.ensures.0 c.if-has_long_line.true)) (c.in-Ok.ensures.steady (λ is. cc)))

pub returns-then-has_long_line-clause-steady : goal.returns-then-has_long_line-clause-steady
returns-then-has_long_line-clause-steady g c = on_err c.unread_end-then-has_long_line.result _ (c.in-Ok.ensures.steady (λ is. cc))

pub returns-clause-ends : goal.returns-clause-ends
returns-clause-ends g c =
    ends_answered c.text_end.result c.args.height c.args.from _ _ _ _ _ _ _ c.as_slice-2.ensures c.in-Ok.ensures.ok
    (λ has. false≢true (sym c.if-has_long_line.false ∙ c.has_long_line.ensures.1 (subst (λ (bytes : List ℕ). HasLongLine (lines_of bytes)) (sym c.as_slice.ensures) has)))
    (c.in-Ok.ensures.steady (λ is. cc)) c.text_end.ensures

pub returns-clause-steady : goal.returns-clause-steady
returns-clause-steady g c = on_err c.text_end.result _ (c.in-Ok.ensures.steady (λ is. cc))
