-- Each end has its line.
use Rattle.std.proofs.Common.{List, ap, subst, sym, ℕ, ◌∙◌, Ok, Err}
use Rattle.std.proofs.lemmas.Bool.{false≢true}
use Rattle.std.specs.Prelude.{codes}
use Rattle.line_text.specs.Lines.{lines_of}
use Rattle.bl_syntax.specs.Statement.{StatementView}
use Rattle.proof_verifier.specs.Cited.{AreCited, statements_of}
use Rattle.proof_verifier.specs.Verdict.{verdict}
use Rattle.line_faults.specs.LongLines.{HasLongLine}
use Rattle.line_faults.specs.Reports.{bad_line_text}
use Rattle.pcfs_inquiry.specs.Answers.{InquiryEnds, answered, bad_line, long_line, read_fault, too_long, verdict_text}
use Rattle.pcfs_inquiry.specs.Inquiry.{HasFirstFault, IsInquiry}
use Rattle.pcfs_inquiry.proofs.InquiryLemmas.{AreCited-numbered, ends_with, not_failed, on_err, statements_of-numbered}
use Rattle.pcfs_inquiry.proofs.answering.answer_input.Goals as goal

pub returns-in-Err-Failed-clause-ends : goal.returns-in-Err-Failed-clause-ends
returns-in-Err-Failed-clause-ends g c =
    let is = c.in-Err-Failed.is ∙ ap (λ e. Err e) c.in-Err-Failed.field-0-is in
    ends_with (Ok c.in_ok-failed.failed) c.line_with.result 6 (codes "readfault") (InquiryEnds (g.I.Source.left c.args.input.now) (g.I.Source.left c.read_to_end.new.input) (g.I.Source.faults c.args.input.now) (g.I.Source.faults c.read_to_end.new.input) (g.I.Source.broken c.read_to_end.new.input))
    c.in_ok-failed.ensures.status c.in_ok-failed.ensures.line c.line_with.ensures (read_fault (c.read_to_end.ensures.by_one is) (c.read_to_end.ensures.broken is))

pub returns-in-Err-TooLong-clause-ends : goal.returns-in-Err-TooLong-clause-ends
returns-in-Err-TooLong-clause-ends g c =
    let is = c.in-Err-TooLong.is ∙ ap (λ e. Err e) c.in-Err-TooLong.field-0-is in
    ends_with c.end_with-in-Err-TooLong.result c.line_with-in-Err-TooLong.result 13 (codes "toolong") (InquiryEnds (g.I.Source.left c.args.input.now) (g.I.Source.left c.read_to_end.new.input) (g.I.Source.faults c.args.input.now) (g.I.Source.faults c.read_to_end.new.input) (g.I.Source.broken c.read_to_end.new.input))
    c.end_with-in-Err-TooLong.ensures.status c.end_with-in-Err-TooLong.ensures.line c.line_with-in-Err-TooLong.ensures (too_long (c.read_to_end.ensures.too_long is) (c.read_to_end.ensures.steady (not_failed _ is)))

pub returns-in-Err-TooLong-clause-steady : goal.returns-in-Err-TooLong-clause-steady
returns-in-Err-TooLong-clause-steady g c =
    let is = c.in-Err-TooLong.is ∙ ap (λ e. Err e) c.in-Err-TooLong.field-0-is in
    on_err c.end_with-in-Err-TooLong.result _ (c.read_to_end.ensures.steady (not_failed _ is))

pub returns-then-has_long_line-clause-steady : goal.returns-then-has_long_line-clause-steady
returns-then-has_long_line-clause-steady g c = on_err c.end_with-then-has_long_line.result _ (c.in-Ok.ensures.steady (λ is. cc))

pub returns-then-has_long_line-clause-ends : goal.returns-then-has_long_line-clause-ends
returns-then-has_long_line-clause-ends g c =
    ends_with c.end_with-then-has_long_line.result c.line_with-then-has_long_line.result 2 (codes "bad 3") (InquiryEnds (g.I.Source.left c.args.input.now) (g.I.Source.left c.read_to_end.new.input) (g.I.Source.faults c.args.input.now) (g.I.Source.faults c.read_to_end.new.input) (g.I.Source.broken c.read_to_end.new.input))
    c.end_with-then-has_long_line.ensures.status c.end_with-then-has_long_line.ensures.line c.line_with-then-has_long_line.ensures
    (long_line _ c.in-Ok.ensures.ok (subst (λ (bytes : List ℕ). HasLongLine (lines_of bytes)) c.as_slice.ensures (c.has_long_line.ensures.0 c.if-has_long_line.true)) (c.in-Ok.ensures.steady (λ is. cc)))

pub answer-requires : goal.answer-requires
answer-requires g c =
    let read = c.in-Ok-read_inquiry.ensures in
    subst AreCited (sym read.cites_are) (AreCited-numbered read.statements read.is_inquiry.some read.is_inquiry.few)

pub returns-in-Ok-read_inquiry-clause-steady : goal.returns-in-Ok-read_inquiry-clause-steady
returns-in-Ok-read_inquiry-clause-steady g c = on_err c.end_with-in-Ok-read_inquiry.result _ (c.in-Ok.ensures.steady (λ is. cc))

pub returns-in-Ok-read_inquiry-clause-ends : goal.returns-in-Ok-read_inquiry-clause-ends
returns-in-Ok-read_inquiry-clause-ends g c =
    let inquiry = c.in-Ok-read_inquiry.inquiry in
    let read = c.in-Ok-read_inquiry.ensures in
    let same = ap statements_of read.cites_are ∙ statements_of-numbered 1 read.statements in
    let is = subst (λ (bytes : List ℕ). IsInquiry (lines_of bytes) read.statements inquiry.goal inquiry.proof) c.as_slice-2.ensures read.is_inquiry in
    let ends = subst (λ (ss : List StatementView). InquiryEnds (g.I.Source.left c.args.input.now) (g.I.Source.left c.read_to_end.new.input) (g.I.Source.faults c.args.input.now) (g.I.Source.faults c.read_to_end.new.input) (g.I.Source.broken c.read_to_end.new.input) 0 (verdict_text (verdict ss inquiry.goal inquiry.proof))) (sym same)
    (answered _ read.statements inquiry.goal inquiry.proof c.in-Ok.ensures.ok (λ has. false≢true (sym c.if-has_long_line.false ∙ c.has_long_line.ensures.1 (subst (λ (bytes : List ℕ). HasLongLine (lines_of bytes)) (sym c.as_slice.ensures) has))) is (c.in-Ok.ensures.steady (λ is. cc))) in
    ends_with c.end_with-in-Ok-read_inquiry.result c.answer.result 0 (verdict_text (verdict (statements_of inquiry.cites) inquiry.goal inquiry.proof))
    (InquiryEnds (g.I.Source.left c.args.input.now) (g.I.Source.left c.read_to_end.new.input) (g.I.Source.faults c.args.input.now) (g.I.Source.faults c.read_to_end.new.input) (g.I.Source.broken c.read_to_end.new.input))
    c.end_with-in-Ok-read_inquiry.ensures.status c.end_with-in-Ok-read_inquiry.ensures.line c.answer.ensures ends

pub returns-in-Err-Bad-clause-steady : goal.returns-in-Err-Bad-clause-steady
returns-in-Err-Bad-clause-steady g c = on_err c.end_with-in-Err-Bad.result _ (c.in-Ok.ensures.steady (λ is. cc))

pub returns-in-Err-Bad-clause-ends : goal.returns-in-Err-Bad-clause-ends
returns-in-Err-Bad-clause-ends g c =
    let has = rw c.in-Err-Bad.field-0-is at c.in-Err-Bad.ensures in
    let ends = bad_line _ c.in-Err-Bad.number c.in-Err-Bad.fault c.in-Ok.ensures.ok (λ has. false≢true (sym c.if-has_long_line.false ∙ c.has_long_line.ensures.1 (subst (λ (bytes : List ℕ). HasLongLine (lines_of bytes)) (sym c.as_slice.ensures) has))) (subst (λ (bytes : List ℕ). HasFirstFault (lines_of bytes) c.in-Err-Bad.number c.in-Err-Bad.fault) c.as_slice-2.ensures has) (c.in-Ok.ensures.steady (λ is. cc)) in
    ends_with c.end_with-in-Err-Bad.result c.bad_line.result 12 (bad_line_text c.in-Err-Bad.number c.in-Err-Bad.fault)
    (InquiryEnds (g.I.Source.left c.args.input.now) (g.I.Source.left c.read_to_end.new.input) (g.I.Source.faults c.args.input.now) (g.I.Source.faults c.read_to_end.new.input) (g.I.Source.broken c.read_to_end.new.input))
    c.end_with-in-Err-Bad.ensures.status c.end_with-in-Err-Bad.ensures.line c.bad_line.ensures ends
