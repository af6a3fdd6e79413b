-- The tests of a line, in their order.
use Rattle.std.proofs.Common.{sym, rules}
use Rattle.line_forms.specs.Lines.{of_count}
use Rattle.line_forms.proofs.ReadLemmas.{unread_head, at_exit, line_read, words_unread}
use Rattle.line_forms.proofs.line.read_line_in.Goals as goal

pub returns-in_err-form : goal.returns-in_err-form
returns-in_err-form c =
    at_exit c.args.mode.now c.args.line.now c.from_residual.result c.in_err-form.field-0.0 (search rules) (unread_head c.args.mode.now c.args.line.now c.in_err-form.field-0.0 c.in_err-form.ensures.shown)

pub returns-then-not-is_counted : goal.returns-then-not-is_counted
returns-then-not-is_counted c = of_count c.in_ok-form.form c.in_ok-form.behind.now c.in_ok-form.ensures.shown (sym c.if-not-is_counted.ensures)

pub returns-in-Ok : goal.returns-in-Ok
returns-in-Ok c =
    line_read c.args.mode.now c.args.line.now c.in_ok-form.form c.in_ok-form.behind.now c.is_session.result c.kinds_of.result.now c.blank-arguments.result c.read_words.new.arguments c.in-Ok.rest.now c.text_of.result.now c.line_of.result c.in_ok-form.ensures.shown (sym c.if-not-is_counted.ensures)
    c.is_session.ensures c.kinds_of.ensures c.blank-arguments.ensures c.in-Ok.ensures c.text_of.ensures c.line_of.ensures

pub returns-in-Err : goal.returns-in-Err
returns-in-Err c =
    words_unread c.args.mode.now c.args.line.now c.in_ok-form.form c.in_ok-form.behind.now c.is_session.result c.kinds_of.result.now c.in-Err.fault c.word_fault.result c.in_ok-form.ensures.shown (sym c.if-not-is_counted.ensures) c.is_session.ensures c.kinds_of.ensures c.in-Err.ensures c.word_fault.ensures
