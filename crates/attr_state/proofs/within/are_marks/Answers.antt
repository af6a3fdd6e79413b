-- Rows are marks exactly if their numbers rise and each is one.
use Rattle.attr_state.proofs.WithinLemmas.{marks_from_each, each_from_marks}
use Rattle.attr_state.proofs.within.are_marks.Goals as goal

pub returns : goal.returns
returns c = (
  λ t. marks_from_each c.args.rows.now (c.do_numbers_rise.ensures.0 c.if-not-do_numbers_rise.false) (c.are_each_marks.ensures.0 t),
  λ are. c.are_each_marks.ensures.1 (each_from_marks c.args.rows.now are),
)
