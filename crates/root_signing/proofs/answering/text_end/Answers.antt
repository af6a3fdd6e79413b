-- There is a first line, or none.
use Rattle.line_text.specs.Lines.{lines_of}
use Rattle.root_signing.proofs.EndLemmas.{ends_by_line, ends_nothing}
use Rattle.root_signing.proofs.answering.text_end.Goals as goal

pub returns-in-Some : goal.returns-in-Some
returns-in-Some c = ends_by_line c.lines_end.result c.args.height c.args.from (lines_of c.args.text.now) (lines_of c.in-Some.others.now) c.in-Some.line.now c.in-Some.ensures.lines c.lines_end.ensures

pub returns-in-None : goal.returns-in-None
returns-in-None c = ends_nothing c.bad_end.result c.args.height c.args.from c.args.text.now c.in-None.ensures.lines c.bad_end.ensures.status c.bad_end.ensures.lines
