-- What stands before the first end of a line is the first line, and the rest holds the others.
use Rattle.line_text.proofs.LineLemmas.{lines_of-at_end, lines_of-no_end}
use Rattle.line_text.proofs.lines.first_line.Goals as goal

pub returns-in-Some-clause-lines : goal.returns-in-Some-clause-lines
returns-in-Some-clause-lines c = lines_of-at_end c.args.rest.now c.in-Some.end c.in-Some.ensures

pub returns-in-None-clause-lines : goal.returns-in-None-clause-lines
returns-in-None-clause-lines c = lines_of-no_end c.args.rest.now c.in-None.ensures c.if-is_empty.ensures
