use Rattle.std.proofs.Common.{ap, ◌∙◌}
use Rattle.attr_state.specs.Index.{marks_of}
use Rattle.attr_state.proofs.MarkLemmas.{marks-removed}
use Rattle.attr_state.proofs.applying.drop_mark.Goals as goal

pub returns-clause-gone : goal.returns-clause-gone
returns-clause-gone c = ap marks_of c.remove.ensures.entries ∙ marks-removed c.args.marks.now.entries c.args.number
