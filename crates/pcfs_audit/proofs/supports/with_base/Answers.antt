-- They are counted, if they count.
use Rattle.std.proofs.Common.{sym, ◌∙◌}
use Rattle.std.proofs.lemmas.Bool.{false≢true}
use Rattle.pcfs_audit.proofs.supports.with_base.Goals as goal

pub returns-then-not-counts-clause-rows : goal.returns-then-not-counts-clause-rows
returns-then-not-counts-clause-rows c some none = absurd (false≢true (sym c.if-not-counts.true ∙ some))

pub returns-clause-rows : goal.returns-clause-rows
returns-clause-rows c some none = c.in_ok-count_base.ensures.rows none

pub returns-clause-sized : goal.returns-clause-sized
returns-clause-sized c = c.count_base.ensures.sized ∙ c.requires.sized
