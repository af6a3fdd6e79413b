-- It is counted, if it counts.
use Rattle.std.proofs.Common.{sym, ◌∙◌}
use Rattle.std.proofs.lemmas.Bool.{false≢true}
use Rattle.pcfs_audit.proofs.supports.Supports.follow_issue.Goals as goal

pub returns-then-counts-clause-follow : goal.returns-then-counts-clause-follow
returns-then-counts-clause-follow c issues issue grant_is cited_is follow = record {
  sized = c.count_issue.ensures.sized ∙ follow.sized;
  rows_are = λ some. c.count_issue.ensures.rows issues issue grant_is cited_is (follow.rows_are some);
}

pub returns-else-counts-clause-follow : goal.returns-else-counts-clause-follow
returns-else-counts-clause-follow c issues issue grant_is cited_is follow = record {
  sized = follow.sized;
  rows_are = λ some. absurd (false≢true (sym c.if-counts.false ∙ some));
}
