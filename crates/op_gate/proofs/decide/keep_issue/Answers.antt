-- What a proof cites may be named.
use Rattle.std.proofs.Common.{inr, sym, subst}
use Rattle.bl_syntax.specs.Grant.{MayName}
use Rattle.op_gate.proofs.decide.keep_issue.Goals as goal

pub pend_issue-requires : goal.pend_issue-requires
pend_issue-requires c = subst MayName (sym c.in-Ok.ensures.named) (inr c.requires)
