-- It is the proved grant, or that one with the numbers.
use Rattle.access_history.proofs.CitingLemmas.{proved_form, naming_form}
use Rattle.access_history.proofs.citing.is_grant_of.Goals as goal

pub returns-then-is_same : goal.returns-then-is_same
returns-then-is_same c = proved_form c.args.proved.now c.args.grant.now c.args.numbers.now c.is_same.result c.if-is_same.true c.is_same.ensures.decides

pub returns-else-is_same : goal.returns-else-is_same
returns-else-is_same c =
    naming_form c.args.proved.now c.args.grant.now c.args.numbers.now c.is_same.result c.is_naming.result c.if-is_same.false c.is_same.ensures.decides c.is_naming.ensures
