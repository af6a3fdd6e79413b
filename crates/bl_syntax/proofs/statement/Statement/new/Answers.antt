use Rattle.bl_syntax.proofs.statement.Statement.new.Goals as goal

pub invariant_of-result : goal.invariant_of-result
invariant_of-result c = (c.may_be_said.ensures c.args.who).0 c.if-may_be_said.true
