-- Nothing has the number 0.
use Rattle.pcfs_audit.proofs.EndsLemmas.{ended_none}
use Rattle.pcfs_audit.proofs.ends.end_statement.Goals as goal

pub returns-then-number-eq0 : goal.returns-then-number-eq0
returns-then-number-eq0 c = ended_none c.args.ends.now.items c.args.number c.args.place c.if-number-eq0.true
