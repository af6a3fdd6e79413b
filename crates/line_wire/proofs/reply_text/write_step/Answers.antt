use Rattle.line_wire.proofs.reply_text.write_step.Goals as goal

pub returns-in-Statement-clause-ok : goal.returns-in-Statement-clause-ok
returns-in-Statement-clause-ok c = rw c.in-Statement.is (rw c.from.ensures at c.put_counted.ensures.ok)
