-- A statement adds its line.
use Rattle.pcfs_modes.proofs.WritingLemmas.{line_more}
use Rattle.pcfs_modes.proofs.writing.put_statements.Goals as goal

pub loop-statement-preserved : goal.loop-statement-preserved
loop-statement-preserved c =
    line_more c.args.statements.now c.loop-statement.statement-index c.statement-item.result c.args.out.now c.loop-statement.out c.put_statement.new.out c.loop-statement-test.true c.statement-item.is c.loop-statement.invariant
    c.in_ok-put_statement.ensures
