-- The lines are those of a table, or one is the first that is wrong.
use Rattle.line_text.specs.Lines.{lines_of}
use Rattle.pcfs_modes.specs.Answers.{ComesTo}
use Rattle.pcfs_modes.proofs.EndLemmas.{comes_to_fault, comes_to_table, ends_faulty}
use Rattle.pcfs_modes.proofs.answering.text_end.Goals as goal

pub returns-in-Ok : goal.returns-in-Ok
returns-in-Ok c = comes_to_table c.args.from c.args.to c.table_end.result (lines_of c.args.text.now) c.in-Ok.table c.in-Ok.ensures c.table_end.ensures

pub returns-in-Err : goal.returns-in-Err
returns-in-Err c =
    ends_faulty c.faulty_end.result c.in-Err.fault (ComesTo c.args.from c.args.to (lines_of c.args.text.now)) c.faulty_end.ensures.status c.faulty_end.ensures.lines c.faulty_end.ensures.not_memory
    (comes_to_fault c.args.from c.args.to (lines_of c.args.text.now) c.in-Err.fault c.in-Err.ensures)
