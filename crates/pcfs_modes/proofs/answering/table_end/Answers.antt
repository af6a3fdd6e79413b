-- The statements are written, or their fault.
use Rattle.pcfs_modes.specs.Answers.{StatesTable}
use Rattle.pcfs_modes.proofs.EndLemmas.{ends_faulty, ends_with, is_not_stated, is_stated}
use Rattle.pcfs_modes.proofs.answering.table_end.Goals as goal

pub returns-in-Ok : goal.returns-in-Ok
returns-in-Ok c =
    ends_with c.stated_end.result 0 _ (StatesTable c.args.from c.args.to c.args.table.now) c.stated_end.ensures.status c.stated_end.ensures.lines
    (is_stated c.args.from c.args.to c.args.table.now c.in-Ok.statements c.in-Ok.ensures c.stated_end.ensures.few)

pub returns-in-Err : goal.returns-in-Err
returns-in-Err c =
    ends_faulty c.faulty_end.result c.in-Err.fault (StatesTable c.args.from c.args.to c.args.table.now) c.faulty_end.ensures.status c.faulty_end.ensures.lines c.faulty_end.ensures.not_memory
    (is_not_stated c.args.from c.args.to c.args.table.now c.in-Err.fault c.in-Err.ensures)
