-- The first line gives the seed, or it is wrong.
use Rattle.line_text.specs.Lines.{lines_of}
use Rattle.root_signing.proofs.EndLemmas.{ends_bad, ends_signed}
use Rattle.root_signing.proofs.answering.lines_end.Goals as goal

pub returns-in-Ok : goal.returns-in-Ok
returns-in-Ok c = ends_signed c.signed_end.result c.args.height c.args.from c.args.line.now (lines_of c.args.others.now) c.in-Ok.seed c.in-Ok.ensures c.signed_end.ensures

pub returns-in-Err : goal.returns-in-Err
returns-in-Err c =
    ends_bad c.bad_end.result c.args.height c.args.from c.args.line.now (lines_of c.args.others.now) c.in-Err.fault c.in-Err.ensures c.bad_end.ensures.status c.bad_end.ensures.lines c.bad_end.ensures.not_memory
