-- The text is a statement's, or it is wrong.
use Rattle.root_signing.proofs.SignLemmas.{line_said, line_wrong_text}
use Rattle.root_signing.proofs.signing.sign_text.Goals as goal

pub returns-in-Ok : goal.returns-in-Ok
returns-in-Ok c line line_is =
    line_said c.sign_statement.result c.args.signer.now c.args.number line c.args.text.now _ c.sign_statement.new.signer c.args.out.now c.sign_statement.new.out line_is c.in-Ok.ensures.read c.sign_statement.ensures

pub returns-in-Err : goal.returns-in-Err
returns-in-Err c line line_is =
    line_wrong_text c.decide_by_text.result c.args.signer.now c.args.number line c.args.text.now c.in-Err.fault c.args.signer.now c.args.out.now c.decide_by_text.new.out line_is c.in-Err.ensures.fault c.decide_by_text.ensures.decided
    c.decide_by_text.ensures.line c.decide_by_text.ensures.not_memory
