-- The front of the line is wrong.
use Rattle.root_signing.specs.SigningLines.{of_statement_head}
use Rattle.root_signing.proofs.SignLemmas.{line_wrong}
use Rattle.root_signing.proofs.signing.sign_line.Goals as goal

pub returns-in-Err : goal.returns-in-Err
returns-in-Err c =
    line_wrong c.decide.result c.args.signer.now c.args.number c.args.line.now c.in-Err.fault c.args.signer.now c.args.out.now c.decide.new.out (of_statement_head c.in-Err.fault c.in-Err.ensures) c.decide.ensures.decided c.decide.ensures.line
