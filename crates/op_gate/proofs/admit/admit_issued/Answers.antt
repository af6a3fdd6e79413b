-- The statements are found and the proof is checked again, or they are not found.
use Rattle.std.proofs.Common.{sym, ◌∙◌}
use Rattle.access_history.specs.Books.{live_book}
use Rattle.access_history.proofs.CitingLemmas.{AreCited-found}
use Rattle.op_gate.proofs.AdmitLemmas.{issued_cited, issued_uncited}
use Rattle.op_gate.proofs.admit.admit_issued.Goals as goal

pub issue_again-requires-clause-cited : goal.issue_again-requires-clause-cited
issue_again-requires-clause-cited c = c.in-Ok.ensures.1.numbers_are ∙ c.as_slice.ensures ∙ sym c.as_slice-in-Ok.ensures

pub issue_again-requires-clause-rising : goal.issue_again-requires-clause-rising
issue_again-requires-clause-rising c = AreCited-found (live_book c.statements.result.now) c.as_slice.result.now c.in-Ok.cites c.in-Ok.ensures.1 c.in-Ok.ensures.0

pub returns-in-Ok : goal.returns-in-Ok
returns-in-Ok c =
    issued_cited c.args.history.now c.args.pass c.args.cited.now c.args.proof c.args.grant.now c.in-Ok.cites c.issue_again.result c.statements.result.now c.as_slice.result.now c.requires c.statements.ensures.same c.as_slice.ensures c.in-Ok.ensures c.issue_again.ensures

pub returns-in-Err : goal.returns-in-Err
returns-in-Err c =
    issued_uncited c.args.history.now c.args.pass c.args.cited.now c.args.proof c.args.grant.now c.in-Err.fault c.statements.result.now c.as_slice.result.now c.requires c.statements.ensures.same c.as_slice.ensures c.in-Err.ensures
