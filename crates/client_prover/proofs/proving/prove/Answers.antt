-- What is asked for is asked for by what is wanted.
use Rattle.std.proofs.Common.{IfOk, subst}
use Rattle.client_prover.specs.Proofs.{IsAnswer}
use Rattle.client_prover.proofs.proving.prove.Goals as goal

pub returns : goal.returns
returns c = subst (λ asked. IfOk c.answer_of.result (IsAnswer c.args.statements.now asked)) c.asked_for-asked.ensures c.answer_of.ensures
