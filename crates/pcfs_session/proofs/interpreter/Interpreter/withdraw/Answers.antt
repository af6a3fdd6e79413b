-- The statement is withdrawn under the line's signature, or under the ring's.
use Rattle.std.proofs.lemmas.Result.{IfOk-weaker}
use Rattle.access_history.specs.declared.request.StepRequest.TheVariants as requests
use Rattle.line_forms.specs.declared.command.Command.TheVariants.{Withdraw}
use Rattle.pcfs_session.specs.Interpreter.{IsDecidedAs, IsFollowed}
use Rattle.pcfs_session.proofs.InterpreterLemmas.{IsFollowed-withdraw, withdrawal_here}
use Rattle.pcfs_session.proofs.StoredLemmas.{LeadsTo-also}
use Rattle.pcfs_session.proofs.interpreter.Interpreter.withdraw.Goals as goal

pub returns-clause-ok : goal.returns-clause-ok
returns-clause-ok g c =
    IfOk-weaker c.ask.result _ _ (λ reply asked.
    LeadsTo-also g.D.Disk.clock g.D.Disk.left_since g.D.Disk.image g.D.Disk.faults (IsDecidedAs (requests.Withdraw c.args.number c.in_ok-signature.signature)) (IsFollowed (Withdraw c.args.number c.args.signature)) c.args.self.now c.ask.new.self reply (λ met decided.
    IsFollowed-withdraw _ _ c.args.number c.args.signature c.in_ok-signature.signature reply
    (withdrawal_here c.history.result.now c.gate.result.now _ _ c.args.number c.args.signature c.in_ok-signature.signature c.history.ensures.ring c.history.ensures.base c.history.ensures.events c.gate.ensures c.self.view_is c.in_ok-signature.ensures) decided) asked) c.ask.ensures.ok
