-- The procap is shown to whom it may be.
use Rattle.std.proofs.Common.{ap}
use Rattle.std.proofs.lemmas.Result.{IfOk-weaker}
use Rattle.access_history.specs.declared.request.StepRequest.TheVariants as requests
use Rattle.line_forms.specs.declared.command.Command.TheVariants.{Procap}
use Rattle.pcfs_session.specs.Interpreter.{IsDecidedAs, IsFollowed}
use Rattle.pcfs_session.proofs.InterpreterLemmas.{IsFollowed-show}
use Rattle.pcfs_session.proofs.StoredLemmas.{LeadsTo-also}
use Rattle.pcfs_session.proofs.interpreter.Interpreter.show.Goals as goal

pub returns-clause-ok : goal.returns-clause-ok
returns-clause-ok g c =
    IfOk-weaker c.ask-2.result _ _ (λ reply asked.
    LeadsTo-also g.D.Disk.clock g.D.Disk.left_since g.D.Disk.image g.D.Disk.faults (IsDecidedAs (requests.ShowProcap c.args.number _)) (IsFollowed (Procap c.args.number)) c.args.self.now c.ask-2.new.self reply (λ met decided.
    IsFollowed-show _ _ c.args.number _ reply (ap (λ i. i.asker.sees) c.ask.view_is) decided) asked) c.ask-2.ensures.ok
