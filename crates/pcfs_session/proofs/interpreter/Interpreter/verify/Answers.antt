-- The statements are found, the proof is checked, and the grant is issued; or the first of these that fails is reported.
use Rattle.std.proofs.lemmas.Result.{IfOk-weaker}
use Rattle.line_forms.specs.declared.command.Command.TheVariants.{Verify}
use Rattle.access_history.specs.declared.request.StepRequest.TheVariants.{Issue}
use Rattle.pcfs_session.specs.Interpreter.{IsDecidedAs, IsFollowed}
use Rattle.pcfs_session.proofs.InterpreterLemmas.{AreCited-given, Cites-seated, IsFollowed-verify_absent, IsFollowed-verify_refused, IsFollowed-verify}
use Rattle.pcfs_session.proofs.StoredLemmas.{LeadsTo-same, LeadsTo-also}
use Rattle.pcfs_session.proofs.interpreter.Interpreter.verify.Goals as goal

pub verify-requires : goal.verify-requires
verify-requires g c = AreCited-given _ c.args.numbers.now c.as_slice.result.now c.in_ok-number.field-0 c.in-Cited.cites c.in-Cited.is c.as_slice.ensures c.in_ok-number.ensures c.requires.citable

pub returns-in-Absent-clause-ok : goal.returns-in-Absent-clause-ok
returns-in-Absent-clause-ok g c =
    LeadsTo-same g.D.Disk.clock g.D.Disk.left_since g.D.Disk.image g.D.Disk.faults (IsFollowed (Verify c.args.goal c.args.numbers.now c.args.proof)) c.args.self.now _ c.requires.running
    (IsFollowed-verify_absent _ c.args.goal c.args.numbers.now c.args.proof c.in_ok-number.field-0 c.in-Absent.number c.in-Absent.is
    (Cites-seated c.gate.result.now _ _ c.as_slice.result.now c.args.numbers.now c.in_ok-number.field-0 c.gate.ensures c.self.view_is c.as_slice.ensures c.in_ok-number.ensures))

pub returns-in-Ok-clause-ok : goal.returns-in-Ok-clause-ok
returns-in-Ok-clause-ok g c =
    IfOk-weaker c.ask.result _ _ (λ reply asked.
    LeadsTo-also g.D.Disk.clock g.D.Disk.left_since g.D.Disk.image g.D.Disk.faults (IsDecidedAs (Issue c.in-Ok.checked)) (IsFollowed (Verify c.args.goal c.args.numbers.now c.args.proof)) c.args.self.now c.ask.new.self reply (λ met decided.
    IsFollowed-verify _ _ c.args.goal c.args.numbers.now c.args.proof c.in_ok-number.field-0 c.in-Cited.cites c.in-Ok.checked reply c.in-Cited.is
    (Cites-seated c.gate.result.now _ _ c.as_slice.result.now c.args.numbers.now c.in_ok-number.field-0 c.gate.ensures c.self.view_is c.as_slice.ensures c.in_ok-number.ensures)
    c.in-Ok.ensures.ok c.in-Ok.ensures.granted decided) asked) c.ask.ensures.ok

pub returns-in-Err-clause-ok : goal.returns-in-Err-clause-ok
returns-in-Err-clause-ok g c =
    IfOk-weaker c.unproved.result _ _ (λ reply told.
    LeadsTo-same g.D.Disk.clock g.D.Disk.left_since g.D.Disk.image g.D.Disk.faults (IsFollowed (Verify c.args.goal c.args.numbers.now c.args.proof)) c.args.self.now reply c.requires.running
    (IsFollowed-verify_refused _ c.args.goal c.args.numbers.now c.args.proof c.in_ok-number.field-0 c.in-Cited.cites c.in-Err.fault reply c.in-Cited.is
    (Cites-seated c.gate.result.now _ _ c.as_slice.result.now c.args.numbers.now c.in_ok-number.field-0 c.gate.ensures c.self.view_is c.as_slice.ensures c.in_ok-number.ensures)
    c.in-Err.ensures.fault told)) c.unproved.ensures.ok
