-- The statements are found, and the proof is checked; or the first of these that fails is reported.
use Rattle.std.proofs.lemmas.Result.{IfOk-weaker}
use Rattle.pcfs_session.proofs.InterpreterLemmas.{AreCited-given, Cites-seated, IsFollowed-check_absent, IsFollowed-check_refused, IsFollowed-check}
use Rattle.pcfs_session.proofs.interpreter.Interpreter.check.Goals as goal

pub verdict-requires : goal.verdict-requires
verdict-requires g c = AreCited-given _ c.args.numbers.now c.as_slice.result.now c.in_ok-number.field-0 c.in-Cited.cites c.in-Cited.is c.as_slice.ensures c.in_ok-number.ensures c.requires

pub returns-in-Absent : goal.returns-in-Absent
returns-in-Absent g c =
    IsFollowed-check_absent _ c.args.goal.now c.args.numbers.now c.args.proof.now c.in_ok-number.field-0 c.in-Absent.number c.in-Absent.is
    (Cites-seated c.gate.result.now _ _ c.as_slice.result.now c.args.numbers.now c.in_ok-number.field-0 c.gate.ensures c.self.view_is c.as_slice.ensures c.in_ok-number.ensures)

pub returns-in-Ok : goal.returns-in-Ok
returns-in-Ok g c =
    IsFollowed-check _ c.args.goal.now c.args.numbers.now c.args.proof.now c.in_ok-number.field-0 c.in-Cited.cites c.in-Ok.grant c.in-Cited.is
    (Cites-seated c.gate.result.now _ _ c.as_slice.result.now c.args.numbers.now c.in_ok-number.field-0 c.gate.ensures c.self.view_is c.as_slice.ensures c.in_ok-number.ensures)
    c.in-Ok.ensures.granted

pub returns : goal.returns
returns g c =
    IfOk-weaker c.unproved.result _ _ (λ reply told.
    IsFollowed-check_refused _ c.args.goal.now c.args.numbers.now c.args.proof.now c.in_ok-number.field-0 c.in-Cited.cites c.in-Err.fault reply c.in-Cited.is
    (Cites-seated c.gate.result.now _ _ c.as_slice.result.now c.args.numbers.now c.in_ok-number.field-0 c.gate.ensures c.self.view_is c.as_slice.ensures c.in_ok-number.ensures)
    c.in-Err.ensures.fault told) c.unproved.ensures.ok
