use Rattle.std.proofs.lemmas.Result.{IfOk-weaker, on_err_weaker}
use Rattle.nine_fids.specs.States.{fid_at}
use Rattle.nine_fids.specs.Tests.{read_tests}
use Rattle.nine_fids.specs.Steps.{at_fid, read_file}
use Rattle.nine_fids.proofs.TakingLemmas.{tested_refused, tested_passed, passed_operation}
use Rattle.nine_fids.proofs.connection.Connection.read.Goals as goal

pub returns-in-Some-clause-ok : goal.returns-in-Some-clause-ok
returns-in-Some-clause-ok c =
    tested_refused c.args.self.now (read_tests c.args.self.now c.args.fid) (at_fid c.args.self.now (fid_at c.args.self.now c.args.fid) (read_file c.args.self.now c.args.offset c.args.count)) c.in-Some.error c.in-Some.ensures

pub returns-in-None-clause-ok : goal.returns-in-None-clause-ok
returns-in-None-clause-ok c =
    IfOk-weaker c.read_at.result _ _ (λ step is.
    tested_passed c.args.self.now (read_tests c.args.self.now c.args.fid) (step, c.args.self.now) (at_fid c.args.self.now (fid_at c.args.self.now c.args.fid) (read_file c.args.self.now c.args.offset c.args.count)) c.in-None.ensures is) c.read_at.ensures.ok

pub returns-in-None-clause-err : goal.returns-in-None-clause-err
returns-in-None-clause-err c =
    on_err_weaker c.read_at.result (passed_operation c.args.self.now (read_tests c.args.self.now c.args.fid) (at_fid c.args.self.now (fid_at c.args.self.now c.args.fid) (read_file c.args.self.now c.args.offset c.args.count)) c.in-None.ensures) c.read_at.ensures.err
