use Rattle.std.proofs.lemmas.Result.{IfOk-weaker, on_err_weaker}
use Rattle.nine_fids.specs.States.{fid_at}
use Rattle.nine_fids.specs.Steps.{read_file}
use Rattle.nine_fids.proofs.TakingLemmas.{at_no_fid, at_some_fid, at_some_operation}
use Rattle.nine_fids.proofs.connection.Connection.read_at.Goals as goal

pub returns-in-None-clause-ok : goal.returns-in-None-clause-ok
returns-in-None-clause-ok c = at_no_fid c.args.self.now (fid_at c.args.self.now c.args.fid) (read_file c.args.self.now c.args.offset c.args.count) c.in-None.ensures

pub returns-in-Some-clause-ok : goal.returns-in-Some-clause-ok
returns-in-Some-clause-ok c =
    IfOk-weaker c.read_file.result _ _ (λ step is.
    at_some_fid c.args.self.now (fid_at c.args.self.now c.args.fid) (read_file c.args.self.now c.args.offset c.args.count) c.in-Some.it (step, c.args.self.now) c.in-Some.ensures is) c.read_file.ensures.ok

pub returns-in-Some-clause-err : goal.returns-in-Some-clause-err
returns-in-Some-clause-err c =
    on_err_weaker c.read_file.result (at_some_operation c.args.self.now (fid_at c.args.self.now c.args.fid) (read_file c.args.self.now c.args.offset c.args.count) c.in-Some.it c.in-Some.ensures) c.read_file.ensures.err
