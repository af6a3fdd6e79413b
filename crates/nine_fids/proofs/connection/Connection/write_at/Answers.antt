use Rattle.std.proofs.lemmas.Result.{IfOk-weaker, on_err_weaker}
use Rattle.nine_fids.specs.States.{fid_at}
use Rattle.nine_fids.specs.Steps.{write_file}
use Rattle.nine_fids.proofs.TakingLemmas.{at_no_fid, at_some_fid, at_some_copied}
use Rattle.nine_fids.proofs.connection.Connection.write_at.Goals as goal

pub returns-in-None-clause-ok : goal.returns-in-None-clause-ok
returns-in-None-clause-ok c = at_no_fid c.args.self.now (fid_at c.args.self.now c.args.fid) (write_file c.args.self.now c.args.asked c.args.offset c.args.count) c.in-None.ensures

pub returns-in-Some-clause-ok : goal.returns-in-Some-clause-ok
returns-in-Some-clause-ok c =
    IfOk-weaker c.write_file.result _ _ (λ step is.
    at_some_fid c.args.self.now (fid_at c.args.self.now c.args.fid) (write_file c.args.self.now c.args.asked c.args.offset c.args.count) c.in-Some.it (step, c.write_file.new.self) c.in-Some.ensures is) c.write_file.ensures.ok

pub returns-in-Some-clause-err : goal.returns-in-Some-clause-err
returns-in-Some-clause-err c =
    on_err_weaker c.write_file.result (λ lacks. (
      lacks.0,
      at_some_copied c.args.self.now c.args.asked (fid_at c.args.self.now c.args.fid) (write_file c.args.self.now c.args.asked c.args.offset c.args.count) c.in-Some.it c.in-Some.ensures lacks.1,
    )) c.write_file.ensures.err
