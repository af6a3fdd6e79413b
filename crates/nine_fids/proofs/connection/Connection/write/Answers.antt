use Rattle.std.proofs.Common.{refl}
use Rattle.std.proofs.lemmas.Result.{IfOk-weaker, on_err_weaker}
use Rattle.nine_fids.proofs.TakingLemmas.{written_refused, written_passed, can_bring, lacks_for_write, lacks_for_line, on_err_always}
use Rattle.nine_fids.proofs.connection.Connection.write.Goals as goal

pub returns-in-Some-clause-ok : goal.returns-in-Some-clause-ok
returns-in-Some-clause-ok c =
    written_refused c.args.self.now c.args.fid c.args.offset c.args.bytes.now c.get-found.result c.in_ok-asked.asked c.in-Some.error c.get-found.ensures c.in_ok-asked.ensures.ok c.in-Some.ensures

pub write_at-requires : goal.write_at-requires
write_at-requires c = can_bring c.args.self.now c.in_ok-asked.asked c.args.fid c.in-None.ensures

pub returns-in-None-clause-ok : goal.returns-in-None-clause-ok
returns-in-None-clause-ok c =
    IfOk-weaker c.write_at.result _ _ (λ step is.
    written_passed c.args.self.now c.write_at.new.self c.args.fid c.args.offset _ c.args.bytes.now c.get-found.result c.in_ok-asked.asked step c.get-found.ensures c.in_ok-asked.ensures.ok c.in-None.ensures refl is) c.write_at.ensures.ok

pub returns-in-None-clause-err : goal.returns-in-None-clause-err
returns-in-None-clause-err c =
    on_err_weaker c.write_at.result (λ lacks. (
      lacks.0,
      lacks_for_write c.args.self.now c.args.fid c.args.offset _ c.args.bytes.now c.get-found.result c.in_ok-asked.asked c.get-found.ensures c.in_ok-asked.ensures.ok c.in-None.ensures refl lacks.1,
    )) c.write_at.ensures.err

pub returns-in_err-asked-clause-err : goal.returns-in_err-asked-clause-err
returns-in_err-asked-clause-err c = on_err_always c.from_residual.result (refl, lacks_for_line c.args.self.now c.args.fid c.args.offset c.args.bytes.now c.get-found.result c.get-found.ensures c.in_err-asked.ensures.err)
