-- Memory is taken for a procap: that which is brought, or that which fits.
use Rattle.std.proofs.Common.{inl, inr, refl, sym, subst}
use Rattle.std.proofs.lemmas.Result.{on_err_weaker}
use Rattle.nine_fids.specs.declared.fid.FidFile.{FidFile}
use Rattle.nine_fids.specs.Memory.{IsOperation}
use Rattle.nine_fids.specs.Steps.{write_file}
use Rattle.nine_fids.proofs.connection.Connection.write_file.Goals as goal

pub returns-in-Control-clause-err : goal.returns-in-Control-clause-err
returns-in-Control-clause-err c = on_err_weaker c.control_asked.result (λ lacks. (lacks.0, inl lacks.1)) c.control_asked.ensures.err

pub returns-in-Node-clause-err : goal.returns-in-Node-clause-err
returns-in-Node-clause-err c =
    on_err_weaker c.write_node.result (λ is. (refl, inr (subst (λ (f : FidFile). IsOperation (write_file c.args.self.now c.args.asked c.args.offset c.args.count f).0) (sym c.in-Node.is) is))) c.write_node.ensures.err
