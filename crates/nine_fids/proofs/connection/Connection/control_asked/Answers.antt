use Rattle.std.proofs.Common.{◌≡◌, true, Option, sym, subst}
use Rattle.std.proofs.lemmas.Result.{on_err_weaker}
use Rattle.nine_fids.specs.declared.control.Control.{Control}
use Rattle.nine_fids.specs.Tests.{brings_procap}
use Rattle.nine_fids.proofs.connection.Connection.control_asked.Goals as goal

pub returns-in-Some-clause-err : goal.returns-in-Some-clause-err
returns-in-Some-clause-err c =
    on_err_weaker c.control.result (λ lacks. (lacks.0, subst (λ (a : Option Control). brings_procap a ≡ true) (sym c.in-Some.is) lacks.1)) c.control.ensures.err
