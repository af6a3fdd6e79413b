-- Each kind of request meets its own tests.
use Rattle.std.proofs.Common.{None, refl, sym, subst}
use Rattle.std.proofs.lemmas.Result.{IfOk-weaker, on_err_weaker}
use Rattle.nine_messages.specs.declared.request.Request.{Request}
use Rattle.nine_messages.specs.Requests.{IsRequest}
use Rattle.nine_messages.specs.Views.{request_view}
use Rattle.nine_fids.specs.Memory.{MayLackMemory}
use Rattle.nine_fids.specs.Steps.{outcome_of}
use Rattle.nine_fids.specs.Taking.{IsTaken}
use Rattle.nine_fids.specs.Tests.{tests_of}
use Rattle.nine_fids.proofs.TakingLemmas.{taken_write, lacks_for_read}
use Rattle.nine_fids.proofs.connection.Connection.take.Goals as goal

pub returns-in-Version-clause-ok : goal.returns-in-Version-clause-ok
unfolding tests_of outcome_of
returns-in-Version-clause-ok c =
    subst (λ (r : Request). IsTaken c.args.self.now (request_view r) c.version.result c.version.new.self) (sym c.in-Version.is) (record { asked = None; asks = refl; is = c.version.ensures })

pub returns-in-Attach-clause-ok : goal.returns-in-Attach-clause-ok
unfolding tests_of outcome_of
returns-in-Attach-clause-ok c =
    subst (λ (r : Request). IsTaken c.args.self.now (request_view r) c.attach.result c.attach.new.self) (sym c.in-Attach.is) (record { asked = None; asks = refl; is = c.attach.ensures })

pub returns-in-Flush-clause-ok : goal.returns-in-Flush-clause-ok
unfolding tests_of outcome_of
returns-in-Flush-clause-ok c =
    subst (λ (r : Request). IsTaken c.args.self.now (request_view r) c.flush.result c.args.self.now) (sym c.in-Flush.is) (record { asked = None; asks = refl; is = c.flush.ensures })

pub returns-in-Walk-clause-ok : goal.returns-in-Walk-clause-ok
unfolding tests_of outcome_of
returns-in-Walk-clause-ok c =
    subst (λ (r : Request). IsTaken c.args.self.now (request_view r) c.walk.result c.walk.new.self) (sym c.in-Walk.is) (record { asked = None; asks = refl; is = c.walk.ensures })

pub returns-in-Open-clause-ok : goal.returns-in-Open-clause-ok
unfolding tests_of outcome_of
returns-in-Open-clause-ok c =
    subst (λ (r : Request). IsTaken c.args.self.now (request_view r) c.open.result c.open.new.self) (sym c.in-Open.is) (record { asked = None; asks = refl; is = c.open.ensures })

pub returns-in-Clunk-clause-ok : goal.returns-in-Clunk-clause-ok
unfolding tests_of outcome_of
returns-in-Clunk-clause-ok c =
    subst (λ (r : Request). IsTaken c.args.self.now (request_view r) c.clunk.result c.clunk.new.self) (sym c.in-Clunk.is) (record { asked = None; asks = refl; is = c.clunk.ensures })

pub returns-in-Read-clause-ok : goal.returns-in-Read-clause-ok
unfolding tests_of outcome_of
returns-in-Read-clause-ok c =
    IfOk-weaker c.read.result _ _ (λ step is.
    subst (λ (r : Request). IsTaken c.args.self.now (request_view r) step c.args.self.now) (sym c.in-Read.is) (record { asked = None; asks = refl; is = is })) c.read.ensures.ok

pub returns-in-Read-clause-err : goal.returns-in-Read-clause-err
returns-in-Read-clause-err c =
    on_err_weaker c.read.result (λ is. (refl, subst (λ (r : Request). MayLackMemory c.args.self.now (request_view r)) (sym c.in-Read.is) (lacks_for_read _ _ _ _ is))) c.read.ensures.err

pub write-requires : goal.write-requires
write-requires c = let fits = subst (λ (r : Request). IsRequest (request_view r)) c.in-Write.is c.requires in fits.1.1

pub returns-in-Write-clause-ok : goal.returns-in-Write-clause-ok
returns-in-Write-clause-ok c =
    IfOk-weaker c.write.result _ _ (λ step is.
    subst (λ (r : Request). IsTaken c.args.self.now (request_view r) step c.write.new.self) (sym c.in-Write.is) (taken_write _ _ _ _ _ _ is)) c.write.ensures.ok

pub returns-in-Write-clause-err : goal.returns-in-Write-clause-err
returns-in-Write-clause-err c =
    on_err_weaker c.write.result (λ lacks. (lacks.0, subst (λ (r : Request). MayLackMemory c.args.self.now (request_view r)) (sym c.in-Write.is) lacks.1)) c.write.ensures.err

pub returns-in-Other-clause-ok : goal.returns-in-Other-clause-ok
unfolding tests_of outcome_of
returns-in-Other-clause-ok c =
    subst (λ (r : Request). IsTaken c.args.self.now (request_view r) _ c.args.self.now) (sym c.in-Other.is) (record { asked = None; asks = refl; is = refl })
