-- Memory is taken for the procap that fits.
use Rattle.bl_syntax.specs.declared.terms.Perm.TheVariants as perms
use Rattle.nine_fids.specs.declared.step.Step.TheVariants as steps
use Rattle.nine_fids.specs.Tests.{fitting_of}
use Rattle.nine_fids.proofs.TakingLemmas.{procap_operation, on_err_always}
use Rattle.nine_fids.proofs.connection.Connection.write_node.Goals as goal

pub returns-in_err-fitting-clause-err : goal.returns-in_err-fitting-clause-err
returns-in_err-fitting-clause-err c =
    on_err_always c.from_residual.result
    (procap_operation c.args.self.now (fitting_of c.args.self.now c.args.self.now.caller c.args.node perms.Write) (λ p. steps.Write c.args.node p c.args.offset) (λ p. tt) c.in_err-fitting.ensures.err)
