-- The state of a lawful history fits an image.
use Rattle.std.proofs.Common.{◌<◌, ◌^◌, List, length, arith, subst}
use Rattle.access_history.specs.declared.event.Issue.{Issue}
use Rattle.access_history.specs.History.{state_of}
use Rattle.pcfs_history.proofs.ChainLemmas.{end_fits}
use Rattle.pcfs_history.proofs.chain.end_image.Goals as goal

pub state_image-requires : goal.state_image-requires
state_image-requires c =
    let read : length c.issues.result.now < 2 ^ 32 = omega (arith, c.if-issues-ge-MOST_ISSUES.false) in
    let few : length (state_of c.args.history.now).issues < 2 ^ 32 = subst (λ (issues : List Issue). length issues < 2 ^ 32) c.issues.ensures read in
    end_fits c.args.history.now c.lawful_states_fit.ensures c.lemma_is_lawful.ensures few
