-- So does the state with which it begins.
use Rattle.std.proofs.Common.{◌<◌, ◌^◌, List, length, arith, subst, sym}
use Rattle.access_history.specs.declared.event.Issue.{Issue}
use Rattle.access_history.specs.Base.{BaseView}
use Rattle.checkpoint.specs.Writing.{FitsImage}
use Rattle.pcfs_history.proofs.ChainLemmas.{begin_fits}
use Rattle.pcfs_history.proofs.chain.begin_image.Goals as goal

pub image_bytes-requires : goal.image_bytes-requires
image_bytes-requires c =
    let h = c.args.history.now in
    let read : length c.issues.result.now < 2 ^ 32 = omega (arith, c.if-issues-ge-MOST_ISSUES.false) in
    let few : length c.base-base.result.now.issues < 2 ^ 32 = subst (λ (issues : List Issue). length issues < 2 ^ 32) c.issues.ensures read in
    let few_at_begin : length h.base.issues < 2 ^ 32 = subst (λ (base : BaseView). length base.issues < 2 ^ 32) c.base-base.ensures few in
    subst FitsImage (sym c.base-base.ensures) (begin_fits h c.lawful_states_fit.ensures c.lemma_is_lawful.ensures few_at_begin)
