-- The threads give the digests in the order of the grants.
use Rattle.std.proofs.Common.{ap, ◌∙◌}
use Rattle.std.specs.Borrow.{Bor}
use Rattle.bl_syntax.specs.Grant.{GrantView}
use Rattle.rayon.proofs.ToStd.{slice-map}
use Rattle.pcfs_audit.specs.Firsts.{grant_digest}
use Rattle.pcfs_audit.proofs.ReferenceLemmas.{map-shown}
use Rattle.pcfs_audit.proofs.digests.grant_digests_in_pieces.Goals as goal

pub returns-in-Ok : goal.returns-in-Ok
returns-in-Ok g c =
    let slice = ap (λ it. it.slice.now) c.with_min_len.ensures.base ∙ c.par_iter.ensures in
    let done = c.in-Ok.ensures in
    let chain = rw (c.map.ensures.base, c.map.ensures.f) at done.1 in
    done.2 ∙ slice-map chain.0 c.args.grants.now (chain.1 ∙ slice) (λ (b : Bor GrantView). grant_digest c.args.key.now b.now) done.0 chain.2 ∙ map-shown (grant_digest c.args.key.now) c.args.grants.now
