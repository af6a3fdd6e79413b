-- Both needs are the server's.
use Rattle.std.proofs.Common.{ℕ, List, [], ◌∷◌, ap}
use Rattle.file_world.specs.declared.operation.Op.TheVariants.{Unlink}
use Rattle.client_tree.proofs.WorkLemmas.{pushed_two, unlink_needed, work_is}
use Rattle.client_tree.proofs.changes.unlink_work.Goals as goal

pub returns : goal.returns
returns c =
    let directory = c.args.spot.now.directory in
    let name = c.args.spot.now.name.now in
    work_is (Unlink directory name) (c.in_ok-new.field-0 ∷ c.in_ok-new-2.field-0 ∷ []) _
    (ap (λ (n : List ℕ). Unlink directory n) c.in_ok-bytes_of.ensures)
    (pushed_two _ _ _ _ _ c.new-needs.ensures.items c.in_ok-push.ensures.items c.in_ok-push-2.ensures.items)
    (unlink_needed directory c.args.node name _ _ c.in_ok-new.ensures c.in_ok-new-2.ensures)
