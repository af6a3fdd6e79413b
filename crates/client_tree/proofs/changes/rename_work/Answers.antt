-- The three needs are the server's.
use Rattle.std.proofs.Common.{ℕ, List, [], ◌∷◌, ap, ◌∙◌}
use Rattle.file_world.specs.declared.operation.Op.TheVariants.{Rename}
use Rattle.client_tree.proofs.WorkLemmas.{pushed_three, rename_needed, work_is}
use Rattle.client_tree.proofs.changes.rename_work.Goals as goal

pub returns : goal.returns
returns c =
    let from = c.args.old.now.directory in
    let to = c.args.new.now.directory in
    let name = c.args.old.now.name.now in
    let renamed = c.args.new.now.name.now in
    work_is (Rename from name to renamed) (c.in_ok-new.field-0 ∷ c.in_ok-new-2.field-0 ∷ c.in_ok-new-3.field-0 ∷ []) _
    (ap (λ (n : List ℕ). Rename from n to c.in_ok-bytes_of-2.field-0) c.in_ok-bytes_of.ensures
    ∙ ap (λ (n : List ℕ). Rename from name to n) c.in_ok-bytes_of-2.ensures)
    (pushed_three _ _ _ _ _ _ _ c.new-needs.ensures.items c.in_ok-push.ensures.items c.in_ok-push-2.ensures.items
    c.in_ok-push-3.ensures.items)
    (rename_needed from to c.args.node name renamed _ _ _ c.in_ok-new.ensures c.in_ok-new-2.ensures c.in_ok-new-3.ensures)
