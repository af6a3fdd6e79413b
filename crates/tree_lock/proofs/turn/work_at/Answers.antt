use Rattle.std.proofs.Common.{◌∷◌, Some, sym, ap, ◌∙◌}
use Rattle.atomic_table.specs.Table.{rest}
use Rattle.tree_lock.proofs.turn.work_at.Goals as goal

pub slot_mut-requires : goal.slot_mut-requires
slot_mut-requires g c =
    let held = c.requires.value.1 in
    (c.requires.at.here, (Some c.requires.value.0, held ∙ (λ i. (0, Some c.requires.value.0) ∷ sym (ap rest held) i)))
