-- Rows are of a world exactly if each half makes itself of its own and both are of the same nodes.
use Rattle.std.proofs.Common.{ap}
use Rattle.file_tree.specs.State.{TreeView}
use Rattle.attr_state.specs.State.{MetaView}
use Rattle.world_state.proofs.MadeLemmas.{made_of_rows, no_tree_of_rows, no_marks_of_rows}
use Rattle.world_state.proofs.world.World.from_rows.Goals as goal

pub returns-in-Err : goal.returns-in-Err
returns-in-Err c = no_tree_of_rows c.args.next c.args.tree.now c.args.meta.now c.in-Err.fault c.in-Err.ensures

pub returns-in-Err-from_rows : goal.returns-in-Err-from_rows
returns-in-Err-from_rows c = no_marks_of_rows c.args.next c.args.tree.now c.args.meta.now c.in-Err-from_rows.fault c.in-Err-from_rows.ensures

pub returns-in-Ok-from_rows : goal.returns-in-Ok-from_rows
returns-in-Ok-from_rows c =
    made_of_rows c.args.next c.args.tree.now c.args.meta.now c.in-Ok.tree.tree c.in-Ok-from_rows.meta.marks c.from_parts.result (ap (λ (t : TreeView). t.tree) c.in-Ok.ensures.1) c.in-Ok.ensures.0
    (ap (λ (m : MetaView). m.marks) c.in-Ok-from_rows.ensures.1) c.in-Ok-from_rows.ensures.0 c.from_parts.ensures
