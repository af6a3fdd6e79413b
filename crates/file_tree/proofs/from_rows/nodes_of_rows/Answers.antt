-- Rows that pass all tests are those of a tree.
use Rattle.std.proofs.Common.{◌≤◌, ◌-◌, length, take, drop, map, rules, arith, sym}
use Rattle.file_world.specs.Limits.{last_number}
use Rattle.node_rows.specs.Rows.{tree_row}
use Rattle.file_tree.proofs.RowTreeLemmas.{rising_if_sound, first_and_others, tree_made, not_named, not_led, passed_refusal}
use Rattle.file_tree.proofs.from_rows.nodes_of_rows.Goals as goal

pub put_nodes-requires : goal.put_nodes-requires
put_nodes-requires c = rising_if_sound c.args.next (map tree_row c.args.rows.now) c.requires.sound

pub returns-then-do_lead-clause-kept : goal.returns-then-do_lead-clause-kept
returns-then-do_lead-clause-kept c =
    let rows = c.args.rows.now in
    let fits : c.args.next ≤ last_number = omega arith in
    tree_made c.in_ok-nodes.nodes.entries c.enter_names.new.nodes.entries c.args.next rows c._root-item.result (take (length rows - 1) (drop 1 rows)) (first_and_others rows c._root-item.result c.in-len1-up.len_at_least c._root-item.is)
    c.requires.sound fits c.requires.fits c.in_ok-nodes.ensures c.in_ok-enter_names.ensures.named (sym c.if-do_lead.ensures)

pub returns-in_err-enter_names-clause-refused : goal.returns-in_err-enter_names-clause-refused
returns-in_err-enter_names-clause-refused c =
    let rows = c.args.rows.now in
    passed_refusal (Unit {0}) c.from_residual-in_err-enter_names.result c.in_err-enter_names.field-0.0 _ _ (search rules) c.in_err-enter_names.ensures.refused
    (not_named c.in_ok-nodes.nodes.entries c.args.next rows c._root-item.result (take (length rows - 1) (drop 1 rows)) (first_and_others rows c._root-item.result c.in-len1-up.len_at_least c._root-item.is) c.in_ok-nodes.ensures)

pub returns-else-do_lead-clause-refused : goal.returns-else-do_lead-clause-refused
returns-else-do_lead-clause-refused c =
    let rows = c.args.rows.now in
    not_led c.in_ok-nodes.nodes.entries c.enter_names.new.nodes.entries c.args.next rows c._root-item.result (take (length rows - 1) (drop 1 rows)) (first_and_others rows c._root-item.result c.in-len1-up.len_at_least c._root-item.is)
    c.in_ok-nodes.ensures c.in_ok-enter_names.ensures.named (sym c.if-do_lead.ensures)
