-- The rows of a world within the limits fit, and what is written before them, of them and after them is the image.
use Rattle.std.proofs.Common.{rules, ◌≡◌, List, ℕ, ◌++◌, sym, ap, ap₂, ◌∙◌, subst, arith}
use Rattle.node_rows.specs.declared.rows.TreeRow.{TreeRow}
use Rattle.node_rows.specs.declared.rows.MetaRow.{MetaRow}
use Rattle.node_rows.specs.Rows.{item_rows}
use Rattle.file_tree.specs.State.{TreeView}
use Rattle.checkpoint_image.specs.ImageSpelling.{HaveFittingRows}
use Rattle.checkpoint_image.specs.WithdrawnNumbers.{withdrawn_numbers_spelling}
use Rattle.checkpoint.specs.Writing.{front_spelling}
use Rattle.checkpoint.proofs.WritingLemmas.{rows_fit, is_image}
use Rattle.checkpoint.proofs.writing.image_of.Goals as goal

pub write_nodes-requires : goal.write_nodes-requires
write_nodes-requires c =
    subst (λ (trees : List TreeRow). HaveFittingRows trees c.as_slice-4.result.now) (sym c.as_slice-3.ensures)
    (subst (λ (metas : List MetaRow). HaveFittingRows c.in_ok-tree.tree metas) (sym c.as_slice-4.ensures)
    (rows_fit c.args.world.now.world c.in_ok-tree.tree c.in_ok-tree.meta c.tree.ensures.whole c.in_ok-tree.ensures.same c.in_ok-tree.ensures.rows))

pub write_withdrawn_numbers-requires : goal.write_withdrawn_numbers-requires
write_withdrawn_numbers-requires c = c.requires.statements.few

pub returns : goal.returns
returns c =
    let world = c.args.world.now.world in
    let next : c.next_number-next.result ≡ world.next = c.next_number-next.ensures ∙ ap (λ (t : TreeView). t.tree.next) c.tree.ensures.same in
    let begun : c.in_ok-image.image ≡ front_spelling c.args.statements.now c.args.issues.now c.args.moment c.args.count c.next_number-next.result = search rules in
    is_image world c.args.statements.now c.args.issues.now c.args.moment c.args.count c.write_withdrawn_numbers.new.out c.in_ok-image-2.image (item_rows c.as_slice-3.result.now c.as_slice-4.result.now)
    c.tree.ensures.whole c.requires (omega arith) c.in_ok-image.ensures.statements c.in_ok-image.ensures.issues
    (c.in_ok-image-2.ensures ∙ (begun ∙ ap (front_spelling c.args.statements.now c.args.issues.now c.args.moment c.args.count) next))
    (ap₂ item_rows c.as_slice-3.ensures c.as_slice-4.ensures ∙ c.in_ok-tree.ensures.rows)
    (c.in_ok-write_withdrawn_numbers.ensures.ok ∙ ap (λ (bytes : List ℕ). bytes ++ withdrawn_numbers_spelling c.args.statements.now) c.in_ok-write_nodes.ensures.ok)
