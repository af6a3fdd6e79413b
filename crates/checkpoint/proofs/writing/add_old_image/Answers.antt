-- The rows of a world within the limits fit, and what is written is the fields of the state.
use Rattle.std.proofs.Common.{rules, ◌≡◌, ℕ, ◌<◌, ◌^◌, List, ◌++◌, sym, ap, ap₂, ◌∙◌, subst, arith}
use Rattle.std.specs.List.{AllByRecursion}
use Rattle.node_rows.specs.declared.rows.TreeRow.{TreeRow}
use Rattle.node_rows.specs.declared.rows.MetaRow.{MetaRow}
use Rattle.node_rows.specs.Rows.{item_rows}
use Rattle.file_tree.specs.State.{TreeView}
use Rattle.policy_statement.specs.Registered.{RegisteredView}
use Rattle.access_history.specs.declared.event.Issue.{Issue}
use Rattle.file_world.specs.World.{World, IsWorld}
use Rattle.checkpoint_image.specs.ImageSpelling.{head_spelling, HaveFittingRows, AreSpelledIn, HasFittingSignature, HasFewCited, IsSpellableEntry, IsSpellableIssue}
use Rattle.checkpoint.proofs.WritingLemmas.{rows_fit, each_field_written, is_old_image}
use Rattle.checkpoint.proofs.writing.add_old_image.Goals as goal

pub write_statements-requires : goal.write_statements-requires
write_statements-requires c = subst (λ (s : List RegisteredView). AreSpelledIn HasFittingSignature s) (sym c.statements.ensures) c.requires.fits.statements

pub write_issues-requires : goal.write_issues-requires
write_issues-requires c = subst (λ (i : List Issue). AreSpelledIn HasFewCited i) (sym c.issues.ensures) c.requires.fits.issues

pub write_nodes-requires : goal.write_nodes-requires
write_nodes-requires c =
    subst (λ (trees : List TreeRow). HaveFittingRows trees c.as_slice-2.result.now) (sym c.as_slice.ensures)
    (subst (λ (metas : List MetaRow). HaveFittingRows c.in_ok-tree.tree metas) (sym c.as_slice-2.ensures)
    (rows_fit c.world-world.result.now.world c.in_ok-tree.tree c.in_ok-tree.meta c.tree.ensures.whole c.in_ok-tree.ensures.same c.in_ok-tree.ensures.rows))

pub returns-clause-ok : goal.returns-clause-ok
returns-clause-ok c =
    let headed : c.write_head.new.out ≡ c.args.out.now ++ head_spelling c.moment.result c.count.result c.next_number-next.result = search rules in
    each_field_written c.args.base.now c.args.out.now c.write_head.new.out c.write_statements.new.out c.write_issues.new.out c.write_nodes.new.out c.moment.result c.count.result c.next_number-next.result c.statements.result.now c.issues.result.now
    (item_rows c.as_slice.result.now c.as_slice-2.result.now) c.moment.ensures c.count.ensures (c.next_number-next.ensures ∙ ap (λ (t : TreeView). t.tree.next) c.tree.ensures.same ∙ ap (λ (w : World). w.next) c.world-world.ensures)
    c.statements.ensures c.issues.ensures (ap₂ item_rows c.as_slice.ensures c.as_slice-2.ensures ∙ c.in_ok-tree.ensures.rows ∙ ap (λ (w : World). w.rows) c.world-world.ensures)
    headed c.in_ok-write_statements.ensures.ok c.in_ok-write_issues.ensures.ok c.in_ok-write_nodes.ensures.ok

pub returns-clause-image : goal.returns-clause-image
returns-clause-image c =
    let counted : c.count.result < 2 ^ 64 = omega (arith, c.count.type_inv) in
    is_old_image c.args.base.now (subst IsWorld c.world-world.ensures c.tree.ensures.whole) c.requires.fits (subst (λ (n : ℕ). n < 2 ^ 64) c.count.ensures counted)
    (subst (λ (s : List RegisteredView). AllByRecursion IsSpellableEntry s) c.statements.ensures c.in_ok-write_statements.ensures.spelled)
    (subst (λ (i : List Issue). AllByRecursion IsSpellableIssue i) c.issues.ensures c.in_ok-write_issues.ensures.spelled)
    c.requires.standing
