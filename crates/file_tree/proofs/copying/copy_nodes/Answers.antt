-- A clone shows the same rows and names, so what is ready in it can be given up.
use Rattle.std.proofs.Common.{Option, sym, ap, ◌∙◌, subst}
use Rattle.file_tree.specs.declared.ready.Ready.{Ready}
use Rattle.file_tree.specs.Index.{rows_of, published_nodes, IsTreeIndex}
use Rattle.file_tree.proofs.CopyLemmas.{copied_kept}
use Rattle.file_tree.proofs.copying.copy_nodes.Goals as goal

pub forget-requires : goal.forget-requires
forget-requires c =
    subst (IsTreeIndex c.in_ok-copied.copied.entries c.args.next) (sym c.unroomed.ensures)
    (copied_kept c.args.nodes.now.entries c.in_ok-copied.copied.entries c.args.next c.args.ready.now c.requires c.in_ok-copied.ensures.cases).0

pub returns-clause-same : goal.returns-clause-same
returns-clause-same c =
    c.forget.ensures.same
    ∙ (ap (λ (r : Option Ready). rows_of (published_nodes r c.in_ok-copied.copied.entries)) c.unroomed.ensures
    ∙ (copied_kept c.args.nodes.now.entries c.in_ok-copied.copied.entries c.args.next c.args.ready.now c.requires c.in_ok-copied.ensures.cases).1)
