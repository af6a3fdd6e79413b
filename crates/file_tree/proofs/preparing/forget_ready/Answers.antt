-- What is ready decides what is given up.
use Rattle.std.proofs.Common.{Some, sym, ap, ◌∙◌, subst}
use Rattle.file_tree.specs.declared.ready.Ready.{Ready}
use Rattle.file_tree.specs.Index.{rows_of, published_nodes, IsTreeIndex}
use Rattle.file_tree.proofs.KeptLemmas.{forgets_moved, forgets_made, forgets_nothing, forgets_contents, forgets_gone}
use Rattle.file_tree.proofs.preparing.forget_ready.Goals as goal

pub returns-in-Made-clause-kept : goal.returns-in-Made-clause-kept
returns-in-Made-clause-kept c =
    let old = c.args.nodes.now.entries in
    (forgets_made old c.remove.new.self.entries c.release.new.nodes.entries c.args.next c.in-Made.field-0 c.in-Made.spot (subst (λ (r : Ready). IsTreeIndex old c.args.next (Some r)) c.in-Made.is c.requires) c.remove.ensures.entries c.release.ensures).0

pub returns-in-Made-clause-same : goal.returns-in-Made-clause-same
returns-in-Made-clause-same c =
    let old = c.args.nodes.now.entries in
    (forgets_made old c.remove.new.self.entries c.release.new.nodes.entries c.args.next c.in-Made.field-0 c.in-Made.spot (subst (λ (r : Ready). IsTreeIndex old c.args.next (Some r)) c.in-Made.is c.requires) c.remove.ensures.entries c.release.ensures).1
    ∙ ap (λ (r : Ready). rows_of (published_nodes (Some r) old)) (sym c.in-Made.is)

pub returns-in-Moved-clause-kept : goal.returns-in-Moved-clause-kept
returns-in-Moved-clause-kept c =
    let old = c.args.nodes.now.entries in
    (forgets_moved old c.release-in-Moved.new.nodes.entries c.args.next c.in-Moved.field-0 c.in-Moved.field-1 c.in-Moved.to (subst (λ (r : Ready). IsTreeIndex old c.args.next (Some r)) c.in-Moved.is c.requires) c.release-in-Moved.ensures).0

pub returns-in-Moved-clause-same : goal.returns-in-Moved-clause-same
returns-in-Moved-clause-same c =
    let old = c.args.nodes.now.entries in
    (forgets_moved old c.release-in-Moved.new.nodes.entries c.args.next c.in-Moved.field-0 c.in-Moved.field-1 c.in-Moved.to (subst (λ (r : Ready). IsTreeIndex old c.args.next (Some r)) c.in-Moved.is c.requires) c.release-in-Moved.ensures).1
    ∙ ap (λ (r : Ready). rows_of (published_nodes (Some r) old)) (sym c.in-Moved.is)

pub returns-in-Contents-clause-kept : goal.returns-in-Contents-clause-kept
returns-in-Contents-clause-kept c =
    forgets_contents c.args.nodes.now.entries c.args.next c.in-Contents.field-0 c.in-Contents.field-1 (subst (λ (r : Ready). IsTreeIndex c.args.nodes.now.entries c.args.next (Some r)) c.in-Contents.is c.requires)

pub returns-in-Contents-clause-same : goal.returns-in-Contents-clause-same
returns-in-Contents-clause-same c = ap (λ (r : Ready). rows_of (published_nodes (Some r) c.args.nodes.now.entries)) (sym c.in-Contents.is)

pub returns-in-Gone-clause-kept : goal.returns-in-Gone-clause-kept
returns-in-Gone-clause-kept c =
    forgets_gone c.args.nodes.now.entries c.args.next c.in-Gone.field-0 c.in-Gone.field-1 (subst (λ (r : Ready). IsTreeIndex c.args.nodes.now.entries c.args.next (Some r)) c.in-Gone.is c.requires)

pub returns-in-Gone-clause-same : goal.returns-in-Gone-clause-same
returns-in-Gone-clause-same c = ap (λ (r : Ready). rows_of (published_nodes (Some r) c.args.nodes.now.entries)) (sym c.in-Gone.is)

pub returns-in-Nothing-clause-kept : goal.returns-in-Nothing-clause-kept
returns-in-Nothing-clause-kept c =
    forgets_nothing c.args.nodes.now.entries c.args.next (subst (λ (r : Ready). IsTreeIndex c.args.nodes.now.entries c.args.next (Some r)) c.in-Nothing.is c.requires)

pub returns-in-Nothing-clause-same : goal.returns-in-Nothing-clause-same
returns-in-Nothing-clause-same c = ap (λ (r : Ready). rows_of (published_nodes (Some r) c.args.nodes.now.entries)) (sym c.in-Nothing.is)
