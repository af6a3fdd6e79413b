-- Each turn makes one step of the way.
use Rattle.std.proofs.Common.{◌≡◌, ℕ, ◌+◌, ◌-◌, ◌<◌, Some, None, length, sym, ap, ◌∙◌, arith}
use Rattle.std.proofs.lemmas.List.{length-map}
use Rattle.file_world.specs.Tree.{Nodes}
use Rattle.file_tree.specs.Index.{rows_of, node_shown}
use Rattle.file_tree.specs.RowTests.{leads_below}
use Rattle.file_tree.proofs.IndexLemmas.{node_at-kept, node_at-missing}
use Rattle.file_tree.proofs.RowWayLemmas.{leads_step, leads_here}
use Rattle.file_tree.proofs.from_rows.leads_below.Goals as goal

pub returns-then-number-bound : goal.returns-then-number-bound
returns-then-number-bound c =
    let entries = c.args.nodes.now.entries in
    let all : length (rows_of entries) ≡ length entries = length-map entries _ in
    let some : 0 < length (rows_of entries) - c.loop-step._step = omega (arith, all, c.len-step-end.ensures.len, c.loop-step-test.true) in
    sym (leads_here (length (rows_of entries) - c.loop-step._step) (rows_of entries) c.args.bound c.loop-step.number some c.if-number-bound.true) ∙ c.loop-step.invariant

pub returns-in-None : goal.returns-in-None
returns-in-None c =
    let entries = c.args.nodes.now.entries in
    let rows : Nodes = rows_of entries in
    let all : length rows ≡ length entries = length-map entries _ in
    let some : 0 < length rows - c.loop-step._step = omega (arith, all, c.len-step-end.ensures.len, c.loop-step-test.true) in
    sym (leads_step (length rows - c.loop-step._step) rows c.args.bound c.loop-step.number None some c.if-number-bound.false (node_at-missing entries c.loop-step.number (sym c.in-None.ensures.value)))
    ∙ c.loop-step.invariant

pub loop-step-preserved : goal.loop-step-preserved
loop-step-preserved c =
    let entries = c.args.nodes.now.entries in
    let rows : Nodes = rows_of entries in
    let node = c.in-Some.node.now in
    let all : length rows ≡ length entries = length-map entries _ in
    let some : 0 < length rows - c.loop-step._step = omega (arith, all, c.len-step-end.ensures.len, c.loop-step-test.true) in
    let next : length rows - (c.loop-step._step + 1) ≡ length rows - c.loop-step._step - 1 = omega arith in
    ap (λ (s : ℕ). leads_below s rows c.args.bound node.parent) next
    ∙ (sym (leads_step (length rows - c.loop-step._step) rows c.args.bound c.loop-step.number (Some (node_shown node)) some c.if-number-bound.false (node_at-kept entries c.loop-step.number node (sym c.in-Some.ensures.value)))
    ∙ c.loop-step.invariant)
