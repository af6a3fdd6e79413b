-- Each turn makes one step of the walk.
use Rattle.std.proofs.Common.{◌≡◌, ℕ, ◌+◌, ◌-◌, ◌<◌, Some, None, length, sym, ap, ◌∙◌, arith}
use Rattle.std.proofs.lemmas.List.{length-map}
use Rattle.file_world.specs.Tree.{Nodes}
use Rattle.file_world.specs.TreeEffect.{has_way_past}
use Rattle.file_tree.specs.Index.{rows_of, node_shown}
use Rattle.file_tree.proofs.IndexLemmas.{node_at-kept, node_at-missing}
use Rattle.file_tree.proofs.WalkLemmas.{leads_further}
use Rattle.file_tree.proofs.refusals.has_way_past.Goals as goal

pub returns-in-None : goal.returns-in-None
returns-in-None c =
    let entries = c.args.nodes.now.entries in
    let rows : Nodes = rows_of entries in
    let all : length rows ≡ length entries = length-map entries _ in
    let some : 0 < length rows - c.loop-step._step = omega (arith, all, c.len-step-end.ensures.len, c.loop-step-test.true) in
    sym (leads_further (length rows - c.loop-step._step) rows c.args.avoided c.loop-step.number None some c.if-number-avoided.false c.if-number-eq-ROOT_NUMBER.false (node_at-missing entries c.loop-step.number (sym c.in-None.ensures.value)))
    ∙ c.loop-step.invariant

pub loop-step-preserved : goal.loop-step-preserved
loop-step-preserved c =
    let entries = c.args.nodes.now.entries in
    let rows : Nodes = rows_of entries in
    let node = c.in-Some.node.now in
    let all : length rows ≡ length entries = length-map entries _ in
    let some : 0 < length rows - c.loop-step._step = omega (arith, all, c.len-step-end.ensures.len, c.loop-step-test.true) in
    let next : length rows - (c.loop-step._step + 1) ≡ length rows - c.loop-step._step - 1 = omega arith in
    ap (λ (s : ℕ). has_way_past s rows c.args.avoided node.parent) next
    ∙ (sym (leads_further (length rows - c.loop-step._step) rows c.args.avoided c.loop-step.number (Some (node_shown node)) some c.if-number-avoided.false c.if-number-eq-ROOT_NUMBER.false (node_at-kept entries c.loop-step.number node (sym c.in-Some.ensures.value)))
    ∙ c.loop-step.invariant)
