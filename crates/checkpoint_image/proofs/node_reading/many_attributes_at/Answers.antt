use Rattle.std.proofs.Common.{◌≡◌, ℕ, ◌+◌, ◌-◌, List, [], ap, subst, sym, ◌∙◌}
use Rattle.bl_syntax.proofs.ReportsFaultLemmas.{stops}
use Rattle.file_world.specs.Attributes.{Attributes}
use Rattle.record_parts.proofs.ReadingLemmas.{with_front}
use Rattle.checkpoint_image.specs.Chain.{chain_at}
use Rattle.checkpoint_image.specs.NodeReading.{attribute_at, name_of}
use Rattle.checkpoint_image.proofs.LoopLemmas.{goes_on, ends, is_done}
use Rattle.checkpoint_image.proofs.node_reading.many_attributes_at.Goals as goal

pub returns-in-Err : goal.returns-in-Err
returns-in-Err c =
    let read = ap (λ (p : List ℕ). attribute_at p c.args.input c.loop.rest.now) (sym c.bytes.ensures) ∙ c.in-Err.ensures in
    ends c.in-Err.fault (λ previous. attribute_at previous c.args.input) name_of c.loop.attributes c.args.count c.loop.counter c.loop.previous c.loop.rest.now (chain_at (λ previous. attribute_at previous c.args.input) name_of c.args.count [] c.args.bytes.now) c.loop-test.true (stops c.in-Err.fault (attribute_at c.loop.previous c.args.input c.loop.rest.now) read) c.loop.invariant

pub loop-preserved : goal.loop-preserved
loop-preserved c =
    let read = ap (λ (p : List ℕ). attribute_at p c.args.input c.loop.rest.now) (sym c.bytes.ensures) ∙ c.in-Ok.ensures in
    let total = chain_at (λ previous. attribute_at previous c.args.input) name_of c.args.count [] c.args.bytes.now in
    let next = goes_on (λ previous. attribute_at previous c.args.input) name_of c.loop.attributes c.args.count c.loop.counter c.loop.previous c.loop.rest.now c.in-Ok.attribute c.in-Ok.behind.now total c.loop-test.true read c.loop.invariant in
    subst (λ (items : Attributes). with_front items (chain_at (λ previous. attribute_at previous c.args.input) name_of (c.args.count - (c.loop.counter + 1)) c.in-Ok.attribute.0 c.in-Ok.behind.now) ≡ total) (sym c.in_ok-push-in-Ok.ensures.ok) next

pub returns : goal.returns
returns c = is_done (λ previous. attribute_at previous c.args.input) name_of c.loop.attributes c.args.count c.loop.counter c.loop.previous c.loop.rest.now (chain_at (λ previous. attribute_at previous c.args.input) name_of c.args.count [] c.args.bytes.now) c.loop-test.false c.loop.invariant
