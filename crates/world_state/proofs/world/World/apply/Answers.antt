-- Both halves after the operation are those of the world after it.
use Rattle.std.proofs.Common.{ap, ◌∙◌}
use Rattle.world_state.proofs.HalvesLemmas.{ready_shown, nothing_shown, applied, given_back, same_op}
use Rattle.world_state.proofs.world.World.apply.Goals as goal

pub apply-requires : goal.apply-requires
apply-requires c = ready_shown _ c.self.inside.tree c.self.inside.meta _ c.args.op _ c.self.invariant c.self.view_is c.half_of-half.ensures c.requires

pub invariant_of-self : goal.invariant_of-self
invariant_of-self c =
    (applied _ c.self.inside.tree c.self.inside.meta _ c.args.op _ _ _ c.self.invariant c.self.view_is c.half_of-half.ensures c.bytes.ensures.named c.is_operation.ensures c.requires
    c.apply.ensures.tree c.apply.ensures.meta).kept

pub returns-clause-world : goal.returns-clause-world
returns-clause-world c =
    (applied _ c.self.inside.tree c.self.inside.meta _ c.args.op _ _ _ c.self.invariant c.self.view_is c.half_of-half.ensures c.bytes.ensures.named c.is_operation.ensures c.requires
    c.apply.ensures.tree c.apply.ensures.meta).world_is

pub returns-clause-op : goal.returns-clause-op
returns-clause-op c = same_op c.args.op _ _ c.half_of-half.ensures c.op_of.ensures

pub op_of-requires : goal.op_of-requires
op_of-requires c = given_back c.args.op _ c.half_of-half.ensures

pub returns-clause-ready : goal.returns-clause-ready
returns-clause-ready c = nothing_shown c.apply.new.tree c.apply.new.meta c.apply.ensures.tree_ready c.apply.ensures.meta_ready
