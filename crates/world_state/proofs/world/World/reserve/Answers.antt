-- What the halves answer is the answer of the world.
use Rattle.std.proofs.Common.{ap, ◌∙◌}
use Rattle.world_state.specs.State.{WorldState}
use Rattle.world_state.proofs.HalvesLemmas.{asked_shown, given_up_shown, halves_same, joined_same, reserved_shown, given_back, same_op}
use Rattle.world_state.proofs.world.World.reserve.Goals as goal

pub reserve-answer-requires : goal.reserve-answer-requires
reserve-answer-requires c = asked_shown _ _ _ c.args.op _ c.self.invariant c.half_of-half.ensures

pub invariant_of-self : goal.invariant_of-self
invariant_of-self c = halves_same _ _ _ _ c.reserve-answer.ensures.tree c.reserve-answer.ensures.meta c.self.invariant

pub returns-clause-same : goal.returns-clause-same
returns-clause-same c = joined_same _ _ _ _ c.reserve-answer.ensures.tree c.reserve-answer.ensures.meta ∙ ap (λ (s : WorldState). s.world) c.self.view_is

pub returns-clause-op : goal.returns-clause-op
returns-clause-op c = same_op c.args.op _ _ c.half_of-half.ensures c.op_of.ensures

pub op_of-requires : goal.op_of-requires
op_of-requires c = given_back c.args.op _ c.half_of-half.ensures

pub returns-clause-answer : goal.returns-clause-answer
returns-clause-answer c =
    reserved_shown c.args.caller.now c.self.inside.tree c.reserve-answer.new.tree c.self.inside.meta c.reserve-answer.new.meta _ c.args.op _ _ c.self.invariant c.self.view_is c.half_of-half.ensures
    c.reserve-answer.ensures.tree c.reserve-answer.ensures.meta c.reserve-answer.ensures.answer

pub returns-clause-given_up : goal.returns-clause-given_up
returns-clause-given_up c = given_up_shown _ c.reserve-answer.new.tree c.reserve-answer.new.meta c.reserve-answer.ensures.tree_given_up c.reserve-answer.ensures.meta_given_up
