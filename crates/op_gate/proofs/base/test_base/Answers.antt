-- The state has no shape.
use Rattle.access_history.specs.History.{authority_with}
use Rattle.op_gate.proofs.BaseDamageLemmas.{base_unshaped}
use Rattle.op_gate.proofs.CheckLemmas.{is_not_so}
use Rattle.op_gate.proofs.base.test_base.Goals as goal

pub returns-else-is_base_shaped : goal.returns-else-is_base_shaped
returns-else-is_base_shaped c = λ key. base_unshaped (authority_with key c.args.ring.now) c.args.base.now (is_not_so _ _ c.is_base_shaped.ensures c.if-is_base_shaped.false)
