use Rattle.bl_rules.proofs.ExampleLemmas.{Allows-on_state}
use Rattle.bl_rules.proofs.laws.a_fact_has_to_be_there.Goals as goal

pub returns : goal.returns
returns c = Allows-on_state
