use Rattle.bl_rules.proofs.YieldLemmas.{Allows-clauses}
use Rattle.bl_rules.proofs.laws.clauses_allow_what_they_yield.Goals as goal

pub returns : goal.returns
returns c = Allows-clauses
