use Rattle.bl_rules.proofs.ExampleLemmas.{Allows-simplest}
use Rattle.bl_rules.proofs.laws.the_simplest_statement_allows_exactly_on_its_interval.Goals as goal

pub returns : goal.returns
returns c = Allows-simplest
