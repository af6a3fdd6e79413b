use Rattle.bl_rules.proofs.ExampleLemmas.{from_100, to_200, not_before_100, not_after_200}
use Rattle.bl_rules.proofs.laws.from_100_to_200.Goals as goal

pub returns : goal.returns
returns c = record { first = from_100; last = to_200; before = not_before_100; after = not_after_200 }
