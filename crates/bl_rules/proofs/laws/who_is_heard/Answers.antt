use Rattle.bl_rules.proofs.ExampleLemmas.{by_loc, not_by_hr}
use Rattle.bl_rules.proofs.laws.who_is_heard.Goals as goal

pub returns : goal.returns
returns c = record { strong = by_loc; weak = not_by_hr }
