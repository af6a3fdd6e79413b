use Rattle.recover.proofs.LawLemmas.{lawful_area}
use Rattle.recover.proofs.laws.lawful_areas_are_not_damaged.Goals as goal

pub returns : goal.returns
returns c = lawful_area
