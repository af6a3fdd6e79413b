use Rattle.recover.proofs.EitherLemmas.{open_area}
use Rattle.recover.proofs.laws.open_areas_are_lawful_or_damaged.Goals as goal

pub returns : goal.returns
returns c = open_area
