use Rattle.checkpoint.proofs.ReadingLemmas.{one_reading, some_reading}
use Rattle.checkpoint.proofs.laws.readings_are_determined.Goals as goal

pub returns-clause-one : goal.returns-clause-one
returns-clause-one c = one_reading

pub returns-clause-some : goal.returns-clause-some
returns-clause-some c = some_reading
