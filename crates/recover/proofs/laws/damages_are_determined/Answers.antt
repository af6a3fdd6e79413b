use Rattle.recover.proofs.LawLemmas.{damages_determined, damaged_open}
use Rattle.recover.proofs.laws.damages_are_determined.Goals as goal

pub returns : goal.returns
returns c = record { one = damages_determined; is_open = damaged_open }
