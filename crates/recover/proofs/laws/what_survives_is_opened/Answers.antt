use Rattle.recover.proofs.SurvivorLemmas.{survivor_counts, survivor_lawful, survivor_opened}
use Rattle.recover.proofs.laws.what_survives_is_opened.Goals as goal

pub returns : goal.returns
returns c = λ authority base events kept first second lawful left. record {
  counts = survivor_counts authority base events kept first second lawful left;
  whole = survivor_lawful authority base events kept first second lawful left;
  same = survivor_opened authority base events kept first second lawful left;
}
