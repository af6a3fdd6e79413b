use Rattle.nine_messages.proofs.CuttingLemmas.{next_stays, bad_stays, next_shrinks}
use Rattle.nine_messages.proofs.laws.a_message_stays.Goals as goal

pub returns : goal.returns
returns c = record {
  message = λ agreed left more rest m h. next_stays agreed left more rest m h;
  bad = λ agreed left more h. bad_stays agreed left more h;
  fewer = λ agreed left rest m h. next_shrinks agreed left rest m h;
}
