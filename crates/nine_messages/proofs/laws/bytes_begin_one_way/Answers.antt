use Rattle.nine_messages.proofs.CuttingLemmas.{begins, one_next, not_bad, not_open, bad_not_open}
use Rattle.nine_messages.proofs.laws.bytes_begin_one_way.Goals as goal

pub returns : goal.returns
returns c = record {
  one = λ agreed left fits. begins agreed left fits;
  one_message = λ agreed left m n rest others first second. one_next agreed left m n rest others first second;
  not_bad = λ agreed left rest m h wrong. not_bad agreed left rest m h wrong;
  not_less = λ agreed left rest m h few. not_open agreed left rest m h few;
  not_both = λ agreed left wrong few. bad_not_open agreed left wrong few;
}
