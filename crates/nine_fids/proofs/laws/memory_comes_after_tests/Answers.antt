use Rattle.nine_fids.proofs.LawLemmas.{memory_after_tests}
use Rattle.nine_fids.proofs.laws.memory_comes_after_tests.Goals as goal

pub returns : goal.returns
returns c = λ s m may. memory_after_tests s m may
