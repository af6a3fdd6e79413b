use Rattle.nine_fids.proofs.LawLemmas.{tests_in_order}
use Rattle.nine_fids.proofs.laws.tests_are_in_order.Goals as goal

pub returns : goal.returns
returns c = λ s asked m. tests_in_order s asked m
