use Rattle.mode_policy.proofs.LawLemmas as lemmas
use Rattle.mode_policy.proofs.laws.the_first_fault_is_one.Goals as goal

pub returns : goal.returns
returns c = lemmas.one_first_fault
