use Rattle.mode_policy.proofs.LawLemmas as lemmas
use Rattle.mode_policy.proofs.laws.a_table_has_no_fault.Goals as goal

pub returns : goal.returns
returns c = lemmas.never_both
