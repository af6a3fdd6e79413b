use Rattle.mode_policy.proofs.LawLemmas as lemmas
use Rattle.mode_policy.proofs.laws.lines_are_a_table_or_faulty.Goals as goal

pub returns : goal.returns
returns c = lemmas.one_or_the_other
