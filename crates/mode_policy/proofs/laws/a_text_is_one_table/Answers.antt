use Rattle.mode_policy.proofs.LawLemmas as lemmas
use Rattle.mode_policy.proofs.laws.a_text_is_one_table.Goals as goal

pub returns : goal.returns
returns c = lemmas.one_reading
