use Rattle.mode_policy.proofs.TheoremLemmas as lemmas
use Rattle.mode_policy.proofs.laws.what_a_table_allows_is_derivable.Goals as goal

pub returns : goal.returns
returns c = lemmas.allowed_is_derivable
