use Rattle.bl_rules.proofs.FromClausesLemmas.{Derivable-from_clauses}
use Rattle.bl_rules.proofs.laws.what_follows_from_clauses_is_derivable.Goals as goal

pub returns : goal.returns
returns c = Derivable-from_clauses
