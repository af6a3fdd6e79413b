use Rattle.bl_rules.proofs.IdentityLemmas.{Derivable-identity}
use Rattle.bl_rules.proofs.laws.what_is_assumed_is_derivable.Goals as goal

pub returns : goal.returns
returns c = Derivable-identity
