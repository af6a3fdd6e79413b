use Rattle.procap.proofs.GrantLemmas.{grant_codec}
use Rattle.procap.proofs.laws.grants_are_a_codec.Goals as goal

pub returns : goal.returns
returns c = grant_codec
