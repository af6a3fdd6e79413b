use Rattle.procap.proofs.ProcapLemmas.{procap_codec}
use Rattle.procap.proofs.laws.procaps_are_a_codec.Goals as goal

pub returns : goal.returns
returns c = procap_codec
