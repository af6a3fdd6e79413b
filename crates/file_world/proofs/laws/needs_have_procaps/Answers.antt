use Rattle.file_world.proofs.NeedLemmas.{needs_have_procaps}
use Rattle.file_world.proofs.laws.needs_have_procaps.Goals as goal

pub returns : goal.returns
returns c = needs_have_procaps
