use Rattle.checkpoint.proofs.WritingLemmas.{lawful_fits}
use Rattle.checkpoint.proofs.laws.lawful_states_fit.Goals as goal

pub returns : goal.returns
returns c = lawful_fits
