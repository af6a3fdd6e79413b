use Rattle.reader_laws.proofs.WholeLemmas.{cut_procaps, cut_events, cut_images, cut_old_images, cut_states}
use Rattle.reader_laws.proofs.laws.cut_inputs_are_short.Goals as goal

pub returns : goal.returns
returns c = record { procaps = cut_procaps; events = cut_events; images = cut_images; old_images = cut_old_images; states = cut_states }
