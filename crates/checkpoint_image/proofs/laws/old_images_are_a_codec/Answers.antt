use Rattle.checkpoint_image.proofs.ImageLemmas.{fields_codec}
use Rattle.checkpoint_image.proofs.StoredLemmas.{old_begins}
use Rattle.checkpoint_image.proofs.laws.old_images_are_a_codec.Goals as goal

pub returns-clause-codec : goal.returns-clause-codec
returns-clause-codec c = fields_codec

pub returns-clause-apart : goal.returns-clause-apart
returns-clause-apart c = old_begins
