use Rattle.checkpoint_image.proofs.WorldLemmas.{worlds_have_images}
use Rattle.checkpoint_image.proofs.laws.worlds_have_images.Goals as goal

pub returns : goal.returns
returns c = worlds_have_images
