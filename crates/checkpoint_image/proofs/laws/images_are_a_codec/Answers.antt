use Rattle.checkpoint_image.proofs.ImageLemmas.{image_codec}
use Rattle.checkpoint_image.proofs.laws.images_are_a_codec.Goals as goal

pub returns : goal.returns
returns c = image_codec
