use Rattle.checkpoint_image.proofs.NodeLemmas.{nodes_codec}
use Rattle.checkpoint_image.proofs.laws.nodes_are_a_codec.Goals as goal

pub returns : goal.returns
returns c = nodes_codec
