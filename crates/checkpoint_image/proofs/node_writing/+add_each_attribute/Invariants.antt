use Rattle.std.proofs.Common.{length}
use Rattle.checkpoint_image.proofs.node_writing.+add_each_attribute.Given as goal

abbrev pub decreases-add_each_attribute : goal.decreases-add_each_attribute
decreases-add_each_attribute l = length l.attributes.now
