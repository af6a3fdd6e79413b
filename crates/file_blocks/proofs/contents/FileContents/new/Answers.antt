use Rattle.file_blocks.proofs.StepLemmas.{no_contents}
use Rattle.file_blocks.proofs.contents.FileContents.new.Goals as goal

pub invariant_of-result : goal.invariant_of-result
invariant_of-result c = no_contents c.new.result c.new.ensures
