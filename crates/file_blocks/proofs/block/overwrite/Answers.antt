use Rattle.file_blocks.proofs.StepLemmas.{put_in_place}
use Rattle.file_blocks.proofs.block.overwrite.Goals as goal

pub returns : goal.returns
returns c = put_in_place c.args.all.now c.args.bytes.now c.copy_from_slice.new.self c.args.at c.copy_from_slice.ensures.after
