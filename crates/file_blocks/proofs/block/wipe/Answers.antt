use Rattle.file_blocks.proofs.StepLemmas.{wiped_in_place}
use Rattle.file_blocks.proofs.block.wipe.Goals as goal

pub returns : goal.returns
returns c = wiped_in_place c.args.bytes.now c.fill.new.self c.args.at c.requires (c.fill.ensures.after (λ y h. h))
