-- A field that is out of its grammar, or what is told of the state.
use Rattle.checkpoint_image.specs.ImageReading.{stored_image_at}
use Rattle.checkpoint.proofs.ReadingLemmas.{field_reported}
use Rattle.checkpoint.proofs.reading.read_base.Goals as goal

pub returns-in-Err : goal.returns-in-Err
returns-in-Err c = field_reported stored_image_at c.args.bytes.now c.in-Err.fault c.in-Err.ensures.read

pub returns-in-Ok : goal.returns-in-Ok
returns-in-Ok c = c.state_to_end.ensures stored_image_at c.in-Ok.ensures.read
