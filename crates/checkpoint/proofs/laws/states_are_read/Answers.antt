use Rattle.checkpoint.proofs.ReadingLemmas.{read_is_image, image_is_read, one_state, fault_is_no_image}
use Rattle.checkpoint.proofs.laws.states_are_read.Goals as goal

pub returns-clause-read : goal.returns-clause-read
returns-clause-read c = λ bytes base fits. (read_is_image bytes base fits, image_is_read bytes base)

pub returns-clause-one : goal.returns-clause-one
returns-clause-one c = one_state

pub returns-clause-refused : goal.returns-clause-refused
returns-clause-refused c = fault_is_no_image
