use Rattle.nine_fids.proofs.ControlLemmas.{asked_once}
use Rattle.nine_fids.proofs.laws.bytes_ask_one_thing.Goals as goal

pub returns : goal.returns
returns c = λ bytes asked other h k. asked_once bytes asked other h k
