use Rattle.session_history.proofs.OperationLemmas.{admitted_done}
use Rattle.session_history.proofs.laws.admitted_operations_are_done.Goals as goal

pub returns : goal.returns
returns c = λ p before clock caller op procaps reply given running admitted free turn. admitted_done p before clock caller op procaps running admitted free reply given turn
