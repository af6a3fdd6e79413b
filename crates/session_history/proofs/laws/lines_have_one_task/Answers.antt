use Rattle.session_history.proofs.AskingLemmas.{asks_something, asks_once, task_formed}
use Rattle.session_history.proofs.laws.lines_have_one_task.Goals as goal

pub returns-clause-some : goal.returns-clause-some
returns-clause-some c = λ s line. asks_something s line

pub returns-clause-one : goal.returns-clause-one
returns-clause-one c = λ s line first second. asks_once s line first second

pub returns-clause-formed : goal.returns-clause-formed
returns-clause-formed c = λ s line task. task_formed s line task
