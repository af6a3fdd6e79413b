use Rattle.session_service.proofs.AskingLemmas.{turn_comes, grant_comes, fault_comes, absent_comes, checkpoint_comes}
use Rattle.session_service.proofs.laws.lines_ask_what_commands_come_to.Goals as goal

pub returns-clause-turns : goal.returns-clause-turns
returns-clause-turns c = λ secrets state asker command request sees is. turn_comes secrets state asker command request sees is

pub returns-clause-proofs : goal.returns-clause-proofs
returns-clause-proofs c = λ secrets state asker command goal numbers proof cites g is found granted. grant_comes secrets state asker goal numbers proof command cites g is found granted

pub returns-clause-faults : goal.returns-clause-faults
returns-clause-faults c = λ secrets state asker command goal numbers proof cites fault is found refuted. fault_comes secrets state asker goal numbers proof command cites fault is found refuted

pub returns-clause-absences : goal.returns-clause-absences
returns-clause-absences c = λ secrets state asker command goal numbers proof number is absent. absent_comes secrets state asker goal numbers proof command number is absent

pub returns-clause-checkpoints : goal.returns-clause-checkpoints
returns-clause-checkpoints c = λ secrets state asker command is. checkpoint_comes secrets state asker command is
