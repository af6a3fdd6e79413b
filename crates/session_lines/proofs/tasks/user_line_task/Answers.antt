-- The line is read, or its fault is told.
use Rattle.std.proofs.Common.{sym, subst}
use Rattle.std.proofs.lemmas.Result.{IfOk-weaker}
use Rattle.line_forms.proofs.LimitLemmas.{line_within}
use Rattle.line_forms.proofs.SaidLemmas.{said_in_mode}
use Rattle.session_history.specs.Tasks.{IsTaskFormed, read}
use Rattle.session_lines.proofs.TaskLemmas.{task_faulty}
use Rattle.session_lines.proofs.tasks.user_line_task.Goals as goal

pub said_task-requires-clause-said : goal.said_task-requires-clause-said
said_task-requires-clause-said c = said_in_mode c.in-Ok.ensures

pub said_task-requires-clause-within : goal.said_task-requires-clause-within
said_task-requires-clause-within c = line_within c.in-Ok.ensures

pub returns-in-Ok-clause-ok : goal.returns-in-Ok-clause-ok
returns-in-Ok-clause-ok c = IfOk-weaker c.said_task.result _ _ (λ task reads. read c.in-Ok.said task c.in-Ok.ensures reads) c.said_task.ensures.ok

pub returns-in-Err-clause-ok : goal.returns-in-Err-clause-ok
returns-in-Err-clause-ok c = IfOk-weaker c.telling_fault.result _ _ (λ task told. task_faulty c.args.nonce.now c.args.who c.args.line.now c.in-Err.fault task c.in-Err.ensures told) c.telling_fault.ensures

pub returns-in-Err-clause-formed : goal.returns-in-Err-clause-formed
returns-in-Err-clause-formed c = IfOk-weaker c.telling_fault.result _ _ (λ task told. subst IsTaskFormed (sym told.0) tt) c.telling_fault.ensures
