-- A login is asked for, or something is told at once.
use Rattle.std.proofs.Common.{sym, subst}
use Rattle.std.proofs.lemmas.Result.{IfOk-weaker}
use Rattle.session_history.specs.Tasks.{IsTaskFormed}
use Rattle.session_lines.proofs.TaskLemmas.{guest_logs_in, guest_told}
use Rattle.session_lines.proofs.tasks.guest_line_task.Goals as goal

pub returns-in-Login-clause-ok : goal.returns-in-Login-clause-ok
returns-in-Login-clause-ok c = guest_logs_in c.args.nonce.now c.args.line.now c.in-Login.who c.in-Login.signature c.logging_in.result c.logging_in.ensures c.in-Login.ensures

pub returns-in-Login-clause-formed : goal.returns-in-Login-clause-formed
returns-in-Login-clause-formed c = subst IsTaskFormed (sym c.logging_in.ensures) (tt, tt)

pub returns-in-Answered-clause-ok : goal.returns-in-Answered-clause-ok
returns-in-Answered-clause-ok c = IfOk-weaker c.telling.result _ _ (λ task told. guest_told c.args.nonce.now c.args.line.now c.in-Answered.reply task told c.in-Answered.ensures) c.telling.ensures

pub returns-in-Answered-clause-formed : goal.returns-in-Answered-clause-formed
returns-in-Answered-clause-formed c = IfOk-weaker c.telling.result _ _ (λ task told. subst IsTaskFormed (sym told.0) tt) c.telling.ensures
