use Rattle.std.proofs.Common.{sym, subst}
use Rattle.line_forms.specs.declared.command.Command.{Command}
use Rattle.session_history.specs.Tasks.{IsUserTask}
use Rattle.session_lines.proofs.tasks.user_task.Goals as goal

pub returns-in-Register-clause-ok : goal.returns-in-Register-clause-ok
returns-in-Register-clause-ok c = subst (λ (command : Command). IsUserTask c.args.who command c.registering.result) (sym c.in-Register.is) (c.registering.ensures.task c.args.who)

pub returns-in-Withdraw-clause-ok : goal.returns-in-Withdraw-clause-ok
returns-in-Withdraw-clause-ok c = subst (λ (command : Command). IsUserTask c.args.who command c.withdrawing.result) (sym c.in-Withdraw.is) (c.withdrawing.ensures.task c.args.who)
