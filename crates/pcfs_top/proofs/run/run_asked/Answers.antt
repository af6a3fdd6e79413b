-- What was asked for is done, or it is no command.
use Rattle.std.proofs.Common.{refl}
use Rattle.command_words.proofs.TaskLemmas.{nothing_asked}
use Rattle.pcfs_top.proofs.EndsWithLemmas.{EndsWith-usage}
use Rattle.pcfs_top.proofs.run.run_asked.Goals as goal

pub run_task-requires-clause-fit : goal.run_task-requires-clause-fit
run_task-requires-clause-fit g c _ _ = (rw c.in-Some.is at c.requires.fit)

pub returns-in-Some : goal.returns-in-Some
returns-in-Some g c words asks = c.run_task.ensures words (rw c.in-Some.is at asks)

pub returns-in-None : goal.returns-in-None
returns-in-None g c words asks = EndsWith-usage words c.args.secrets.now _ _ _ _ (nothing_asked words (rw c.in-None.is at asks)) refl (record { left_stays = refl; faults_stay = refl }) c.write_last_line.ensures
