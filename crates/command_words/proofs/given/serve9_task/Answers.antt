-- Both words are numbers, or one is none.
use Rattle.clap.specs.Words.{found_of, rows_of}
use Rattle.command_words.proofs.TaskLemmas.{no_serve9}
use Rattle.command_words.proofs.given.serve9_task.Goals as goal

pub returns-in-None : goal.returns-in-None
returns-in-None c = no_serve9 (rows_of (found_of c.args.given.now)) (λ one other gives_one gives_other. c.in-None.ensures one gives_one)

pub returns-in-None-number_given : goal.returns-in-None-number_given
returns-in-None-number_given c = no_serve9 (rows_of (found_of c.args.given.now)) (λ one other gives_one gives_other. c.in-None-number_given.ensures other gives_other)
