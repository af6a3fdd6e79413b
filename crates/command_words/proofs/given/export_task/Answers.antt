-- The word is a number, or it is none.
use Rattle.clap.specs.Words.{found_of, rows_of}
use Rattle.command_words.proofs.TaskLemmas.{no_export}
use Rattle.command_words.proofs.given.export_task.Goals as goal

pub returns-in-None : goal.returns-in-None
returns-in-None c = no_export (rows_of (found_of c.args.given.now)) c.in-None.ensures
