-- The script is run, and its line told.
use Rattle.pcfs_tools.proofs.LoadLemmas.{told_loaded}
use Rattle.pcfs_tools.proofs.loading.load.Goals as goal

pub returns-in-Ok : goal.returns-in-Ok
returns-in-Ok g c = told_loaded c.args.rounds c.args.seed c.in-Ok.ensures.0 _ _ _ _ _ _ _ _ c.as_slice.ensures c.in-Ok.ensures.1 c.in-Ok.ensures.2 c.write_last_line.ensures
