-- What the words ask for is done.
use Rattle.std.proofs.Common.{refl}
use Rattle.command_words.proofs.TaskLemmas.{fits_asked}
use Rattle.pcfs_top.proofs.EndsWithLemmas.{EndsWith-unasked}
use Rattle.pcfs_top.proofs.run.run_alone.Goals as goal

pub run_asked-requires-clause-fit : goal.run_asked-requires-clause-fit
run_asked-requires-clause-fit g c _ _ = fits_asked c.args.words.now.items c.in-Ok.asked c.in-Ok.ensures

pub returns-in-Ok : goal.returns-in-Ok
returns-in-Ok g c = c.run_asked.ensures c.args.words.now.items c.in-Ok.ensures

pub returns-in-Err : goal.returns-in-Err
returns-in-Err g c = EndsWith-unasked c.args.words.now.items c.args.secrets.now _ _ _ refl (record { left_stays = refl; faults_stay = refl }) refl refl
