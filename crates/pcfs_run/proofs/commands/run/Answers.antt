-- A run serves, or another command is run.
use Rattle.std.proofs.Common.{refl}
use Rattle.command_words.specs.declared.words.Task.TheVariants.{Serve, Serve9}
use Rattle.command_words.proofs.TaskLemmas.{fits, fits_asked}
use Rattle.pcfs_run.specs.Served as serving
use Rattle.pcfs_run.proofs.WordsLemmas.{asks_other, asks_no_nine}
use Rattle.pcfs_run.proofs.commands.run.Goals as goal

pub run_asked-requires-clause-fit : goal.run_asked-requires-clause-fit
run_asked-requires-clause-fit g c κs within = fits_asked c.args.words.now.items c.in-Ok.asked c.in-Ok.ensures

pub serve-requires-clause-some : goal.serve-requires-clause-some
serve-requires-clause-some g c κs within = (fits c.args.words.now.items (Serve c.in-Some.port c.in-Some.count) (rw c.in-Some.ensures at c.in-Ok.ensures)).0

pub serve-requires-clause-few : goal.serve-requires-clause-few
serve-requires-clause-few g c κs within = (fits c.args.words.now.items (Serve c.in-Some.port c.in-Some.count) (rw c.in-Some.ensures at c.in-Ok.ensures)).1

pub returns-in-Err : goal.returns-in-Err
returns-in-Err g c = serving.unread refl (record { waiting_stays = refl; faults_stay = refl; nonce_faults_stay = refl }) (record { left_stays = refl; faults_stay = refl }) refl refl

pub returns-in-Some : goal.returns-in-Some
returns-in-Some g c = serving.serves _ c.in-Some.port c.in-Some.count (rw c.in-Some.ensures at c.in-Ok.ensures) (record { left_stays = refl; faults_stay = refl }) (c.serve.ensures _ _ _)

pub serve9-requires-clause-some : goal.serve9-requires-clause-some
serve9-requires-clause-some g c κs within = (fits c.args.words.now.items (Serve9 c.in-Some-nine_serving_of.port c.in-Some-nine_serving_of.count) (rw c.in-Some-nine_serving_of.ensures at c.in-Ok.ensures)).0

pub serve9-requires-clause-few : goal.serve9-requires-clause-few
serve9-requires-clause-few g c κs within = (fits c.args.words.now.items (Serve9 c.in-Some-nine_serving_of.port c.in-Some-nine_serving_of.count) (rw c.in-Some-nine_serving_of.ensures at c.in-Ok.ensures)).1

pub returns-in-Some-nine_serving_of : goal.returns-in-Some-nine_serving_of
returns-in-Some-nine_serving_of g c = serving.serves_nine _ c.in-Some-nine_serving_of.port c.in-Some-nine_serving_of.count (rw c.in-Some-nine_serving_of.ensures at c.in-Ok.ensures) (record { left_stays = refl; faults_stay = refl }) (c.serve9.ensures _ _ _)

pub returns-in-None-nine_serving_of : goal.returns-in-None-nine_serving_of
returns-in-None-nine_serving_of g c =
    serving.alone _ (asks_other _ _ c.in-Ok.ensures c.in-None.ensures) (asks_no_nine _ _ c.in-Ok.ensures c.in-None-nine_serving_of.ensures) (c.run_asked.ensures _ c.in-Ok.ensures) (record { waiting_stays = refl; faults_stay = refl; nonce_faults_stay = refl })
