use Rattle.std.proofs.Common.{◌∙◌}
use Rattle.lock_tests.proofs.CountingLemmas.{all_counted}
use Rattle.lock_tests.proofs.threads.count_in_threads.Goals as goal

pub returns : goal.returns
returns g c =
    let told = c.retire_all.ensures c.if-not-retire_all.false in
    all_counted c.args.count c.args.passes c.retire_all.new.door c.close.result.notes.items c.close.ensures (told.1 ∙ c.in_ok-all.ensures.door.1) told.2
