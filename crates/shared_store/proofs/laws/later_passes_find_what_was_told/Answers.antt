use Rattle.shared_store.proofs.AskingLemmas.{later_found}
use Rattle.shared_store.proofs.laws.later_passes_find_what_was_told.Goals as goal

pub returns : goal.returns
returns g c = λ told made old new opening request reply h later more a. later_found (g.C.TurnClock.gives c.args.clock.now) told made old new opening request reply h later more a
