use Rattle.shared_store.proofs.AskingLemmas.{told_found}
use Rattle.shared_store.proofs.laws.turns_find_what_was_told.Goals as goal

pub returns : goal.returns
returns g c = λ told old new opening request reply h earlier a. told_found (g.C.TurnClock.gives c.args.clock.now) told old new opening request reply h earlier a
