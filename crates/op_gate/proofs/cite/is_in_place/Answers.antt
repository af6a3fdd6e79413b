-- The statement that the number holds is the one that is cited, or not.
use Rattle.access_history.specs.Books.{live_book}
use Rattle.op_gate.proofs.RegistryLemmas.{stands_as, stands_nowhere}
use Rattle.op_gate.proofs.cite.is_in_place.Goals as goal

pub returns-in-Some : goal.returns-in-Some
returns-in-Some c = stands_as (live_book c.args.entries.now) c.args.cite.now c.in-Some.statement.now c.is_same.result c.in-Some.ensures c.is_same.ensures

pub returns-in-None : goal.returns-in-None
returns-in-None c = stands_nowhere (live_book c.args.entries.now) c.args.cite.now c.in-None.ensures
