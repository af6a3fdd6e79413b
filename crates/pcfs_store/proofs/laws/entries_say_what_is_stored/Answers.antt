use Rattle.pcfs_store.proofs.EntryLemmas.{used-entries, generation-entries, events-entries}
use Rattle.pcfs_store.proofs.laws.entries_say_what_is_stored.Goals as goal

pub returns-clause-used : goal.returns-clause-used
returns-clause-used g c = λ s store. used-entries s store

pub returns-clause-generation : goal.returns-clause-generation
returns-clause-generation g c = λ s store. generation-entries s store

pub returns-clause-events : goal.returns-clause-events
returns-clause-events g c = λ s. events-entries s.events s.checkpoints s.stop s.met
