use Rattle.std.proofs.Common.{◌≡◌, ℕ, ◌+◌, List, drop, refl}
use Rattle.std.proofs.lemmas.List.{drop-drop}
use Rattle.pcfs_ports.specs.Calls.{CallPlanView, after_call}
use Rattle.pcfs_ports.specs.MemorySource.{after_read}
use Rattle.pcfs_ports.proofs.nonces.ListNoncesNonces.next.Goals as goal

-- the bytes after the next sixteen
taken : (bytes : List ℕ) (at : ℕ) (old new : CallPlanView) → new ≡ after_call old →
    record { left = drop (at + 16) bytes; calls = new } ≡ after_read (record { left = drop at bytes; calls = old }) 16
taken bytes at old new counted = rw (counted, drop-drop 16 at bytes) refl

pub returns-clause-taken : goal.returns-clause-taken
returns-clause-taken c = rw (← c.self.view_is) (taken c.self.inside.bytes c.self.inside.at c.self.inside.plan _ c.count.ensures)
