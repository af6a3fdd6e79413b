-- How serving ends. This project's own.
use Rattle.std.specs.Prelude.{◌≡◌, ℕ, ◌+◌, ◌<◌, ◌⊎◌, Bool, true, List, Option, IfSome}
use Rattle.pcfs_ports.specs.Faults.{raise}
use Rattle.pcfs_ports.specs.Accepted.{FallsBy}
use Rattle.pcfs_ports.specs.Telling.{AreAllGiven}
use Rattle.pcfs_server.specs.declared.end.ServeEnd.{ServeEnd}
use Rattle.pcfs_server.specs.declared.end.ServeEnd.TheVariants.{Done, NetFault, NoMemory}

-- how many connections were attended
abbrev pub number_of : ServeEnd → ℕ
number_of (Done n) = n
number_of (NetFault n) = n
number_of (NoMemory n) = n

-- What a listener had to give, if it tells that, fell by the connections that were attended, and at
-- an end other than
-- `Done` perhaps by one more, which was not admitted.
abbrev pub HasTaken : ServeEnd → Option ℕ → Option ℕ → Type 0
HasTaken (Done n) old new = FallsBy n old new
HasTaken (NetFault n) old new = FallsBy n old new ⊎ FallsBy (n + 1) old new
HasTaken (NoMemory n) old new = FallsBy n old new ⊎ FallsBy (n + 1) old new

-- Done exactly if `count` connections were attended or the listener is over, and then none waits.
abbrev pub HasCause : ServeEnd → ℕ → Type 0 → Option ℕ → Type 0
HasCause (Done n) count over waiting =
    (n ≡ count) ⊎ ((n < count) × over × IfSome waiting (λ left. left ≡ 0))
HasCause (NetFault n) count over waiting = n < count
HasCause (NoMemory n) count over waiting = n < count

-- At `Done` with fewer than `count` none is left of the connections that a listener tells.
abbrev pub HasGivenAll : {A : Type 0} → ServeEnd → ℕ → Option (List A) → Type 0
HasGivenAll (Done n) count told = n < count → AreAllGiven told
HasGivenAll (NetFault n) count told = Unit {0}
HasGivenAll (NoMemory n) count told = Unit {0}

abbrev pub IsNetFault : ServeEnd → Type 0
IsNetFault (Done n) = ⊥
IsNetFault (NetFault n) = Unit {0}
IsNetFault (NoMemory n) = ⊥

-- At an end other than `NetFault` no call of a port failed: its count of faults stands still.
abbrev pub StandsStill : ServeEnd → ℕ → ℕ → Type 0
StandsStill (Done n) before after = after ≡ before
StandsStill (NetFault n) before after = Unit {0}
StandsStill (NoMemory n) before after = after ≡ before

-- One call of a port failed, and it was the last: its count of faults was raised by one, and it says
-- that its last call failed.
abbrev pub FailedLast : ℕ → ℕ → Bool → Type 0
FailedLast before after broken = (after ≡ raise before) × (broken ≡ true)
