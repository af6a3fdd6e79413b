-- What asking a listener for a connection gives. This project's own.
use Rattle.std.specs.Prelude.{◌≡◌, ℕ, ◌+◌, List, [], ◌∷◌, Option}
use Rattle.std.specs.Option.{option_map}
use Rattle.pcfs_ports.specs.declared.accepted.Accepted.{Accepted}
use Rattle.pcfs_ports.specs.declared.accepted.Accepted.TheVariants.{Conn, Closed, Failed, NoMemory}

-- the connection that was given, if one was
abbrev pub connections_of : {I O : Type 0} → Accepted I O → List (I × O)
connections_of (Conn input output) = (input, output) ∷ []
connections_of Closed = []
connections_of Failed = []
connections_of NoMemory = []

-- how many connections were given
abbrev pub count_of : {I O : Type 0} → Accepted I O → ℕ
count_of (Conn input output) = 1
count_of Closed = 0
count_of Failed = 0
count_of NoMemory = 0

-- a number fell by so many, if it is told; and it is told now if it was told before
abbrev pub FallsBy : ℕ → Option ℕ → Option ℕ → Type 0
FallsBy count old new = old ≡ option_map (λ left. left + count) new
