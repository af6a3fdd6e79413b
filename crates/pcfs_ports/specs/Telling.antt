-- What listeners and nonces tell of what they are to give. This project's own.
use Rattle.std.specs.Prelude.{◌≡◌, ℕ, ◌*◌, List, [], take, drop, Option, Some, IfSome, slice_get, Bool, true, false}
use Rattle.std.specs.Option.{option_map}
use Rattle.pcfs_ports.specs.declared.accepted.Accepted.{Accepted}
use Rattle.pcfs_ports.specs.declared.accepted.Accepted.TheVariants.{Conn, Closed, Failed, NoMemory}

-- if a connection was given, this holds of its input and its output
abbrev pub IfGiven : {I O : Type 0} → Accepted I O → (I → O → Type 0) → Type 0
IfGiven (Conn input output) P = P input output
IfGiven Closed P = Unit {0}
IfGiven Failed P = Unit {0}
IfGiven NoMemory P = Unit {0}

-- if they are told, these are the input and the output of the connection at that place, from 0
abbrev pub IsAt : {I O : Type 0} → Option (List (I × O)) → ℕ → I → O → Type 0
IsAt told place input output = IfSome told (λ queue. slice_get queue place ≡ Some (input, output))

-- so many were taken of the front, if they are told; and they are told now if they were told before
abbrev pub AreTakenOff : {A : Type 0} → ℕ → Option (List A) → Option (List A) → Type 0
AreTakenOff count old new = new ≡ option_map (drop count) old

-- none is left, if they are told
abbrev pub AreAllGiven : {A : Type 0} → Option (List A) → Type 0
AreAllGiven told = IfSome told (λ queue. queue ≡ [])

-- how many bytes a call takes that gives a nonce, or none
abbrev pub bytes_taken : Bool → ℕ
bytes_taken true = 16
bytes_taken false = 0

-- if the bytes are told of which nonces are made, this is the next one
abbrev pub IsNextNonce : Option (List ℕ) → List ℕ → Type 0
IsNextNonce told nonce = IfSome told (λ bytes. nonce ≡ take 16 bytes)

-- and this is the one at that place, from 0
abbrev pub IsNonceAt : Option (List ℕ) → ℕ → List ℕ → Type 0
IsNonceAt told place nonce = IfSome told (λ bytes. nonce ≡ take 16 (drop (16 * place) bytes))
