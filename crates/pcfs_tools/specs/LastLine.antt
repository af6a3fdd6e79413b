-- What a run writes last (this project's own).
use Rattle.std.specs.Prelude.{◌≡◌, ◌⊎◌, ℕ, List, Bool, Option}
use Rattle.pcfs_ports.specs.Observable.{with_back, HoldsSome}
use Rattle.pcfs_server.specs.Ends.{FailedLast}
use Rattle.pcfs_session.specs.ScriptEnds.{with_line_end}

-- these bytes were written, no call of the output failed, and the run ends with this status; or the
-- output failed at its last call, and holds some first part of them. `held` and `faults` are what
-- the output held and the count of its faults, and `broken` says whether its last call failed
abbrev pub IsWritten : ℕ → List ℕ → Option (List ℕ) → ℕ → ℕ → Option (List ℕ) → ℕ → Bool → Type 0
IsWritten status bytes held faults result held_after faults_after broken =
    ((result ≡ status) × (held_after ≡ with_back held bytes) × (faults_after ≡ faults)) ⊎
    ((result ≡ 7) × FailedLast faults faults_after broken × HoldsSome held held_after bytes)

-- a last line was written so
abbrev pub Wrote : ℕ → List ℕ → Option (List ℕ) → ℕ → ℕ → Option (List ℕ) → ℕ → Bool → Type 0
Wrote status line held faults result held_after faults_after broken =
    IsWritten status (with_line_end line) held faults result held_after faults_after broken

-- memory ran out, nothing was written, and no call of the output failed
abbrev pub WroteNothing : Option (List ℕ) → ℕ → ℕ → Option (List ℕ) → ℕ → Type 0
WroteNothing held faults result held_after faults_after = (result ≡ 9) × (held_after ≡ held) ×
    (faults_after ≡ faults)
