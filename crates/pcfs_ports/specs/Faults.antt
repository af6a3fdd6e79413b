-- Counts of faults, which are kept in 64 bits and stand still at their end. This project's own.
use Rattle.std.specs.Prelude.{ℕ, ◌+◌, ◌-◌, ◌^◌, ◌<◌, min}

-- A count rose. One that stands at the end counts as risen.
abbrev pub HasRisen : ℕ → ℕ → Type 0
HasRisen before now = now < 2 ^ 64 - 1 → before < now

-- a count that is raised by one
abbrev pub raise : ℕ → ℕ
raise count = min (count + 1) (2 ^ 64 - 1)
