-- Which passes are those of connections (this project's own).
use Rattle.std.specs.Prelude.{ℕ, ◌+◌, List, [], ◌∷◌}

-- Each of these passes has a number and its own entries. So many of them are those of connections
-- that were attended, and `P number own` holds of each of these; each other one has no entries.
pub data AreOfConnections {E : Type 0} (P : ℕ → List E → Type 0) : ℕ → List (ℕ × List E) →
    Type 0 where
  no_more : AreOfConnections P 0 []
  was_attended : (count number : ℕ) (own : List E) (passes : List (ℕ × List E)) → P number own →
      AreOfConnections P count passes → AreOfConnections P (count + 1) ((number, own) ∷ passes)
  was_not_attended : (count number : ℕ) (passes : List (ℕ × List E)) →
      AreOfConnections P count passes → AreOfConnections P count ((number, []) ∷ passes)
