-- What is made before it is written (this project's own).
use Rattle.std.specs.Prelude.{◌≡◌, ℕ, List, ◌++◌, Option}
use Rattle.pcfs_ports.specs.Observable.{with_back}

-- of these bytes the first were written after what the output held, and the others are made and
-- left
pub record GoesOut (held : Option (List ℕ)) (bytes : List ℕ) (held_after : Option (List ℕ)) (made : List ℕ) : Type 0 where
  pub sent : List ℕ
  pub parts : bytes ≡ sent ++ made
  pub output : held_after ≡ with_back held sent
