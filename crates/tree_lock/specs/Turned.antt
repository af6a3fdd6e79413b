-- What a turn does. This project's own.
use Rattle.std.specs.Prelude.{◌≡◌, ℕ, List, ◌++◌}
use mathlib.Core.List.{IsPrefix}
use Rattle.tree_lock.specs.Entries.{of_number, AllOfNumber}
use Rattle.tree_lock.specs.Seen.{PassView, one_more}

-- A turn's job took the value `before` to the value `after`, and appended entries of the pass. All
-- that the pass had seen begins the entries that the job found, and then it has seen all that the
-- job left.
pub record Turned {V E Out : Type 0} (entries : V → List (ℕ × E)) (done : V → ℕ → V → Out → Type 0) (old new : PassView E) (result : Out) : Type 0 where
  pub before : V
  pub after : V
  pub added : List (ℕ × E)
  pub worked : done before old.number after result
  pub found : IsPrefix old.seen (entries before)
  pub left : entries after ≡ entries before ++ added
  pub of_pass : AllOfNumber old.number added
  pub seen : new.seen ≡ entries after
  pub own : new.own ≡ old.own ++ added
  pub lock : new.lock ≡ old.lock
  pub number : new.number ≡ old.number
  pub turns : new.turns ≡ one_more old.turns
  -- the entries under the pass's number are its own, before and after
  pub own_before : of_number old.number (entries before) ≡ old.own
  pub own_after : of_number new.number (entries after) ≡ new.own
