-- What each step at the lock's table tells. This project's own.
use Rattle.std.specs.Prelude.{◌≡◌, ◌≢◌, ℕ, ◌+◌, ◌%◌, ◌^◌, ◌≤◌, List, [], ◌∷◌, length, Option, Some, None}
use mathlib.Core.List.{IsPrefix}
use Rattle.atomic_table.specs.Table.{Me, Step, rest}
use Rattle.tree_lock.specs.declared.view.Knowledge.{Knowledge}
use Rattle.tree_lock.specs.declared.view.Stage.TheVariants.{Idle, Waiting}
use Rattle.tree_lock.specs.Entries.{of_number}
use Rattle.tree_lock.specs.Seen.{AreNumbers, AreOwn}
use Rattle.tree_lock.specs.Knowledge.{at_stage, holding, after_work, after_look}

abbrev SeatState : Type 0 → Type 0 → Type 0
SeatState V E = Me (Option V) (Knowledge E)

module _ {E : Type 0} where
  -- the doorman sees the whole history, in which the entries of each retired pass are its own,
  -- those under the number 0 are the opening ones, and there are none under a number that was not
  -- made
  pub record Looks (before after : Knowledge E) : Type 0 where
    pub history : List (ℕ × E)
    pub seen : IsPrefix before.seen history
    pub told : IsPrefix before.told history
    pub numbers : AreNumbers before.made before.retired
    pub within : length before.retired ≤ before.made
    pub own : AreOwn history before.retired
    pub opening : of_number 0 history ≡ before.own
    pub none_above : (n : ℕ) → before.made + 1 ≤ n → of_number n history ≡ []
    pub is : after ≡ after_look before history

module _ {V E : Type 0} where
  -- a ticket was drawn, and the word found is its remainder
  abbrev pub draw_step : Step (Option V) → SeatState V E → ℕ → SeatState V E → Type 0
  draw_step step before found after = (t : ℕ) × (found ≡ t % 2 ^ 64) ×
      (after ≡ (at_stage before.0 (Waiting t), before.1))

  -- nothing is told
  abbrev pub signal_step : Step (Option V) → SeatState V E → ℕ → SeatState V E → Type 0
  signal_step step before found after = after ≡ before

  -- the value was given back
  abbrev pub serve_step : Step (Option V) → SeatState V E → ℕ → SeatState V E → Type 0
  serve_step step before found after = after ≡ (at_stage before.0 Idle, rest before.1)

  abbrev pub look_step : Step (Option V) → SeatState V E → ℕ → SeatState V E → Type 0
  look_step step before found after = Looks before.0 after.0 × (after.1 ≡ before.1)

module _ {V E : Type 0} (entries : V → List (ℕ × E)) where
  -- the value was taken, whose entries begin with all that the pass has seen, and have its own
  pub record Takes (t : ℕ) (before after : SeatState V E) : Type 0 where
    pub value : V
    pub seen : IsPrefix before.0.seen (entries value)
    pub own : of_number before.0.number (entries value) ≡ before.0.own
    pub is : after ≡ (holding before.0 t (entries value), (0, Some value) ∷ before.1)

  -- a pass that waits for the ticket t takes the value if it is served, and else nothing changes
  abbrev pub wait_step : Step (Option V) → SeatState V E → ℕ → SeatState V E → Type 0
  wait_step step before found after = (t : ℕ) → before.0.stage ≡ Waiting t →
      (found ≡ t % 2 ^ 64 → Takes t before after) × (found ≢ t % 2 ^ 64 → after ≡ before)

  abbrev pub entries_held : List (ℕ × Option V) → List (ℕ × E)
  entries_held [] = []
  entries_held (h ∷ hs) = entries_of h.1
    where
      entries_of : Option V → List (ℕ × E)
      entries_of None = []
      entries_of (Some value) = entries value

  -- the entries of the value that is held are the history from now on
  abbrev pub tell_step : Step (Option V) → SeatState V E → ℕ → SeatState V E → Type 0
  tell_step step before found after = after ≡ (after_work before.0 (entries_held before.1) (of_number before.0.number (entries_held before.1)), before.1)
