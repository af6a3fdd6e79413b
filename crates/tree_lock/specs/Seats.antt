-- Seats at the lock's table, between the steps of a turn. This project's own.
use Rattle.std.specs.Prelude.{◌≡◌, ℕ, ◌+◌, ◌≤◌, ◌%◌, ◌^◌, List, [], ◌∷◌, length, Option, Some, true}
use mathlib.Core.List.{IsPrefix}
use Rattle.atomic_table.specs.Seated.{TableId}
use Rattle.atomic_table.specs.declared.shared.Seat.{Seat}
use Rattle.tree_lock.specs.declared.view.Knowledge.{Knowledge}
use Rattle.tree_lock.specs.declared.view.Stage.TheVariants.{Idle, Waiting, Holding}
use Rattle.tree_lock.specs.Seen.{PassView, DoormanView}

-- the table has the lock's words, and its slot
pub record IsLockTable (table : TableId) : Type 0 where
  pub words : table.words ≡ 64
  pub slots : table.slots ≡ 1

-- what contracts see of a doorman whose seat has this view
abbrev pub doorman_view : {E : Type 0} → Knowledge E → TableId → ℕ → DoormanView E
doorman_view v lock out = record { lock = lock; seen = v.seen; opening = v.own; made = v.made; out = out; retired = v.retired }

module _ {V E : Type 0} where
  -- what contracts see of a pass that took so many turns and has this seat
  abbrev pub seat_view : ℕ → Seat (Option V) (Knowledge E) → PassView E
  seat_view turns seat = record {
    lock = seat.table_id;
    number = seat.me.0.number;
    seen = seat.me.0.seen;
    own = seat.me.0.own;
    turns = turns;
  }

  -- the doorman's seat, which made so many passes, of which so many are out
  abbrev pub IsDoormanSeat : Seat (Option V) (Knowledge E) → ℕ → ℕ → Type 0
  IsDoormanSeat seat made out = (seat.id ≡ 0) × (seat.me.1 ≡ []) × (made ≡ seat.me.0.made) × (out + length seat.me.0.retired ≡ made) ×
      IsPrefix seat.me.0.own seat.me.0.seen × IsPrefix seat.me.0.told seat.me.0.seen

  -- the seat of a pass at this table
  pub record IsPassAt (table : TableId) (seat : Seat (Option V) (Knowledge E)) : Type 0 where
    pub lock : IsLockTable table
    pub here : seat.table_id ≡ table
    pub out : seat.me.0.out ≡ true
    pub number : 1 ≤ seat.me.0.number

  -- it has no ticket, and not the value
  pub record IsIdle (table : TableId) (seat : Seat (Option V) (Knowledge E)) : Type 0 where
    pub at : IsPassAt table seat
    pub free : seat.me.1 ≡ []
    pub stage : seat.me.0.stage ≡ Idle

  -- it waits for a ticket, of which this is the remainder
  pub record IsWaiting (table : TableId) (seat : Seat (Option V) (Knowledge E)) (ticket : ℕ) : Type 0 where
    pub at : IsPassAt table seat
    pub free : seat.me.1 ≡ []
    pub full : ℕ
    pub stage : seat.me.0.stage ≡ Waiting full
    pub is : ticket ≡ full % 2 ^ 64

  -- it holds this value
  pub record IsHolding (table : TableId) (seat : Seat (Option V) (Knowledge E)) (value : V) : Type 0 where
    pub at : IsPassAt table seat
    pub held : seat.me.1 ≡ (0, Some value) ∷ []
    pub full : ℕ
    pub stage : seat.me.0.stage ≡ Holding full
