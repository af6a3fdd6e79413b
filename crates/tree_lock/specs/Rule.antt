-- The rule of the lock's table. This project's own.
-- Word 0 counts the tickets that were drawn, and word 16 those that were served, both modulo 2 ^
-- 64. Of the words from 32 on, by which passes wake each other, the rule says nothing.
-- The one slot has the value, or is out with the pass that holds it. The seat of a pass is its
-- number, and that of the doorman is 0.
-- The history has what a pass appended from the step on by which the pass tells it, while it still
-- has the value; the step that serves the next ticket puts the value back, and adds nothing.
use Rattle.std.specs.Prelude.{◌≡◌, ℕ, ◌+◌, ◌^◌, ◌%◌, ◌<◌, ◌≤◌, List, [], length, Bool, true, false, slice_index, ◌⊎◌, Some}
use Rattle.std.specs.List.{AllByRecursion}
use Rattle.std.specs.Prelude as std
use mathlib.Core.Option.{Option, some}
use mathlib.Core.List.{IsPrefix}
use lib.ListN.{get_elem?}
use Rattle.atomic_table.specs.Table.{State}
use Rattle.tree_lock.specs.declared.view.Knowledge.{Knowledge}
use Rattle.tree_lock.specs.declared.view.Stage.{Stage}
use Rattle.tree_lock.specs.declared.view.Stage.TheVariants.{Idle, Waiting, Holding}
use Rattle.tree_lock.specs.Entries.{of_number}
use Rattle.tree_lock.specs.Seen.{Retired, AreNumbers, AreOwn}
use Rattle.tree_lock.specs.Knowledge.{is_holding, tickets_out}

-- the ticket was drawn and not served, and is at this seat
pub record IsOut (served drawn : ℕ) (seat_of : ℕ → ℕ) (i t : ℕ) : Type 0 where
  pub wait_step : served ≤ t
  pub exists : t < drawn
  pub here : seat_of t ≡ i

module _ {E : Type 0} where
  -- who holds the value has seen the whole history, and has the ticket that is served next
  abbrev pub IsAtStage : List (ℕ × E) → ℕ → ℕ → (ℕ → ℕ) → ℕ → List (ℕ × E) → Stage → Type 0
  IsAtStage history served drawn seat_of i seen Idle = Unit {0}
  IsAtStage history served drawn seat_of i seen (Waiting t) = IsOut served drawn seat_of i t
  IsAtStage history served drawn seat_of i seen (Holding t) = (t ≡ served) ×
      IsOut served drawn seat_of i t × (seen ≡ history)

  -- a seat that has not been retired is at its number, and knows its own entries
  abbrev pub IsKnown : List (ℕ × E) → ℕ → Knowledge E → Bool → Type 0
  IsKnown history i v true = (v.number ≡ i) × (of_number i history ≡ v.own)
  IsKnown history i v false = v.stage ≡ Idle

  pub record Fits (history : List (ℕ × E)) (served drawn : ℕ) (seat_of : ℕ → ℕ) (i : ℕ) (v : Knowledge E) : Type 0 where
    pub seen : IsPrefix v.seen history
    pub told : IsPrefix v.told history
    pub known : IsKnown history i v v.out
    pub stage : IsAtStage history served drawn seat_of i v.seen v.stage

  -- the seat's pass was retired
  pub record IsSpent (views : List (Knowledge E)) (i : ℕ) : Type 0 where
    pub view : Knowledge E
    pub here : get_elem? views i ≡ some view
    pub spent : view.out ≡ false

  pub record IsDoorman (history : List (ℕ × E)) (views : List (Knowledge E)) (door : Knowledge E) : Type 0 where
    pub here : get_elem? views 0 ≡ some door
    pub out : door.out ≡ true
    pub idle : door.stage ≡ Idle
    pub made : door.made + 1 ≡ length views
    pub bound : door.made < 2 ^ 64
    pub numbers : AreNumbers door.made door.retired
    pub own : AreOwn history door.retired
    pub spent : AllByRecursion (λ (r : Retired E). IsSpent views r.0) door.retired

  -- a seat that has not been retired has seen the whole history
  pub record HasSeenAll (history : List (ℕ × E)) (views : List (Knowledge E)) : Type 0 where
    pub seat : ℕ
    pub view : Knowledge E
    pub here : get_elem? views seat ≡ some view
    pub out : view.out ≡ true
    pub all : view.seen ≡ history

  -- The history is the longest that anybody has seen: somebody has seen it whole, or the doorman was
  -- told it by the pass that was retired last.
  abbrev pub IsLongest : List (ℕ × E) → List (Knowledge E) → Knowledge E → Type 0
  IsLongest history views door = HasSeenAll history views ⊎ (door.told ≡ history)

  -- a pass holds the value
  pub record IsAway (views : List (Knowledge E)) : Type 0 where
    pub holder : ℕ
    pub view : Knowledge E
    pub here : get_elem? views holder ≡ some view
    pub holding : is_holding view.stage ≡ true

module _ {V E : Type 0} (entries : V → List (ℕ × E)) where
  -- the value is at home, its entries are the history, and no pass holds it
  pub record IsHome (history : List (ℕ × E)) (views : List (Knowledge E)) (homes : List (Option (std.Option V))) : Type 0 where
    pub value : V
    pub here : get_elem? homes 0 ≡ some (some (Some value))
    pub is : entries value ≡ history
    pub free : (i : ℕ) (v : Knowledge E) → get_elem? views i ≡ some v → is_holding v.stage ≡ false

  pub record Kept (s : State (std.Option V) (Knowledge E)) : Type 0 where
    pub history : List (ℕ × E)
    pub served : ℕ
    pub drawn : ℕ
    pub seat_of : ℕ → ℕ
    pub door : Knowledge E
    pub wide : 32 < length s.words
    pub slots : length s.homes ≡ 1
    pub drawn_is : slice_index s.words 0 ≡ drawn % 2 ^ 64
    pub served_is : slice_index s.words 16 ≡ served % 2 ^ 64
    pub counted : served + tickets_out s.views ≡ drawn
    pub doorman : IsDoorman history s.views door
    pub none_above : (n : ℕ) → length s.views ≤ n → of_number n history ≡ []
    pub each : (i : ℕ) (v : Knowledge E) → get_elem? s.views i ≡ some v →
        Fits history served drawn seat_of i v
    pub longest : IsLongest history s.views door
    pub slot : IsHome history s.views s.homes ⊎ IsAway s.views
