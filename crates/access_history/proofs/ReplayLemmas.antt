-- The state after one more event, and its count.
use Rattle.std.proofs.Common.{◌≡◌, ℕ, ◌+◌, List, [], ◌∷◌, ◌++◌, length, refl, ap, Option, None, arith}
use Rattle.file_world.specs.declared.operation.Op.{Op}
use Rattle.file_world.specs.declared.refusal.Refusal.{Refusal}
use Rattle.file_world.specs.Outcome.{outcome}
use Rattle.file_world.specs.World.{World}
use Rattle.file_world.specs.Effect.{refusal, reply, effect, world_after}
use Rattle.journal_records.specs.declared.event.Event.{Event}
use Rattle.access_history.specs.Base.{BaseView}
use Rattle.access_history.specs.Replay.{world_left, replay, next_state}

-- the world after an operation that is not refused
pub world_left-after : (caller : List ℕ) (op : Op) (world : World) → refusal world op ≡ None → world_left world (effect caller op world) ≡ world_after caller world op
world_left-after caller op world free = ap (λ (why : Option Refusal). world_left world (outcome why (reply world op) (world_after caller world op))) free

-- one more event
pub replay-more : (base : BaseView) (events : List Event) (event : Event) → replay base (events ++ event ∷ []) ≡ next_state (replay base events) event
replay-more base [] event = refl
replay-more base (e ∷ events) event = replay-more (next_state base e) events event

-- the count of a state is the base's and the number of events
pub count-replay : (base : BaseView) (events : List Event) → (replay base events).count ≡ base.count + length events
count-replay base [] = omega arith
count-replay base (e ∷ events) = let now = count-replay (next_state base e) events in omega (arith, now)
