-- What a history keeps, and what is made ready for an event (this project's own).
use Rattle.std.specs.Prelude.{◌-◌, ℕ, List, Vec, vec_len, vec_capacity}
use Rattle.std.specs.declared.alloc.Global.{Global}
use Rattle.policy_statement.specs.Ring.{KeyView, is_accepted}
use Rattle.world_state.specs.State.{Readiness, WorldState, IsWorldReady}
use Rattle.journal_records.specs.declared.event.Event.{Event}
use Rattle.journal_records.specs.declared.event.Event.TheVariants as events
use Rattle.access_history.specs.Base.{BaseView}
use Rattle.access_history.specs.Authority.{Authority}
use Rattle.access_history.specs.Replay.{replay}
pub use Rattle.access_history.specs.Replay.{addition_of}

-- the key of the seal, the ring of those whose signatures are accepted, the base, the events since,
-- for how many events there is room, and what the world is ready to change
pub record HistoryView : Type 0 where
  pub key : List ℕ
  pub ring : List KeyView
  pub base : BaseView
  pub events : List Event
  pub room : ℕ
  pub ready : Readiness

-- the authority with this key, which accepts what the ring accepts
abbrev pub authority_with : List ℕ → List KeyView → Authority
authority_with key ring = record { key = key; accepts = is_accepted ring }

-- the authority under which a history stands
abbrev pub authority_of : HistoryView → Authority
authority_of h = authority_with h.key h.ring

-- the state to which the events lead
abbrev pub state_of : HistoryView → BaseView
state_of h = replay h.base h.events

-- the world of that state, and what it is ready to change
abbrev pub world_of : HistoryView → WorldState
world_of h = record { world = (state_of h).world; ready = h.ready }

-- the world is ready for the event, if it is an operation
abbrev pub IsReadyIn : WorldState → Event → Type 0
IsReadyIn world (events.Acted pass caller op procaps moment) = IsWorldReady caller world op
IsReadyIn world _ = Unit {0}

-- the history is ready for the event
abbrev pub IsReadyFor : HistoryView → Event → Type 0
IsReadyFor h event = IsReadyIn (world_of h) event

-- how many items a vector takes without growing
abbrev pub spare : {A : Type 0} → Vec A Global → ℕ
spare v = vec_capacity v - vec_len v
