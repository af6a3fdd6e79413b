-- Histories in the bytes of an area, and what an opening finds of a history that was kept. This
-- project's own.
use Rattle.std.specs.Prelude.{◌≡◌, ◌⊎◌, ℕ, ◌+◌, ◌<◌, ◌≤◌, List, length, take, drop, map}
use Rattle.std.specs.List.{AllByRecursion}
use Rattle.bl_syntax.specs.declared.limits.TheConstants.{MOST_EVENTS}
use Rattle.journal_core.specs.Area.{area_limit, area_bytes, IsArea}
use Rattle.journal_records.specs.declared.event.Event.{Event}
use Rattle.access_history.specs.Base.{BaseView}
use Rattle.access_history.specs.Replay.{replay}
use Rattle.journal_records.specs.Passes.{erase}
use Rattle.journal_records.specs.EventSpelling.{event_spelling, IsSpellableEvent}
use Rattle.pcfs_store.specs.Image.{IsImageOf}

-- the payloads of the records of events; they do not say of which pass an event is
abbrev pub payloads_of : List Event → List (List ℕ)
payloads_of events = map event_spelling events

-- each of the events has a spelling
abbrev pub AreSpellable : List Event → Type 0
AreSpellable events = AllByRecursion IsSpellableEvent events

-- the state after the first `settled` events of a history
abbrev pub state_after : BaseView → List Event → ℕ → BaseView
state_after base events settled = replay base (take settled events)

-- the area that tells a history by an image of the state after its first `settled` events and the
-- records of the others, without its closed gate
abbrev pub area_since : ℕ → List ℕ → List Event → ℕ → List ℕ
area_since generation image events settled = area_bytes generation image (payloads_of (drop settled events))

-- Bytes stand for a history under a generation: they begin with the area of an image of its base
-- and the records of its events, and what follows is empty or begins with no open gate.
pub record StandsFor (bytes : List ℕ) (generation : ℕ) (base : BaseView) (events : List Event) : Type 0 where
  pub image : List ℕ
  pub is_image : IsImageOf base image
  pub spelled : AreSpellable events
  pub is_area : IsArea bytes generation image (payloads_of events)

-- What is found resumes the first `kept` events of a history: its base is the state after some
-- first of them, and its events are the others without their passes.
pub record Resumes (found_base : BaseView) (found : List Event) (base : BaseView) (events : List Event) (kept : ℕ) : Type 0 where
  pub skipped : ℕ
  pub skipped_few : skipped ≤ kept
  pub kept_few : kept ≤ length events
  pub base_is : found_base ≡ replay base (take skipped events)
  pub events_are : found ≡ map erase (drop skipped (take kept events))

-- The event cannot be kept after so many bytes and so many events: with its record and a closed
-- gate the area would pass its limit, or the event has no number left.
abbrev pub IsFull : ℕ → ℕ → Event → Type 0
IsFull used count event = (area_limit < used + length (event_spelling event) + 6) ⊎
    (MOST_EVENTS ≤ count)
