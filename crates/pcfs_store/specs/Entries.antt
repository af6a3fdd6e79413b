-- The entries of a store: what it was opened with, and in order what happened since. This project's
-- own.
use Rattle.std.specs.Prelude.{ℕ, ◌+◌, ◌-◌, List, [], ◌∷◌, ◌++◌, length, map, take, drop, Option, Some, None}
use Rattle.policy_statement.specs.Ring.{KeyView}
use Rattle.journal_records.specs.declared.event.Event.{Event}
use Rattle.access_history.specs.Base.{BaseView}
use Rattle.access_history.specs.Replay.{next_state, replay}
use Rattle.journal_records.specs.EventSpelling.{event_spelling}
use Rattle.checkpoint_image.specs.ImageSpelling.{image_spelling}
use Rattle.pcfs_store.specs.declared.checkpoints.Checkpoint.{Checkpoint}
use Rattle.pcfs_store.specs.StoreView.{StoreView}

-- what a store was opened with: the base, the key of the seal and the ring, and of the opened area
-- the generation and the length of its image
pub record Root : Type 0 where
  pub base : BaseView
  pub key : List ℕ
  pub ring : List KeyView
  pub generation : ℕ
  pub image_length : ℕ

-- An entry: an event, with its pass; a checkpoint, with its pass; or the mark Stop, which ends the
-- list, with the pass of the step or checkpoint in which a disk failed, and with the event that the
-- step was keeping. Of a store with this mark the disks' counts of faults are those at the mark,
-- since it touches no disk any more.
pub data StoreEntry : Type 0 where
  happened : Event → StoreEntry
  checkpointed : ℕ → StoreEntry
  stopped : ℕ → Option Event → StoreEntry

abbrev pub stop_entries : Option ℕ → Option Event → List StoreEntry
stop_entries None met = []
stop_entries (Some pass) met = stopped pass met ∷ []

abbrev pub root_of : {D : Type 0} → StoreView D → Root
root_of s = record { base = s.base; key = s.key; ring = s.ring; generation = s.generation - length s.checkpoints; image_length = length s.opened }

-- events, after so many others, and the checkpoints that were made of all: each after its number of
-- events
abbrev pub merged : ℕ → List Event → List Checkpoint → List StoreEntry
merged before events [] = map happened events
merged before events (checkpoint ∷ checkpoints) =
    map happened (take (checkpoint.after - before) events) ++ checkpointed checkpoint.pass
    ∷ merged checkpoint.after (drop (checkpoint.after - before) events) checkpoints

-- the entries after the root
abbrev pub entries_of : {D : Type 0} → StoreView D → List StoreEntry
entries_of s = merged 0 s.events s.checkpoints ++ stop_entries s.stop s.met

-- the events among entries
abbrev pub events_among : List StoreEntry → List Event
events_among [] = []
events_among (happened event ∷ entries) = event ∷ events_among entries
events_among (checkpointed pass ∷ entries) = events_among entries
events_among (stopped pass met ∷ entries) = events_among entries

-- how many checkpoints there are among entries
abbrev pub checkpoints_among : List StoreEntry → ℕ
checkpoints_among [] = 0
checkpoints_among (happened event ∷ entries) = checkpoints_among entries
checkpoints_among (checkpointed pass ∷ entries) = checkpoints_among entries + 1
checkpoints_among (stopped pass met ∷ entries) = checkpoints_among entries

-- the state to which the entries lead
abbrev pub state_of_entries : Root → List StoreEntry → BaseView
state_of_entries root entries = replay root.base (events_among entries)

-- how many bytes the record of an event has: a gate, four bytes of length, and the payload
abbrev pub bytes_for : Event → ℕ
bytes_for event = 5 + length (event_spelling event)

-- how many bytes an area has before its closed gate after these entries, if it had `used` at that
-- state: a record more with each event; and with each checkpoint it is an area of the header and
-- the image of the state alone
abbrev pub used_after : BaseView → ℕ → List StoreEntry → ℕ
used_after state used [] = used
used_after state used (happened event ∷ entries) = used_after (next_state state event) (used + bytes_for event) entries
used_after state used (checkpointed pass ∷ entries) = used_after state (24 + length (image_spelling state)) entries
used_after state used (stopped pass met ∷ entries) = used_after state used entries

-- how many bytes the area has before its closed gate: at the root the header and the image
abbrev pub used_by : Root → List StoreEntry → ℕ
used_by root entries = used_after root.base (24 + root.image_length) entries
