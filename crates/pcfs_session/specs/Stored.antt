-- A store while a script goes on (this project's own).
use Rattle.std.specs.Prelude.{◌≡◌, ◌⊎◌, ℕ, ◌+◌, ◌≤◌, length, List, [], Option, Some, None}
use Rattle.pcfs_ports.specs.Faults.{HasRisen}
use mathlib.Core.List.{IsPrefix}
use Rattle.line_wire.specs.declared.reply.LineReply.{LineReply}
use Rattle.pcfs_store.specs.StoreView.{StoreView, first_disk, second_disk, NoneFailed, HasNothingAdded, body_of}
use Rattle.pcfs_store.specs.Ready.{IsReady, IsCurrent, IsAtRest, RestsSince, StopsNow, SurvivesCheckpoint}
use Rattle.pcfs_store.specs.Newest.{NewestBegins}
use Rattle.pcfs_store.specs.Checkpoints.{place_after, SurvivesMetAt}
use Rattle.pcfs_store.specs.Entries.{StoreEntry, happened, checkpointed}
use Rattle.journal_records.specs.declared.event.Event.{Event}
use Rattle.pcfs_session.specs.InterpreterView.{InterpreterView, standing_of}
use Rattle.pcfs_session.specs.ScriptEnds.{ScriptEnds}
use Rattle.pcfs_session.specs.ScriptRun.{ScriptState}
use Rattle.pcfs_session.specs.Streams.{Streams}
use Rattle.pcfs_session.specs.declared.script_end.ScriptEnd.{ScriptEnd}

-- a store stopped exactly if a disk failed for an event or a checkpoint
abbrev pub IsStopFor : Option ℕ → Option StoreEntry → Type 0
IsStopFor None None = Unit {0}
IsStopFor None (Some entry) = ⊥
IsStopFor (Some pass) None = ⊥
IsStopFor (Some pass) (Some entry) = Unit {0}

-- Below, of a disk d `clock d` is the present moment, `left_since d t bytes` says that a crash at
-- some moment since t may have left these bytes, `image d` is what a read gives, if d tells it, and
-- `faults d` counts its faults.
module _ {D : Type 0} (clock : D → ℕ) (left_since : D → ℕ → List ℕ → Type 0) (image : D → Option (List ℕ)) (faults : D → ℕ) where
  -- From one moment of a store to a later one, at which a disk has failed for this event or this
  -- checkpoint, if one has. Checkpoints were added at the end: with each the generation grew by
  -- one, and the disks changed their places; as long as none was tried, the other disk is not
  -- touched. While no disk has failed for one, no call of a disk has failed, a store that was ready
  -- is ready, and what a read gives stands for its history. If one has, a count rose; and of a
  -- store that was ready a crash leaves the history, or, if it was for an event, with it the event;
  -- in the area where it was, or, if it was for a checkpoint, perhaps in one of the next generation
  -- on the other disk. A store that lacked its closed gate is ready once something was added, and
  -- then all this is so of it too; before that, if a checkpoint met the fault, but for the closed
  -- gate; and if an event met it, the area of its history still begins the newest one, which is
  -- where it was.
  pub record StoreGoesOn (old new : StoreView D) (met : Option StoreEntry) : Type 0 where
    pub stop_for : IsStopFor new.stop met
    pub opened_stays : new.opened ≡ old.opened
    pub checkpoints_go_on : IsPrefix old.checkpoints new.checkpoints
    pub generation_grows : new.generation ≡ old.generation + length checkpoints_go_on.0
    pub place_is : new.second_active ≡ place_after (length checkpoints_go_on.0) old.second_active
    pub other_stays : checkpoints_go_on.0 ≡ [] → ((pass : ℕ) → met ≡ Some (checkpointed pass) → ⊥) →
        new.other ≡ old.other
    pub ready : IsReady clock left_since image old → met ≡ None → IsReady clock left_since image new
    pub halts : IsReady clock left_since image old → (entry : StoreEntry) → met ≡ Some entry →
        StopsNow clock left_since image new (SurvivesMetAt new.base new.events new.generation new.second_active entry)
    pub at_rest : IsAtRest clock left_since image old → met ≡ None →
        RestsSince clock left_since image old new
    pub halts_mended : IsAtRest clock left_since image old → (entry : StoreEntry) →
        met ≡ Some entry → (HasNothingAdded old new → ⊥) →
        StopsNow clock left_since image new
        (SurvivesMetAt new.base new.events new.generation new.second_active entry)
    pub halts_checkpoint : IsAtRest clock left_since image old → (pass : ℕ) →
        met ≡ Some (checkpointed pass) →
        StopsNow clock left_since image new
        (SurvivesCheckpoint new.base new.events new.generation new.second_active)
    pub halts_event : IsAtRest clock left_since image old → (event : Event) →
        met ≡ Some (happened event) →
        StopsNow clock left_since image new
        (NewestBegins new.generation new.second_active (body_of new))
    pub current : IsCurrent clock left_since image old → met ≡ None →
        IsCurrent clock left_since image new
    pub first_never_falls : faults (first_disk old) ≤ faults (first_disk new)
    pub second_never_falls : faults (second_disk old) ≤ faults (second_disk new)
    pub none_failed : met ≡ None → NoneFailed faults old new
    pub failed : (entry : StoreEntry) → met ≡ Some entry →
        HasRisen (faults (first_disk old)) (faults (first_disk new)) ⊎
        HasRisen (faults (second_disk old)) (faults (second_disk new))

  -- a call of an interpreter leads to a reply, as R says of where it stood and of where it stands
  -- then, and its store goes on
  pub record LeadsTo (R : ScriptState → LineReply → ScriptState → Type 0) (old : InterpreterView D) (reply : LineReply) (new : InterpreterView D) : Type 0 where
    pub met : Option StoreEntry
    pub holds : R (standing_of old None) reply (standing_of new met)
    pub goes_on : StoreGoesOn old.store new.store met

  -- the script in the input is answered by an interpreter and ends so, with at most so many bytes of
  -- replies buffered, and its store goes on
  pub record AnswersScript (buffered : ℕ) (old : InterpreterView D) (before : Streams)
      (how : ScriptEnd) (new : InterpreterView D) (after : Streams) : Type 0 where
    pub met : Option StoreEntry
    pub ends : ScriptEnds buffered (standing_of old None) (standing_of new met) before after how
    pub goes_on : StoreGoesOn old.store new.store met
