-- The run of a script: its lines in order, each answered over the state that the lines before it
-- left (this project's own).
use Rattle.std.specs.Prelude.{◌≡◌, ◌≢◌, ◌⊎◌, ◌+◌, ◌<◌, ◌≤◌, length, ℕ, List, [], ◌∷◌, ◌++◌, Option, Some, None}
use Rattle.std.specs.List.{AllByRecursion}
use Rattle.bl_syntax.specs.declared.limits.TheConstants.{MOST_EVENTS}
use Rattle.journal_records.specs.declared.event.Event.{Event}
use Rattle.access_history.specs.Base.{BaseView}
use Rattle.access_history.specs.Lawful.{IsLawful}
use Rattle.access_history.specs.Replay.{replay, fresh}
use Rattle.line_wire.specs.declared.reply.LineReply.{LineReply}
use Rattle.line_wire.specs.declared.reply.LineReply.TheVariants as replies
use Rattle.pcfs_secrets.specs.declared.secrets.Secrets.{Secrets}
use Rattle.pcfs_session.specs.ScriptContext.{ScriptContext, IsAsker, first_asker}
use Rattle.pcfs_session.specs.LineAnswer.{authority_under, AnswersLine}
use Rattle.journal_core.specs.Area.{area_limit}
use Rattle.checkpoint_image.specs.ImageSpelling.{image_spelling}
use Rattle.pcfs_store.specs.declared.checkpoints.Checkpoint.{Checkpoint}
use Rattle.pcfs_store.specs.Entries.{StoreEntry, happened, checkpointed, stopped as stop_mark}
use Rattle.pcfs_store.specs.Image.{fresh_image}
use Rattle.pcfs_store.specs.StoredHistory.{IsFull}
use Rattle.pcfs_session.specs.Room.{used_with}

-- where a line is answered: under which secrets, over which base and the events since, with the
-- checkpoints that were made of them, and for whom. The area has this generation, and so many bytes
-- before its closed gate. Once a disk failed
-- for an event or a checkpoint, nothing more is kept
pub record ScriptState : Type 0 where
  pub secrets : Secrets
  pub base : BaseView
  pub events : List Event
  pub checkpoints : List Checkpoint
  pub generation : ℕ
  pub used : ℕ
  pub met : Option StoreEntry
  pub asker : ScriptContext

-- the state to which the events lead
abbrev pub state_of_standing : ScriptState → BaseView
state_of_standing s = replay s.base s.events

-- the history so far is lawful under these secrets
abbrev pub IsLawfulUnder : Secrets → ScriptState → Type 0
IsLawfulUnder secrets s = IsLawful (authority_under secrets) s.base s.events

-- the history so far is lawful, and a principal asks at a moment
pub record IsLawfulStanding (s : ScriptState) : Type 0 where
  pub lawful : IsLawfulUnder s.secrets s
  pub asker : IsAsker s.asker

-- an event does not fit here, or has no number; the image of the state does not fit, or there is no
-- next generation
abbrev pub IsFullIn : ScriptState → StoreEntry → Type 0
IsFullIn s (happened event) = IsFull s.used (state_of_standing s).count event
IsFullIn s (checkpointed pass) = (area_limit < length (image_spelling (state_of_standing s)) + 25) ⊎
    (MOST_EVENTS ≤ s.generation)
IsFullIn s (stop_mark pass met) = ⊥

-- what is to be added has room here, if there is something
abbrev pub HasRoom : ScriptState → Option StoreEntry → Type 0
HasRoom s None = Unit {0}
HasRoom s (Some entry) = IsFullIn s entry → ⊥

-- with an entry: an event is kept; with a checkpoint the area has the next generation, the image of
-- the state, and no records
abbrev pub standing_with : ScriptState → StoreEntry → ScriptState
standing_with s (happened event) = record s { events = s.events ++ event ∷ []; used = used_with s.used event }
standing_with s (checkpointed pass) =
    record s {
      checkpoints = s.checkpoints ++ record { after = length s.events; pass = pass } ∷ [];
      generation = s.generation + 1;
      used = 24 + length (image_spelling (state_of_standing s));
    }
standing_with s (stop_mark pass met) = s

-- after an answer: what it adds is there
abbrev pub standing_after : ScriptState → Option StoreEntry → ScriptContext → ScriptState
standing_after s None asker = record s { asker = asker }
standing_after s (Some entry) asker = record (standing_with s entry) { asker = asker }

-- what becomes of an answer: it is reported, and what it adds is kept; or this has no room, and
-- nothing changes; or a disk fails for it
pub data Becomes (before : ScriptState) (told : LineReply) (asker : ScriptContext) : Option StoreEntry →
    LineReply → ScriptState → Type 0 where
  kept : (entry : Option StoreEntry) → HasRoom before entry →
      Becomes before told asker entry told (standing_after before entry asker)
  full : (entry : StoreEntry) → IsFullIn before entry →
      Becomes before told asker (Some entry) replies.Full before
  stopped : (entry : StoreEntry) → HasRoom before (Some entry) →
      Becomes before told asker (Some entry) replies.Stopped (record before { met = Some entry })

-- a line is answered; or memory runs out instead of its reply, and nothing changes
pub data IsReplied (line : List ℕ) (before : ScriptState) : LineReply → ScriptState → Type 0 where
  answered : (told : LineReply) (entry : Option StoreEntry) (asker : ScriptContext) (reply : LineReply) (after : ScriptState) →
      AnswersLine before.secrets (state_of_standing before) before.asker line told entry asker →
      Becomes before told asker entry reply after → IsReplied line before reply after
  without_memory : IsReplied line before replies.NoMemory before

-- a run of these lines from a start: a reply for each, and where it ends. After a disk failed no
-- line is answered
pub data ScriptRun : ScriptState → List (List ℕ) → List LineReply → ScriptState → Type 0 where
  ended : (start : ScriptState) → ScriptRun start [] [] start
  one_more : (start : ScriptState) (line : List ℕ) (lines : List (List ℕ)) (reply : LineReply) (others : List LineReply) (next end : ScriptState) →
      start.met ≡ None →
      IsReplied line start reply next → ScriptRun next lines others end →
      ScriptRun start (line ∷ lines) (reply ∷ others) end

-- the line was answered, and not with that memory ran out or a disk failed
pub record IsUndisturbed (reply : LineReply) : Type 0 where
  pub had_memory : reply ≢ replies.NoMemory
  pub not_stopped : reply ≢ replies.Stopped

-- memory did not run out for any of these replies, and no disk failed
abbrev pub AreUndisturbed : List LineReply → Type 0
AreUndisturbed told = AllByRecursion IsUndisturbed told

-- the events of an operator's script carry this number
abbrev pub script_pass : ℕ
script_pass = 1

-- where the closed gate of an area without an event stands, after its image
abbrev pub fresh_used : ℕ
fresh_used = 24 + length fresh_image

-- where a script over a store before its first event begins, under these secrets
abbrev pub fresh_start : Secrets → ScriptState
fresh_start secrets = record {
  secrets = secrets;
  base = fresh;
  events = [];
  checkpoints = [];
  generation = 1;
  used = fresh_used;
  met = None;
  asker = first_asker script_pass;
}
