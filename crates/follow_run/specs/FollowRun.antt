-- The run of a follower over an input: its messages are taken in order, each over the state that
-- those before it left, and a line is written for each (this project's own).
use Rattle.std.specs.Prelude.{◌≡◌, ◌+◌, ◌<◌, ◌≤◌, length, ℕ, List, [], ◌∷◌, ◌++◌, codes, Bool, Option, Some, None}
use Rattle.std.specs.Fmt.{decimal}
use Rattle.pcfs_ports.specs.declared.streams.TheConstants.{INPUT_LIMIT}
use Rattle.pcfs_ports.specs.Observable.{with_back, HoldsSome, TakesFirst}
use Rattle.journal_records.specs.declared.event.Event.{Event}
use Rattle.access_history.specs.Headline.{Headline}
use Rattle.event_messages.specs.Messages.{Message, messages_spelling}
use Rattle.op_gate.specs.declared.damage.Damage.{Damage}
use Rattle.op_gate.specs.Damage.{MayComeNext}
use Rattle.pcfs_store.specs.Entries.{StoreEntry, happened}
use Rattle.recover.specs.AreaDamage.{IsDamagedPayload}
use Rattle.follower.specs.declared.taking.Taken.{Taken}
use Rattle.follower.specs.declared.taking.Taken.TheVariants.{Kept, Known, Missing, Damaged, Full, Stopped}
use Rattle.follower.specs.Taking.{IsPayloadOf}
use Rattle.pcfs_server.specs.Ends.{FailedLast}
use Rattle.pcfs_session.specs.InterpreterView.{InterpreterView, standing_of}
use Rattle.pcfs_session.specs.LineAnswer.{authority_under}
use Rattle.pcfs_session.specs.ScriptEnds.{with_line_end}
use Rattle.pcfs_session.specs.ScriptRun.{ScriptState, state_of_standing, standing_with, IsFullIn}
use Rattle.pcfs_session.specs.Stored.{StoreGoesOn}
use Rattle.pcfs_session.specs.Streams.{Streams}
use Rattle.pcfs_tools.specs.Broken.{Broken}
use Rattle.follow_run.specs.AnswerText.{answer_lines, HoldsButLast}
use Rattle.follow_run.specs.Taken.{AreTaken, AreAllTaken, AreAll, HasBadFrame}

-- the number of the last event here, and of the next one
abbrev pub last_in : ScriptState → ℕ
last_in s = (state_of_standing s).count

abbrev pub next_in : ScriptState → ℕ
next_in s = last_in s + 1

-- the message has the next number, and its payload is that of the event, which may come next
pub record IsNextIn (s : ScriptState) (message : Message) (event : Event) : Type 0 where
  pub numbered : message.number ≡ next_in s
  pub payload_is : IsPayloadOf event message.payload
  pub enters : MayComeNext (authority_under s.secrets) (state_of_standing s) event

-- What is answered to a message here, and what stands here after it. An answer that memory ran out
-- is none: the run ends, and the message changes nothing.
pub data TakesIn (s : ScriptState) (message : Message) : Taken → ScriptState → Type 0 where
  -- an event of that number is there
  known : message.number ≤ last_in s → TakesIn s message Known s
  -- an event before that number is missing: first the one of the next number
  missing : next_in s < message.number → TakesIn s message (Missing (next_in s)) s
  -- it has the next number, and no event may come next of which the payload is that: its first
  -- damage
  damaged : (damage : Damage) → message.number ≡ next_in s →
      IsDamagedPayload (authority_under s.secrets) (state_of_standing s) message.payload damage →
      TakesIn s message (Damaged damage) s
  -- its event does not fit
  full : (event : Event) → IsNextIn s message event → IsFullIn s (happened event) →
      TakesIn s message Full s
  -- a disk failed for its event
  failed : (event : Event) → IsNextIn s message event → (IsFullIn s (happened event) → ⊥) →
      TakesIn s message Stopped (record s { met = Some (happened event) })
  -- its event was kept
  kept : (event : Event) → IsNextIn s message event → (IsFullIn s (happened event) → ⊥) →
      TakesIn s message Kept (standing_with s (happened event))

-- a run of these messages from a start: an answer to each, and where it ends. After a disk failed
-- no message is taken
pub data FollowRun : ScriptState → List Message → List Taken → ScriptState → Type 0 where
  ended : (start : ScriptState) → FollowRun start [] [] start
  one_more : (start : ScriptState) (message : Message) (messages : List Message) (taken : Taken) (others : List Taken) (next end : ScriptState) →
      start.met ≡ None →
      TakesIn start message taken next → FollowRun next messages others end →
      FollowRun start (message ∷ messages) (taken ∷ others) end

-- these messages were taken from a start to an end: these are the lines for them, and the headline
-- holds of the history at the end, which goes on from that of the start
pub record FollowsOver (start : ScriptState) (messages : List Message) (end : ScriptState) (lines : List ℕ) : Type 0 where
  pub told : List Taken
  pub added : List Event
  pub run : FollowRun start messages told end
  pub base_stays : end.base ≡ start.base
  pub events_are : end.events ≡ start.events ++ added
  pub headline : Headline (authority_under start.secrets) end.base end.events (state_of_standing end).world
  pub lines_are : lines ≡ answer_lines messages told

-- the line for a place at which no message stands
abbrev pub frame_line : ℕ → List ℕ
frame_line place = with_line_end (codes "frame " ++ decimal place)

-- Why no further message is taken after these, the status, and the last line that is written for
-- it: they are all of the input; at the place of the next one none stands; the input failed, at its
-- last call; too much of it was taken; or a disk failed under the last of them. But for the third
-- no call of the input failed. `broken` says whether its last call did.
pub data HasEnded (end : ScriptState) (before after : Streams) (broken : Bool) (messages : List Message) : ℕ → List ℕ → Type 0 where
  done : AreAll before.left after.left messages → after.read_faults ≡ before.read_faults →
      end.met ≡ None → HasEnded end before after broken messages 0 []
  bad_frame : HasBadFrame before.left after.left messages →
      after.read_faults ≡ before.read_faults → end.met ≡ None →
      HasEnded end before after broken messages 16 (frame_line (length (messages_spelling messages)))
  read_fault : FailedLast before.read_faults after.read_faults broken →
      AreAllTaken before.left after.left messages → end.met ≡ None →
      HasEnded end before after broken messages 6 (with_line_end (codes "readfault"))
  input_too_long : TakesFirst INPUT_LIMIT before.left after.left →
      AreAllTaken before.left after.left messages → after.read_faults ≡ before.read_faults →
      end.met ≡ None →
      HasEnded end before after broken messages 13 (with_line_end (codes "toolong"))
  stopped : (entry : StoreEntry) → AreTaken before.left after.left messages →
      after.read_faults ≡ before.read_faults → end.met ≡ Some entry →
      HasEnded end before after broken messages 5 (with_line_end (codes "stopped"))

-- How a run ends, by its status: the lines for the messages that were taken and the last line were
-- written. Or the output failed, at its last call, and all these lines were written and some first
-- part of the last line, or of the line for the last message that was taken, and all those for the
-- messages before it; or memory ran out, and these were written. So no message is taken after one
-- whose line was not written. No other call of the output failed, and of the input none, unless
-- that is the cause.
pub data FollowEnds (start end : ScriptState) (before after : Streams) (broken : Broken) : ℕ →
    Type 0 where
  written : (status : ℕ) (messages : List Message) (lines last : List ℕ) →
      FollowsOver start messages end lines →
      HasEnded end before after broken.input messages status last →
      after.held ≡ with_back before.held (lines ++ last) →
      after.write_faults ≡ before.write_faults → FollowEnds start end before after broken status
  last_line_cut : (status : ℕ) (messages : List Message) (lines last : List ℕ) →
      FollowsOver start messages end lines →
      HasEnded end before after broken.input messages status last →
      FailedLast before.write_faults after.write_faults broken.output →
      HoldsSome (with_back before.held lines) after.held last →
      FollowEnds start end before after broken 7
  cut_short : (messages : List Message) (lines : List ℕ)
      (over : FollowsOver start messages end lines) → AreTaken before.left after.left messages →
      after.read_faults ≡ before.read_faults → end.met ≡ None →
      FailedLast before.write_faults after.write_faults broken.output →
      HoldsButLast before.held after.held messages over.told →
      FollowEnds start end before after broken 7
  out_of_memory : (messages : List Message) (lines : List ℕ)
      (over : FollowsOver start messages end lines) → AreTaken before.left after.left messages →
      after.read_faults ≡ before.read_faults → end.met ≡ None →
      HoldsButLast before.held after.held messages over.told →
      after.write_faults ≡ before.write_faults → FollowEnds start end before after broken 9

-- Below `clock`, `left_since`, `image` and `faults` tell of a disk what they do in `Stored`.
module _ {D : Type 0} (clock : D → ℕ) (left_since : D → ℕ → List ℕ → Type 0) (image : D → Option (List ℕ)) (faults : D → ℕ) where
  -- the messages of the input are taken by a store and the run ends with this status, and the store
  -- goes on
  pub record FollowsInput (old : InterpreterView D) (before : Streams) (status : ℕ) (new : InterpreterView D) (after : Streams) (broken : Broken) : Type 0 where
    pub met : Option StoreEntry
    pub ends : FollowEnds (standing_of old None) (standing_of new met) before after broken status
    pub goes_on : StoreGoesOn clock left_since image faults old.store new.store met
