-- What calls do that take messages over a store, from one place of an input to a later one (this
-- project's own).
use Rattle.std.specs.Prelude.{◌≡◌, ◌+◌, ◌⊎◌, ℕ, List, [], ◌∷◌, codes, length, Bool, Option, Some, None}
use Rattle.pcfs_ports.specs.Observable.{with_back, HoldsSome}
use Rattle.event_messages.specs.Messages.{Message}
use Rattle.event_messages.specs.Reader.{MayGoOn, BeginsNoMessage}
use Rattle.follower.specs.declared.taking.Taken.{Taken}
use Rattle.pcfs_server.specs.Ends.{FailedLast}
use Rattle.pcfs_store.specs.Entries.{StoreEntry}
use Rattle.pcfs_store.specs.StoreView.{StoreView}
use Rattle.pcfs_session.specs.InterpreterView.{standing_over}
use Rattle.pcfs_session.specs.ScriptContext.{first_asker}
use Rattle.pcfs_session.specs.ScriptEnds.{with_line_end}
use Rattle.pcfs_session.specs.ScriptRun.{ScriptState, script_pass}
use Rattle.pcfs_session.specs.Stored.{StoreGoesOn}
use Rattle.pcfs_session.specs.Streams.{Streams}
use Rattle.pcfs_tools.specs.Broken.{Broken}
use Rattle.pcfs_tools.specs.LastLine.{IsWritten, Wrote, WroteNothing}
use Rattle.pcfs_tools.specs.ScriptStatus.{IsSilent}
use Rattle.follow_run.specs.AnswerText.{answer_lines, HoldsButLast}
use Rattle.follow_run.specs.FollowRun.{FollowRun, FollowsOver, HasEnded, frame_line}
use Rattle.follow_run.specs.Taken.{AreFirst, AreTaken}
use Rattle.follow_run.specs.declared.follow_end.FollowEnd.{FollowEnd}
use Rattle.follow_run.specs.declared.follow_end.FollowEnd.TheVariants.{Done, BadFrame, ReadFault, InputTooLong, Stopped, WriteFault, NoMemory}

-- where messages are taken by a store, and the event for which a disk failed, if one did
abbrev pub standing_at : {D : Type 0} → StoreView D → Option StoreEntry → ScriptState
standing_at s met = standing_over s met (first_asker script_pass)

-- ---- how it ends

-- the status that a run ends with
abbrev pub status_of : FollowEnd → ℕ
status_of Done = 0
status_of (BadFrame place) = 16
status_of ReadFault = 6
status_of InputTooLong = 13
status_of Stopped = 5
status_of WriteFault = 7
status_of NoMemory = 9

-- the line that is written for it
abbrev pub last_line_of : FollowEnd → List ℕ
last_line_of Done = []
last_line_of (BadFrame place) = frame_line place
last_line_of ReadFault = with_line_end (codes "readfault")
last_line_of InputTooLong = with_line_end (codes "toolong")
last_line_of Stopped = with_line_end (codes "stopped")
last_line_of WriteFault = []
last_line_of NoMemory = []

-- what is written at last, and the status: the line was written, or the output failed. At a place
-- at which no message stands memory may run out for its line. `broken` says whether the output's
-- last call failed
abbrev pub TellsEnd : FollowEnd → Option (List ℕ) → ℕ → ℕ → Option (List ℕ) → ℕ → Bool → Type 0
TellsEnd Done held faults result held_after faults_after broken = IsSilent 0 held faults result held_after faults_after
TellsEnd (BadFrame place) held faults result held_after faults_after broken =
    IsWritten 16 (frame_line place) held faults result held_after faults_after broken
    ⊎ WroteNothing held faults result held_after faults_after
TellsEnd ReadFault held faults result held_after faults_after broken = Wrote 6 (codes "readfault") held faults result held_after faults_after broken
TellsEnd InputTooLong held faults result held_after faults_after broken = Wrote 13 (codes "toolong") held faults result held_after faults_after broken
TellsEnd Stopped held faults result held_after faults_after broken = Wrote 5 (codes "stopped") held faults result held_after faults_after broken
TellsEnd WriteFault held faults result held_after faults_after broken = IsSilent 7 held faults result held_after faults_after
TellsEnd NoMemory held faults result held_after faults_after broken = IsSilent 9 held faults result held_after faults_after

-- how a run ends, before its last line: the lines for all messages that were taken are out; or the
-- output failed, at its last call, or memory ran out, and all but the last of them are, and some
-- first part of that
pub data IsEnding (start end : ScriptState) (before after : Streams) (broken : Broken) (how : FollowEnd) : Type 0 where
  all_told : (messages : List Message) (lines : List ℕ) → FollowsOver start messages end lines →
      HasEnded end before after broken.input messages (status_of how) (last_line_of how) →
      after.held ≡ with_back before.held lines → after.write_faults ≡ before.write_faults →
      IsEnding start end before after broken how
  unwritten : (messages : List Message) (lines : List ℕ) → how ≡ WriteFault →
      (over : FollowsOver start messages end lines) → AreTaken before.left after.left messages →
      after.read_faults ≡ before.read_faults → end.met ≡ None →
      FailedLast before.write_faults after.write_faults broken.output →
      HoldsButLast before.held after.held messages over.told →
      IsEnding start end before after broken how
  without_memory : (messages : List Message) (lines : List ℕ) → how ≡ NoMemory →
      (over : FollowsOver start messages end lines) → AreTaken before.left after.left messages →
      after.read_faults ≡ before.read_faults → end.met ≡ None →
      HoldsButLast before.held after.held messages over.told →
      after.write_faults ≡ before.write_faults → IsEnding start end before after broken how

-- ---- from one message to the next

-- what is out of the line for a message, or of none, if no further message is taken: all of it
-- after the fault of a disk, or some first part
abbrev pub IsOutAt : FollowEnd → Option (List ℕ) → Option (List ℕ) → List ℕ → Type 0
IsOutAt Stopped held held_after lines = held_after ≡ with_back held lines
IsOutAt WriteFault held held_after lines = HoldsSome held held_after lines
IsOutAt NoMemory held held_after lines = HoldsSome held held_after lines
IsOutAt _ held held_after lines = ⊥

-- what is out of the lines for messages: all of them after the fault of a disk, or all but the
-- last, and some first part of that
abbrev pub AreOutAt : FollowEnd → Option (List ℕ) → Option (List ℕ) → List Message → List Taken →
    Type 0
AreOutAt Stopped held held_after messages told = held_after ≡ with_back held (answer_lines messages told)
AreOutAt WriteFault held held_after messages told = HoldsButLast held held_after messages told
AreOutAt NoMemory held held_after messages told = HoldsButLast held held_after messages told
AreOutAt _ held held_after messages told = ⊥

-- after a fault of a disk there is the event that met it
abbrev pub IsMetAt : FollowEnd → Option StoreEntry → Type 0
IsMetAt Stopped met = (entry : StoreEntry) × (met ≡ Some entry)
IsMetAt _ met = met ≡ None

-- Below `clock`, `left_since`, `image` and `faults` tell of a disk what they do in `Stored`.
module _ {D : Type 0} (clock : D → ℕ) (left_since : D → ℕ → List ℕ → Type 0) (image : D → Option (List ℕ)) (faults : D → ℕ) where
  -- messages are taken by a store with these answers, and it goes on; the last one met the fault of
  -- a disk, if there is an entry
  pub record WereTaken (messages : List Message) (old new : StoreView D) (met : Option StoreEntry) (told : List Taken) : Type 0 where
    pub run : FollowRun (standing_at old None) messages told (standing_at new met)
    pub goes_on : StoreGoesOn clock left_since image faults old new met

  -- messages are taken, no disk failed, and the lines for them were written
  pub record AreAnswered (messages : List Message) (old new : StoreView D) (held held_after : Option (List ℕ)) : Type 0 where
    pub told : List Taken
    pub were : WereTaken messages old new None told
    pub out : held_after ≡ with_back held (answer_lines messages told)

  -- messages are taken, and no further one is
  pub record HaltsAt (messages : List Message) (old new : StoreView D)
      (held : Option (List ℕ)) (how : FollowEnd) (held_after : Option (List ℕ)) : Type 0 where
    pub told : List Taken
    pub met : Option StoreEntry
    pub were : WereTaken messages old new met told
    pub is_met : IsMetAt how met
    pub out : AreOutAt how held held_after messages told

  -- the message is the last one that is taken; or memory ran out for it, and none is
  abbrev pub HaltsBy : Message → StoreView D → StoreView D → Option (List ℕ) → FollowEnd →
      Option (List ℕ) → Type 0
  HaltsBy message old new held how held_after =
      HaltsAt (message ∷ []) old new held how held_after ⊎ HaltsAt [] old new held how held_after

  -- the messages that these bytes begin with are taken, and these bytes are left, of which more may
  -- make a message
  pub record TakesAll (bytes left : List ℕ) (old new : StoreView D) (held held_after : Option (List ℕ)) : Type 0 where
    pub messages : List Message
    pub first : AreFirst bytes messages left
    pub may_go_on : MayGoOn left
    pub answered : AreAnswered messages old new held held_after

  -- the first of them are taken, and no further one is: a call halts, or no message stands at the
  -- place of the next one. The bytes were taken from this place on
  pub data StopsWithin (bytes : List ℕ) (place : ℕ) (old new : StoreView D) (held held_after : Option (List ℕ)) : FollowEnd → Type 0 where
    halted : (how : FollowEnd) (messages : List Message) (rest : List ℕ) →
        AreFirst bytes messages rest → HaltsAt messages old new held how held_after →
        StopsWithin bytes place old new held held_after how
    no_message : (at : ℕ) (messages : List Message) (rest : List ℕ) →
        AreFirst bytes messages rest → BeginsNoMessage rest →
        at + length rest ≡ place + length bytes →
        AreAnswered messages old new held held_after →
        StopsWithin bytes place old new held held_after (BadFrame at)

  -- the messages of the input are taken by a store, which goes on, and this is how it ends
  pub record EndsFollowing (old : StoreView D) (before : Streams) (how : FollowEnd) (new : StoreView D) (after : Streams) (broken : Broken) : Type 0 where
    pub met : Option StoreEntry
    pub ends : IsEnding (standing_at old None) (standing_at new met) before after broken how
    pub goes_on : StoreGoesOn clock left_since image faults old new met
